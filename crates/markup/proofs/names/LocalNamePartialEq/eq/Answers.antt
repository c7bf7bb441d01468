use Rattle.std.proofs.Common.{◌∙◌, sym}
use Rattle.std.specs.Cmp.Lexicographic.{nat_list_eq_equiv}
use Rattle.markup.proofs.PlacedNames.{not_known, same_places}
use Rattle.markup.proofs.names.LocalNamePartialEq.eq.Goals as goal

pub returns-in-Some-Some : goal.returns-in-Some-Some
returns-in-Some-Some c =
    same_places c.in-Some-Some.one.place c.in-Some-Some.two.place c.args.self.now c.args.other.now
    c.in-Some-Some.ensures.found c.in-Some-Some.ensures'.found

pub returns-in-Some-None : goal.returns-in-Some-None
returns-in-Some-None c =
    sym (nat_list_eq_equiv.symm c.args.self.now c.args.other.now ∙ not_known c.in-Some-None.field-0-0.place
    c.args.self.now c.args.other.now c.in-Some-None.ensures.found c.in-Some-None.ensures'.missing)

pub returns-in-None-Some : goal.returns-in-None-Some
returns-in-None-Some c =
    sym (not_known c.in-None-Some.field-0-1.place c.args.other.now c.args.self.now c.in-None-Some.ensures.found
    (rw c.in-None-Some.is-0 at c.known.ensures.missing))
