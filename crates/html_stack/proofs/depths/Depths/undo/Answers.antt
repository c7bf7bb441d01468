use Rattle.std.proofs.Common.{◌∙◌, ◌++◌, ap}
use Rattle.std.specs.Prelude.{option_to_list}
use Rattle.html_stack.proofs.Noted.{IsNoted-undo}
use Rattle.html_stack.proofs.depths.Depths.undo.Goals as goal

pub returns-else-not-set-clause-noted : goal.returns-else-not-set-clause-noted
returns-else-not-set-clause-noted c xs is =
    IsNoted-undo xs c.args.self.now (record { notes = c.pop.new.self; tops = c.set.new.self }) c.in-Some.note
    (c.pop.ensures.items ∙ ap (λ o. c.pop.new.self.items ++ option_to_list o) c.in-Some.is) (c.set.ensures.set c.if-not-set.false) is
