use Rattle.std.proofs.Common.{◌∙◌, sym}
use Rattle.html_clean.proofs.Noted.{noted-verdict}
use Rattle.html_clean.proofs.notes.Notes.noted_verdict.Goals as goal

pub returns-in-Some-Some : goal.returns-in-Some-Some
returns-in-Some-Some c =
    noted-verdict c.self.inside.policy.now c.args.self.now c.self.inside.verdicts.items c.deref.result.now c.slot_of.result
    c.in-Some-Some.field-0.now c.in-Some-Some.noted c.args.element c.args.name c.self.invariant.each_verdict c.deref.ensures.value
    c.in-Some-Some.ensures.lookup.0 c.in-Some-Some.ensures.lookup.1 c.in-Some-Some.field-0-is c.self.view_is
    (sym c.eq.ensures ∙ c.if-eq.true) (sym c.eq-then-eq.ensures ∙ c.if-eq-2.true)
