use Rattle.std.proofs.Common.{◌<◌, arith, length, subst, sym}
use Rattle.html_clean.specs.Notes.{IsElementAt}
use Rattle.html_clean.specs.declared.policy.Policy.{Policy}
use Rattle.html_clean.proofs.Noted.{element-noted}
use Rattle.html_clean.proofs.notes.Notes.note_element.Goals as goal

pub invariant_of-self : goal.invariant_of-self
invariant_of-self c =
    let size = c.self.inside.elements.ok.0 in
    let within : c.args.known.place < length c.self.inside.elements.items = omega (arith, c.len.ensures, c.if-place-len.true) in
    element-noted _ _ _ c.args.known.place c.args.judged c.self.invariant within
    (subst (λ (p : Policy). IsElementAt p c.args.known.place c.args.judged) (sym c.self.view_is) c.requires)
