use Rattle.std.proofs.Common.{◌∙◌, inl, inr}
use Rattle.figpliers_program.proofs.program.answer.Goals as goal

pub returns-in_default : goal.returns-in_default
returns-in_default g c = elim c.answer_text.ensures [
  | inl none ↦ inl none
  | inr is ↦ inr ((λ e. c.in_default.not-OutOfMemory (c.kind.ensures ∙ e)), is)
]
