use Rattle.std.proofs.Common.{◌∙◌, inl, inr, refl}
use Rattle.clap.specs.Values.{kind_of}
use Rattle.figpliers_program.proofs.Answering.{rejected}
use Rattle.figpliers_program.proofs.program.pages_output.Goals as goal

pub returns-in-Ok-clause-ok : goal.returns-in-Ok-clause-ok
returns-in-Ok-clause-ok c = inl (c.in-Ok.asked, c.in-Ok.ensures.ok, c.output_in.ensures)

pub returns : goal.returns
returns c = record {
  ok = inr (refl, rejected _ (kind_of c.in-Err.error) (λ e. c.in_default.not-OutOfMemory (c.kind.ensures ∙ e)) c.in-Err.ensures.err);
  fault = tt;
}
