use Rattle.std.proofs.Common.{refl}
use Rattle.markup.specs.Trees.{written}
use Rattle.html_plain.proofs.WrittenForms.{element-written, break-written}
use Rattle.html_plain.proofs.laws.forms_are_written.Goals as goal

pub returns : goal.returns
unfolding written
returns c = record {
  doctype = λ scripting rest. refl;
  text = λ scripting text rest. refl;
  comment = λ scripting text rest. refl;
  break = break-written;
  element = element-written;
}
