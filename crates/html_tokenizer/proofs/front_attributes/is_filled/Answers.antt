use Rattle.html_tokenizer.proofs.Fronts.Texts.{filled-if}
use Rattle.html_tokenizer.proofs.front_attributes.is_filled.Goals as goal

pub returns : goal.returns
returns c = filled-if c.args.text.now c.is_empty.result c.utf8.text c.is_empty.ensures
