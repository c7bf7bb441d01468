use Rattle.std.proofs.Common.{◌∙◌}
use Rattle.html_tokenizer.proofs.Attributes.Finished.{finished}
use Rattle.html_tokenizer.proofs.tokenizer.Tokenizer.finish_attribute.Goals as goal

pub returns-clause-ok : goal.returns-clause-ok
returns-clause-ok g c =
    finished c.args.self.now c.add_attribute.new.self _ _ c.take-name.new.self c.replace-value.new.dest
    c.add_attribute.result c.take-name.ensures.taken c.replace-value.ensures.value c.take-name.ensures.left
    (c.replace-value.ensures.after ∙ c.empty.ensures) c.add_attribute.ensures.ok
