use Rattle.std.proofs.Common.{◌∙◌}
use Rattle.html_names.proofs.AnyCase.{equals-other, equals-same}
use Rattle.html_names.proofs.any_case.equals_any_case.Goals as goal

pub returns-then-text-word : goal.returns-then-text-word
returns-then-text-word c = equals-other c.args.word.now c.args.text.now c.utf8.text c.requires c.if-text-word.true

pub returns : goal.returns
returns c = c.begins.ensures ∙ equals-same c.args.word.now c.args.text.now c.utf8.text c.requires c.if-text-word.false
