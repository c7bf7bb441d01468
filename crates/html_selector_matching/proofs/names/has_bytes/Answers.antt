use Rattle.std.proofs.Common.{◌∙◌}
use Rattle.html_selector_matching.proofs.Needles.{found}
use Rattle.html_selector_matching.proofs.names.has_bytes.Goals as goal

pub returns : goal.returns
returns c = c.is_some.ensures ∙ found c.args.text.now c.args.wanted.now c.find.result c.find.ensures
