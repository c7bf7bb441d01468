use Rattle.std.proofs.Common.{◌∙◌}
use Rattle.html_plain.proofs.Parts.{none-empty, prefixed}
use Rattle.html_plain.proofs.attributes.is_unprefixed.Goals as goal

pub returns-then-is_none : goal.returns-then-is_none
returns-then-is_none c = prefixed c.args.name.now.prefix _ _ _ c.is_none.ensures c.if-is_none.true
    (c.is_known.ensures ∙ none-empty c.args.name.now.ns)
