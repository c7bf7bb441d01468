use Rattle.std.proofs.Common.{◌∙◌, ap}
use Rattle.std.specs.Str.{bytes_eq}
use Rattle.markup.proofs.NamespaceNames.{html-name_of}
use Rattle.html_plain.proofs.Parts.{prefixed}
use Rattle.html_plain.proofs.elements.is_html.Goals as goal

pub returns-then-is_none : goal.returns-then-is_none
returns-then-is_none c = prefixed c.args.name.now.prefix _ _ _ c.is_none.ensures c.if-is_none.true
    (c.is_known.ensures ∙ ap (bytes_eq c.args.name.now.ns) html-name_of)
