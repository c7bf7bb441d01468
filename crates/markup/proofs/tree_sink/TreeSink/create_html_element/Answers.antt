use Rattle.std.proofs.Common.{◌≡◌, ◌∙◌, ℕ, None, List, ap}
use Rattle.markup.specs.Names.{html_name, html_namespace}
use Rattle.markup.specs.declared.names.QualName.{QualName}
use Rattle.markup.proofs.NamespaceNames.{html-name_of}
use Rattle.markup.proofs.tree_sink.TreeSink.create_html_element.Goals as goal

named : (made : QualName) (html name : List ℕ) → made ≡ record { prefix = None; ns = html; local = name }
    → html ≡ html_namespace → made ≡ html_name name
named made html name e h = e ∙ ap (λ ns. record { prefix = None; ns = ns; local = name }) h

pub create_element-requires : goal.create_element-requires
create_element-requires g c =
    rw (named c.new.result c.from_known-html.result c.args.name c.new.ensures (c.from_known-html.ensures ∙ html-name_of)) c.requires

pub returns-clause-ok : goal.returns-clause-ok
returns-clause-ok g c =
    let ok = c.create_element.ensures.ok in
    rw (named c.new.result c.from_known-html.result c.args.name c.new.ensures (c.from_known-html.ensures ∙ html-name_of)) at ok
