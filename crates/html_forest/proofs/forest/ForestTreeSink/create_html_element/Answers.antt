use Rattle.std.proofs.Common.{◌≡◌, ◌∙◌, None, ap, sym}
use Rattle.markup.specs.Names.{html_name}
use Rattle.markup.proofs.NamespaceNames.{html-name_of}
use Rattle.html_forest.proofs.forest.ForestTreeSink.create_html_element.Goals as goal

pub create_template-requires-clause-named : goal.create_template-requires-clause-named
create_template-requires-clause-named c =
    let named : c.new.result ≡ html_name c.args.name = c.new.ensures
    ∙ ap (λ ns. record { prefix = None; ns = ns; local = c.args.name }) (c.from_known-html.ensures ∙ html-name_of) in
    rw named (sym c.requires ∙ c.if-flags.true)

pub returns-then-flags-clause-ok : goal.returns-then-flags-clause-ok
returns-then-flags-clause-ok c =
    let named : c.new.result ≡ html_name c.args.name = c.new.ensures
    ∙ ap (λ ns. record { prefix = None; ns = ns; local = c.args.name }) (c.from_known-html.ensures ∙ html-name_of) in
    rw c.if-flags.true (rw (named, c.if-flags.true) at c.create_template.ensures.ok)
