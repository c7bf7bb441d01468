use Rattle.std.proofs.Common.{◌∙◌, sym}
use Rattle.html_tokenizer.proofs.Declarations.Openings.{cdata-opened}
use Rattle.html_tokenizer.proofs.tokenizer.Tokenizer.open_cdata.Goals as goal

pub returns-then-adjusted_current_node_present_but_not_in_html_namespace :
    goal.returns-then-adjusted_current_node_present_but_not_in_html_namespace
returns-then-adjusted_current_node_present_but_not_in_html_namespace g c =
    let m = g.Sink.TokenSink in
    cdata-opened m g.met.Sink.TokenSink.laws c.args.self.now c.args.c c.requires.at c.requires.sound
    (sym c.adjusted_current_node_present_but_not_in_html_namespace.ensures
    ∙ c.if-adjusted_current_node_present_but_not_in_html_namespace.true) c.requires.whole
