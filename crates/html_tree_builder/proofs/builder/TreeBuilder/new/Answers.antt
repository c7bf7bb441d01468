use Rattle.std.proofs.Common.{◌∙◌, ap}
use Rattle.html_rules.specs.Documents.{before_document}
use Rattle.html_tree_builder.specs.States.{built, setting_of}
use Rattle.html_tree_builder.proofs.Acted.{its_answers}
use Rattle.html_tree_builder.proofs.BuildersBegun.{document-usable}
use Rattle.html_tree_builder.proofs.builder.TreeBuilder.new.Goals as goal

pub returns-clause-begun : goal.returns-clause-begun
returns-clause-begun g c =
    let a = its_answers g.Sink.TreeSink in
    let f = g.Sink.TreeSink.forest c.get_document.new.self in
    c.new.ensures a f ∙ ap (before_document (setting_of a c.args.opts)) c.get_document.ensures.same

pub returns-clause-usable : goal.returns-clause-usable
returns-clause-usable g c =
    let a = its_answers g.Sink.TreeSink in
    let f = g.Sink.TreeSink.forest c.get_document.new.self in
    document-usable (setting_of a c.args.opts) (g.Sink.TreeSink.forest c.args.sink) f
    (built g.Sink.TreeSink c.new.result f) c.get_document.ensures.same c.get_document.ensures.is_forest
    c.get_document.ensures.contents c.requires.top (c.new.ensures a f)
