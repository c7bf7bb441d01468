use Rattle.std.proofs.Common.{◌∙◌, ap, subst}
use Rattle.markup.specs.Named.{IsTree}
use Rattle.html_rules.specs.Documents.{before_document}
use Rattle.html_tree_builder.specs.States.{answers_of, setting_of}
use Rattle.html_parser.specs.Documents.{Starts, from_state}
use Rattle.html_parser.proofs.documents.parse_document.Goals as goal

pub returns-clause-begins : goal.returns-clause-begins
returns-clause-begins g c =
    let sink = g.Sink.TreeSink in
    let setting = setting_of (answers_of sink.integration_point sink.allows_shadow_roots sink.attaches_shadow) c.args.opts.tree_builder in
    let begun = c.new-builder.ensures.begun ∙ ap (λ f. before_document setting f) c.get_document.ensures.same in
    let tree = subst IsTree c.get_document.ensures.same
    (record { forest = c.get_document.ensures.is_forest; contents = c.get_document.ensures.contents }) in
    record {
      starts = subst (λ s. Starts sink (from_state c.args.table c.args.opts.tokenizer s) c.over.result.has_failed
          c.over.result.tokenizer c.over.result.input_buffer) begun c.over.ensures;
      taken = λ text. c.each_text_has_a_document.ensures.document c.args.table c.args.opts.tokenizer setting
          (sink.forest c.args.sink) tree c.requires.top text;
    }
