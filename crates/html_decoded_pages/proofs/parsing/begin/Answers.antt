use Rattle.std.proofs.Common.{◌∙◌, [], ap, subst}
use Rattle.markup.specs.Named.{IsTree}
use Rattle.html_rules.specs.Documents.{before_document}
use Rattle.html_tree_builder.specs.States.{answers_of, setting_of}
use Rattle.html_parser.proofs.Feeds.{read-nothing}
use Rattle.html_parser.specs.Documents.{builder, from_state}
use Rattle.html_parser.specs.Read.{HasRead}
use Rattle.html_decoded_pages.specs.Pauses.{HasPaused}
use Rattle.html_decoded_pages.proofs.Going.{is-free, paused-nothing}
use Rattle.html_decoded_pages.proofs.parsing.begin.Goals as goal

pub returns : goal.returns
returns g c =
    let sink = g.Sink.TreeSink in
    let setting = setting_of (answers_of sink.integration_point sink.allows_shadow_roots sink.attaches_shadow) c.args.opts.tree_builder in
    let begun = c.new-builder.ensures.begun ∙ ap (λ f. before_document setting f) c.get_document.ensures.same in
    let tree = subst IsTree c.get_document.ensures.same
    (record { forest = c.get_document.ensures.is_forest; contents = c.get_document.ensures.contents }) in
    let new = c.new.ensures.reads in
    record {
      read = subst (λ s. HasRead (builder sink) (from_state c.args.references c.args.opts.tokenizer s) [] c.new.result) begun
          (read-nothing (builder sink) c.new.result c.new-builder.result c.args.opts.tokenizer c.args.references
          c.notes_change_nothing.ensures new);
      paused = λ text. subst (λ s. HasPaused (builder sink) (from_state c.args.references c.args.opts.tokenizer s) text []
          c.new.result text) begun
          (paused-nothing (builder sink) c.new.result c.new-builder.result c.args.opts.tokenizer c.args.references text new);
      taken = λ text. c.each_text_has_a_document.ensures.document c.args.references c.args.opts.tokenizer setting
          (sink.forest c.args.sink) tree c.requires.top text;
      free = is-free (builder sink) c.new.result new.begun c.new.ensures.ready;
    }
