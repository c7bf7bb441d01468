use Rattle.std.proofs.Common.{◌∙◌, ap}
use Rattle.html_rules.specs.Actions.{insert_pending_text, insert_table_text, without_pending_text}
use Rattle.html_tree_builder.specs.States.{state_of}
use Rattle.html_tree_builder.proofs.Fields.{left_of}
use Rattle.html_tree_builder.proofs.construction.Construction.insert_pending_text.Goals as goal

pub returns-clause-ok : goal.returns-clause-ok
unfolding insert_pending_text
returns-clause-ok g c = λ a.
    let f = g.Sink.TreeSink.forest c.insert_table_text.new.sink in
    let s = state_of a c.args.self.now (g.Sink.TreeSink.forest c.args.sink.now) in
    ap (λ text. record (state_of a (left_of c.self-2.view_is) f) { pending_table_text = text }) c.clear.ensures
    ∙ ap (λ b. without_pending_text (state_of a b f)) c.self-2.view_is
    ∙ ap without_pending_text (c.in_ok-insert_table_text.ensures.ok a)
    ∙ ap (λ text. without_pending_text (insert_table_text text s)) (c.as_str.ensures ∙ c.in_ok-text.ensures.ok
    ∙ ap (λ b. b.pending_table_text) c.self.view_is)
