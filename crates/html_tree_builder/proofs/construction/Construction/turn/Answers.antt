use Rattle.std.proofs.Common.{ap, ◌∙◌}
use Rattle.html_modes.specs.Tables.{row_of}
use Rattle.html_rules.specs.Rules.{most_modes, turn_of, using_rules_for}
use Rattle.html_tree_builder.specs.Rows.{ending_of}
use Rattle.html_tree_builder.specs.States.{built}
use Rattle.html_tree_builder.specs.Told.{token_of}
use Rattle.html_tree_builder.proofs.Acted.{its_answers}
use Rattle.html_tree_builder.proofs.Turned.{comes-to, turned-foreign, turned-mode}
use Rattle.html_tree_builder.proofs.construction.Construction.turn.Goals as goal

pub returns-then-is_foreign-clause-ok : goal.returns-then-is_foreign-clause-ok
returns-then-is_foreign-clause-ok g c =
    let sink = g.Sink.TreeSink in
    let f = sink.forest c.args.sink.now in
    let is = c.first_foreign_row-row.ensures (its_answers sink) f in
    comes-to (λ ending. turn_of (built sink c.apply_row.new.self (sink.forest c.apply_row.new.sink))
    (ending_of sink.node ending)) c.apply_row.result _ _
    (turned-foreign (token_of c.args.told.now.content) (built sink c.args.self.now f)
    (row_of c.first_foreign_row-row.result.now) c.if-is_foreign.ensures is)
    c.apply_row.ensures.ok

pub returns-clause-ok : goal.returns-clause-ok
returns-clause-ok g c =
    let sink = g.Sink.TreeSink in
    let f = sink.forest c.args.sink.now in
    let t = token_of c.args.told.now.content in
    let s = built sink c.args.self.now f in
    comes-to (λ ending. turn_of (built sink c.use_rules_for.new.self (sink.forest c.use_rules_for.new.sink))
    (ending_of sink.node ending)) c.use_rules_for.result _ _
    (ap (λ b. using_rules_for most_modes b.mode t s) c.self.view_is ∙ turned-mode t s c.if-is_foreign.ensures)
    c.use_rules_for.ensures.ok
