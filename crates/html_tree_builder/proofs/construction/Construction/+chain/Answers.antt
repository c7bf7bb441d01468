use Rattle.std.proofs.Common.{rules, ◌≡◌, ◌∙◌, ap, sym, subst}
use Rattle.html_rules.specs.Actions.{act}
use Rattle.html_rules.specs.Rules.{turn_of, using_rules_for}
use Rattle.html_modes.specs.Tables.{action_of, conclusion_of, row_of}
use Rattle.html_tree_builder.specs.Rows.{ending_of}
use Rattle.html_tree_builder.specs.States.{built}
use Rattle.html_tree_builder.specs.Told.{token_of}
use Rattle.html_tree_builder.specs.Turning.{MayConclude, MayUse}
use Rattle.html_tree_builder.proofs.Acted.{its_answers}
use Rattle.html_tree_builder.proofs.Turned.{comes-to, may-use-row, turned-row, used-none, used-row}
use Rattle.html_tree_builder.proofs.construction.Construction.+chain.Goals as goal

pub go_on-use_rules_for-requires : goal.go_on-use_rules_for-requires
go_on-use_rules_for-requires g t c κs within =
    let may : MayUse c.args.left c.in-Using.mode (token_of c.args.told.now.content)
    (built g.Sink.TreeSink c.args.self.now (g.Sink.TreeSink.forest c.args.sink.now)) = rw c.in-Using.is at c.requires.may in
    search rules

pub go_on-use_rules_for-requires-in-UsingThen : goal.go_on-use_rules_for-requires-in-UsingThen
go_on-use_rules_for-requires-in-UsingThen g t c κs within =
    let may = rw c.in-UsingThen.is at c.requires.may in
    let first : MayUse c.args.left c.in-UsingThen.mode (token_of c.args.told.now.content)
    (built g.Sink.TreeSink c.args.self.now (g.Sink.TreeSink.forest c.args.sink.now)) = may.0 in
    search rules

pub apply_row-go_on-requires : goal.apply_row-go_on-requires
apply_row-go_on-requires g t c κs within =
    let sink = g.Sink.TreeSink in
    let token = token_of c.args.told.now.content in
    let f = sink.forest c.perform.new.sink in
    let acted : built sink c.perform.new.self f ≡ act (action_of c.args.row.now.does) token
    (built sink c.args.self.now (sink.forest c.args.sink.now)) = c.in_ok-perform.ensures.ok
    ∙ ap (λ x. act (action_of c.args.row.now.does) token (built sink c.args.self.now x)) c.current_handle-script.ensures.same in
    let ends = subst (MayConclude (MayUse c.args.left) (using_rules_for c.args.left)
    (conclusion_of c.args.row.now.ends) token) (sym acted) c.requires.may.1 in
    let may = c.in_ok-next.ensures.may c.args.left (its_answers sink) f ends in
    let stands = c.in_ok-next.ensures.stands f c.in_ok-perform.ensures.stands in
    search rules

pub use_rules_for-returns-then-left-eq0-clause-ok : goal.use_rules_for-returns-then-left-eq0-clause-ok
use_rules_for-returns-then-left-eq0-clause-ok g t c = used-none c.args.left c.args.mode
    (token_of c.args.told.now.content) (built g.Sink.TreeSink c.args.self.now (g.Sink.TreeSink.forest c.args.sink.now)) c.if-left-eq0.true

pub use_rules_for-apply_row-requires : goal.use_rules_for-apply_row-requires
use_rules_for-apply_row-requires g t c κs within =
    let sink = g.Sink.TreeSink in
    let f = sink.forest c.args.sink.now in
    let is = c.first_row-row.ensures (its_answers sink) f in
    let may = may-use-row c.args.left c.args.mode (token_of c.args.told.now.content) (built sink c.args.self.now f)
    (row_of c.first_row-row.result.now) c.if-left-eq0.false is c.requires.may in
    search rules

pub use_rules_for-returns-clause-ok : goal.use_rules_for-returns-clause-ok
use_rules_for-returns-clause-ok g t c =
    let sink = g.Sink.TreeSink in
    let f = sink.forest c.args.sink.now in
    let is = c.first_row-row.ensures (its_answers sink) f in
    comes-to (λ ending. turn_of (built sink c.apply_row.new.self (sink.forest c.apply_row.new.sink))
    (ending_of sink.node ending)) c.apply_row.result _ _
    (used-row c.args.left c.args.mode (token_of c.args.told.now.content) (built sink c.args.self.now f)
    (row_of c.first_row-row.result.now) c.if-left-eq0.false is)
    c.apply_row.ensures.ok

pub go_on-returns-in_ok-perform-in-UsingThen-clause-ok : goal.go_on-returns-in_ok-perform-in-UsingThen-clause-ok
go_on-returns-in_ok-perform-in-UsingThen-clause-ok g t c = search rules

pub apply_row-returns-clause-ok : goal.apply_row-returns-clause-ok
apply_row-returns-clause-ok g t c =
    let sink = g.Sink.TreeSink in
    let token = token_of c.args.told.now.content in
    let f = sink.forest c.perform.new.sink in
    let s = built sink c.args.self.now (sink.forest c.args.sink.now) in
    comes-to (λ ending. turn_of (built sink c.go_on.new.self (sink.forest c.go_on.new.sink))
    (ending_of sink.node ending)) c.go_on.result _ _
    (turned-row c.args.left (row_of c.args.row.now) token s (built sink c.perform.new.self f) (sink.node c.current_handle-script.result) _
    c.current_handle-script.ensures.number
    (c.in_ok-perform.ensures.ok ∙ ap (λ x. act (action_of c.args.row.now.does) token (built sink c.args.self.now x))
    c.current_handle-script.ensures.same)
    (c.in_ok-next.ensures.ok (its_answers sink) f (using_rules_for c.args.left)))
    c.go_on.ensures.ok
