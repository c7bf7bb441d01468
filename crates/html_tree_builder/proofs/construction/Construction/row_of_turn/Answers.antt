use Rattle.std.proofs.Common.{◌≡◌, ◌∙◌, ap, subst, sym}
use Rattle.std.proofs.lemmas.Bool.{true≢false}
use Rattle.html_modes.specs.Tables.{action_of, conclusion_of, row_of}
use Rattle.html_rules.specs.Table.{Nothing}
use Rattle.html_rules.specs.Rules.{most_modes, using_rules_for}
use Rattle.html_tree_builder.specs.States.{built}
use Rattle.html_tree_builder.specs.Told.{token_of}
use Rattle.html_tree_builder.specs.Turning.{MayTakeRow, MayUse}
use Rattle.html_tree_builder.proofs.Acted.{its_answers}
use Rattle.html_tree_builder.proofs.Turned.{may-use-at, may-use-rest, turned-foreign, turned-mode, used-at, used-rest}
use Rattle.html_tree_builder.proofs.construction.Construction.row_of_turn.Goals as goal
use Rattle.html_tree_builder.proofs.construction.Construction.row_of_turn.Goals.{in-Nothing, in_default-matches}

pub returns-then-is_foreign-clause-turned : goal.returns-then-is_foreign-clause-turned
returns-then-is_foreign-clause-turned g c =
    let sink = g.Sink.TreeSink in
    let f = sink.forest c.args.sink.now in
    turned-foreign (token_of c.args.told.now.content) (built sink c.args.self.now f)
    (row_of c.first_foreign_row.result.now) c.if-is_foreign.ensures (c.first_foreign_row.ensures (its_answers sink) f)

pub returns-then-is_foreign-clause-may : goal.returns-then-is_foreign-clause-may
returns-then-is_foreign-clause-may g c may =
    let sink = g.Sink.TreeSink in
    let f = sink.forest c.args.sink.now in
    subst (λ r. MayTakeRow (MayUse most_modes) (using_rules_for most_modes) r (token_of c.args.told.now.content)
    (built sink c.args.self.now f)) (sym (c.first_foreign_row.ensures (its_answers sink) f))
    (may.foreign (sym c.if-is_foreign.ensures))

pub returns-in_default-clause-turned : goal.returns-in_default-clause-turned
returns-in_default-clause-turned g c =
    let sink = g.Sink.TreeSink in
    let f = sink.forest c.args.sink.now in
    let t = token_of c.args.told.now.content in
    let s = built sink c.args.self.now f in
    used-at 3 _ t s (row_of c.first_row-row.result.now) (c.first_row-row.ensures (its_answers sink) f)
    ∙ (ap (λ b. using_rules_for most_modes b.mode t s) c.self.view_is ∙ turned-mode t s c.if-is_foreign.ensures)

pub returns-in_default-clause-may : goal.returns-in_default-clause-may
returns-in_default-clause-may g c may =
    let sink = g.Sink.TreeSink in
    let f = sink.forest c.args.sink.now in
    let t = token_of c.args.told.now.content in
    let s = built sink c.args.self.now f in
    may-use-at 3 _ t s (row_of c.first_row-row.result.now) (c.first_row-row.ensures (its_answers sink) f)
    (subst (λ b. MayUse most_modes b.mode t s) (sym c.self.view_is) (may.mode (sym c.if-is_foreign.ensures)))

pub returns-in-Using-clause-turned : goal.returns-in-Using-clause-turned
returns-in-Using-clause-turned g c =
    let sink = g.Sink.TreeSink in
    let f = sink.forest c.args.sink.now in
    let t = token_of c.args.told.now.content in
    let s = built sink c.args.self.now f in
    let row = row_of c.first_row-row.result.now in
    let does : row.does ≡ Nothing = elim c.match-matches.branch as (λ _. row.does ≡ Nothing) [
      | in-Nothing w ↦ ap action_of w.in-Nothing.is
      | in_default-matches w ↦ absurd (true≢false (sym c.if-matches.true ∙ w.matches-is))
    ] in
    used-at 2 _ t s (row_of c.first_row.result.now) (c.first_row.ensures (its_answers sink) f)
    ∙ (used-rest 3 c.in-Using.mode t s row does (ap conclusion_of c.in-Using.is)
    ∙ (used-at 3 _ t s row (c.first_row-row.ensures (its_answers sink) f)
    ∙ (ap (λ b. using_rules_for most_modes b.mode t s) c.self.view_is ∙ turned-mode t s c.if-is_foreign.ensures)))

pub returns-in-Using-clause-may : goal.returns-in-Using-clause-may
returns-in-Using-clause-may g c may =
    let sink = g.Sink.TreeSink in
    let f = sink.forest c.args.sink.now in
    let t = token_of c.args.told.now.content in
    let s = built sink c.args.self.now f in
    let row = row_of c.first_row-row.result.now in
    let does : row.does ≡ Nothing = elim c.match-matches.branch as (λ _. row.does ≡ Nothing) [
      | in-Nothing w ↦ ap action_of w.in-Nothing.is
      | in_default-matches w ↦ absurd (true≢false (sym c.if-matches.true ∙ w.matches-is))
    ] in
    may-use-at 2 _ t s (row_of c.first_row.result.now) (c.first_row.ensures (its_answers sink) f)
    (may-use-rest 3 c.in-Using.mode t s row does (ap conclusion_of c.in-Using.is)
    (may-use-at 3 _ t s row (c.first_row-row.ensures (its_answers sink) f)
    (subst (λ b. MayUse most_modes b.mode t s) (sym c.self.view_is) (may.mode (sym c.if-is_foreign.ensures)))))
