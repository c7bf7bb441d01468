use Rattle.std.proofs.Common.{◌≡◌, ◌∙◌, ap, refl, subst, sym}
use Rattle.std.proofs.lemmas.Bool.{true≢false}
use Rattle.html_modes.specs.Tables.{action_of, conclusion_of, row_of}
use Rattle.html_tokens.specs.declared.token.Token.TheVariants.{TagToken}
use Rattle.html_rules.specs.Rules.{first_fit, rows}
use Rattle.html_rules.specs.Table.{Nothing}
use Rattle.html_tree_builder.specs.States.{state_of}
use Rattle.html_tree_builder.proofs.RowsAtHand.{lane-of-mode, lane-of-other}
use Rattle.html_tree_builder.proofs.construction.Construction.row_at_hand.Goals as goal
use Rattle.html_tree_builder.proofs.construction.Construction.row_at_hand.Goals.{in-Nothing, in_default-matches}

pub returns-in_ok-first_at_hand-in-Using : goal.returns-in_ok-first_at_hand-in-Using
returns-in_ok-first_at_hand-in-Using g c a f =
    let t = TagToken c.args.tag.now in
    let s = state_of a c.args.self.now f in
    let row = row_of c.in_ok-row.row.now in
    let does : row.does ≡ Nothing = elim c.match-matches.branch as (λ _. row.does ≡ Nothing) [
      | in-Nothing w ↦ ap action_of w.in-Nothing.is
      | in_default-matches w ↦ absurd (true≢false (sym c.if-matches.true ∙ w.matches-is))
    ] in
    let is : row ≡ first_fit (rows s.mode) t s = subst (λ b. row ≡ first_fit (rows b.mode) t s) c.self.view_is (c.in_ok-row.ensures a f) in
    lane-of-other c.in-Using.mode t s row (row_of c.in_ok-first_at_hand-in-Using.field-0.now)
    (c.if-not-is_in_html.ensures refl a f t) is does (ap conclusion_of c.in-Using.is) (c.in_ok-first_at_hand-in-Using.ensures a f)

pub returns-in_default : goal.returns-in_default
returns-in_default g c a f =
    let t = TagToken c.args.tag.now in
    let s = state_of a c.args.self.now f in
    let row = row_of c.in_ok-row.row.now in
    let is : row ≡ first_fit (rows s.mode) t s = subst (λ b. row ≡ first_fit (rows b.mode) t s) c.self.view_is (c.in_ok-row.ensures a f) in
    lane-of-mode t s row (c.if-not-is_in_html.ensures refl a f t) is
