use Rattle.std.proofs.Common.{◌∙◌, refl, sym}
use Rattle.html_rules.specs.Rules.{rows}
use Rattle.html_modes.proofs.WalkedRows.{at-place}
use Rattle.html_tree_builder.specs.States.{state_of}
use Rattle.html_tree_builder.specs.Told.{token_of}
use Rattle.html_tree_builder.proofs.construction.Construction.first_row.Goals as goal

pub returns-in-Some : goal.returns-in-Some
returns-in-Some g c a f =
    let t = token_of c.args.told.now.content in
    let s = state_of a c.args.self.now f in
    sym (sym (c.rows_passed-passed.ensures s) ∙ at-place (rows c.args.mode) c.rows_passed-passed.result _ t s
    (sym c.in-Some.ensures) ∙ rw (← c.if-fits.ensures a f) refl)
