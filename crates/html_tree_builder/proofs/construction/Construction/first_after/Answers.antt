use Rattle.std.proofs.Common.{◌∙◌, add-one, refl, sym, arith}
use Rattle.std.proofs.lemmas.Option.{slice_get_within}
use Rattle.html_rules.specs.Rules.{rows}
use Rattle.html_modes.proofs.WalkedRows.{at-place, few-rows, past-all}
use Rattle.html_tree_builder.specs.States.{state_of}
use Rattle.html_tree_builder.specs.Told.{token_of}
use Rattle.html_tree_builder.proofs.construction.Construction.first_after.Goals as goal

pub overflow_add-place : goal.overflow_add-place
overflow_add-place g c = omega (arith, few-rows c.args.mode, slice_get_within (rows c.args.mode) c.loop-row.place _ (sym c.in-Some.ensures))

pub loop-row-smaller : goal.loop-row-smaller
loop-row-smaller g c = omega (arith, slice_get_within (rows c.args.mode) c.loop-row.place _ (sym c.in-Some.ensures))

pub loop-row-init : goal.loop-row-init
loop-row-init g c a f = refl

pub returns-then-fits : goal.returns-then-fits
returns-then-fits g c a f =
    let t = token_of c.args.told.now.content in
    let s = state_of a c.args.self.now f in
    sym (c.loop-row.invariant a f ∙ at-place (rows c.args.mode) c.loop-row.place _ t s (sym c.in-Some.ensures)
    ∙ rw (← c.if-fits.ensures a f) refl)

pub loop-row-preserved : goal.loop-row-preserved
loop-row-preserved g c a f =
    let t = token_of c.args.told.now.content in
    let s = state_of a c.args.self.now f in
    c.loop-row.invariant a f ∙ at-place (rows c.args.mode) c.loop-row.place _ t s (sym c.in-Some.ensures)
    ∙ rw (← c.if-fits.ensures a f, add-one) refl

pub returns : goal.returns
returns g c a f =
    let t = token_of c.args.told.now.content in
    let s = state_of a c.args.self.now f in
    sym (c.loop-row.invariant a f ∙ past-all (rows c.args.mode) c.loop-row.place t s (sym c.in_default.ensures))
