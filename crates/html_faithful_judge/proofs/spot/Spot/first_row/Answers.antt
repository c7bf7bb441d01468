use Rattle.std.proofs.Common.{◌∙◌, add-one, refl, sym, arith}
use Rattle.std.proofs.lemmas.Option.{slice_get_within}
use Rattle.html_modes.proofs.WalkedRows.{at-place, past-all}
use Rattle.html_faithful.specs.Spots.{hollow}
use Rattle.html_faithful_judge.specs.Rows.{rows_in}
use Rattle.html_faithful_judge.specs.Spots.{spot_of}
use Rattle.html_faithful_judge.specs.Tokens.{token_of}
use Rattle.html_faithful_judge.proofs.FewRows.{few-in}
use Rattle.html_faithful_judge.proofs.spot.Spot.first_row.Goals as goal

pub overflow_add-place : goal.overflow_add-place
overflow_add-place c = omega (
  arith,
  few-in c.args.table,
  slice_get_within (rows_in c.args.table) c.loop-row.place _
      (sym c.in-Some.ensures),
)

pub loop-row-smaller : goal.loop-row-smaller
loop-row-smaller c = omega (arith, slice_get_within (rows_in c.args.table) c.loop-row.place _ (sym c.in-Some.ensures))

pub loop-row-init : goal.loop-row-init
loop-row-init c = sym (c.rows_passed-place.ensures (hollow (spot_of c.args.self.now)))

pub returns-then-fits : goal.returns-then-fits
returns-then-fits c =
    let t = token_of c.args.token.now.content in
    let s = hollow (spot_of c.args.self.now) in
    sym (c.loop-row.invariant ∙ at-place (rows_in c.args.table) c.loop-row.place _ t s (sym c.in-Some.ensures)
    ∙ rw (← c.if-fits.ensures) refl)

pub loop-row-preserved : goal.loop-row-preserved
loop-row-preserved c =
    let t = token_of c.args.token.now.content in
    let s = hollow (spot_of c.args.self.now) in
    c.loop-row.invariant ∙ at-place (rows_in c.args.table) c.loop-row.place _ t s (sym c.in-Some.ensures)
    ∙ rw (← c.if-fits.ensures, add-one) refl

pub returns : goal.returns
returns c =
    let t = token_of c.args.token.now.content in
    let s = hollow (spot_of c.args.self.now) in
    sym (c.loop-row.invariant ∙ past-all (rows_in c.args.table) c.loop-row.place t s (sym c.in_default.ensures))
