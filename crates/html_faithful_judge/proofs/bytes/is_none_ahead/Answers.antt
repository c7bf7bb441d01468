use Rattle.std.proofs.Common.{◌≡◌, ◌∙◌, ℕ, arith, eqb, sym, true}
use Rattle.std.proofs.lemmas.Bool.Decides.{nat_tests}
use Rattle.std.proofs.lemmas.Simd.{none_from_empty_mask}
use Rattle.html_faithful_judge.specs.Bytes.{is_odd}
use Rattle.html_faithful_judge.proofs.bytes.is_none_ahead.Goals as goal

is-zero : (n : ℕ) → eqb n 0 ≡ true → n ≡ 0
is-zero n h = grind (arith, nat_tests, h)

pub returns : goal.returns
returns c h = none_from_empty_mask is_odd c.args.bytes.now c.args.at 16 0 c.requires (sym c.marks.ensures ∙ is-zero c.marks.result h)
