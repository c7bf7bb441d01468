use Rattle.std.proofs.Common.{◌≡◌, ◌<◌, length, map, take, drop, sym, ap, ◌∙◌, arith}
use Rattle.std.specs.Simd.Lanes.{mask_l}
use Rattle.std.proofs.lemmas.Simd.{length-chunk, none_from_empty_mask, run_in_chunk_fails, run_in_chunk_le, trailing_mask_l}
use Rattle.html_input.specs.Wide.{is_wide}
use Rattle.html_input.proofs.WideBytes.{not_wide}
use Rattle.html_input.proofs.characters.ascii_count.Goals as goal

pub returns-then-marks-eq0-clause-before : goal.returns-then-marks-eq0-clause-before
returns-then-marks-eq0-clause-before c k low high =
    not_wide _ (none_from_empty_mask is_wide c.args.bytes.now c.args.at 16 0 c.requires
    (sym c.wide_marks-marks.ensures ∙ c.if-marks-eq0.true) k low high)

pub returns-clause-within : goal.returns-clause-within
returns-clause-within c =
    let xs = take 16 (drop c.args.at c.args.bytes.now) in
    let long : length xs ≡ 16 = length-chunk c.args.at 16 c.args.bytes.now c.requires in
    let some : 0 < mask_l (map is_wide xs) = omega (arith, c.wide_marks-marks.ensures, c.if-marks-eq0.false) in
    run_in_chunk_le is_wide c.args.bytes.now c.args.at 16 _ 0 c.requires
    (ap (λ m. lib.Count.count_trailing_zeros 64 m) c.wide_marks-marks.ensures ∙ trailing_mask_l is_wide 64 xs (omega arith) some)

pub returns-clause-before : goal.returns-clause-before
returns-clause-before c k low high =
    let xs = take 16 (drop c.args.at c.args.bytes.now) in
    let long : length xs ≡ 16 = length-chunk c.args.at 16 c.args.bytes.now c.requires in
    let some : 0 < mask_l (map is_wide xs) = omega (arith, c.wide_marks-marks.ensures, c.if-marks-eq0.false) in
    not_wide _ (run_in_chunk_fails is_wide c.args.bytes.now c.args.at 16 _ 0 c.requires
    (ap (λ m. lib.Count.count_trailing_zeros 64 m) c.wide_marks-marks.ensures ∙ trailing_mask_l is_wide 64 xs (omega arith) some) k low high)
