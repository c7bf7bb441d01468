use Rattle.std.proofs.Common.{◌≡◌, ◌<◌, length, map, take, drop, sym, ap, ◌∙◌, arith}
use Rattle.std.specs.Simd.Lanes.{mask_l}
use Rattle.std.proofs.lemmas.Simd.{length-chunk, none_from_empty_mask, run_in_chunk_fails, run_in_chunk_le, trailing_mask_l}
use Rattle.html_queue.specs.Set.{is_marked}
use Rattle.html_queue.proofs.set.unmarked.Goals as goal

pub returns-then-marked-eq0-clause-before : goal.returns-then-marked-eq0-clause-before
returns-then-marked-eq0-clause-before c =
    none_from_empty_mask (is_marked c.args.first c.args.second) c.args.bytes.now c.args.at 16 0 c.requires
    (sym c.marks-marked.ensures ∙ c.if-marked-eq0.true)

pub returns-clause-within : goal.returns-clause-within
returns-clause-within c =
    let p = is_marked c.args.first c.args.second in
    let xs = take 16 (drop c.args.at c.args.bytes.now) in
    let long : length xs ≡ 16 = length-chunk c.args.at 16 c.args.bytes.now c.requires in
    let some : 0 < mask_l (map p xs) = omega (arith, c.marks-marked.ensures, c.if-marked-eq0.false) in
    run_in_chunk_le p c.args.bytes.now c.args.at 16 _ 0 c.requires
    (ap (λ m. lib.Count.count_trailing_zeros 64 m) c.marks-marked.ensures ∙ trailing_mask_l p 64 xs (omega arith) some)

pub returns-clause-before : goal.returns-clause-before
returns-clause-before c =
    let p = is_marked c.args.first c.args.second in
    let xs = take 16 (drop c.args.at c.args.bytes.now) in
    let long : length xs ≡ 16 = length-chunk c.args.at 16 c.args.bytes.now c.requires in
    let some : 0 < mask_l (map p xs) = omega (arith, c.marks-marked.ensures, c.if-marked-eq0.false) in
    run_in_chunk_fails p c.args.bytes.now c.args.at 16 _ 0 c.requires
    (ap (λ m. lib.Count.count_trailing_zeros 64 m) c.marks-marked.ensures ∙ trailing_mask_l p 64 xs (omega arith) some)
