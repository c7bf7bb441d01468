use Rattle.std.proofs.Common.{◌∙◌, ◌%◌, ◌^◌, ap, replicate, arith, w8, length, ◌≡◌}
use Rattle.std.specs.Prelude.{nat_le, map, take, drop}
use Rattle.std.specs.Simd.Lanes.{mask_l}
use Rattle.std.proofs.lemmas.List.{length-map}
use Rattle.std.proofs.lemmas.Simd.{length-chunk, mask_l-mod, tops_compared, zip2_splat_left}
use Rattle.html_encodings.specs.Scanning.{is_not_ascii}
use Rattle.html_encodings.proofs.ascii.marks.Goals as goal

pub returns : goal.returns
returns c =
    let xs = take 16 (drop c.args.at c.args.bytes.now) in
    let long : length xs ≡ 16 = length-chunk c.args.at 16 c.args.bytes.now c.requires in
    ap (λ ms. mask_l ms % 2 ^ 64) (tops_compared w8 nat_le (replicate 16 128) xs ∙ zip2_splat_left nat_le 128 16 xs long)
    ∙ mask_l-mod (map is_not_ascii xs) 64 (omega (arith, length-map xs is_not_ascii))
