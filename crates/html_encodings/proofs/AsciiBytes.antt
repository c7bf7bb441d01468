-- Sixteen bytes, marked where they are not ASCII.
use Rattle.std.proofs.Common.{◌≡◌, ◌∙◌, ℕ, ◌+◌, ◌<◌, ◌≤◌, false, List, length, map, take, drop, sym, ap, arith}
use Rattle.std.specs.Prelude.{not}
use Rattle.std.specs.List.{prefix_len}
use Rattle.std.specs.Simd.Lanes.{mask_l}
use Rattle.std.proofs.lemmas.Bool.Decides.{nat_tests}
use Rattle.std.proofs.lemmas.Simd.{length-chunk, none_from_empty_mask, run_in_chunk_fails, run_in_chunk_le, trailing_mask_l}
use Rattle.html_encodings.specs.Scanning.{is_not_ascii, AreAscii}

is_ascii : (byte : ℕ) → is_not_ascii byte ≡ false → byte < 128
is_ascii byte is = grind (arith, nat_tests)

module _ (bytes : List ℕ) (at marks : ℕ) (room : at + 16 ≤ length bytes)
    (marked : marks ≡ mask_l (map is_not_ascii (take 16 (drop at bytes)))) where
  -- none is marked
  pub all_ascii : marks ≡ 0 → AreAscii bytes at (at + 16)
  all_ascii none k low high =
      is_ascii _ (none_from_empty_mask is_not_ascii bytes at 16 0 room (sym marked ∙ none) k low high)

  -- the place of the first that is marked
  counted : 0 < marks → lib.Count.count_trailing_zeros 64 marks ≡ prefix_len (λ x. not (is_not_ascii x)) (take 16 (drop at bytes))
  counted some =
      let xs = take 16 (drop at bytes) in
      let long : length xs ≡ 16 = length-chunk at 16 bytes room in
      let marks_some : 0 < mask_l (map is_not_ascii xs) = omega (arith, marked) in
      ap (λ m. lib.Count.count_trailing_zeros 64 m) marked ∙ trailing_mask_l is_not_ascii 64 xs (omega arith) marks_some

  pub first_within : 0 < marks → lib.Count.count_trailing_zeros 64 marks ≤ 16
  first_within some = run_in_chunk_le is_not_ascii bytes at 16 _ 0 room (counted some)

  pub ascii_before : 0 < marks → AreAscii bytes at (at + lib.Count.count_trailing_zeros 64 marks)
  ascii_before some k low high = is_ascii _ (run_in_chunk_fails is_not_ascii bytes at 16 _ 0 room (counted some) k low high)
