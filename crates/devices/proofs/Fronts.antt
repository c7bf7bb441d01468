-- The front of a list of bytes, and what follows it.
use Rattle.std.proofs.Common.{◌≡◌, ℕ, ◌+◌, ◌≤◌, List, ◌++◌, length, take, drop, refl, arith}
use Rattle.std.proofs.lemmas.List.{take-append-drop, take-append-le, take-take, drop-drop, length-take-le}

-- what was moved to the front of a buffer, and what is left after it, are what was left before
pub front_moved : (at n : ℕ) (bytes rest : List ℕ) → n ≤ length (drop at bytes) → drop at bytes ≡ take n
    (take n (drop at bytes) ++ rest) ++ drop (at + n) bytes
front_moved at n bytes rest within =
    let whole : n ≤ length (take n (drop at bytes)) = rw (length-take-le n (drop at bytes) within) (omega arith) in
    rw (
      take-append-le n (take n (drop at bytes)) rest whole,
      take-take n n (drop at bytes) (omega arith),
      ← drop-drop n at bytes,
      take-append-drop,
    ) refl
