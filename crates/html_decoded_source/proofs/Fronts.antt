-- What was read in several reads.
use Rattle.std.proofs.Common.{◌≡◌, ◌∙◌, ℕ, ◌+◌, ◌≤◌, List, ◌++◌, length, take, Option, Some, None, refl, sym, ap, arith, append_assoc}
use Rattle.std.proofs.Common.{length-append}
use Rattle.std.proofs.lemmas.List.{length-take-le, take-append-le}
use Rattle.std.proofs.Math.Seq.{take-append-add}
use Rattle.std.specs.Io.KnownBytes.{prepend_known}

prepend-both : (xs ys : List ℕ) (known : Option (List ℕ)) → prepend_known xs (prepend_known ys known) ≡ prepend_known (xs ++ ys) known
prepend-both xs ys None = refl
prepend-both xs ys (Some bytes) = ap (λ bs. Some bs) (sym (append_assoc xs ys bytes))

module _ (held count : ℕ) (buffer part rest : List ℕ) (within : held ≤ length buffer) (some : count ≤ length part) where
  -- a read that puts some bytes after those that a buffer holds
  pub more-fits : held + count ≤ length (take held buffer ++ (part ++ rest))
  more-fits =
      let whole = length-append (take held buffer) (part ++ rest) in
      let first = length-take-le held buffer within in
      let then = length-append part rest in
      omega arith

  pub more-read : (before now after : Option (List ℕ)) → before ≡ prepend_known (take held buffer) now
      → now ≡ prepend_known (take count part) after
      → before ≡ prepend_known (take (held + count) (take held buffer ++ (part ++ rest))) after
  more-read before now after so_far moved =
      let first = length-take-le held buffer within in
      let both : take (held + count) (take held buffer ++ (part ++ rest)) ≡ take held buffer ++ take count part =
      ap (λ n. take (n + count) (take held buffer ++ (part ++ rest))) (sym first)
      ∙ (take-append-add (take held buffer) (part ++ rest) count
      ∙ ap (λ xs. take held buffer ++ xs) (take-append-le count part rest some)) in
      so_far ∙ (ap (prepend_known (take held buffer)) moved
      ∙ (prepend-both (take held buffer) (take count part) after ∙ ap (λ xs. prepend_known xs after) (sym both)))
