-- Parts that grow node by node: equal parts have equal pieces.
use Rattle.std.proofs.Common.{◌≡◌, ◌∙◌, ◌+◌, ◌<◌, ◌≤◌, ◌-◌, ℕ, zero, suc, List, ◌++◌, ap, sym, arith, length}
use Rattle.std.proofs.lemmas.List.{length-append}
use Rattle.html_image_reader.proofs.Words.{back-same, front-same}

-- a piece is no longer than the whole
module _ (p x : ℕ → List ℕ) (grows : (n : ℕ) → p (suc n) ≡ p n ++ x n) where
  upto-short : (k n count : ℕ) → n + k ≡ count → length (p n) ≤ length (p count)
  upto-short zero n count e = let same : n ≡ count = omega (arith, e) in rw same (omega arith)
  upto-short (suc k) n count e =
      let more = upto-short k (suc n) count (omega (arith, e)) in
      let size : length (p (suc n)) ≡ length (p n) + length (x n) = ap length (grows n) ∙ length-append (p n) (x n) in
      omega (arith, more, size)

  pub piece-short : (n count : ℕ) → n < count → length (x n) ≤ length (p count)
  piece-short n count less =
      let more = upto-short (count - suc n) (suc n) count (omega (arith, less)) in
      let size : length (p (suc n)) ≡ length (p n) + length (x n) = ap length (grows n) ∙ length-append (p n) (x n) in
      omega (arith, more, size)

module _ (p q x y : ℕ → List ℕ) (grows : (n : ℕ) → p (suc n) ≡ p n ++ x n) (grows' : (n : ℕ) → q (suc n) ≡ q n ++ y n) (count : ℕ)
    (lengths : (n : ℕ) → n ≤ count → length (p n) ≡ length (q n)) (whole : p count ≡ q count) where
  fronts : (k n : ℕ) → n + k ≡ count → p n ≡ q n
  fronts zero n e = let same : n ≡ count = omega (arith, e) in rw same whole
  fronts (suc k) n e =
      front-same (p n) (x n) (q n) (y n) (lengths n (omega (arith, e)))
      (sym (grows n) ∙ fronts k (suc n) (omega (arith, e)) ∙ grows' n)

  pub pieces : (n : ℕ) → n < count → x n ≡ y n
  pieces n less =
      back-same (p n) (x n) (q n) (y n) (lengths n (omega (arith, less)))
      (sym (grows n) ∙ fronts (count - suc n) (suc n) (omega (arith, less)) ∙ grows' n)
