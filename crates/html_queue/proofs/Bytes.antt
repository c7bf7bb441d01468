-- Stepping back over a text that was just taken.
use Rattle.std.proofs.Common.{◌≡◌, ◌≤◌, ◌+◌, ◌-◌, ℕ, List, [], ◌++◌, length, take, drop, arith, subst, sym, ◌∙◌, ap}
use Rattle.std.proofs.Common.{append_assoc, Result, Ok, Err}
use Rattle.std.specs.List.{replace_range, slice_range}
use Rattle.std.specs.Result.{OnOk}
use Rattle.std.specs.Str.{IsCharBoundary, IsUtf8}
use Rattle.std.proofs.lemmas.List.{drop_all, length-append, length-take, take-append-drop}
use Rattle.std.proofs.lemmas.Str.{IsCharBoundary-at_seam, IsCharBoundary-from_drop, IsUtf8-append, IsUtf8-drop}
use Rattle.std.proofs.Math.Seq.{drop-append_seam}

-- a step back over a text that ends at the place puts it before what follows the place
drop-back : (xs ys front : List ℕ) (i : ℕ) → i ≤ length xs → take i xs ≡ front ++ ys → drop (i - length ys) xs ≡ ys ++ drop i xs
drop-back xs ys front i l e =
    let n : length (take i xs) ≡ i = omega (arith, length-take i xs) in
    let k : i - length ys ≡ length front = omega (arith, n, ap length e, length-append front ys) in
    let whole : xs ≡ front ++ (ys ++ drop i xs) = sym (take-append-drop i xs) ∙ ap (λ zs. zs ++ drop i xs) e
    ∙ append_assoc front ys (drop i xs) in
    rw k (ap (drop (length front)) whole ∙ drop-append_seam front (ys ++ drop i xs))

-- the same where a test found that the text ends there
pub drop-back_after : (xs ys : List ℕ) (i k : ℕ) → i ≤ length xs → slice_range xs 0 i ≡ take
    (length (slice_range xs 0 i) - k) (slice_range xs 0 i) ++ ys → drop (i - length ys) xs ≡ ys ++ drop i xs
drop-back_after xs ys i k l e = drop-back xs ys _ i l (ap (λ (n : ℕ). take n xs) (omega arith) ∙ e)

-- A text put, after spaces, in place of a part that ends at a place stands before what follows the place, and begins where a
-- character may.
pub record IsPutBefore (old new more : List ℕ) (place at : ℕ) : Type 0 where
  pub shows : drop at new ≡ more ++ drop place old
  pub cut : IsCharBoundary new at

pub IsPutBefore-replaced : (old new pad more : List ℕ) (from place at : ℕ) → from ≤ length old
    → from + length pad ≡ at → IsUtf8 more → IsUtf8 (drop place old) → new ≡ replace_range old from place
    (pad ++ more) → IsPutBefore old new more place at
IsPutBefore-replaced old new pad more from place at within is utf8 rest e =
    let front = take from old ++ pad in
    let whole : new ≡ front ++ (more ++ drop place old) = e ∙ ap (λ (zs : List ℕ). zs ++ drop place old)
    (sym (append_assoc (take from old) pad more)) ∙ append_assoc front more (drop place old) in
    let size : length front ≡ at = omega (arith, is, length-append (take from old) pad, length-take from old) in
    record {
      shows = subst (λ (n : ℕ). drop n new ≡ more ++ drop place old) size
          (ap (drop (length front)) whole ∙ drop-append_seam front (more ++ drop place old));
      cut = subst (λ (n : ℕ). IsCharBoundary new n) size
          (IsCharBoundary-at_seam new front (more ++ drop place old) whole (IsUtf8-append more (drop place old) utf8 rest));
    }

-- what follows where a call went well
pub on-ok : {T E : Type 0} (r : Result T E) (P Q : Type 0) → (P → Q) → OnOk r P → OnOk r Q
on-ok (Ok x) P Q f h = f h
on-ok (Err e) P Q f h = tt

-- where a step back leads, a character begins
pub IsCharBoundary-back : (xs ys lent : List ℕ) (i : ℕ) → IsCharBoundary xs i → IsUtf8 xs → IsUtf8 ys
    → drop (i - length ys) xs ≡ ys ++ drop i xs → lent ≡ ys → IsCharBoundary xs (i - length lent)
IsCharBoundary-back xs ys lent i cut text more back same =
    let within = cut.0 in
    rw same (IsCharBoundary-from_drop xs (i - length ys) (omega arith)
    (rw back (IsUtf8-append ys (drop i xs) more (IsUtf8-drop xs i text cut))))

-- a place that is no less than the end has nothing after it
pub none-behind : (xs now : List ℕ) (place len : ℕ) → drop place xs ≡ now → len ≡ length xs → len ≤ place → now ≡ []
none-behind xs now place len seen size all = sym seen ∙ drop_all place xs (omega arith)
