-- Words and their bytes.
use Rattle.std.proofs.Common.{◌≡◌, ◌∙◌, ◌*◌, ◌^◌, ◌<◌, ℕ, zero, suc, get_or, List, [], ◌∷◌, ◌++◌, ap, sym, refl, arith, length, take, drop}
use Rattle.std.proofs.Math.Seq.{drop-append_seam, take-append_seam}
use Rattle.std.proofs.lemmas.List.{length-append}
use Rattle.std.proofs.lemmas.Nat.{from_le_bytes-to_le_bytes_4}
use Rattle.std.specs.Int.{w32, from_le_bytes, to_le_bytes}
use Rattle.html_tree_image.specs.Image.{word, words}

-- lists that begin with as many are equal part by part
pub front-same : {A : Type 0} (xs ys us vs : List A) → length xs ≡ length us → xs ++ ys ≡ us ++ vs → xs ≡ us
front-same xs ys us vs same e =
    sym (take-append_seam xs ys) ∙ ap (λ (k : ℕ). take k (xs ++ ys)) same ∙ ap (take (length us)) e ∙ take-append_seam us vs

pub back-same : {A : Type 0} (xs ys us vs : List A) → length xs ≡ length us → xs ++ ys ≡ us ++ vs → ys ≡ vs
back-same xs ys us vs same e =
    sym (drop-append_seam xs ys) ∙ ap (λ (k : ℕ). drop k (xs ++ ys)) same ∙ ap (drop (length us)) e ∙ drop-append_seam us vs

pub word-length : (n : ℕ) → length (word n) ≡ 4
unfolding word
word-length n = refl

word-bytes : (n : ℕ) → word n ≡ to_le_bytes w32 n
unfolding word
word-bytes n = refl

pub word-same : (n m : ℕ) → n < 2 ^ 32 → m < 2 ^ 32 → word n ≡ word m → n ≡ m
word-same n m small small' e =
    sym (from_le_bytes-to_le_bytes_4 n small)
    ∙ ap (from_le_bytes w32) (sym (word-bytes n) ∙ e ∙ word-bytes m)
    ∙ from_le_bytes-to_le_bytes_4 m small'

pub words-length : (ns : List ℕ) → length (words ns) ≡ 4 * length ns
words-length [] = refl
words-length (n ∷ ns) = length-append (word n) (words ns) ∙ (let one = word-length n in let others = words-length ns in omega arith)

-- the first word of words
pub first-word : (n m : ℕ) (ns ms : List ℕ) → n < 2 ^ 32 → m < 2 ^ 32 → words (n ∷ ns) ≡ words (m ∷ ms) → n ≡ m
first-word n m ns ms small small' e =
    word-same n m small small'
    (front-same (word n) (words ns) (word m) (words ms) (word-length n ∙ sym (word-length m)) e)

pub other-words : (n m : ℕ) (ns ms : List ℕ) → words (n ∷ ns) ≡ words (m ∷ ms) → words ns ≡ words ms
other-words n m ns ms e = back-same (word n) (words ns) (word m) (words ms) (word-length n ∙ sym (word-length m)) e

-- the word at a place of words
pub word-at : (ns ms : List ℕ) (k : ℕ) → length ns ≡ length ms → words ns ≡ words ms → get_or ns k 0 < 2 ^ 32 → get_or ms k 0 < 2 ^ 32
    → get_or ns k 0 ≡ get_or ms k 0
word-at [] [] k same e small small' = refl
word-at [] (m ∷ ms) k same e small small' = absurd (omega (arith, same))
word-at (n ∷ ns) [] k same e small small' = absurd (omega (arith, same))
word-at (n ∷ ns) (m ∷ ms) zero same e small small' = first-word n m ns ms small small' e
word-at (n ∷ ns) (m ∷ ms) (suc k) same e small small' = word-at ns ms k (omega (arith, same)) (other-words n m ns ms e) small small'
