-- What was held where it begins with "#", and digits at its front.
use Rattle.std.proofs.Common.{◌≡◌, ◌≤◌, ◌<◌, ◌+◌, ◌-◌, ℕ, zero, suc, Bool, true, false, List, [], ◌∷◌, ◌++◌, length, get_or}
use Rattle.std.proofs.Common.{take, drop, refl, sym, ap, ◌∙◌, add-one, arith, Option, None, Some}
use Rattle.std.specs.List.{slice_get}
use Rattle.std.proofs.Math.Seq.{drop-cons}
use Rattle.std.proofs.lemmas.List.{drop_all}
use Rattle.html_tokens.specs.Characters.{run}
use Rattle.html_tokens.specs.Reference.{digits_at, number, numbered, numbered_reference, numeric, semicolon}
use Rattle.html_tokens.specs.Table.{Row}
use Rattle.html_tokenizer_parts.specs.CharRefs.{base_of, decided, is_faulty, is_faulty_numeric, is_held_front, is_number_front}
use Rattle.html_tokenizer_parts.specs.CharRefs.{may_go_on, reference_of, stops}
use Rattle.html_tokenizer_parts.proofs.NamedRows.{rest_of}

-- a text that begins with "#", and what the bytes that were lent of it have after that
pub record BeginsHash (held bytes : List ℕ) : Type 0 where
  pub rest : List ℕ
  pub is : held ≡ 35 ∷ rest
  pub behind : take (length bytes - 1) (drop 1 bytes) ≡ rest

-- a text whose first byte is "#" begins so
pub BeginsHash-first : (held asked bytes : List ℕ) (h : ℕ) → Some h ≡ slice_get asked 0 → h ≡ 35 → asked ≡ held
    → bytes ≡ held → BeginsHash held bytes
BeginsHash-first [] asked bytes h found is same all = let none : Some h ≡ None = rw same at found in absurd cc
BeginsHash-first (x ∷ hs) asked bytes h found is same all =
    let first : Some h ≡ Some x = rw same at found in
    let hash : x ≡ 35 = cc in
    record { rest = hs; is = ap (λ y. y ∷ hs) hash; behind = rest_of bytes 1 ∙ ap (drop 1) all }

-- what is decided of it is the number after "#"
pub decided-hash : (in_value : Bool) (rows : List Row) (held bytes : List ℕ) (follows : Bool)
    → BeginsHash held bytes → numbered_reference (numeric (take (length bytes - 1) (drop 1 bytes))) ≡ decided in_value rows held follows
decided-hash in_value rows held bytes follows b = rw (b.is, b.behind) refl

-- so is whether it is faulty
pub faulty-hash : (in_value : Bool) (rows : List Row) (held bytes : List ℕ) (follows : Bool) → BeginsHash held bytes
    → is_faulty_numeric (take (length bytes - 1) (drop 1 bytes)) ≡ is_faulty in_value rows held follows
faulty-hash in_value rows held bytes follows b = rw (b.is, b.behind) refl

-- a front of a reference that begins so is a front of a number after "#"
pub front-hash : (rows : List Row) (held bytes : List ℕ) → BeginsHash held bytes → is_held_front rows held ≡ true
    → is_number_front (take (length bytes - 1) (drop 1 bytes)) ≡ true
front-hash rows held bytes b front = rw b.behind (rw b.is at front)

-- it goes on as the number does
pub goes_on-hash : (rows : List Row) (held bytes : List ℕ) (c : ℕ) → BeginsHash held bytes
    → is_number_front (take (length bytes - 1) (drop 1 bytes) ++ c ∷ []) ≡ may_go_on rows held c
goes_on-hash rows held bytes c b = rw (b.is, b.behind) refl

-- the same where the count of the digits is not yet known to be the run at the front
digits-some : (base k n first after : ℕ) (text : List ℕ) → (n ≡ 0 → ⊥)
    → first ≡ numbered (number base (take n text)) → after ≡ semicolon (take (length text - n) (drop n text))
    → Some (reference_of (record { first = first; second = None; len = k + n + after })) ≡ numbered_reference (digits_at k base n text)
digits-some base k zero first after text some is ends = absurd (some refl)
digits-some base k (suc n) first after text some is ends = rw (is, ends, rest_of text (suc n)) refl

-- the reference of digits at the front, where there is one
pub digits-found : (hex : Bool) (k n first after : ℕ) (text : List ℕ) → n ≡ run (stops hex) text → (n ≡ 0 → ⊥)
    → first ≡ numbered (number (base_of hex) (take n text)) → after ≡ semicolon (take (length text - n) (drop n text))
    → Some (reference_of (record { first = first; second = None; len = k + n + after })) ≡ numbered_reference
    (digits_at k (base_of hex) (run (stops hex) text) text)
digits-found hex k n first after text count some is ends = rw (← count) (digits-some (base_of hex) k n first after text some is ends)

-- one character more of a run
pub run-more : (stops : ℕ → Bool) (text : List ℕ) (k : ℕ) → k < length text → false ≡ stops (get_or text k 0)
    → run stops text ≡ k + run stops (drop k text) → (k + 1 ≤ length text) × (run stops text ≡ k + 1 + run stops (drop (k + 1) text))
run-more stops text k within goes_on so_far =
    let step : run stops (drop k text) ≡ suc (run stops (drop (k + 1) text)) = rw (add-one, drop-cons text k 0 within, ← goes_on) refl in
    (omega arith, omega (arith, so_far, step))

-- a run that ends before a character
pub run-ends : (stops : ℕ → Bool) (text : List ℕ) (k : ℕ) → k < length text → true ≡ stops (get_or text k 0)
    → run stops text ≡ k + run stops (drop k text) → k ≡ run stops text
run-ends stops text k within ends so_far =
    let none : run stops (drop k text) ≡ 0 = rw (drop-cons text k 0 within, ← ends) refl in
    omega (arith, so_far, none)

-- a run that ends with the text
pub run-all : (stops : ℕ → Bool) (text : List ℕ) (k : ℕ) → length text ≤ k → run stops text ≡ k + run stops
    (drop k text) → k ≡ run stops text
run-all stops text k all so_far =
    let none : run stops (drop k text) ≡ 0 = ap (run stops) (drop_all k text all) in
    omega (arith, so_far, none)
