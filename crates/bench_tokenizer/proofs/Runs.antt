-- What is left to count once a run or a member is taken.
use Rattle.std.proofs.Common.{◌≡◌, ◌≤◌, ℕ, ◌+◌, Bool, true, false, Option, Some, None, List, [], ◌∷◌, ◌++◌, length, arith, refl, ◌∙◌, ap}
use Rattle.std.specs.Prelude.{◌||◌, min, is_some, All, IfSome, slice_get}
use Rattle.std.proofs.lemmas.List.{length-append}
use Rattle.std.proofs.lemmas.List.Elements.{All-head, All-tail}
use Rattle.std.proofs.Math.Nat.{zero-add}
use Rattle.html_queue.specs.Set.{has}
use Rattle.html_queue.specs.Queue.{Queue, Takes, IsRun, Pops}
use Rattle.html_queue.specs.declared.set.SetResult.{SetResult}
use Rattle.html_queue.specs.declared.set.SetResult.TheVariants.{FromSet, NotFromSet}
use Rattle.bench_tokenizer.specs.Runs.{is_last, runs_and_members}

-- a count that stops at the greatest number of 64 bits, and what is left, are together as many as all
abbrev pub IsCounted : ℕ → ℕ → ℕ → Type 0
IsCounted count left all = (count ≤ 0xffff_ffff_ffff_ffff) × (min (count + left) 0xffff_ffff_ffff_ffff ≡ min all 0xffff_ffff_ffff_ffff)

pub count-one : (count next left more all : ℕ) → IsCounted count left all → left ≡ 1 + more
    → next ≡ min (count + 1) 0xffff_ffff_ffff_ffff → IsCounted next more all
count-one count next left more all h one e = (omega (arith, e), omega (arith, h.0, h.1, one, e))

pub count-ends : (count left all : ℕ) → IsCounted count left all → left ≡ 0 → count ≡ min all 0xffff_ffff_ffff_ffff
count-ends count left all h e = omega (arith, h.0, h.1, e)

either-true : (b : Bool) → (b || true) ≡ true
either-true true = refl
either-true false = refl

-- a character is the last of its kind before a member or the end
last-before : (bits c : ℕ) (rest : List ℕ) → IfSome (slice_get rest 0) (λ d. has bits d ≡ true) → is_last bits c rest ≡ true
last-before bits c [] h = refl
last-before bits c (d ∷ ds) h = rw h (either-true (has bits c))

-- and where it is itself a member
last-member : (bits c : ℕ) (rest : List ℕ) → has bits c ≡ true → is_last bits c rest ≡ true
last-member bits c [] h = refl
last-member bits c (d ∷ ds) h = rw h refl

member-counts : (bits c : ℕ) (rest : List ℕ) → has bits c ≡ true → runs_and_members bits (c ∷ rest) ≡ 1 + runs_and_members bits rest
member-counts bits c rest h = rw (last-member bits c rest h) refl

characters-count : (bits c : ℕ) (cs rest : List ℕ) → All (λ d. has bits d ≡ false) (c ∷ cs)
    → IfSome (slice_get rest 0) (λ d. has bits d ≡ true) → runs_and_members bits (c ∷ cs ++ rest) ≡ 1 + runs_and_members bits rest
characters-count bits c [] rest lack h = rw (last-before bits c rest h) refl
characters-count bits c (d ∷ ds) rest lack h =
    let P = λ (x : ℕ). has bits x ≡ false in
    let behind : All P (d ∷ ds) = All-tail P c (d ∷ ds) lack in
    rw (All-head P c (d ∷ ds) lack, All-head P d ds behind, zero-add) (characters-count bits d ds rest behind h)

run-counts : (bits : ℕ) (cs rest : List ℕ) → IsRun bits cs rest → runs_and_members bits (cs ++ rest) ≡ 1 + runs_and_members bits rest
run-counts bits [] rest r = absurd (omega (arith, r.filled))
run-counts bits (c ∷ cs) rest r = characters-count bits c cs rest r.lacking r.longest

-- what a call takes counts one
pub pop-counts : (bits : ℕ) (old new : Queue) (taken : Option SetResult) → Pops bits old new taken
    → is_some taken ≡ true → runs_and_members bits old.characters ≡ 1 + runs_and_members bits new.characters
pop-counts bits old new None p e = absurd (cc)
pop-counts bits old new (Some (FromSet c)) p e = ap (runs_and_members bits) p.1.split ∙ member-counts bits c new.characters p.0
pop-counts bits old new (Some (NotFromSet run)) p e = ap (runs_and_members bits) p.1.split ∙ run-counts bits run new.characters p.0

-- where a call takes nothing, nothing is left to count
pub none-left : (bits : ℕ) (old new : Queue) (taken : Option SetResult) → Pops bits old new taken
    → is_some taken ≡ false → runs_and_members bits old.characters ≡ 0
none-left bits old new None p e = ap (runs_and_members bits) p.0
none-left bits old new (Some (FromSet c)) p e = absurd (cc)
none-left bits old new (Some (NotFromSet run)) p e = absurd (cc)

takes-whole : (first : List ℕ) (old new : Queue) → Takes first old new
    → new.taken + length new.characters ≡ old.taken + length old.characters
takes-whole first old new t = let long = ap length t.split ∙ length-append first new.characters in omega (arith, t.counted, long)

-- a character that a call takes is counted as taken
pub pop-whole : (bits : ℕ) (old new : Queue) (taken : Option SetResult) → Pops bits old new taken
    → new.taken + length new.characters ≡ old.taken + length old.characters
pop-whole bits old new None p = ap (λ (q : Queue). q.taken + length q.characters) p.1
pop-whole bits old new (Some (FromSet c)) p = takes-whole (c ∷ []) old new p.1
pop-whole bits old new (Some (NotFromSet run)) p = takes-whole run old new p.1
