use Rattle.std.specs.Prelude.{◌≡◌, ℕ, ◌+◌, ◌<◌, ◌≤◌, true, false, Option, Some, None, List, [], ◌∷◌, ◌++◌, length, drop}
use Rattle.std.specs.Prelude.{slice_get, All, IfSome}
use Rattle.html_queue.specs.Set.{has}
use Rattle.html_queue.specs.declared.set.SetResult.{SetResult}
use Rattle.html_queue.specs.declared.set.SetResult.TheVariants.{FromSet, NotFromSet}

-- the characters that wait, and how many were taken
pub record Queue : Type 0 where
  pub characters : List ℕ
  pub taken : ℕ

-- the first characters are taken
pub record Takes (first : List ℕ) (old new : Queue) : Type 0 where
  pub split : old.characters ≡ first ++ new.characters
  pub counted : new.taken ≡ old.taken + length first

-- so many characters are taken
pub record Passes (count : ℕ) (old new : Queue) : Type 0 where
  pub within : count ≤ length old.characters
  pub rest : new.characters ≡ drop count old.characters
  pub counted : new.taken ≡ old.taken + count

-- the longest front with no character of the set, which is not empty, before what is left
pub record IsRun (bits : ℕ) (run rest : List ℕ) : Type 0 where
  pub filled : 0 < length run
  pub lacking : All (λ c. has bits c ≡ false) run
  pub longest : IfSome (slice_get rest 0) (λ c. has bits c ≡ true)

-- one character of the set is taken, or the longest front with none
abbrev pub Pops : ℕ → Queue → Queue → Option SetResult → Type 0
Pops bits old new None = (old.characters ≡ []) × (new ≡ old)
Pops bits old new (Some (FromSet c)) = (has bits c ≡ true) × Takes (c ∷ []) old new
Pops bits old new (Some (NotFromSet run)) = IsRun bits run new.characters × Takes run old new
