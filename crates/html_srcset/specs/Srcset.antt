-- The URLs of a `srcset` (HTML Standard, section 4.8.4.2.1, "parse a srcset attribute").
use Rattle.std.specs.Prelude.{ℕ, ◌==◌, ◌&&◌, ◌||◌, Bool, true, false, not, List, [], ◌∷◌, ◌++◌, if◌then◌else◌}
use Rattle.std.specs.Char.{is_ascii_whitespace}
use Rattle.html_srcset.specs.declared.srcset.Place.{Place}
use Rattle.html_srcset.specs.declared.srcset.Place.TheVariants.{Before, Within, Behind}

-- where a character stands: before a URL; in one, behind these characters and then these commas, which are not part of it where it ends
-- with them; or in its description, in parentheses or not
pub data Spot : Type 0 where
  before : Spot
  within : (url commas : List ℕ) → Spot
  behind : (in_parentheses : Bool) → Spot

abbrev pub spot_of : Place → (url commas : List ℕ) → Spot
spot_of Before url commas = before
spot_of Within url commas = within url commas
spot_of (Behind in_parentheses) url commas = behind in_parentheses

-- what stands between two URLs with their descriptions
abbrev pub is_between : ℕ → Bool
is_between c = is_ascii_whitespace c || c == 44

-- a URL that ends with a comma has no description
abbrev pub spot_after : (commas : List ℕ) → Spot
spot_after [] = behind false
spot_after (comma ∷ commas) = before

-- a description ends with a comma that is in no parentheses
abbrev pub spot_behind : Bool → ℕ → Spot
spot_behind in_parentheses c =
    if c == 40 then behind true else
    (if c == 41 then behind false else
    (if c == 44 && not in_parentheses then before else behind in_parentheses))

-- the URLs of the characters from a spot on
abbrev pub urls_from : Spot → List ℕ → List (List ℕ)
urls_from before [] = []
urls_from (within url commas) [] = url ∷ []
urls_from (behind in_parentheses) [] = []
urls_from before (c ∷ cs) = if is_between c then urls_from before cs else urls_from (within (c ∷ []) []) cs
urls_from (within url commas) (c ∷ cs) =
    if is_ascii_whitespace c then url ∷ urls_from (spot_after commas) cs else
    (if c == 44 then urls_from (within url (commas ++ c ∷ [])) cs else urls_from (within (url ++ (commas ++ c ∷ [])) []) cs)
urls_from (behind in_parentheses) (c ∷ cs) = urls_from (spot_behind in_parentheses c) cs

unfoldable pub candidates : List ℕ → List (List ℕ)
candidates value = urls_from before value
