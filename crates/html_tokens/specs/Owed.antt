-- How many errors characters of the input owe, and whether they owe none.
use Rattle.std.specs.Prelude.{ℕ, ◌+◌, Bool, true, false, nat_eq, List, [], ◌∷◌}
use Rattle.html_tokens.specs.Forbidden.{is_forbidden}
use Rattle.html_tokens.specs.Notes.{one_if}

-- What some characters owe: so many errors at least, or, where they are quiet, none.
pub record Owed : Type 0 where
  pub faults : ℕ
  pub is_quiet : Bool

abbrev pub nothing_owed : Owed
nothing_owed = record { faults = 0; is_quiet = true }

-- how many characters of a text pass
abbrev pub how_many : (ℕ → Bool) → List ℕ → ℕ
how_many passes [] = 0
how_many passes (c ∷ t) = one_if (passes c) + how_many passes t

-- what a text owes of which each character that passes is an error
abbrev pub owed_for_each : (ℕ → Bool) → List ℕ → Owed
owed_for_each passes t = record { faults = how_many passes t; is_quiet = nat_eq (how_many passes t) 0 }

-- what the characters of a text owe on their own, where control characters and noncharacters are told (section 13.2.3.5)
abbrev pub owed_for_text : Bool → List ℕ → Owed
owed_for_text false t = nothing_owed
owed_for_text true t = owed_for_each is_forbidden t
