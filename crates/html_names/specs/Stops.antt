-- What a run of characters ends before.
use Rattle.std.specs.Prelude.{ℕ, Bool, ◌||◌, not, nat_eq, nat_lt, length, take, List, [], ◌∷◌, Option, Some, None}
use Rattle.html_tokens.specs.Characters.{run}
use Rattle.html_rules.specs.Choice.{choose}
use Rattle.html_rules.specs.Encodings.{is_space}
use Rattle.html_names.specs.declared.encodings.Stop.{Stop}
use Rattle.html_names.specs.declared.encodings.Stop.TheVariants.{Dark, DoubleQuote, SingleQuote, ValueEnd}

abbrev pub stops : Stop → ℕ → Bool
stops Dark c = not (is_space c)
stops DoubleQuote c = nat_eq 34 c
stops SingleQuote c = nat_eq 39 c
stops ValueEnd c = is_space c || nat_eq c 59

-- what stands before the first character that stops, if there is one
abbrev pub up_to : (ℕ → Bool) → List ℕ → Option (List ℕ)
up_to p t =
    let n = run p t in
    choose (nat_lt n (length t)) (λ _. Some (take n t)) (λ _. None)

-- what stands after a character, if a text begins with it
abbrev pub after_character : ℕ → List ℕ → Option (List ℕ)
after_character w [] = None
after_character w (c ∷ t) = choose (nat_eq c w) (λ _. Some t) (λ _. None)

-- a value without quotes, if there is any text
abbrev pub unquoted_value : List ℕ → Option (List ℕ)
unquoted_value [] = None
unquoted_value (c ∷ t) = Some (take (run (stops ValueEnd) (c ∷ t)) (c ∷ t))
