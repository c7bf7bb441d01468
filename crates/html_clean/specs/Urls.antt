-- Which scheme a URL has (URL Standard, section 4.4).
use Rattle.std.specs.Prelude.{ℕ, Bool, true, false, cond, ◌||◌, not, nat_eq, nat_le, List, [], ◌∷◌, ◌++◌, Option, Some, None}
use Rattle.std.specs.Char.{is_ascii_alphabetic, is_ascii_digit, to_ascii_lowercase}
use Rattle.std.specs.List.{filter}
use Rattle.html_round_trip.specs.Slices.Forms.{is_no_text}
use Rattle.html_clean.specs.Names.{are_first, first_two}
use Rattle.html_clean.specs.declared.kinds.SchemeStep.{SchemeStep}
use Rattle.html_clean.specs.declared.kinds.SchemeStep.TheVariants.{Ends, Stops, Grows}
use Rattle.html_clean.specs.declared.kinds.UrlKind.{UrlKind}
use Rattle.html_clean.specs.declared.kinds.UrlKind.TheVariants.{HasHost, HasScheme, IsRelative}

-- a control character of the first 32, or a space
abbrev pub is_blank : ℕ → Bool
is_blank c = nat_le c 32

-- a tab or a line break
abbrev pub is_break : ℕ → Bool
is_break c = nat_eq c 9 || (nat_eq c 10 || nat_eq c 13)

abbrev pub without_blanks : List ℕ → List ℕ
without_blanks [] = []
without_blanks (c ∷ cs) = cond (is_blank c) (without_blanks cs) (c ∷ cs)

-- a value as the URL parser takes it: blanks in front are dropped, and then tabs and line breaks anywhere
abbrev pub url_text : List ℕ → List ℕ
url_text value = filter (λ c. not (is_break c)) (without_blanks value)

abbrev pub is_scheme_character : ℕ → Bool
is_scheme_character c = is_ascii_alphabetic c || (is_ascii_digit c || (nat_eq c 43 || (nat_eq c 45 || nat_eq c 46)))

abbrev pub option_cons : ℕ → Option (List ℕ) → Option (List ℕ)
option_cons c None = None
option_cons c (Some cs) = Some (c ∷ cs)

-- what stands before ":", in lower case, if it is all of such characters
abbrev pub scheme_rest : List ℕ → Option (List ℕ)
scheme_rest [] = None
scheme_rest (c ∷ cs) = cond (nat_eq c 58) (Some [])
    (cond (is_scheme_character c) (option_cons (to_ascii_lowercase c) (scheme_rest cs)) None)

abbrev pub scheme_of : List ℕ → Option (List ℕ)
scheme_of [] = None
scheme_of (c ∷ cs) = cond (is_ascii_alphabetic c) (option_cons (to_ascii_lowercase c) (scheme_rest cs)) None

-- "/", or "\", which is read as "/" under most schemes
abbrev pub is_slash : ℕ → Bool
is_slash c = nat_eq c 47 || nat_eq c 92

abbrev pub begins_with_host : List ℕ → Bool
begins_with_host text = are_first is_slash is_slash (first_two text)

abbrev pub kind_by : Option (List ℕ) → Bool → UrlKind
kind_by (Some scheme) host = HasScheme scheme
kind_by None true = HasHost
kind_by None false = IsRelative

abbrev pub url_kind : List ℕ → UrlKind
url_kind value = let text = url_text value in kind_by (scheme_of text) (begins_with_host text)

-- the same, for a reader that goes from the left

-- whether a character may stand in a scheme after others
abbrev pub may_follow : List ℕ → ℕ → Bool
may_follow [] c = is_ascii_alphabetic c
may_follow (d ∷ name) c = is_scheme_character c

-- whether something that is no blank was met
abbrev pub has_begun : List ℕ → Bool
has_begun [] = false
has_begun (c ∷ cs) = not (is_blank c) || has_begun cs

abbrev pub prepended : List ℕ → Option (List ℕ) → Option (List ℕ)
prepended name None = None
prepended name (Some cs) = Some (name ++ cs)

-- the scheme, once so much of it was met
abbrev pub scheme_after : List ℕ → List ℕ → Option (List ℕ)
scheme_after [] cs = scheme_of cs
scheme_after (d ∷ name) cs = prepended (d ∷ name) (scheme_rest cs)

-- what a character is there
abbrev pub step_of : List ℕ → ℕ → SchemeStep
step_of name c = cond (nat_eq c 58) (cond (is_no_text name) Stops Ends) (cond (may_follow name c) Grows Stops)

abbrev pub scheme_by : SchemeStep → List ℕ → Option (List ℕ) → Option (List ℕ)
scheme_by Ends name later = Some name
scheme_by Stops name later = None
scheme_by Grows name later = later
