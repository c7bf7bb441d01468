-- Characters of markup, and runs of them (HTML Standard, section 13.2.5; Infra Standard, section 4.7).
use Rattle.std.specs.Prelude.{ℕ, suc, Bool, true, false, ◌||◌, not, nat_eq, List, [], ◌∷◌, map, if◌then◌else◌}
use Rattle.std.specs.Char.{to_ascii_lowercase}
use Rattle.std.specs.List.{list_any}

-- tab, line feed, form feed and space
abbrev pub is_white_space : ℕ → Bool
is_white_space c = nat_eq c 9 || nat_eq c 10 || nat_eq c 12 || nat_eq c 32

-- what a tag's name ends before: white space, "/" or ">"
abbrev pub ends_tag_name : ℕ → Bool
ends_tag_name c = is_white_space c || nat_eq c 47 || nat_eq c 62

-- what an attribute's name ends before
abbrev pub ends_attribute_name : ℕ → Bool
ends_attribute_name c = ends_tag_name c || nat_eq c 61

-- what a value without quotes, and a doctype's name, end before: white space or ">"
abbrev pub ends_word : ℕ → Bool
ends_word c = is_white_space c || nat_eq c 62

-- U+FFFD in place of U+0000
abbrev pub shown : ℕ → ℕ
shown c = if nat_eq c 0 then 0xFFFD else c

-- U+0000, and whether it stands in a text
abbrev pub is_null : ℕ → Bool
is_null c = nat_eq c 0

abbrev pub has_null : List ℕ → Bool
has_null t = list_any is_null t

-- a character of a name
abbrev pub lowered : ℕ → ℕ
lowered c = shown (to_ascii_lowercase c)

abbrev pub all_lowered : List ℕ → List ℕ
all_lowered cs = map lowered cs

abbrev pub run_by : Bool → (Unit {0} → ℕ) → ℕ
run_by true go = 0
run_by false go = suc (go tt)

-- how many characters stand before the first that passes, or before the end
abbrev pub run : (ℕ → Bool) → List ℕ → ℕ
run stops [] = 0
run stops (c ∷ t) = run_by (stops c) (λ _. run stops t)

-- how many characters of white space stand at the front
abbrev pub white : List ℕ → ℕ
white t = run (λ c. not (is_white_space c)) t

abbrev pub begins_by : Bool → (Unit {0} → Bool) → Bool
begins_by true go = go tt
begins_by false go = false

-- whether a text begins with a word
abbrev pub begins : List ℕ → List ℕ → Bool
begins [] t = true
begins (w ∷ ws) [] = false
begins (w ∷ ws) (c ∷ t) = begins_by (nat_eq w c) (λ _. begins ws t)

-- whether a text begins with a word in any case, which is given lowered
abbrev pub begins_any_case : List ℕ → List ℕ → Bool
begins_any_case [] t = true
begins_any_case (w ∷ ws) [] = false
begins_any_case (w ∷ ws) (c ∷ t) = begins_by (nat_eq w (to_ascii_lowercase c)) (λ _. begins_any_case ws t)

abbrev pub ends_name_at : List ℕ → Bool
ends_name_at [] = false
ends_name_at (c ∷ t) = ends_tag_name c

-- whether a text begins with a name in any case, and white space, "/" or ">" after it
abbrev pub begins_name : List ℕ → List ℕ → Bool
begins_name [] t = ends_name_at t
begins_name (w ∷ ws) [] = false
begins_name (w ∷ ws) (c ∷ t) = begins_by (nat_eq w (to_ascii_lowercase c)) (λ _. begins_name ws t)
