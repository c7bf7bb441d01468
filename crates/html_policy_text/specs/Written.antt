-- A policy written as text, and which policies can be.
use Rattle.std.specs.Prelude.{◌≡◌, ℕ, Bool, true, false, ◌&&◌, nat_le, not, ◌==◌, List, [], ◌∷◌, ◌++◌, length, map, codes}
use Rattle.std.specs.Prelude.{Option, Some, None, is_none, Ok}
use Rattle.std.specs.Char.{is_ascii_whitespace}
use Rattle.std.specs.Fmt.{decimal}
use Rattle.std.specs.List.{list_all}
use Rattle.std.specs.Str.{bytes_eq}
use Rattle.html_clean.specs.Values.{greatest, joined_after, words_of}
use Rattle.html_policy_text.specs.PolicyText.{policy_rules}
use Rattle.html_clean.specs.Limits.{Limit, LimitParts}
use Rattle.html_clean.specs.Limits.Limit.{Absolute, Numbers, Parts, Prefixed, Proxied, Schemes, Texts}
use Rattle.html_clean.specs.declared.policy.IdForm.TheVariants.{Name, Names, Link}
use Rattle.html_policy_text.specs.Rules.{Rules, after_mark}
use Rattle.html_policy_text.specs.declared.writing.WriteFault.{WriteFault}
use Rattle.html_policy_text.specs.declared.writing.WriteFault.TheVariants.{Memory, Unwritable}

-- LINES

-- a space before each word
abbrev pub spaced : List (List ℕ) → List ℕ
spaced [] = []
spaced (word ∷ words) = 32 ∷ (word ++ spaced words)

-- a line, of the word that names its rule and the words after it
abbrev pub line_of : List ℕ → List (List ℕ) → List ℕ
line_of keyword words = (keyword ++ spaced words) ++ 10 ∷ []

-- a line for a list of words, if there is one
abbrev pub list_text : List ℕ → List (List ℕ) → List ℕ
list_text keyword [] = []
list_text keyword (word ∷ words) = line_of keyword (word ∷ words)

-- a line for what is so
abbrev pub flag_text : List ℕ → Bool → List ℕ
flag_text keyword false = []
flag_text keyword true = line_of keyword []

abbrev pub rule_text : List ℕ × List (List ℕ) → List ℕ
rule_text rule = line_of (codes "keep") (rule.0 ∷ rule.1)

abbrev pub target_word : Option (List ℕ) → List ℕ
target_word None = codes "*"
target_word (Some name) = name

abbrev pub limit_keyword : Limit → List ℕ
limit_keyword (Texts texts) = codes "one-of"
limit_keyword (Parts words beginnings) = codes "words"
limit_keyword (Numbers least most) = codes "number"
limit_keyword (Schemes schemes) = codes "schemes-for"
limit_keyword (Prefixed Name prefix) = codes "prefix"
limit_keyword (Prefixed Names prefix) = codes "prefix-words"
limit_keyword (Prefixed Link prefix) = codes "prefix-link"
limit_keyword (Proxied prefix) = codes "proxy"
limit_keyword (Absolute base) = codes "base"

-- a beginning of words
abbrev pub marked : List ℕ → List ℕ
marked beginning = 94 ∷ beginning

abbrev pub limit_words : Limit → List (List ℕ)
limit_words (Texts texts) = texts
limit_words (Parts words beginnings) = words ++ map marked beginnings
limit_words (Numbers least most) = decimal least ∷ decimal most ∷ []
limit_words (Schemes schemes) = schemes
limit_words (Prefixed form prefix) = prefix ∷ []
limit_words (Proxied prefix) = prefix ∷ []
limit_words (Absolute base) = base ∷ []

abbrev pub limit_text : LimitParts → List ℕ
limit_text limit = line_of (limit_keyword limit.1.1) (target_word limit.0 ∷ (limit.1.0 ∷ limit_words limit.1.1))

abbrev pub addition_text : List ℕ × (List ℕ × List ℕ) → List ℕ
addition_text addition = line_of (codes "add") (addition.0 ∷ (addition.1.0 ∷ words_of addition.1.1))

-- the texts of several
abbrev pub texts_of : {X : Type 0} → (X → List ℕ) → List X → List ℕ
texts_of text [] = []
texts_of text (x ∷ xs) = text x ++ texts_of text xs

-- a policy as text, one rule a line
abbrev pub policy_text : Rules → List ℕ
policy_text rules =
    ((((((((texts_of rule_text rules.kept
    ++ list_text (codes "drop") rules.dropped)
    ++ list_text (codes "attribute") rules.everywhere)
    ++ list_text (codes "beginning") rules.beginnings)
    ++ texts_of limit_text rules.limits)
    ++ texts_of addition_text rules.added)
    ++ list_text (codes "url") rules.urls)
    ++ list_text (codes "scheme") rules.schemes)
    ++ flag_text (codes "relative") rules.relative)
    ++ flag_text (codes "host") rules.hosts

-- WHICH POLICIES CAN BE WRITTEN

abbrev pub is_solid : ℕ → Bool
is_solid c = not (is_ascii_whitespace c)

-- a word of a line: it has a character, and no white space
abbrev pub is_word : List ℕ → Bool
is_word word = not (length word == 0) && list_all is_solid word

abbrev pub is_rule_writable : List ℕ × List (List ℕ) → Bool
is_rule_writable rule = is_word rule.0 && list_all is_word rule.1

-- an element that isn't called as all elements are
abbrev pub is_target_writable : Option (List ℕ) → Bool
is_target_writable None = true
is_target_writable (Some name) = is_word name && not (bytes_eq name (codes "*"))

-- a word that doesn't look as the beginning of words does
abbrev pub is_whole : List ℕ → Bool
is_whole word = is_word word && is_none (after_mark word)

abbrev pub is_limit_writable : Limit → Bool
is_limit_writable (Texts texts) = list_all is_word texts
is_limit_writable (Parts words beginnings) = list_all is_whole words && list_all (list_all is_solid) beginnings
is_limit_writable (Numbers least most) = nat_le least greatest && nat_le most greatest
is_limit_writable (Schemes schemes) = list_all is_word schemes
is_limit_writable (Prefixed form prefix) = is_word prefix
is_limit_writable (Proxied prefix) = is_word prefix
is_limit_writable (Absolute base) = is_word base

abbrev pub is_value_rule_writable : LimitParts → Bool
is_value_rule_writable limit = is_target_writable limit.0 && (is_word limit.1.0 && is_limit_writable limit.1.1)

-- words with a space between each two
abbrev pub is_value : List ℕ → Bool
is_value value = bytes_eq (joined_after [] (words_of value)) value

abbrev pub is_addition_writable : List ℕ × (List ℕ × List ℕ) → Bool
is_addition_writable addition = is_word addition.0 && (is_word addition.1.0 && is_value addition.1.1)

abbrev pub are_lists_writable : Rules → Bool
are_lists_writable rules = (list_all is_rule_writable rules.kept && (list_all is_word rules.dropped && list_all is_word rules.everywhere))
    && (list_all is_word rules.beginnings && (list_all is_word rules.urls && list_all is_word rules.schemes))

abbrev pub is_writable : Rules → Bool
is_writable rules = are_lists_writable rules
    && (list_all is_value_rule_writable rules.limits && list_all is_addition_writable rules.added)

-- why a policy is not written
abbrev pub IsUnwritten : Bool → WriteFault → Type 0
IsUnwritten writable Memory = Unit {0}
IsUnwritten writable Unwritable = writable ≡ false

-- THE LAW

-- a policy that can be written is read back from its text
abbrev pub AreWrittenRead : Type 0
AreWrittenRead = (rules : Rules) → is_writable rules ≡ true → policy_rules (policy_text rules) ≡ Ok rules
