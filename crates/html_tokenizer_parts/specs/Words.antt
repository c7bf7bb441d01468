-- Words of letters that may be the name of an end tag.
use Rattle.std.specs.Prelude.{◌≡◌, ℕ, Bool, true, false, ◌&&◌, nat_eq, nat_lt, length, slice_index, List, [], ◌∷◌, ◌++◌, codes}
use Rattle.std.specs.Prelude.{Option, Some, None}
use Rattle.std.specs.Char.{to_ascii_lowercase, is_ascii_alphabetic}
use Rattle.html_tokens.specs.declared.states.RawKind.{RawKind}
use Rattle.html_tokens.specs.declared.states.RawKind.TheVariants.{Rcdata, Rawtext, ScriptData, ScriptDataEscaped}
use Rattle.html_tokens.specs.declared.states.ScriptEscapeKind.TheVariants.{Escaped, DoubleEscaped}
use Rattle.html_tokens.specs.Characters.{ends_tag_name}
use Rattle.html_tokens.specs.RawText.{next_kind}

-- whether two words are the same up to the case of ASCII letters
abbrev pub same_any_case : List ℕ → List ℕ → Bool
same_any_case [] [] = true
same_any_case [] (d ∷ ds) = false
same_any_case (c ∷ cs) [] = false
same_any_case (c ∷ cs) (d ∷ ds) = nat_eq (to_ascii_lowercase c) (to_ascii_lowercase d) && same_any_case cs ds

-- whether a name has this letter, in any case, after as many characters as a word has
abbrev pub has_next : List ℕ → List ℕ → ℕ → Bool
has_next name word c = nat_lt (length word) (length name)
    && nat_eq (to_ascii_lowercase (slice_index name (length word))) (to_ascii_lowercase c)

-- whether a word is the last start tag's name, in any case
abbrev pub is_fitting : Option (List ℕ) → List ℕ → Bool
is_fitting None word = false
is_fitting (Some name) [] = false
is_fitting (Some name) (c ∷ cs) = same_any_case name (c ∷ cs)

-- whether a name begins with a word, in any case
abbrev pub begins_any_case : List ℕ → List ℕ → Bool
begins_any_case name [] = true
begins_any_case [] (d ∷ ds) = false
begins_any_case (c ∷ cs) (d ∷ ds) = nat_eq (to_ascii_lowercase c) (to_ascii_lowercase d) && begins_any_case cs ds

-- the last start tag's name, and letters that were read after "</" in raw text
pub record FittingEnd : Type 0 where
  pub name : Option (List ℕ)
  pub letters : List ℕ

-- whether that name begins with letters, if there are any
abbrev pub begins_end : Option (List ℕ) → List ℕ → Bool
begins_end last [] = true
begins_end None (c ∷ cs) = false
begins_end (Some name) (c ∷ cs) = begins_any_case name (c ∷ cs)

-- Some letters after a word, or none, make the name of both, in any case.
pub record BeginsName (name word : List ℕ) : Type 0 where
  pub more : List ℕ
  pub whole : same_any_case name (word ++ more) ≡ true

-- that name begins with these letters, if there are any
abbrev pub BeginsEnd : Option (List ℕ) → List ℕ → Type 0
BeginsEnd last [] = Unit {0}
BeginsEnd None (c ∷ cs) = ⊥
BeginsEnd (Some name) (c ∷ cs) = BeginsName name (c ∷ cs)

-- whether a word, with this character after it, is the fitting end tag's name
abbrev pub ends_raw_text : Option (List ℕ) → List ℕ → ℕ → Bool
ends_raw_text last word c = is_fitting last word && ends_tag_name c

-- whether a word, with this character after it, is the name "script"
abbrev pub ends_script : List ℕ → ℕ → Bool
ends_script word c = same_any_case (codes "script") word && ends_tag_name c

-- whether a character after "<" goes on to change a script's kind
abbrev pub may_escape : RawKind → ℕ → Bool
may_escape Rcdata c = false
may_escape Rawtext c = false
may_escape ScriptData c = nat_eq c 33
may_escape (ScriptDataEscaped Escaped) c = is_ascii_alphabetic c
may_escape (ScriptDataEscaped DoubleEscaped) c = nat_eq c 47

-- how a script's text goes on after a front that was told, before t
abbrev pub kind_after : RawKind → List ℕ → List ℕ → RawKind
kind_after kind [] t = kind
kind_after kind (c ∷ cs) t = kind_after (next_kind kind c (cs ++ t)) cs t
