-- Which names, attributes, texts and comments are read as they are written (HTML Standard, sections 13.1 and 13.2.5).
use Rattle.std.specs.Prelude.{ℕ, Bool, true, false, ◌&&◌, ◌||◌, not, nat_eq, List, [], ◌∷◌, ◌++◌, map, Some, is_none, codes}
use Rattle.std.specs.Char.{is_ascii_lowercase, to_ascii_lowercase}
use Rattle.std.specs.List.{list_all}
use Rattle.std.specs.Str.{bytes_eq}
use Rattle.markup.specs.Attributes.{are_distinct}
use Rattle.markup.specs.Escape.{attribute_prefix, end_tag}
use Rattle.markup.specs.declared.attributes.Attribute.{Attribute}
use Rattle.html_rules.specs.Tokens.{is_white}
use Rattle.html_tokens.specs.Characters.{begins}
use Rattle.html_tokens.specs.Comments.{comment_end}
use Rattle.html_tokens.specs.RawText.{ends_at_tag, is_fitting_end, is_letters, next_kind}
use Rattle.html_tokens.specs.Tags.{attribute}
use Rattle.html_tokens.specs.declared.states.RawKind.{RawKind}
use Rattle.html_tokens.specs.declared.states.RawKind.TheVariants.{Rcdata, Rawtext, ScriptData}

-- NAMES

-- white space, "/", ">", a letter in upper case, U+0000 or U+000D: what ends a name, or is changed in it (sections 13.2.3.5,
-- 13.2.5.8, 13.2.5.33)
abbrev pub is_odd_in_name : ℕ → Bool
is_odd_in_name c = is_white (c ∷ []) || nat_eq c 0x2F || nat_eq c 0x3E || not (nat_eq (to_ascii_lowercase c) c) || nat_eq c 0 || nat_eq c 13

-- `"`, `'`, `<` and `=`, which are errors in the name of an attribute (section 13.2.5.33)
abbrev pub is_error_in_name : ℕ → Bool
is_error_in_name c = nat_eq c 0x22 || nat_eq c 0x27 || nat_eq c 0x3C || nat_eq c 0x3D

-- a lower-case letter, and then characters that are not odd (sections 13.2.5.6 and 13.2.5.8)
abbrev pub is_tag_name : List ℕ → Bool
is_tag_name [] = false
is_tag_name (c ∷ cs) = is_ascii_lowercase c && list_all (λ c. not (is_odd_in_name c)) cs

abbrev pub is_attribute_name : List ℕ → Bool
is_attribute_name [] = false
is_attribute_name (c ∷ cs) = list_all (λ c. not (is_odd_in_name c) && not (is_error_in_name c)) (c ∷ cs)

-- TEXTS

-- without U+0000 and U+000D
abbrev pub is_kept : List ℕ → Bool
is_kept text = list_all (λ c. not (nat_eq c 0) && not (nat_eq c 13)) text

-- a comment's text, with what ends the comment after it: no end stands in it (sections 13.2.5.45 to 13.2.5.52)
abbrev pub has_no_end : List ℕ → Bool
has_no_end [] = true
has_no_end (c ∷ cs) = is_none (comment_end ((c ∷ cs) ++ codes "-->")) && has_no_end cs

-- nor does it end where it begins (sections 13.2.5.43 and 13.2.5.44)
abbrev pub is_comment_text : List ℕ → Bool
is_comment_text text = is_kept text && has_no_end text
    && not (begins (codes ">") (text ++ codes "-->") || begins (codes "->") (text ++ codes "-->"))

-- raw text of a kind, with the element's end tag after it: nothing in it ends it, and the end tag does (sections 13.2.5.2 to 13.2.5.4 and
-- 13.2.5.9 to 13.2.5.31)
abbrev pub goes_on_raw : RawKind → List ℕ → List ℕ → Bool
goes_on_raw kind name [] = ends_at_tag kind
goes_on_raw kind name (c ∷ cs) = not (nat_eq c 0x3C && ends_at_tag kind && is_fitting_end (Some name) (cs ++ end_tag name))
    && goes_on_raw (next_kind kind c (cs ++ end_tag name)) name cs

-- raw text of an element: what has references is escaped
abbrev pub is_raw_text : RawKind → List ℕ → List ℕ → Bool
is_raw_text Rcdata name text = is_letters name
is_raw_text Rawtext name text = is_letters name && goes_on_raw Rawtext name text
is_raw_text ScriptData name text = bytes_eq name (codes "script") && goes_on_raw ScriptData name text
is_raw_text kind name text = false

-- AS TOKENS

abbrev pub lowered : List ℕ → List ℕ
lowered name = map to_ascii_lowercase name

-- an attribute as it is emitted: the name that is written, in lower case
abbrev pub told_attribute : Attribute → Attribute
told_attribute a = attribute (lowered (attribute_prefix a.name ++ a.name.local)) a.value

abbrev pub are_told : List Attribute → Bool
are_told told = list_all (λ a. is_attribute_name a.name.local && is_kept a.value) told && are_distinct told
