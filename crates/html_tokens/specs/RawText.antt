-- Text that only its own end tag ends, and the three modes of a script's text (HTML Standard, sections 13.2.5.2 to 13.2.5.5 and 13.2.5.9
-- to 13.2.5.31).
use Rattle.std.specs.Prelude.{ℕ, Bool, true, false, ◌&&◌, nat_eq, List, [], ◌∷◌, map, drop, codes, Option, Some, None, if◌then◌else◌}
use Rattle.std.specs.Char.{to_ascii_lowercase, is_ascii_alphabetic}
use Rattle.std.specs.List.{list_all}
use Rattle.html_tokens.specs.declared.states.RawKind.{RawKind}
use Rattle.html_tokens.specs.declared.states.RawKind.TheVariants.{Rcdata, Rawtext, ScriptData, ScriptDataEscaped}
use Rattle.html_tokens.specs.declared.states.ScriptEscapeKind.TheVariants.{Escaped, DoubleEscaped}
use Rattle.html_tokens.specs.declared.tags.TagKind.TheVariants.{EndTag}
use Rattle.html_tokens.specs.Characters.{begins, begins_name}
use Rattle.html_tokens.specs.Table.{Row}
use Rattle.html_tokens.specs.Reference.{reference_at, fault_of_reference}
use Rattle.html_tokens.specs.Item.{InRaw, Stand, moved, Item, longer, shown_character, reference_item}
use Rattle.html_tokens.specs.Tags.{named, name_after}

-- one or more ASCII letters
abbrev pub is_letters : List ℕ → Bool
is_letters [] = false
is_letters (c ∷ cs) = list_all is_ascii_alphabetic (c ∷ cs)

abbrev pub slash_name : List ℕ → List ℕ → Bool
slash_name name [] = false
slash_name name (c ∷ t) = nat_eq c 47 && begins_name (map to_ascii_lowercase name) t

-- whether the fitting end tag stands after a "<": "/", the last start tag's name in any case, and white space, "/" or ">"
abbrev pub is_fitting_end : Option (List ℕ) → List ℕ → Bool
is_fitting_end None t = false
is_fitting_end (Some name) t = is_letters name && slash_name name t

-- whether the fitting end tag ends text of this kind
abbrev pub ends_at_tag : RawKind → Bool
ends_at_tag Rcdata = true
ends_at_tag Rawtext = true
ends_at_tag ScriptData = true
ends_at_tag (ScriptDataEscaped Escaped) = true
ends_at_tag (ScriptDataEscaped DoubleEscaped) = false

abbrev pub has_references : RawKind → Bool
has_references Rcdata = true
has_references Rawtext = false
has_references ScriptData = false
has_references (ScriptDataEscaped kind) = false

-- how a script's text goes on after a character:
-- "<!--" escapes it, "<script" in escaped text escapes it twice, "</script" there takes the second back, and "-->" takes back both
abbrev pub next_kind : RawKind → ℕ → List ℕ → RawKind
next_kind Rcdata c t = Rcdata
next_kind Rawtext c t = Rawtext
next_kind ScriptData c t = if nat_eq c 60 && begins (codes "!--") t then ScriptDataEscaped Escaped else ScriptData
next_kind (ScriptDataEscaped Escaped) c t =
    if nat_eq c 60 && begins_name (codes "script") t then ScriptDataEscaped DoubleEscaped
    else if nat_eq c 45 && begins (codes "->") t then ScriptData
    else ScriptDataEscaped Escaped
next_kind (ScriptDataEscaped DoubleEscaped) c t =
    if nat_eq c 60 && begins_name (codes "/script") t then ScriptDataEscaped Escaped
    else if nat_eq c 45 && begins (codes "->") t then ScriptData
    else ScriptDataEscaped DoubleEscaped

abbrev pub raw_by : Bool → Bool → List Row → Stand → RawKind → ℕ → List ℕ → Item
raw_by true amp rows st kind c t = longer (longer (name_after st (named EndTag []) (drop 1 t)))
raw_by false true rows st kind c t = reference_item (fault_of_reference rows t) (reference_at false rows t) st
raw_by false false rows st kind c t = shown_character c (moved st (InRaw (next_kind kind c t)))

-- the item at the front of raw text
abbrev pub raw_at : List Row → Stand → RawKind → ℕ → List ℕ → Item
raw_at rows st kind c t =
    raw_by (nat_eq c 60 && ends_at_tag kind && is_fitting_end st.last_start_tag t) (nat_eq c 38 && has_references kind) rows st kind c t
