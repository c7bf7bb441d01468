-- The item at the front of a text (HTML Standard, sections 13.2.5.1, 13.2.5.6, 13.2.5.7, 13.2.5.42 and 13.2.5.69).
use Rattle.std.specs.Prelude.{ℕ, Bool, true, false, ◌&&◌, nat_eq, List, [], ◌∷◌, drop, codes, Some, if◌then◌else◌}
use Rattle.std.specs.Char.{is_ascii_alphabetic}
use Rattle.html_tokens.specs.declared.tags.TagKind.TheVariants.{StartTag, EndTag}
use Rattle.html_tokens.specs.Characters.{begins, begins_any_case}
use Rattle.html_tokens.specs.Table.{Row}
use Rattle.html_tokens.specs.Reference.{reference_at, fault_of_reference}
use Rattle.html_tokens.specs.Item.{TextPlace, InData, InRaw, InPlaintext, InCdata, InTag, Stand, moved, Item, Grave, longer}
use Rattle.html_tokens.specs.Item.{longer_by, silent, unopened, shown_character, character_or_null, reference_item}
use Rattle.html_tokens.specs.Comments.{comment_at, bogus_comment_after}
use Rattle.html_tokens.specs.Doctypes.{doctype_at}
use Rattle.html_tokens.specs.Tags.{named, name_after, tag_at}
use Rattle.html_tokens.specs.RawText.{raw_at}

abbrev pub declaration_by : Bool → Bool → Bool → Stand → List ℕ → Item
declaration_by true d s st t = longer_by 4 (comment_at st (drop 2 t))
declaration_by false true s st t = longer_by 9 (doctype_at st (drop 7 t))
declaration_by false false true st t = silent 9 (moved st InCdata)
declaration_by false false false st t = longer_by 2 (bogus_comment_after st [] t)

-- after "<!": a comment, a doctype, a CDATA section where the sink says so, or a bogus comment (section 13.2.5.42)
abbrev pub declaration_at : Bool → Stand → List ℕ → Item
declaration_at cdata st t = declaration_by (begins (codes "--") t) (begins_any_case (codes "doctype") t)
    (cdata && begins (codes "[CDATA[") t) st t

-- what the character after "<" or "</" begins
pub data Opening : Type 0 where
  Letter : Opening
  Slash : Opening
  Mark : Opening
  Question : Opening
  Close : Opening
  Other : Opening

abbrev pub opening : ℕ → Opening
opening c =
    if is_ascii_alphabetic c then Letter
    else if nat_eq c 47 then Slash
    else if nat_eq c 33 then Mark
    else if nat_eq c 63 then Question
    else if nat_eq c 62 then Close
    else Other

abbrev pub end_by : Opening → Stand → ℕ → List ℕ → Item
end_by Letter st c t = longer_by 2 (name_after st (named EndTag []) (c ∷ t))
end_by Close st c t = record (silent 3 st) { fault = Some Grave }
end_by Slash st c t = longer_by 2 (bogus_comment_after st [] (c ∷ t))
end_by Mark st c t = longer_by 2 (bogus_comment_after st [] (c ∷ t))
end_by Question st c t = longer_by 2 (bogus_comment_after st [] (c ∷ t))
end_by Other st c t = longer_by 2 (bogus_comment_after st [] (c ∷ t))

-- after "</"; "</>" gives nothing and is a fault (section 13.2.5.7)
abbrev pub end_at : Stand → List ℕ → Item
end_at st [] = unopened st
end_at st (c ∷ t) = end_by (opening c) st c t

abbrev pub open_by : Opening → Bool → Stand → ℕ → List ℕ → Item
open_by Letter cdata st c t = longer (name_after st (named StartTag []) (c ∷ t))
open_by Slash cdata st c t = end_at st t
open_by Mark cdata st c t = declaration_at cdata st t
open_by Question cdata st c t = longer (bogus_comment_after st [] (c ∷ t))
open_by Close cdata st c t = unopened st
open_by Other cdata st c t = unopened st

-- after "<" (section 13.2.5.6)
abbrev pub open_at : Bool → Stand → List ℕ → Item
open_at cdata st [] = unopened st
open_at cdata st (c ∷ t) = open_by (opening c) cdata st c t

abbrev pub data_by : Bool → Bool → List Row → Bool → Stand → ℕ → List ℕ → Item
data_by true amp rows cdata st c t = open_at cdata st t
data_by false true rows cdata st c t = reference_item (fault_of_reference rows t) (reference_at false rows t) st
data_by false false rows cdata st c t = character_or_null c st

abbrev pub cdata_by : Bool → Stand → ℕ → Item
cdata_by true st c = silent 3 (moved st InData)
cdata_by false st c = character_or_null c st

abbrev pub item_in : TextPlace → List Row → Bool → Stand → ℕ → List ℕ → Item
item_in InData rows cdata st c t = data_by (nat_eq c 60) (nat_eq c 38) rows cdata st c t
item_in (InRaw kind) rows cdata st c t = raw_at rows st kind c t
item_in InPlaintext rows cdata st c t = shown_character c st
item_in InCdata rows cdata st c t = cdata_by (begins (codes "]]>") (c ∷ t)) st c
item_in (InTag tag) rows cdata st c t = tag_at rows st tag c t

-- the item at the front of a text, by the table of references and the sink's answer to the CDATA question
abbrev pub item : List Row → Bool → Stand → ℕ → List ℕ → Item
item rows cdata st c t = item_in st.place rows cdata st c t
