-- Tags and their attributes (HTML Standard, sections 13.2.5.8 and 13.2.5.32 to 13.2.5.40).
use Rattle.std.specs.Prelude.{ℕ, zero, suc, Bool, true, false, ◌||◌, not, nat_eq, List, [], ◌∷◌, ◌++◌, take, drop, codes}
use Rattle.std.specs.Prelude.{Option, Some, None, is_some, if◌then◌else◌}
use Rattle.std.specs.List.{list_any}
use Rattle.std.specs.Str.{bytes_eq}
use Rattle.markup.specs.declared.attributes.Attribute.{Attribute}
use Rattle.html_tokens.specs.declared.tags.Tag.{Tag}
use Rattle.html_tokens.specs.declared.tags.TagKind.{TagKind}
use Rattle.html_tokens.specs.declared.tags.TagKind.TheVariants.{StartTag, EndTag}
use Rattle.html_tokens.specs.declared.token.Token.TheVariants.{TagToken}
use Rattle.html_tokens.specs.Characters.{is_white_space, ends_tag_name, ends_attribute_name, ends_word, shown, is_null}
use Rattle.html_tokens.specs.Characters.{has_null, lowered, all_lowered, run, white, begins}
use Rattle.html_tokens.specs.Table.{Row}
use Rattle.html_tokens.specs.Reference.{Reference, reference_at, fault_of_reference}
use Rattle.html_tokens.specs.Item.{InData, InTag, Stand, moved, Item, longer, longer_by, marked, silent, token_item, grave_if}

abbrev pub named : TagKind → List ℕ → Tag
named kind name = record { kind = kind; name = name; self_closing = false; attrs = []; had_duplicate_attributes = false }

-- an attribute as tokens have it: without prefix and namespace
abbrev pub attribute : List ℕ → List ℕ → Attribute
attribute name value = record { name = record { prefix = None; ns = []; local = name }; value = value }

abbrev pub has_attribute : Tag → List ℕ → Bool
has_attribute tag name = list_any (λ a. bytes_eq name a.name.local) tag.attrs

abbrev pub attribute_by : Bool → Tag → List ℕ → List ℕ → Tag
attribute_by true tag name value = record tag { had_duplicate_attributes = true }
attribute_by false tag name value = record tag { attrs = tag.attrs ++ attribute name value ∷ [] }

-- a tag with an attribute more, which is dropped where the tag has one of that name (section 13.2.5.33)
abbrev pub with_attribute : Tag → List ℕ → List ℕ → Tag
with_attribute tag name value = attribute_by (has_attribute tag name) tag name value

-- the rest of a tag's name (section 13.2.5.8)
abbrev pub name_after : Stand → Tag → List ℕ → Item
name_after st tag t =
    let n = run ends_tag_name t in
    marked (has_null (take n t)) (silent n (moved st (InTag (record tag { name = tag.name ++ all_lowered (take n t) }))))

-- a value, how many characters it takes, and whether something is wrong in it
pub record Value : Type 0 where
  pub chars : List ℕ
  pub len : ℕ
  pub is_odd : Bool

abbrev pub later : Bool → List ℕ → Value → Value
later odd cs v = record { chars = cs ++ v.chars; len = suc v.len; is_odd = odd || v.is_odd }

-- no more of a value
abbrev pub no_more : Value
no_more = record { chars = []; len = 0; is_odd = false }

abbrev pub reference_chars : Option Reference → List ℕ
reference_chars None = 38 ∷ []
reference_chars (Some r) = r.chars

abbrev pub reference_len : Option Reference → ℕ
reference_len None = 0
reference_len (Some r) = r.len

-- a value by whether it ends here and whether a reference may stand here; `go` has what follows so many characters
abbrev pub value_by : List Row → Bool → Bool → Bool → ℕ → List ℕ → (ℕ → Value) → Value
value_by rows odd true amp c t go = no_more
value_by rows odd false true c t go = later (is_some (fault_of_reference rows t))
    (reference_chars (reference_at true rows t)) (go (reference_len (reference_at true rows t)))
value_by rows odd false false c t go = later odd (shown c ∷ []) (go 0)

-- what a value still has after n characters, up to its end or the end of input (sections 13.2.5.36 to 13.2.5.38)
unfoldable pub value_from : List Row → (ℕ → Bool) → (ℕ → Bool) → ℕ → List ℕ → Value
value_from rows odd ends n [] = no_more
value_from rows odd ends zero (c ∷ t) = value_by rows (odd c) (ends c) (nat_eq c 38) c t (λ n. value_from rows odd ends n t)
value_from rows odd ends (suc n) (c ∷ t) = later false [] (value_from rows odd ends n t)

-- a character of a value without quotes for which an error is told: U+0000, a quote, "<", "=" and "`"
abbrev pub is_odd_unquoted : ℕ → Bool
is_odd_unquoted c = nat_eq c 0 || nat_eq c 34 || nat_eq c 39 || nat_eq c 60 || nat_eq c 61 || nat_eq c 96

abbrev pub no_value : Stand → Tag → List ℕ → Item
no_value st tag name = silent 0 (moved st (InTag (with_attribute tag name [])))

abbrev pub unquoted_after : List Row → Stand → Tag → List ℕ → List ℕ → List ℕ → Item
unquoted_after rows st tag name front t =
    let v = value_from rows is_odd_unquoted ends_word 0 t in
    marked v.is_odd (silent v.len (moved st (InTag (with_attribute tag name (front ++ v.chars)))))

-- whether something but white space, "/" and ">" stands at the front, where one of them is to stand
abbrev pub lacks_space : List ℕ → Bool
lacks_space [] = false
lacks_space (c ∷ t) = not (ends_tag_name c)

-- n characters up to the quote, and the quote, after which no attribute may stand
abbrev pub quote_at : ℕ → Stand → List ℕ → Item
quote_at n st [] = silent n st
quote_at n st (c ∷ t) = marked (lacks_space t) (silent (suc n) st)

abbrev pub quoted_after : List Row → ℕ → Stand → Tag → List ℕ → List ℕ → List ℕ → Item
quoted_after rows quote st tag name front t =
    let v = value_from rows is_null (nat_eq quote) 0 t in
    marked v.is_odd (quote_at v.len (moved st (InTag (with_attribute tag name (front ++ v.chars)))) (drop v.len t))

-- how a value begins: with a quote, not at all before ">", or with its first character
pub data Opening : Type 0 where
  Quote : Opening
  Close : Opening
  Other : Opening

abbrev pub opening : ℕ → Opening
opening c = if nat_eq c 34 || nat_eq c 39 then Quote else if nat_eq c 62 then Close else Other

abbrev pub opened_by : Opening → List Row → Stand → Tag → List ℕ → ℕ → List ℕ → Item
opened_by Quote rows st tag name c t = longer (quoted_after rows c st tag name [] t)
opened_by Close rows st tag name c t = marked true (no_value st tag name)
opened_by Other rows st tag name c t = unquoted_after rows st tag name [] (c ∷ t)

abbrev pub opened_at : List Row → Stand → Tag → List ℕ → List ℕ → Item
opened_at rows st tag name [] = no_value st tag name
opened_at rows st tag name (c ∷ t) = opened_by (opening c) rows st tag name c t

-- after "=" (section 13.2.5.35)
abbrev pub value_at : List Row → Stand → Tag → List ℕ → List ℕ → Item
value_at rows st tag name t = longer_by (white t) (opened_at rows st tag name (drop (white t) t))

abbrev pub equals_by : Bool → List Row → Stand → Tag → List ℕ → List ℕ → Item
equals_by true rows st tag name t = longer_by (suc (white t)) (value_at rows st tag name (drop (suc (white t)) t))
equals_by false rows st tag name t = no_value st tag name

-- after an attribute's name: "=" brings a value, also after white space (section 13.2.5.34)
abbrev pub equals_at : List Row → Stand → Tag → List ℕ → List ℕ → Item
equals_at rows st tag name t = equals_by (begins (codes "=") (drop (white t) t)) rows st tag name t

-- a character of an attribute's name for which an error is told: U+0000, a quote and "<"
abbrev pub is_odd_in_name : ℕ → Bool
is_odd_in_name c = nat_eq c 0 || nat_eq c 34 || nat_eq c 39 || nat_eq c 60

-- the same of its first character: also "="
abbrev pub is_odd_first : ℕ → Bool
is_odd_first c = nat_eq c 61 || is_odd_in_name c

-- the rest of an attribute's name, and its value (section 13.2.5.33)
abbrev pub attribute_after : List Row → Stand → Tag → List ℕ → List ℕ → Item
attribute_after rows st tag front t =
    let n = run ends_attribute_name t in
    marked (list_any is_odd_in_name (take n t)) (longer_by n (equals_at rows st tag (front ++ all_lowered (take n t)) (drop n t)))

-- the name that a tag leaves as that of the last start tag: a start tag its own
abbrev pub own_name : TagKind → List ℕ → Option (List ℕ)
own_name StartTag name = Some name
own_name EndTag name = None

-- a name, or else that of the last start tag
abbrev pub or_last : Option (List ℕ) → Option (List ℕ) → Option (List ℕ)
or_last (Some name) last = Some name
or_last None last = last

abbrev pub last_name : TagKind → List ℕ → Option (List ℕ) → Option (List ℕ)
last_name kind name last = or_last (own_name kind name) last

-- where a reading stands after a tag, if the sink names no other text
abbrev pub after_tag : Stand → Tag → Stand
after_tag st tag = record { place = InData; last_start_tag = last_name tag.kind tag.name st.last_start_tag }

abbrev pub is_empty : {A : Type 0} → List A → Bool
is_empty [] = true
is_empty (x ∷ xs) = false

abbrev pub is_faulty_end : TagKind → Tag → Bool
is_faulty_end StartTag tag = false
is_faulty_end EndTag tag = tag.self_closing || not (is_empty tag.attrs)

-- a repeated attribute, or an end tag that has more than its name (sections 13.2.5.33 and 13.2.5)
abbrev pub is_faulty_tag : Tag → Bool
is_faulty_tag tag = tag.had_duplicate_attributes || is_faulty_end tag.kind tag

abbrev pub tag_end : Stand → Tag → ℕ → Item
tag_end st tag n = token_item (grave_if (is_faulty_tag tag)) (TagToken tag) n (after_tag st tag)

abbrev pub slash_by : Bool → Stand → Tag → Item
slash_by true st tag = tag_end st (record tag { self_closing = true }) 2
slash_by false st tag = marked true (silent 1 (moved st (InTag tag)))

-- what a character inside a tag begins: white space, "/", ">" or an attribute
pub data Part : Type 0 where
  Space : Part
  Solidus : Part
  End : Part
  Attributes : Part

abbrev pub part : ℕ → Part
part c = if is_white_space c then Space else if nat_eq c 47 then Solidus else if nat_eq c 62 then End else Attributes

abbrev pub tag_by : Part → List Row → Stand → Tag → ℕ → List ℕ → Item
tag_by Space rows st tag c t = silent 1 (moved st (InTag tag))
tag_by Solidus rows st tag c t = slash_by (begins (codes ">") t) st tag
tag_by End rows st tag c t = tag_end st tag 1
tag_by Attributes rows st tag c t = marked (is_odd_first c) (longer (attribute_after rows st tag (lowered c ∷ []) t))

-- after a tag's name (sections 13.2.5.32, 13.2.5.39 and 13.2.5.40)
abbrev pub tag_at : List Row → Stand → Tag → ℕ → List ℕ → Item
tag_at rows st tag c t = tag_by (part c) rows st tag c t
