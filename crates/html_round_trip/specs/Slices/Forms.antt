-- Which written forms are read back, and the tokens that they are read as (HTML Standard, sections 13.2.5 and 13.3).
use Rattle.std.specs.Prelude.{◌≡◌, ℕ, Bool, true, false, ◌&&◌, not, nat_eq, List, [], ◌∷◌, Option, Some, is_none}
use Rattle.std.specs.Char.{is_ascii_lowercase}
use Rattle.std.specs.List.{list_all}
use Rattle.markup.specs.declared.attributes.Attribute.{Attribute}
use Rattle.html_tokens.specs.declared.states.RawKind.TheVariants.{Rcdata}
use Rattle.html_tokens.specs.declared.tags.Tag.{Tag}
use Rattle.html_tokens.specs.declared.tags.TagKind.TheVariants.{StartTag, EndTag}
use Rattle.html_tokens.specs.declared.token.Token.{Token}
use Rattle.html_tokens.specs.declared.token.Token.TheVariants.{DoctypeToken, TagToken}
use Rattle.html_tokens.specs.Clean.{is_clean_in_comment, is_clean_in_name}
use Rattle.html_tokens.specs.Doctypes.{no_doctype}
use Rattle.html_tokens.specs.Item.{InRaw, InTag, Stand}
use Rattle.html_tokens.specs.Laws.{in_data, has_no_null, are_distinct}
use Rattle.html_tokens.specs.Tags.{named}

-- TOKENS

abbrev pub start_token : List ℕ → List Attribute → Token
start_token name attrs = TagToken (record (named StartTag name) { attrs = attrs })

abbrev pub end_token : List ℕ → Token
end_token name = TagToken (named EndTag name)

-- a doctype of this name alone
abbrev pub doctype_token : List ℕ → Token
doctype_token name = DoctypeToken (record no_doctype { name = Some name })

-- NAMES, ATTRIBUTES AND COMMENTS

-- a lower-case letter, and then such letters, digits and hyphens
abbrev pub is_tag_name : List ℕ → Bool
is_tag_name [] = false
is_tag_name (c ∷ cs) = is_ascii_lowercase c && list_all is_clean_in_name cs

-- the name of a tag that ends raw text: lower-case letters, one at least
abbrev pub is_letter_name : List ℕ → Bool
is_letter_name [] = false
is_letter_name (c ∷ cs) = list_all is_ascii_lowercase (c ∷ cs)

-- lower-case letters, digits and hyphens, one at least
abbrev pub is_attribute_name : List ℕ → Bool
is_attribute_name [] = false
is_attribute_name (c ∷ cs) = list_all is_clean_in_name (c ∷ cs)

abbrev pub is_no_text : List ℕ → Bool
is_no_text [] = true
is_no_text (c ∷ cs) = false

-- an attribute with such a name, without prefix and namespace, whose value has no U+0000
abbrev pub is_read_attribute : Attribute → Bool
is_read_attribute a = (is_attribute_name a.name.local && (is_none a.name.prefix && is_no_text a.name.ns)) && has_no_null a.value

-- attributes that are read back: such ones, of which no two have one name
pub record AreReadBack (attrs : List Attribute) : Type 0 where
  pub each : list_all is_read_attribute attrs ≡ true
  pub distinct : are_distinct attrs ≡ true

-- the text of a comment that is read back: no hyphen, "<", ">" or U+0000
abbrev pub is_read_comment : List ℕ → Bool
is_read_comment text = list_all is_clean_in_comment text

-- a text without U+000D, which is its own normal text
abbrev pub has_no_return : List ℕ → Bool
has_no_return cs = list_all (λ c. not (nat_eq c 13)) cs

-- WHERE A READING STANDS

abbrev pub in_tag : Option (List ℕ) → Tag → Stand
in_tag last tag = record { place = InTag tag; last_start_tag = last }

abbrev pub in_rcdata : Option (List ℕ) → Stand
in_rcdata last = record { place = InRaw Rcdata; last_start_tag = last }

-- where escaped text is read: in data, or in the text of an element as "title", which has references and no tags
pub data TextPlace : Type 0 where
  Data : TextPlace
  Escapable : TextPlace

abbrev pub in_text : TextPlace → Option (List ℕ) → Stand
in_text Data last = in_data last
in_text Escapable last = in_rcdata last
