-- What the rules ask of a token.
use Rattle.std.specs.Prelude.{ℕ, Bool, true, false, ◌||◌, ◌&&◌, List, [], Option, Some, None, codes}
use Rattle.std.specs.List.{list_any, list_all}
use Rattle.std.specs.Str.{bytes_eq}
use Rattle.markup.specs.declared.attributes.Attribute.{Attribute}
use Rattle.html_tokens.specs.TagEquality.{value_of}
use Rattle.html_tokens.specs.declared.token.Token.{Token}
use Rattle.html_tokens.specs.declared.token.Token.TheVariants.{TagToken, CharacterTokens, CommentToken, NullCharacterToken, EOFToken}
use Rattle.html_rules.specs.Encodings.{is_space}
use Rattle.html_rules.specs.ForeignContent.{is_font_attribute, is_start_tag, is_end_tag}
use Rattle.html_rules.specs.Names.{equals_any_case}
use Rattle.html_rules.specs.Sets.{is_among, names_of}
use Rattle.html_rules.specs.Table.{Class, StartTags, EndTags, AnyStartTag, AnyEndTag, WhiteSpace, Character, Null, Comment}
use Rattle.html_rules.specs.Table.{EndOfFile, AnythingElse}

-- whether a text is white space alone
abbrev pub is_white : List ℕ → Bool
is_white text = list_all is_space text

-- whether a row's class has a token
abbrev pub class_fits : Class → Token → Bool
class_fits (StartTags set) (TagToken tag) = is_start_tag tag.kind && is_among tag.name (names_of set)
class_fits (EndTags set) (TagToken tag) = is_end_tag tag.kind && is_among tag.name (names_of set)
class_fits AnyStartTag (TagToken tag) = is_start_tag tag.kind
class_fits AnyEndTag (TagToken tag) = is_end_tag tag.kind
class_fits WhiteSpace (CharacterTokens text) = is_white text
class_fits Character (CharacterTokens text) = true
class_fits Null NullCharacterToken = true
class_fits Comment (CommentToken text) = true
class_fits EndOfFile EOFToken = true
class_fits AnythingElse t = true
class_fits class t = false

-- the name of a tag
abbrev pub name_of : Token → List ℕ
name_of (TagToken tag) = tag.name
name_of _ = []

-- the attributes of a tag
abbrev pub attributes_of : Token → List Attribute
attributes_of (TagToken tag) = tag.attrs
attributes_of _ = []

-- the text of a token
abbrev pub text_of : Token → List ℕ
text_of (CharacterTokens text) = text
text_of (CommentToken text) = text
text_of _ = []

-- whether a value is there, and is `hidden` in any case
abbrev pub is_hidden_value : Option (List ℕ) → Bool
is_hidden_value None = false
is_hidden_value (Some value) = equals_any_case value (codes "hidden")

abbrev pub is_type_hidden : Token → Bool
is_type_hidden t = is_hidden_value (value_of (codes "type") (attributes_of t))

abbrev pub has_font_attributes : Token → Bool
has_font_attributes t = list_any is_font_attribute (attributes_of t)

-- an attribute that asks for a shadow root
abbrev pub is_shadow_mode : Attribute → Bool
is_shadow_mode attribute = bytes_eq attribute.name.local (codes "shadowrootmode")
    && (bytes_eq attribute.value (codes "open") || bytes_eq attribute.value (codes "closed"))
