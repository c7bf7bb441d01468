-- How worked rows of tokenizing are written down.
use Prim.Native.String.{String}
use Rattle.std.specs.Prelude.{◌≡◌, ℕ, Bool, true, false, List, [], ◌∷◌, map, codes, Option, Some, None}
use Rattle.std.specs.Str.{bytes_eq}
use Rattle.markup.specs.declared.attributes.Attribute.{Attribute}
use Rattle.html_tokens.specs.declared.replies.TokenSinkResult.{TokenSinkResult}
use Rattle.html_tokens.specs.declared.replies.TokenSinkResult.TheVariants.{Continue, Plaintext, RawData}
use Rattle.html_tokens.specs.declared.states.RawKind.TheVariants.{Rcdata, Rawtext, ScriptData}
use Rattle.html_tokens.specs.declared.tags.Tag.{Tag}
use Rattle.html_tokens.specs.declared.tags.TagKind.{TagKind}
use Rattle.html_tokens.specs.declared.tags.TagKind.TheVariants.{StartTag, EndTag}
use Rattle.html_tokens.specs.declared.token.Token.{Token}
use Rattle.html_tokens.specs.declared.token.Token.TheVariants.{DoctypeToken, TagToken, CommentToken, CharacterTokens, NullCharacterToken}
use Rattle.html_tokens.specs.Item.{InData, Stand}
use Rattle.html_tokens.specs.Listing.{tokens}
use Rattle.html_tokens.specs.Table.{Row}
use Rattle.html_tokens.specs.Tags.{attribute, named}

-- an input and the tokens that it gives, the end of input aside
abbrev pub Rows : Type 0
Rows = List (List ℕ × List Token)

abbrev pub row : String → List Token → List ℕ × List Token
row input told = (codes input, told)

-- a row whose input or texts have characters that are given by their numbers
abbrev pub row_of : List ℕ → List Token → List ℕ × List Token
row_of input told = (input, told)

abbrev pub text : String → Token
text t = CharacterTokens (codes t)

abbrev pub text_of : List ℕ → Token
text_of cs = CharacterTokens cs

abbrev pub null : Token
null = NullCharacterToken

abbrev pub comment : String → Token
comment t = CommentToken (codes t)

abbrev pub comment_of : List ℕ → Token
comment_of cs = CommentToken cs

-- an attribute
abbrev pub at : String → String → Attribute
at name value = attribute (codes name) (codes value)

abbrev pub start : String → List Attribute → Token
start name attrs = TagToken (record (named StartTag (codes name)) { attrs = attrs })

abbrev pub end : String → List Attribute → Token
end name attrs = TagToken (record (named EndTag (codes name)) { attrs = attrs })

-- with names and values that have characters given by their numbers
abbrev pub at_of : List ℕ → List ℕ → Attribute
at_of name value = attribute name value

abbrev pub start_of : List ℕ → List Attribute → Token
start_of name attrs = TagToken (record (named StartTag name) { attrs = attrs })

-- with "/" before the ">"
abbrev pub closed : Token → Token
closed (TagToken tag) = TagToken (record tag { self_closing = true })
closed token = token

-- with an attribute that was dropped
abbrev pub repeated : Token → Token
repeated (TagToken tag) = TagToken (record tag { had_duplicate_attributes = true })
repeated token = token

abbrev pub no : Option (List ℕ)
no = None

abbrev pub yes : String → Option (List ℕ)
yes t = Some (codes t)

-- a doctype by its name, public and system identifier, and with force_quirks
abbrev pub doctype : Option (List ℕ) → Option (List ℕ) → Option (List ℕ) → Token
doctype name public_id system_id = DoctypeToken (record { name = name; public_id = public_id; system_id = system_id; force_quirks = false })

abbrev pub quirky : Option (List ℕ) → Option (List ℕ) → Option (List ℕ) → Token
quirky name public_id system_id = DoctypeToken (record { name = name; public_id = public_id; system_id = system_id; force_quirks = true })

abbrev pub goes_on : Tag → TokenSinkResult ℕ
goes_on tag = Continue

-- what a tree builder replies to the start tags of elements with raw text, in outline
abbrev pub raw_reply : Bool → Bool → Bool → Bool → TokenSinkResult ℕ
raw_reply true b c d = RawData Rcdata
raw_reply false true c d = RawData Rawtext
raw_reply false false true d = RawData ScriptData
raw_reply false false false true = Plaintext
raw_reply false false false false = Continue

abbrev pub opens_raw : TagKind → List ℕ → TokenSinkResult ℕ
opens_raw StartTag name = raw_reply (bytes_eq name (codes "title")) (bytes_eq name (codes "style"))
    (bytes_eq name (codes "script")) (bytes_eq name (codes "plaintext"))
opens_raw EndTag name = Continue

abbrev pub raw_text : Tag → TokenSinkResult ℕ
raw_text tag = opens_raw tag.kind tag.name

abbrev pub data_stand : Stand
data_stand = record { place = InData; last_start_tag = None }

-- the rows as read over the listing sink: by a table, with these replies to tags, with this answer to the CDATA question, from a stand on
abbrev pub AreRead : List Row → (Tag → TokenSinkResult ℕ) → Bool → Stand → Rows → Type 0
AreRead table replies cdata st rows = map (λ r. tokens table replies cdata st r.0) rows ≡ map (λ r. r.1) rows

-- a name with the character that it stands for
abbrev pub value : String → ℕ → Row
value name first = record { name = codes name; first = first; second = None }

abbrev pub five : List Row
five = value "amp;" 38 ∷ value "lt;" 60 ∷ value "gt;" 62 ∷ value "quot;" 34 ∷ value "nbsp;" 0xA0 ∷ []
