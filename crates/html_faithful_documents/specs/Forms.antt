-- Which tokens the written forms of faithful trees are read as (HTML Standard, sections 13.2.5 and 13.3).
use Rattle.std.specs.Prelude.{◌≡◌, ℕ, true, List, map, Option, Some, codes}
use Rattle.markup.specs.Escape.{end_tag, start_tag, written_comment, written_doctype}
use Rattle.markup.specs.declared.attributes.Attribute.{Attribute}
use Rattle.html_faithful.specs.Forms.{are_told, is_comment_text, is_tag_name, lowered, told_attribute}
use Rattle.html_tokens.specs.Item.{InRaw, Stand}
use Rattle.html_tokens.specs.Laws.{ReadsEscapes, in_data}
use Rattle.html_tokens.specs.RawText.{ends_at_tag, is_letters}
use Rattle.html_tokens.specs.Table.{Row}
use Rattle.html_tokens.specs.Tags.{named}
use Rattle.html_tokens.specs.declared.states.RawKind.{RawKind}
use Rattle.html_tokens.specs.declared.tags.TagKind.TheVariants.{EndTag, StartTag}
use Rattle.html_tokens.specs.declared.token.Token.{Token}
use Rattle.html_tokens.specs.declared.token.Token.TheVariants.{CommentToken, DoctypeToken, TagToken}
use Rattle.html_tokens.specs.Doctypes.{no_doctype}
use Rattle.html_faithful_documents.specs.Slices.{IsTold}

abbrev pub start_token : List ℕ → List Attribute → Token
start_token name attributes = TagToken (record (named StartTag (lowered name)) { attrs = map told_attribute attributes })

abbrev pub end_token : List ℕ → Token
end_token name = TagToken (named EndTag (lowered name))

-- the doctype `html` with no identifiers
abbrev pub doctype_token : Token
doctype_token = DoctypeToken (record no_doctype { name = Some (codes "html") })

-- in raw text of a kind, in the element of the last start tag
abbrev pub in_raw : RawKind → Option (List ℕ) → Stand
in_raw kind last = record { place = InRaw kind; last_start_tag = last }

-- by a table that reads the references of escaping each written form is read as its token
pub record AreFormsTold (rows : List Row) : Type 0 where
  pub doctype : (last : Option (List ℕ)) → IsTold rows (in_data last) (written_doctype (codes "html")) doctype_token (in_data last)
  pub start : (last : Option (List ℕ)) (name : List ℕ) (attributes : List Attribute) → is_tag_name (lowered name) ≡ true
      → are_told (map told_attribute attributes) ≡ true
      → IsTold rows (in_data last) (start_tag name attributes) (start_token name attributes) (in_data (Some (lowered name)))
  pub end : (last : Option (List ℕ)) (name : List ℕ) → is_tag_name (lowered name) ≡ true
      → IsTold rows (in_data last) (end_tag name) (end_token name) (in_data last)
  -- the end tag of an element that has raw text, where the last start tag is its own
  pub fitting_end : (kind : RawKind) (name : List ℕ) → is_tag_name (lowered name) ≡ true → is_letters (lowered name) ≡ true
      → ends_at_tag kind ≡ true
      → IsTold rows (in_raw kind (Some (lowered name))) (end_tag name) (end_token name) (in_data (Some (lowered name)))
  pub comment : (last : Option (List ℕ)) (text : List ℕ) → is_comment_text text ≡ true
      → IsTold rows (in_data last) (written_comment text) (CommentToken text) (in_data last)

abbrev pub AreAllFormsTold : Type 0
AreAllFormsTold = (rows : List Row) → ReadsEscapes rows → AreFormsTold rows
