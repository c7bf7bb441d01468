-- What a tokenizer still makes of its sink, for each further text.
use Rattle.std.specs.Prelude.{ℕ, nat_eq, Bool, true, false, ◌||◌, List, [], ◌∷◌, ◌++◌, codes, Option, Some, None, Result}
use Rattle.html_tokens.specs.declared.states.RawKind.TheVariants as raw
use Rattle.html_tokens.specs.declared.states.ScriptEscapeKind.TheVariants as script
use Rattle.html_tokens.specs.declared.states.DoctypeIdKind.{DoctypeIdKind}
use Rattle.html_tokens.specs.declared.states.DoctypeIdKind.TheVariants as id
use Rattle.html_tokens.specs.declared.states.AttrValueKind.TheVariants as value
use Rattle.html_tokens.specs.declared.states.State.{State}
use Rattle.html_tokens.specs.declared.states.State.TheVariants as state
use Rattle.html_tokens.specs.declared.token.Doctype.{Doctype}
use Rattle.html_tokens.specs.Comments.{comment_at, comment_after, bogus_comment_after}
use Rattle.html_tokens.specs.Doctypes.{doctype_at, doctype_after, doctype_name_after, after_name, after_public_keyword}
use Rattle.html_tokens.specs.Doctypes.{after_system_keyword, public_after, system_after, after_public, after_system, junk_after}
use Rattle.html_tokens.specs.Item.{Fault, Slight, slight_if, TextPlace, InData, InRaw, InPlaintext, InCdata, InTag, Stand, Item}
use Rattle.html_tokens.specs.NormalText.{newlines_after, without_mark}
use Rattle.html_tokens.specs.Reading.{erred_by}
use Rattle.html_tokens.specs.Sink.{Refusal}
use Rattle.html_tokens.specs.Table.{Row}
use Rattle.html_tokens.specs.Tags.{name_after, attribute_after, equals_at, value_at, unquoted_after, quoted_after, lacks_space}
use Rattle.html_tokenizer_parts.specs.declared.held_reference.Ampersand.{Ampersand}
use Rattle.html_tokenizer_parts.specs.declared.held_reference.Ampersand.TheVariants.{Held, Unknown}
use Rattle.html_tokenizer.specs.declared.tokenizer.Tokenizer.{Tokenizer}
use Rattle.html_tokenizer_parts.specs.Words.{kind_after}
use Rattle.html_tokenizer.specs.Listeners.{Listener, emitted_text, emitted_item}

-- the rows of the table of references
abbrev pub rows_of : {K : Type 0} → Tokenizer K → List Row
rows_of k = k.stream.table

-- what is held of a reference that may go on, with its "&"; of an unknown name nothing is
abbrev pub pending : Option Ampersand → List ℕ
pending None = []
pending (Some (Held cs)) = 38 ∷ cs
pending (Some Unknown) = []

-- what was wrong with what was told: an unknown name stands after "&"
abbrev pub fault_after : Option Ampersand → Option Fault
fault_after None = None
fault_after (Some (Held cs)) = None
fault_after (Some Unknown) = Some Slight

-- where a reading stands at this place
abbrev pub standing : {K : Type 0} → Tokenizer K → TextPlace → Stand
standing k place = record { place = place; last_start_tag = k.raw_end.name }

-- a doctype with one of its identifiers
abbrev pub with_identifier : DoctypeIdKind → Doctype → List ℕ → Doctype
with_identifier id.Public d cs = record d { public_id = Some cs }
with_identifier id.System d cs = record d { system_id = Some cs }

-- the quotes of an identifier, and the state in which one in such quotes is read
abbrev pub is_quote : ℕ → Bool
is_quote quote = nat_eq quote 34 || nat_eq quote 39

abbrev pub quoted_by : Bool → DoctypeIdKind → State
quoted_by true kind = state.DoctypeIdentifierSingleQuoted kind
quoted_by false kind = state.DoctypeIdentifierDoubleQuoted kind

abbrev pub quoted_state : ℕ → DoctypeIdKind → State
quoted_state quote kind = quoted_by (nat_eq quote 39) kind

-- the text that comes, of these characters of the input
abbrev pub coming : {K : Type 0} → Tokenizer K → List ℕ → List ℕ
coming k t = newlines_after k.stream.ignore_lf (without_mark k.stream.discard_bom t)

module _ {K T : Type 0} (to : Listener T) where
  -- what a text makes of the sink, where a reading stands at this place
  abbrev pub read_at : TextPlace → Tokenizer K → ℕ → T → List ℕ → Result T (Refusal × ℕ)
  read_at place k b s t = emitted_text to (rows_of k) (standing k place) b s t

  -- an item, and then what follows it
  abbrev pub played : Item → Tokenizer K → ℕ → T → List ℕ → Result T (Refusal × ℕ)
  played i k b s t = emitted_item to (rows_of k) i b s t

  -- What the characters t make of the sink s after b line breaks, where the machine is in this state.
  unfoldable pub held_at : State → Tokenizer K → ℕ → T → List ℕ → Result T (Refusal × ℕ)
  held_at state.Data k b s t = read_at InData k b s t
  held_at state.Plaintext k b s t = read_at InPlaintext k b s t
  held_at state.TagOpen k b s t = read_at InData k b s (60 ∷ t)
  held_at state.EndTagOpen k b s t = read_at InData k b s (60 ∷ 47 ∷ t)
  held_at state.TagName k b s t = played (name_after (standing k InData) k.tag t) k b s t
  -- raw text: "<" may still begin the fitting end tag, and what was told of a script may still change its kind
  held_at (state.RawData kind) k b s t = read_at (InRaw kind) k b s t
  held_at (state.RawLessThanSign (raw.ScriptDataEscaped script.DoubleEscaped)) k b s t =
      read_at (InRaw (kind_after (raw.ScriptDataEscaped script.DoubleEscaped) (codes "<") t)) k b s t
  held_at (state.RawLessThanSign kind) k b s t = read_at (InRaw kind) k b s (60 ∷ t)
  held_at (state.RawEndTagOpen kind) k b s t = read_at (InRaw kind) k b s (60 ∷ 47 ∷ t)
  held_at (state.RawEndTagName kind) k b s t = read_at (InRaw kind) k b s (60 ∷ 47 ∷ (k.raw_end.letters ++ t))
  held_at (state.ScriptDataEscapeStart script.Escaped) k b s t = read_at (InRaw (kind_after raw.ScriptData (codes "<!") t)) k b s t
  held_at (state.ScriptDataEscapeStart script.DoubleEscaped) k b s t =
      read_at (InRaw (kind_after (raw.ScriptDataEscaped script.Escaped) (60 ∷ k.word) t)) k b s t
  held_at state.ScriptDataEscapeStartDash k b s t = read_at (InRaw (kind_after raw.ScriptData (codes "<!-") t)) k b s t
  held_at (state.ScriptDataEscapedDash kind) k b s t = read_at (InRaw (kind_after (raw.ScriptDataEscaped kind) (codes "-") t)) k b s t
  held_at (state.ScriptDataEscapedDashDash kind) k b s t = read_at (InRaw (kind_after (raw.ScriptDataEscaped kind) (codes "--") t)) k b s t
  held_at state.ScriptDataDoubleEscapeEnd k b s t =
      read_at (InRaw (kind_after (raw.ScriptDataEscaped script.DoubleEscaped) (60 ∷ 47 ∷ k.word) t)) k b s t
  -- tags
  held_at state.BeforeAttributeName k b s t = read_at (InTag k.tag) k b s t
  held_at state.AttributeName k b s t = played (attribute_after (rows_of k) (standing k InData) k.tag k.attribute_name t) k b s t
  held_at state.AfterAttributeName k b s t = played (equals_at (rows_of k) (standing k InData) k.tag k.attribute_name t) k b s t
  held_at state.BeforeAttributeValue k b s t = played (value_at (rows_of k) (standing k InData) k.tag k.attribute_name t) k b s t
  held_at (state.AttributeValue value.Unquoted) k b s t =
      played (unquoted_after (rows_of k) (standing k InData) k.tag k.attribute_name k.attribute_value t) k b s t
  held_at (state.AttributeValue value.SingleQuoted) k b s t =
      played (quoted_after (rows_of k) 39 (standing k InData) k.tag k.attribute_name k.attribute_value t) k b s t
  held_at (state.AttributeValue value.DoubleQuoted) k b s t =
      played (quoted_after (rows_of k) 34 (standing k InData) k.tag k.attribute_name k.attribute_value t) k b s t
  held_at state.AfterAttributeValueQuoted k b s t = read_at (InTag k.tag) k b (erred_by to.erred (slight_if (lacks_space t)) s) t
  held_at state.SelfClosingStartTag k b s t = read_at (InTag k.tag) k b s (47 ∷ t)
  -- comments
  held_at state.BogusComment k b s t = played (bogus_comment_after (standing k InData) k.comment t) k b s t
  held_at state.MarkupDeclarationOpen k b s t = read_at InData k b s (60 ∷ 33 ∷ (k.keyword ++ t))
  held_at state.CommentStart k b s t = played (comment_at (standing k InData) t) k b s t
  held_at state.CommentStartDash k b s t = played (comment_at (standing k InData) (45 ∷ t)) k b s (45 ∷ t)
  held_at state.Comment k b s t = played (comment_after (standing k InData) k.comment t) k b s t
  held_at state.CommentLessThanSign k b s t = played (comment_after (standing k InData) k.comment t) k b s t
  held_at state.CommentLessThanSignBang k b s t = played (comment_after (standing k InData) k.comment t) k b s t
  held_at state.CommentLessThanSignBangDash k b s t = played (comment_after (standing k InData) k.comment (45 ∷ t)) k b s (45 ∷ t)
  held_at state.CommentLessThanSignBangDashDash k b s t =
      played (comment_after (standing k InData) k.comment (45 ∷ 45 ∷ t)) k b s (45 ∷ 45 ∷ t)
  held_at state.CommentEndDash k b s t = played (comment_after (standing k InData) k.comment (45 ∷ t)) k b s (45 ∷ t)
  held_at state.CommentEnd k b s t = played (comment_after (standing k InData) k.comment (45 ∷ 45 ∷ t)) k b s (45 ∷ 45 ∷ t)
  held_at state.CommentEndBang k b s t = played (comment_after (standing k InData) k.comment (45 ∷ 45 ∷ 33 ∷ t)) k b s (45 ∷ 45 ∷ 33 ∷ t)
  -- doctypes
  held_at state.Doctype k b s t = played (doctype_at (standing k InData) t) k b s t
  held_at state.BeforeDoctypeName k b s t = played (doctype_after (standing k InData) t) k b s t
  held_at state.DoctypeName k b s t = played (doctype_name_after (standing k InData) k.temporary t) k b s t
  held_at state.AfterDoctypeName k b s t = played (after_name (standing k InData) k.doctype (k.keyword ++ t)) k b s (k.keyword ++ t)
  held_at (state.AfterDoctypeKeyword id.Public) k b s t = played (after_public_keyword (standing k InData) k.doctype t) k b s t
  held_at (state.AfterDoctypeKeyword id.System) k b s t = played (after_system_keyword (standing k InData) k.doctype t) k b s t
  held_at (state.BeforeDoctypeIdentifier id.Public) k b s t = played (after_public_keyword (standing k InData) k.doctype t) k b s t
  held_at (state.BeforeDoctypeIdentifier id.System) k b s t = played (after_system_keyword (standing k InData) k.doctype t) k b s t
  held_at (state.DoctypeIdentifierDoubleQuoted id.Public) k b s t =
      played (public_after 34 (standing k InData) k.doctype k.temporary t) k b s t
  held_at (state.DoctypeIdentifierDoubleQuoted id.System) k b s t =
      played (system_after 34 (standing k InData) k.doctype k.temporary t) k b s t
  held_at (state.DoctypeIdentifierSingleQuoted id.Public) k b s t =
      played (public_after 39 (standing k InData) k.doctype k.temporary t) k b s t
  held_at (state.DoctypeIdentifierSingleQuoted id.System) k b s t =
      played (system_after 39 (standing k InData) k.doctype k.temporary t) k b s t
  held_at (state.AfterDoctypeIdentifier id.Public) k b s t = played (after_public (standing k InData) k.doctype t) k b s t
  held_at (state.AfterDoctypeIdentifier id.System) k b s t = played (after_system (standing k InData) k.doctype t) k b s t
  held_at state.BetweenDoctypePublicAndSystemIdentifiers k b s t = played (after_public (standing k InData) k.doctype t) k b s t
  held_at state.BogusDoctype k b s t = played (junk_after (standing k InData) k.doctype t) k b s t
  -- CDATA sections
  held_at state.CdataSection k b s t = read_at InCdata k b s t
  held_at state.CdataSectionBracket k b s t = read_at InCdata k b s (93 ∷ t)
  held_at state.CdataSectionEnd k b s t = read_at InCdata k b s (93 ∷ 93 ∷ t)

  -- the same where the machine is, with the reference that is held, or after an unknown name
  abbrev pub held : Tokenizer K → ℕ → T → List ℕ → Result T (Refusal × ℕ)
  held k b s t = held_at k.state k b (erred_by to.erred (fault_after k.char_ref) s) (pending k.char_ref ++ t)

  -- what a further text of the input makes of the sink
  abbrev pub rest : Tokenizer K → T → List ℕ → Result T (Refusal × ℕ)
  rest k s t = held k k.stream.breaks s (coming k t)
