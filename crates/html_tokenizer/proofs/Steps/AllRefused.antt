-- Where a sink refuses every token, all that is still to come is refused.
use Rattle.std.proofs.Common.{ℕ, List, ◌∷◌, ◌++◌, take, drop}
use Rattle.std.specs.Prelude.{IsErr, ◌+◌}
use Rattle.html_tokens.specs.Notes.{Notes, noting_error}
use Rattle.html_tokens.specs.declared.sink.TokenSink.{Ghosts}
use Rattle.html_tokens.specs.declared.token.Token.{Token}
use Rattle.html_tokens.specs.declared.states.RawKind.TheVariants as raw
use Rattle.html_tokens.specs.declared.states.ScriptEscapeKind.TheVariants as script
use Rattle.html_tokens.specs.declared.states.DoctypeIdKind.TheVariants as id
use Rattle.html_tokens.specs.declared.states.AttrValueKind.TheVariants as value
use Rattle.html_tokens.specs.declared.states.State.{State}
use Rattle.html_tokens.specs.declared.states.State.TheVariants as state
use Rattle.html_tokens.specs.Comments.{comment_at, comment_after, bogus_comment_after}
use Rattle.html_tokens.specs.Doctypes.{doctype_at, doctype_after, doctype_name_after, after_name, after_public_keyword}
use Rattle.html_tokens.specs.Doctypes.{after_system_keyword, public_after, system_after, after_public, after_system, junk_after}
use Rattle.html_tokens.specs.Tags.{name_after, attribute_after, equals_at, value_at, unquoted_after, quoted_after, lacks_space}
use Rattle.html_tokenizer.specs.declared.tokenizer.Tokenizer.{Tokenizer}
use Rattle.html_tokenizer.specs.Rest.{fault_after, pending, rows_of, standing, held_at}
use Rattle.html_tokens.specs.Item.{Fault, slight_if, InData, Item}
use Rattle.html_tokens.specs.Reading.{erred_by, next_stand, line_breaks}
use Rattle.html_tokens.specs.Table.{Row}
use Rattle.html_tokenizer.proofs.Steps.RefusedReadings.{AllRefused, erred-refused, said-refused, reading-refused, noting-errs}
use Rattle.html_tokenizer.proofs.Steps.RefusedReadings.{noting-refused}
use Rattle.html_tokenizer.specs.Steps.{now}
use Rattle.html_tokenizer.specs.Listeners.{Listener, listening, emitted_text, emitted_item}

module _ {T : Type 0} (to : Listener T) (rows : List Row) (errs : (fault : Fault) (s : T) → AllRefused to.step s
    → AllRefused to.step (to.erred fault s)) where
  pub play-refused : (s : T) → AllRefused to.step s → (i : Item) (b : ℕ) (t : List ℕ) → IsErr (emitted_item to rows i b s t)
  play-refused s h i b t =
      let read = b + line_breaks (take i.len t) in
      said-refused to rows errs i.fault s h i.token read (λ p. emitted_text to rows (next_stand i.next p.1) read p.0
      (drop i.len t)) (λ q g reply. reading-refused to rows errs q g 0 (next_stand i.next reply) read (drop i.len t))

module _ {K T : Type 0} (to : Listener T) (errs : (fault : Fault) (s : T) → AllRefused to.step s
    → AllRefused to.step (to.erred fault s)) where
  pub held-refused : (st : State) (k : Tokenizer K) (b : ℕ) (s : T) (t : List ℕ) → AllRefused to.step s → IsErr (held_at to st k b s t)
  unfolding held_at
  held-refused state.Data k b s t h = reading-refused to (rows_of k) errs s h 0 _ b _
  held-refused state.Plaintext k b s t h = reading-refused to (rows_of k) errs s h 0 _ b _
  held-refused state.TagOpen k b s t h = reading-refused to (rows_of k) errs s h 0 _ b _
  held-refused state.EndTagOpen k b s t h = reading-refused to (rows_of k) errs s h 0 _ b _
  held-refused state.TagName k b s t h = play-refused to (rows_of k) errs s h (name_after (standing k InData) k.tag t) b t
  held-refused (state.RawData kind) k b s t h = reading-refused to (rows_of k) errs s h 0 _ b _
  held-refused (state.RawLessThanSign (raw.ScriptDataEscaped script.DoubleEscaped)) k b s t h = reading-refused to
      (rows_of k) errs s h 0 _ b _
  held-refused (state.RawLessThanSign (raw.ScriptDataEscaped script.Escaped)) k b s t h = reading-refused to (rows_of k) errs s h 0 _ b _
  held-refused (state.RawLessThanSign raw.Rcdata) k b s t h = reading-refused to (rows_of k) errs s h 0 _ b _
  held-refused (state.RawLessThanSign raw.Rawtext) k b s t h = reading-refused to (rows_of k) errs s h 0 _ b _
  held-refused (state.RawLessThanSign raw.ScriptData) k b s t h = reading-refused to (rows_of k) errs s h 0 _ b _
  held-refused (state.RawEndTagOpen kind) k b s t h = reading-refused to (rows_of k) errs s h 0 _ b _
  held-refused (state.RawEndTagName kind) k b s t h = reading-refused to (rows_of k) errs s h 0 _ b _
  held-refused (state.ScriptDataEscapeStart script.Escaped) k b s t h = reading-refused to (rows_of k) errs s h 0 _ b _
  held-refused (state.ScriptDataEscapeStart script.DoubleEscaped) k b s t h = reading-refused to (rows_of k) errs s h 0 _ b _
  held-refused state.ScriptDataEscapeStartDash k b s t h = reading-refused to (rows_of k) errs s h 0 _ b _
  held-refused (state.ScriptDataEscapedDash kind) k b s t h = reading-refused to (rows_of k) errs s h 0 _ b _
  held-refused (state.ScriptDataEscapedDashDash kind) k b s t h = reading-refused to (rows_of k) errs s h 0 _ b _
  held-refused state.ScriptDataDoubleEscapeEnd k b s t h = reading-refused to (rows_of k) errs s h 0 _ b _
  held-refused state.BeforeAttributeName k b s t h = reading-refused to (rows_of k) errs s h 0 _ b _
  held-refused state.AttributeName k b s t h = play-refused to (rows_of k) errs s h
      (attribute_after (rows_of k) (standing k InData) k.tag k.attribute_name t) b t
  held-refused state.AfterAttributeName k b s t h = play-refused to (rows_of k) errs s h
      (equals_at (rows_of k) (standing k InData) k.tag k.attribute_name t) b t
  held-refused state.BeforeAttributeValue k b s t h = play-refused to (rows_of k) errs s h
      (value_at (rows_of k) (standing k InData) k.tag k.attribute_name t) b t
  held-refused (state.AttributeValue value.Unquoted) k b s t h = play-refused to (rows_of k) errs s h
      (unquoted_after (rows_of k) (standing k InData) k.tag k.attribute_name k.attribute_value t) b t
  held-refused (state.AttributeValue value.SingleQuoted) k b s t h = play-refused to (rows_of k) errs s h
      (quoted_after (rows_of k) 39 (standing k InData) k.tag k.attribute_name k.attribute_value t) b t
  held-refused (state.AttributeValue value.DoubleQuoted) k b s t h = play-refused to (rows_of k) errs s h
      (quoted_after (rows_of k) 34 (standing k InData) k.tag k.attribute_name k.attribute_value t) b t
  held-refused state.AfterAttributeValueQuoted k b s t h = reading-refused to (rows_of k) errs
      (erred_by to.erred (slight_if (lacks_space t)) s) (erred-refused to (rows_of k) errs (slight_if (lacks_space t)) s h) 0 _ b _
  held-refused state.SelfClosingStartTag k b s t h = reading-refused to (rows_of k) errs s h 0 _ b _
  held-refused state.BogusComment k b s t h = play-refused to (rows_of k) errs s h (bogus_comment_after (standing k InData) k.comment t) b t
  held-refused state.MarkupDeclarationOpen k b s t h = reading-refused to (rows_of k) errs s h 0 _ b _
  held-refused state.CommentStart k b s t h = play-refused to (rows_of k) errs s h (comment_at (standing k InData) t) b t
  held-refused state.CommentStartDash k b s t h = play-refused to (rows_of k) errs s h (comment_at (standing k InData) (45 ∷ t)) b (45 ∷ t)
  held-refused state.Comment k b s t h = play-refused to (rows_of k) errs s h (comment_after (standing k InData) k.comment t) b t
  held-refused state.CommentLessThanSign k b s t h = play-refused to (rows_of k) errs s h
      (comment_after (standing k InData) k.comment t) b t
  held-refused state.CommentLessThanSignBang k b s t h = play-refused to (rows_of k) errs s h
      (comment_after (standing k InData) k.comment t) b t
  held-refused state.CommentLessThanSignBangDash k b s t h = play-refused to (rows_of k) errs s h
      (comment_after (standing k InData) k.comment (45 ∷ t)) b (45 ∷ t)
  held-refused state.CommentLessThanSignBangDashDash k b s t h = play-refused to (rows_of k) errs s h
      (comment_after (standing k InData) k.comment (45 ∷ 45 ∷ t)) b (45 ∷ 45 ∷ t)
  held-refused state.CommentEndDash k b s t h = play-refused to (rows_of k) errs s h
      (comment_after (standing k InData) k.comment (45 ∷ t)) b (45 ∷ t)
  held-refused state.CommentEnd k b s t h = play-refused to (rows_of k) errs s h
      (comment_after (standing k InData) k.comment (45 ∷ 45 ∷ t)) b (45 ∷ 45 ∷ t)
  held-refused state.CommentEndBang k b s t h = play-refused to (rows_of k) errs s h
      (comment_after (standing k InData) k.comment (45 ∷ 45 ∷ 33 ∷ t)) b (45 ∷ 45 ∷ 33 ∷ t)
  held-refused state.Doctype k b s t h = play-refused to (rows_of k) errs s h (doctype_at (standing k InData) t) b t
  held-refused state.BeforeDoctypeName k b s t h = play-refused to (rows_of k) errs s h (doctype_after (standing k InData) t) b t
  held-refused state.DoctypeName k b s t h = play-refused to (rows_of k) errs s h (doctype_name_after (standing k InData) k.temporary t) b t
  held-refused state.AfterDoctypeName k b s t h = play-refused to (rows_of k) errs s h
      (after_name (standing k InData) k.doctype (k.keyword ++ t)) b (k.keyword ++ t)
  held-refused (state.AfterDoctypeKeyword id.Public) k b s t h = play-refused to (rows_of k) errs s h
      (after_public_keyword (standing k InData) k.doctype t) b t
  held-refused (state.AfterDoctypeKeyword id.System) k b s t h = play-refused to (rows_of k) errs s h
      (after_system_keyword (standing k InData) k.doctype t) b t
  held-refused (state.BeforeDoctypeIdentifier id.Public) k b s t h = play-refused to (rows_of k) errs s h
      (after_public_keyword (standing k InData) k.doctype t) b t
  held-refused (state.BeforeDoctypeIdentifier id.System) k b s t h = play-refused to (rows_of k) errs s h
      (after_system_keyword (standing k InData) k.doctype t) b t
  held-refused (state.DoctypeIdentifierDoubleQuoted id.Public) k b s t h = play-refused to (rows_of k) errs s h
      (public_after 34 (standing k InData) k.doctype k.temporary t) b t
  held-refused (state.DoctypeIdentifierDoubleQuoted id.System) k b s t h = play-refused to (rows_of k) errs s h
      (system_after 34 (standing k InData) k.doctype k.temporary t) b t
  held-refused (state.DoctypeIdentifierSingleQuoted id.Public) k b s t h = play-refused to (rows_of k) errs s h
      (public_after 39 (standing k InData) k.doctype k.temporary t) b t
  held-refused (state.DoctypeIdentifierSingleQuoted id.System) k b s t h = play-refused to (rows_of k) errs s h
      (system_after 39 (standing k InData) k.doctype k.temporary t) b t
  held-refused (state.AfterDoctypeIdentifier id.Public) k b s t h = play-refused to (rows_of k) errs s h
      (after_public (standing k InData) k.doctype t) b t
  held-refused (state.AfterDoctypeIdentifier id.System) k b s t h = play-refused to (rows_of k) errs s h
      (after_system (standing k InData) k.doctype t) b t
  held-refused state.BetweenDoctypePublicAndSystemIdentifiers k b s t h = play-refused to (rows_of k) errs s h
      (after_public (standing k InData) k.doctype t) b t
  held-refused state.BogusDoctype k b s t h = play-refused to (rows_of k) errs s h (junk_after (standing k InData) k.doctype t) b t
  held-refused state.CdataSection k b s t h = reading-refused to (rows_of k) errs s h 0 _ b _
  held-refused state.CdataSectionBracket k b s t h = reading-refused to (rows_of k) errs s h 0 _ b _
  held-refused state.CdataSectionEnd k b s t h = reading-refused to (rows_of k) errs s h 0 _ b _

module _ {K H : Type 0} (Sink : Ghosts K H) where
  -- the same of the machine where it is
  pub now-refused : (k : Tokenizer K) (b : ℕ) (notes : Notes ℕ) (t : List ℕ)
      → ((token : Token) (line : ℕ) → IsErr (Sink.step (Sink.view k.sink) token line)) → IsErr (now Sink k b (Sink.view k.sink, notes) t)
  now-refused k b notes t h =
      held-refused (listening Sink) (noting-errs Sink) k.state k b
      (erred_by noting_error (fault_after k.char_ref) (Sink.view k.sink, notes)) (pending k.char_ref ++ t)
      (erred-refused (listening Sink) (rows_of k) (noting-errs Sink) (fault_after k.char_ref)
      (Sink.view k.sink, notes) (noting-refused Sink (Sink.view k.sink) notes h))
