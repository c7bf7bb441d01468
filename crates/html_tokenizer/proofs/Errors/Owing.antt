-- How many errors are owed for what is to come, after so many that were noted.
use Rattle.std.proofs.Common.{◌≡◌, ◌∙◌, ℕ, zero, suc, ◌+◌, ◌-◌, Bool, true, false, List, [], ◌∷◌, ◌++◌, take, drop, Option}
use Rattle.std.proofs.Common.{Some, None, Result, Ok, Err, refl, sym, ap, arith}
use Rattle.html_tokens.specs.declared.states.RawKind.TheVariants as raw
use Rattle.html_tokens.specs.declared.states.ScriptEscapeKind.TheVariants as script
use Rattle.html_tokens.specs.declared.states.DoctypeIdKind.TheVariants as id
use Rattle.html_tokens.specs.declared.states.AttrValueKind.TheVariants as value
use Rattle.html_tokens.specs.declared.states.State.{State}
use Rattle.html_tokens.specs.declared.states.State.TheVariants as state
use Rattle.html_tokens.specs.Comments.{comment_at, comment_after, bogus_comment_after}
use Rattle.html_tokens.specs.Doctypes.{doctype_at, doctype_name_after, after_name, after_public_keyword, after_system_keyword}
use Rattle.html_tokens.specs.Doctypes.{public_after, system_after, after_public, after_system, junk_after, doctype_after}
use Rattle.html_tokens.specs.Tags.{name_after, attribute_after, equals_at, value_at, unquoted_after, quoted_after, lacks_space}
use Rattle.html_tokens.specs.declared.token.Token.{Token}
use Rattle.html_tokens.specs.declared.token.Token.TheVariants.{EOFToken}
use Rattle.html_tokens.specs.declared.sink.TokenSink.{Ghosts}
use Rattle.html_tokens.specs.Item.{InData, Stand, Item, fault_at_end, Fault, Grave, Slight, slight_if}
use Rattle.html_tokens.specs.Items.{item}
use Rattle.html_tokens.specs.Notes.{Notes, noted, noting, noting_error, noting_cdata, noting_end, errors_of, no_notes}
use Rattle.html_tokens.specs.Reading.{◌>>=◌, next_stand, said, line_number, line_breaks, reading_from, erred_by}
use Rattle.html_tokens.specs.Sink.{Step, Reply, Refusal}
use Rattle.html_tokens.specs.Table.{Row}
use Rattle.html_tokenizer_parts.specs.declared.held_reference.Ampersand.{Ampersand}
use Rattle.html_tokenizer_parts.specs.declared.held_reference.Ampersand.TheVariants.{Held, Unknown}
use Rattle.html_tokenizer.specs.declared.tokenizer.Tokenizer.{Tokenizer}
use Rattle.html_tokenizer.specs.Calls.{noted_with}
use Rattle.html_tokenizer.specs.Laws.{IsOwing}
use Rattle.html_tokenizer.specs.Rest.{rows_of, standing, fault_after, pending, coming, held_at}
use Rattle.html_tokenizer.specs.Steps.{and_more}
use Rattle.html_tokenizer.proofs.Steps.Readings.{sum-zero}
use Rattle.html_tokenizer.proofs.Errors.Rises.{more-sum}
use Rattle.html_tokenizer.specs.Listeners.{noting_listener, emitted_text, emitted_item}

more-suc : (k n : ℕ) → and_more k (suc n) ≡ suc (and_more k n)
more-suc k n =
    let x = more-sum k (suc n) in
    let y = more-sum k n in
    omega (arith, x, y)

module _ {S : Type 0} (step : Step S) (quiet : S → Token → Bool) (cdata : S → Bool) (ends : S → S) (more_owed : ℕ) where
  -- the other notes have so many more errors
  abbrev pub HasMore : Notes ℕ → Notes ℕ → Type 0
  HasMore notes other = other.errors ≡ and_more more_owed notes.errors

  -- one text is owed so many more errors than another
  abbrev pub OwesMore : Result (S × Notes ℕ) (Refusal × ℕ) → Result (S × Notes ℕ) (Refusal × ℕ) → Type 0
  OwesMore less greater = errors_of greater ≡ and_more more_owed (errors_of less)

  noted-errors : (r : Result (S × Reply) Refusal) (notes other : Notes ℕ)
      (f : (S × Notes ℕ) × Reply → Result (S × Notes ℕ) (Refusal × ℕ)) → HasMore notes other
      → ((p : S × Reply) (notes other : Notes ℕ) → HasMore notes other → OwesMore (f ((p.0, notes), p.1)) (f ((p.0, other), p.1)))
      → OwesMore (noted notes r >>= f) (noted other r >>= f)
  noted-errors (Ok p) notes other f h k = k p _ _ h
  noted-errors (Err e) notes other f h k = h

  said-errors : (fault : Option Fault) (token : Option Token) (b : ℕ) (s : S) (notes other : Notes ℕ)
      (f : (S × Notes ℕ) × Reply → Result (S × Notes ℕ) (Refusal × ℕ)) → HasMore notes other
      → ((p : S × Reply) (notes other : Notes ℕ) → HasMore notes other → OwesMore (f ((p.0, notes), p.1)) (f ((p.0, other), p.1)))
      → OwesMore (said (noting step quiet) noting_error fault token b (s, notes) >>= f)
      (said (noting step quiet) noting_error fault token b (s, other) >>= f)
  said-errors None None b s notes other f h k = k (s, _) notes other h
  said-errors (Some Grave) None b s notes other f h k = k (s, _) _ _ (ap suc h ∙ sym (more-suc more_owed notes.errors))
  said-errors (Some Slight) None b s notes other f h k = k (s, _) _ _ h
  said-errors None (Some token) b s notes other f h k = noted-errors (step s token (line_number b)) _ _ f h k
  said-errors (Some Grave) (Some token) b s notes other f h k = noted-errors (step s token (line_number b)) _ _ f
      (ap suc h ∙ sym (more-suc more_owed notes.errors)) k
  said-errors (Some Slight) (Some token) b s notes other f h k = noted-errors (step s token (line_number b)) _ _ f h k

  module _ (rows : List Row) where
    -- a reading after more errors has as many more at its end
    pub reading-errors : (n : ℕ) (st : Stand) (b : ℕ) (s : S) (notes other : Notes ℕ) (t : List ℕ) → HasMore notes other
        → OwesMore (reading_from (noting step quiet) noting_error (noting_cdata cdata) (noting_end ends) rows n st b
        (s, notes) t) (reading_from (noting step quiet) noting_error (noting_cdata cdata) (noting_end ends) rows n st b (s, other) t)
    unfolding reading_from
    reading-errors n st b s notes other [] h = said-errors (fault_at_end st.place) (Some EOFToken) b s notes other
        (λ p. Ok (noting_end ends p.0)) h (λ p notes other h. h)
    reading-errors zero st b s notes other (c ∷ t) h =
        let i = item rows (cdata s) st c t in
        let read = b + line_breaks (take i.len (c ∷ t)) in
        said-errors i.fault i.token read s notes other
        (λ p. reading_from (noting step quiet) noting_error (noting_cdata cdata) (noting_end ends) rows
        (i.len - 1) (next_stand i.next p.1) read p.0 t) h
        (λ p notes other h. reading-errors (i.len - 1) (next_stand i.next p.1) read p.0 notes other t h)
    reading-errors (suc n) st b s notes other (c ∷ t) h = reading-errors n st b s notes other t h

    pub play-errors : (i : Item) (b : ℕ) (s : S) (notes other : Notes ℕ) (t : List ℕ) → HasMore notes other
        → OwesMore (emitted_item (noting_listener step quiet cdata ends) rows i b (s, notes) t)
        (emitted_item (noting_listener step quiet cdata ends) rows i b (s, other) t)
    play-errors i b s notes other t h =
        let read = b + line_breaks (take i.len t) in
        said-errors i.fault i.token read s notes other
        (λ p. emitted_text (noting_listener step quiet cdata ends) rows (next_stand i.next p.1) read p.0 (drop i.len t)) h
        (λ p notes other h. reading-errors 0 (next_stand i.next p.1) read p.0 notes other (drop i.len t) h)

  -- the same of a reading after something slight
  pub slight-errors : (odd : Bool) (rows : List Row) (st : Stand) (b : ℕ) (s : S) (notes other : Notes ℕ) (t : List ℕ) → HasMore notes other
      → OwesMore (emitted_text (noting_listener step quiet cdata ends) rows st b
      (erred_by noting_error (slight_if odd) (s, notes)) t)
      (emitted_text (noting_listener step quiet cdata ends) rows st b (erred_by noting_error (slight_if odd) (s, other)) t)
  slight-errors true rows st b s notes other t h = reading-errors rows 0 st b s _ _ t h
  slight-errors false rows st b s notes other t h = reading-errors rows 0 st b s notes other t h

module _ {K S : Type 0} (step : Step S) (quiet : S → Token → Bool) (cdata : S → Bool) (ends : S → S) (more_owed : ℕ) where
  -- the same of what is held
  pub held-errors : (st : State) (k : Tokenizer K) (b : ℕ) (s : S) (notes other : Notes ℕ) (t : List ℕ)
      → HasMore step quiet cdata ends more_owed notes other
      → OwesMore step quiet cdata ends more_owed
      (held_at (noting_listener step quiet cdata ends) st k b (s, notes) t)
      (held_at (noting_listener step quiet cdata ends) st k b (s, other) t)
  unfolding held_at
  held-errors state.Data k b s notes other t h = reading-errors step quiet cdata ends more_owed (rows_of k) 0 _ b s notes other _ h
  held-errors state.Plaintext k b s notes other t h = reading-errors step quiet cdata ends more_owed (rows_of k) 0 _ b s notes other _ h
  held-errors state.TagOpen k b s notes other t h = reading-errors step quiet cdata ends more_owed (rows_of k) 0 _ b s notes other _ h
  held-errors state.EndTagOpen k b s notes other t h = reading-errors step quiet cdata ends more_owed (rows_of k) 0 _ b s notes other _ h
  held-errors state.TagName k b s notes other t h = play-errors step quiet cdata ends more_owed (rows_of k)
      (name_after (standing k InData) k.tag t) b s notes other t h
  held-errors (state.RawData kind) k b s notes other t h = reading-errors step quiet cdata ends more_owed
      (rows_of k) 0 _ b s notes other _ h
  held-errors (state.RawLessThanSign (raw.ScriptDataEscaped script.DoubleEscaped)) k b s notes other t h =
      reading-errors step quiet cdata ends more_owed (rows_of k) 0 _ b s notes other _ h
  held-errors (state.RawLessThanSign (raw.ScriptDataEscaped script.Escaped)) k b s notes other t h =
      reading-errors step quiet cdata ends more_owed (rows_of k) 0 _ b s notes other _ h
  held-errors (state.RawLessThanSign raw.Rcdata) k b s notes other t h = reading-errors step quiet cdata ends
      more_owed (rows_of k) 0 _ b s notes other _ h
  held-errors (state.RawLessThanSign raw.Rawtext) k b s notes other t h = reading-errors step quiet cdata ends
      more_owed (rows_of k) 0 _ b s notes other _ h
  held-errors (state.RawLessThanSign raw.ScriptData) k b s notes other t h = reading-errors step quiet cdata ends
      more_owed (rows_of k) 0 _ b s notes other _ h
  held-errors (state.RawEndTagOpen kind) k b s notes other t h = reading-errors step quiet cdata ends more_owed
      (rows_of k) 0 _ b s notes other _ h
  held-errors (state.RawEndTagName kind) k b s notes other t h = reading-errors step quiet cdata ends more_owed
      (rows_of k) 0 _ b s notes other _ h
  held-errors (state.ScriptDataEscapeStart script.Escaped) k b s notes other t h =
      reading-errors step quiet cdata ends more_owed (rows_of k) 0 _ b s notes other _ h
  held-errors (state.ScriptDataEscapeStart script.DoubleEscaped) k b s notes other t h =
      reading-errors step quiet cdata ends more_owed (rows_of k) 0 _ b s notes other _ h
  held-errors state.ScriptDataEscapeStartDash k b s notes other t h = reading-errors step quiet cdata ends more_owed
      (rows_of k) 0 _ b s notes other _ h
  held-errors (state.ScriptDataEscapedDash kind) k b s notes other t h = reading-errors step quiet cdata ends
      more_owed (rows_of k) 0 _ b s notes other _ h
  held-errors (state.ScriptDataEscapedDashDash kind) k b s notes other t h = reading-errors step quiet cdata ends
      more_owed (rows_of k) 0 _ b s notes other _ h
  held-errors state.ScriptDataDoubleEscapeEnd k b s notes other t h = reading-errors step quiet cdata ends more_owed
      (rows_of k) 0 _ b s notes other _ h
  held-errors state.BeforeAttributeName k b s notes other t h = reading-errors step quiet cdata ends more_owed
      (rows_of k) 0 _ b s notes other _ h
  held-errors state.AttributeName k b s notes other t h = play-errors step quiet cdata ends more_owed (rows_of k)
      (attribute_after (rows_of k) (standing k InData) k.tag k.attribute_name t) b s notes other t h
  held-errors state.AfterAttributeName k b s notes other t h = play-errors step quiet cdata ends more_owed
      (rows_of k) (equals_at (rows_of k) (standing k InData) k.tag k.attribute_name t) b s notes other t h
  held-errors state.BeforeAttributeValue k b s notes other t h = play-errors step quiet cdata ends more_owed
      (rows_of k) (value_at (rows_of k) (standing k InData) k.tag k.attribute_name t) b s notes other t h
  held-errors (state.AttributeValue value.Unquoted) k b s notes other t h = play-errors step quiet cdata ends
      more_owed (rows_of k) (unquoted_after (rows_of k) (standing k InData) k.tag k.attribute_name k.attribute_value t) b s notes other t h
  held-errors (state.AttributeValue value.SingleQuoted) k b s notes other t h = play-errors step quiet cdata ends
      more_owed (rows_of k) (quoted_after (rows_of k) 39 (standing k InData) k.tag k.attribute_name k.attribute_value t) b s notes other t h
  held-errors (state.AttributeValue value.DoubleQuoted) k b s notes other t h = play-errors step quiet cdata ends
      more_owed (rows_of k) (quoted_after (rows_of k) 34 (standing k InData) k.tag k.attribute_name k.attribute_value t) b s notes other t h
  held-errors state.AfterAttributeValueQuoted k b s notes other t h = slight-errors step quiet cdata ends more_owed
      (lacks_space t) (rows_of k) _ b s notes other t h
  held-errors state.SelfClosingStartTag k b s notes other t h = reading-errors step quiet cdata ends more_owed
      (rows_of k) 0 _ b s notes other _ h
  held-errors state.BogusComment k b s notes other t h = play-errors step quiet cdata ends more_owed (rows_of k)
      (bogus_comment_after (standing k InData) k.comment t) b s notes other t h
  held-errors state.MarkupDeclarationOpen k b s notes other t h = reading-errors step quiet cdata ends more_owed
      (rows_of k) 0 _ b s notes other _ h
  held-errors state.CommentStart k b s notes other t h = play-errors step quiet cdata ends more_owed (rows_of k)
      (comment_at (standing k InData) t) b s notes other t h
  held-errors state.CommentStartDash k b s notes other t h = play-errors step quiet cdata ends more_owed (rows_of k)
      (comment_at (standing k InData) (45 ∷ t)) b s notes other (45 ∷ t) h
  held-errors state.Comment k b s notes other t h = play-errors step quiet cdata ends more_owed (rows_of k)
      (comment_after (standing k InData) k.comment t) b s notes other t h
  held-errors state.CommentLessThanSign k b s notes other t h = play-errors step quiet cdata ends more_owed
      (rows_of k) (comment_after (standing k InData) k.comment t) b s notes other t h
  held-errors state.CommentLessThanSignBang k b s notes other t h = play-errors step quiet cdata ends more_owed
      (rows_of k) (comment_after (standing k InData) k.comment t) b s notes other t h
  held-errors state.CommentLessThanSignBangDash k b s notes other t h = play-errors step quiet cdata ends more_owed
      (rows_of k) (comment_after (standing k InData) k.comment (45 ∷ t)) b s notes other (45 ∷ t) h
  held-errors state.CommentLessThanSignBangDashDash k b s notes other t h = play-errors step quiet cdata ends
      more_owed (rows_of k) (comment_after (standing k InData) k.comment (45 ∷ 45 ∷ t)) b s notes other (45 ∷ 45 ∷ t) h
  held-errors state.CommentEndDash k b s notes other t h = play-errors step quiet cdata ends more_owed (rows_of k)
      (comment_after (standing k InData) k.comment (45 ∷ t)) b s notes other (45 ∷ t) h
  held-errors state.CommentEnd k b s notes other t h = play-errors step quiet cdata ends more_owed (rows_of k)
      (comment_after (standing k InData) k.comment (45 ∷ 45 ∷ t)) b s notes other (45 ∷ 45 ∷ t) h
  held-errors state.CommentEndBang k b s notes other t h = play-errors step quiet cdata ends more_owed (rows_of k)
      (comment_after (standing k InData) k.comment (45 ∷ 45 ∷ 33 ∷ t)) b s notes other (45 ∷ 45 ∷ 33 ∷ t) h
  held-errors state.Doctype k b s notes other t h = play-errors step quiet cdata ends more_owed (rows_of k)
      (doctype_at (standing k InData) t) b s notes other t h
  held-errors state.BeforeDoctypeName k b s notes other t h = play-errors step quiet cdata ends more_owed
      (rows_of k) (doctype_after (standing k InData) t) b s notes other t h
  held-errors state.DoctypeName k b s notes other t h = play-errors step quiet cdata ends more_owed (rows_of k)
      (doctype_name_after (standing k InData) k.temporary t) b s notes other t h
  held-errors state.AfterDoctypeName k b s notes other t h = play-errors step quiet cdata ends more_owed (rows_of k)
      (after_name (standing k InData) k.doctype (k.keyword ++ t)) b s notes other (k.keyword ++ t) h
  held-errors (state.AfterDoctypeKeyword id.Public) k b s notes other t h = play-errors step quiet cdata ends
      more_owed (rows_of k) (after_public_keyword (standing k InData) k.doctype t) b s notes other t h
  held-errors (state.AfterDoctypeKeyword id.System) k b s notes other t h = play-errors step quiet cdata ends
      more_owed (rows_of k) (after_system_keyword (standing k InData) k.doctype t) b s notes other t h
  held-errors (state.BeforeDoctypeIdentifier id.Public) k b s notes other t h = play-errors step quiet cdata ends
      more_owed (rows_of k) (after_public_keyword (standing k InData) k.doctype t) b s notes other t h
  held-errors (state.BeforeDoctypeIdentifier id.System) k b s notes other t h = play-errors step quiet cdata ends
      more_owed (rows_of k) (after_system_keyword (standing k InData) k.doctype t) b s notes other t h
  held-errors (state.DoctypeIdentifierDoubleQuoted id.Public) k b s notes other t h =
      play-errors step quiet cdata ends more_owed (rows_of k)
      (public_after 34 (standing k InData) k.doctype k.temporary t) b s notes other t h
  held-errors (state.DoctypeIdentifierDoubleQuoted id.System) k b s notes other t h =
      play-errors step quiet cdata ends more_owed (rows_of k)
      (system_after 34 (standing k InData) k.doctype k.temporary t) b s notes other t h
  held-errors (state.DoctypeIdentifierSingleQuoted id.Public) k b s notes other t h =
      play-errors step quiet cdata ends more_owed (rows_of k)
      (public_after 39 (standing k InData) k.doctype k.temporary t) b s notes other t h
  held-errors (state.DoctypeIdentifierSingleQuoted id.System) k b s notes other t h =
      play-errors step quiet cdata ends more_owed (rows_of k)
      (system_after 39 (standing k InData) k.doctype k.temporary t) b s notes other t h
  held-errors (state.AfterDoctypeIdentifier id.Public) k b s notes other t h = play-errors step quiet cdata ends
      more_owed (rows_of k) (after_public (standing k InData) k.doctype t) b s notes other t h
  held-errors (state.AfterDoctypeIdentifier id.System) k b s notes other t h = play-errors step quiet cdata ends
      more_owed (rows_of k) (after_system (standing k InData) k.doctype t) b s notes other t h
  held-errors state.BetweenDoctypePublicAndSystemIdentifiers k b s notes other t h =
      play-errors step quiet cdata ends more_owed (rows_of k) (after_public (standing k InData) k.doctype t) b s notes other t h
  held-errors state.BogusDoctype k b s notes other t h = play-errors step quiet cdata ends more_owed (rows_of k)
      (junk_after (standing k InData) k.doctype t) b s notes other t h
  held-errors state.CdataSection k b s notes other t h = reading-errors step quiet cdata ends more_owed (rows_of k) 0 _ b s notes other _ h
  held-errors state.CdataSectionBracket k b s notes other t h = reading-errors step quiet cdata ends more_owed
      (rows_of k) 0 _ b s notes other _ h
  held-errors state.CdataSectionEnd k b s notes other t h = reading-errors step quiet cdata ends more_owed
      (rows_of k) 0 _ b s notes other _ h

  -- the same where an unknown name may stand before
  held_after-errors : (behind : Option Ampersand) (st : State) (k : Tokenizer K) (b : ℕ) (s : S)
      (notes other : Notes ℕ) (t : List ℕ) → HasMore step quiet cdata ends more_owed notes other
      → OwesMore step quiet cdata ends more_owed
      (held_at (noting_listener step quiet cdata ends) st k b
      (erred_by noting_error (fault_after behind) (s, notes)) t)
      (held_at (noting_listener step quiet cdata ends) st k b (erred_by noting_error (fault_after behind) (s, other)) t)
  held_after-errors None st k b s notes other t h = held-errors st k b s notes other t h
  held_after-errors (Some (Held cs)) st k b s notes other t h = held-errors st k b s notes other t h
  held_after-errors (Some Unknown) st k b s notes other t h = held-errors st k b s _ _ t h

module _ {K H : Type 0} (Sink : Ghosts K H) where
  -- What is owed before a call for the characters that it takes and those that follow is owed by the items that ended, or after it.
  pub is-owing : IsOwing Sink
  is-owing = (
    λ c t.
        ap errors_of (c.fed.same no_notes t)
        ∙ held_after-errors Sink.step Sink.is_quiet Sink.asks_cdata Sink.ended c.fed.owed.faults c.after.char_ref
        c.after.state c.after c.after.stream.breaks (Sink.view c.after.sink) no_notes
        (noted_with Sink.number c.fed.owed no_notes c.result) (pending c.after.char_ref ++ coming c.after t) refl
        ∙ more-sum c.fed.owed.faults _,
    λ old new e. ap errors_of (e.same no_notes) ∙ more-sum e.owed.faults 0 ∙ sum-zero e.owed.faults,
  )
