-- What stands after "<" and "</", and what the machine makes of it.
use Rattle.std.proofs.Common.{◌≡◌, ◌∙◌, ℕ, ◌+◌, Bool, true, false, nat_eq, List, [], ◌∷◌, Result, Ok, None, refl, sym, ap, Some}
use Rattle.std.specs.Char.{is_ascii_alphabetic}
use Rattle.std.specs.Result.{IsErrAnd}
use Rattle.markup.specs.declared.fault.ParseFault.{ParseFault}
use Rattle.html_tokens.specs.declared.replies.ProcessResult.{ProcessResult}
use Rattle.html_tokens.specs.declared.replies.ProcessResult.TheVariants as flow
use Rattle.html_tokens.specs.declared.states.State.TheVariants as state
use Rattle.html_tokens.specs.declared.tags.Tag.{Tag}
use Rattle.html_tokens.specs.declared.tags.TagKind.TheVariants.{StartTag, EndTag}
use Rattle.html_tokens.specs.declared.token.Token.TheVariants.{CharacterTokens}
use Rattle.html_tokens.specs.declared.sink.TokenSink.{Ghosts}
use Rattle.html_tokens.specs.Comments.{bogus_comment_after}
use Rattle.html_tokens.specs.Item.{Stand, Item, InData, longer, longer_by, Slight, Grave, unopened}
use Rattle.html_tokens.specs.Items.{item, opening, Opening, Letter, Slash, Mark, Question, Close, Other, open_by, end_at, end_by}
use Rattle.html_tokens.specs.Notes.{Notes, noting, noting_error}
use Rattle.html_tokens.specs.Reading.{line_number}
use Rattle.html_tokens.specs.Sink.{◌>>=◌, SinkLaws}
use Rattle.html_tokens.specs.Tags.{named, name_after}
use Rattle.html_tokenizer_parts.specs.declared.error_code.ErrorCode.{ErrorCode}
use Rattle.html_tokenizer.specs.declared.tokenizer.Tokenizer.{Tokenizer}
use Rattle.html_tokenizer.specs.Rest.{rows_of, standing, held_at}
use Rattle.html_tokenizer.specs.Steps.{IsAt, FallsAll, Falls, Emitted, Took, Keeps, Erred, owed_for, a_fault, reads, plays}
use Rattle.html_tokenizer.proofs.Steps.Lawful.{noting-lawful}
use Rattle.html_tokenizer.proofs.Steps.Readings.{reading-is, reading-char_as, sum-zero}
use Rattle.html_tokenizer.proofs.Steps.TokenEnds.{behind-one}
use Rattle.html_tokenizer.proofs.Steps.RefusedReadings.{keeps_failed, reading-refused, noting-errs}
use Rattle.html_tokenizer.proofs.Steps.Keeping.{Says, at, took, took_faulty, keeps_silent, keeps_told, at_erred, failed}
use Rattle.html_tokenizer.specs.Listeners.{listening}

-- WHAT A CHARACTER OPENS

is-letter : (c : ℕ) → is_ascii_alphabetic c ≡ true → opening c ≡ Letter
is-letter c e = rw e refl

-- what is no markup after "<"
pub data IsText (o : Opening) : Type 0 where
  close : o ≡ Close → IsText o
  other : o ≡ Other → IsText o

text-by : (c : ℕ) (closes : Bool) → nat_eq c 62 ≡ closes → is_ascii_alphabetic c ≡ false → nat_eq c 47 ≡ false
    → nat_eq c 33 ≡ false → nat_eq c 63 ≡ false → IsText (opening c)
text-by c true e l a b d = close (rw (l, a, b, d, e) refl)
text-by c false e l a b d = other (rw (l, a, b, d, e) refl)

open-text : (o : Opening) (cdata : Bool) (st : Stand) (c : ℕ) (t : List ℕ) → IsText o → open_by o cdata st c t ≡ unopened st
open-text o cdata st c t (close e) = rw e refl
open-text o cdata st c t (other e) = rw e refl

-- what stands after "</" but a letter and ">" begins a bogus comment
pub data Opens (c : ℕ) : Type 0 where
  slash : opening c ≡ Slash → Opens c
  mark : opening c ≡ Mark → Opens c
  question : opening c ≡ Question → Opens c
  any : opening c ≡ Other → Opens c

opens-by : (c : ℕ) (a b d : Bool) → nat_eq c 47 ≡ a → nat_eq c 33 ≡ b → nat_eq c 63 ≡ d
    → is_ascii_alphabetic c ≡ false → nat_eq c 62 ≡ false → Opens c
opens-by c true b d ea eb ed l e = slash (rw (l, ea) refl)
opens-by c false true d ea eb ed l e = mark (rw (l, ea, eb) refl)
opens-by c false false true ea eb ed l e = question (rw (l, ea, eb, ed) refl)
opens-by c false false false ea eb ed l e = any (rw (l, ea, eb, ed, e) refl)

end-opens : (c : ℕ) → Opens c → (st : Stand) (t : List ℕ) → end_by (opening c) st c t ≡ longer_by 2 (bogus_comment_after st [] (c ∷ t))
end-opens c (slash e) st t = rw e refl
end-opens c (mark e) st t = rw e refl
end-opens c (question e) st t = rw e refl
end-opens c (any e) st t = rw e refl

end-bogus : (c : ℕ) → is_ascii_alphabetic c ≡ false → nat_eq c 62 ≡ false → (st : Stand) (t : List ℕ)
    → end_at st (c ∷ t) ≡ longer_by 2 (bogus_comment_after st [] (c ∷ t))
end-bogus c l e st t = end-opens c (opens-by c (nat_eq c 47) (nat_eq c 33) (nat_eq c 63) refl refl refl l e) st t

module _ {K H : Type 0} (Sink : Ghosts K H) (laws : SinkLaws Sink.is_sound Sink.step Sink.ended Sink.is_quiet) where
  -- a reading at "<", by the item that stands there
  pub opened : (old : Tokenizer K) (b : ℕ) (s : Sink.State × Notes ℕ) (t : List ℕ) (j : Item) → item (rows_of old)
      (Sink.asks_cdata s.0) (standing old InData) 60 t ≡ longer j
      → reads Sink (rows_of old) (standing old InData) b s (60 ∷ t) ≡ plays Sink (rows_of old) j b s t
  opened old b s t j is = reading-is (listening Sink) (rows_of old) (standing old InData) b s 60 t j is
      ∙ ap (λ x. plays Sink (rows_of old) j x s t) (sum-zero b)

  same-reading : (old : Tokenizer K) (b : ℕ) (s : Sink.State × Notes ℕ) (u : List ℕ) → reads Sink (rows_of old)
      (standing old InData) b s u ≡ reads Sink (rows_of old) (standing old InData) (b + 0) s u
  same-reading old b s u = ap (λ x. reads Sink (rows_of old) (standing old InData) x s u) (sym (sum-zero b))

  -- "/" and "!" are held
  pub open-slash : (old : Tokenizer K) → IsAt old state.TagOpen → Sink.is_sound (Sink.view old.sink)
      → Took Sink old (record old { state = state.EndTagOpen }) 47 flow.Continue
  unfolding held_at
  open-slash old from ok = took Sink old (record old { state = state.EndTagOpen }) 47 state.TagOpen state.EndTagOpen
      from (record { state = refl; fresh = from.fresh }) refl refl ok (λ b s t. same-reading old b s (60 ∷ 47 ∷ t))

  pub open-mark : (old : Tokenizer K) (front : List ℕ) → IsAt old state.TagOpen → Sink.is_sound (Sink.view old.sink)
      → front ≡ [] → Took Sink old (record old { keyword = front; state = state.MarkupDeclarationOpen }) 33 flow.Continue
  unfolding held_at
  open-mark old front from ok is =
      rw is (took Sink old (record old { keyword = []; state = state.MarkupDeclarationOpen }) 33 state.TagOpen
      state.MarkupDeclarationOpen from (record { state = refl; fresh = from.fresh }) refl refl ok
      (λ b s t. same-reading old b s (60 ∷ 33 ∷ t)))

  -- a letter begins a tag's name
  pub open-letter : (old new : Tokenizer K) (c : ℕ) (tag : Tag) (result : Result (ProcessResult H) ParseFault)
      → IsAt old state.TagOpen → is_ascii_alphabetic c ≡ true → tag ≡ named StartTag []
      → Keeps Sink (record old { tag = tag; state = state.TagName }) new c result → Keeps Sink old new c result
  unfolding held_at
  open-letter old new c tag result from e is keeps =
      keeps_silent Sink old (record old { tag = tag; state = state.TagName }) new c state.TagOpen state.TagName
      result from (record { state = refl; fresh = from.fresh }) refl refl
      (λ b s t. rw is (opened old b s (c ∷ t) (name_after (standing old InData) (named StartTag []) (c ∷ t))
      (ap (λ o. open_by o (Sink.asks_cdata s.0) (standing old InData) c t) (is-letter c e))))
      keeps

  pub end-letter : (old new : Tokenizer K) (c : ℕ) (tag : Tag) (result : Result (ProcessResult H) ParseFault)
      → IsAt old state.EndTagOpen → is_ascii_alphabetic c ≡ true → tag ≡ named EndTag []
      → Keeps Sink (record old { tag = tag; state = state.TagName }) new c result → Keeps Sink old new c result
  unfolding held_at
  end-letter old new c tag result from e is keeps =
      keeps_silent Sink old (record old { tag = tag; state = state.TagName }) new c state.EndTagOpen state.TagName
      result from (record { state = refl; fresh = from.fresh }) refl refl
      (λ b s t. rw is (opened old b s (47 ∷ c ∷ t)
      (longer (name_after (standing old InData) (named EndTag []) (c ∷ t)))
      (ap (λ o. end_by o (standing old InData) c t) (is-letter c e))
      ∙ behind-one Sink laws old 47 refl (longer (name_after (standing old InData) (named EndTag []) (c ∷ t)))
      (name_after (standing old InData) (named EndTag []) (c ∷ t)) b s (c ∷ t) refl))
      keeps

  -- a bogus comment
  pub open-bogus : (fault : ErrorCode) (old new : Tokenizer K) (c : ℕ) (front : List ℕ)
      (result : Result (ProcessResult H) ParseFault) → IsAt old state.TagOpen → c ≡ 63 → front ≡ []
      → Keeps Sink (record old { comment = front; fault = fault; state = state.BogusComment }) new c result → Keeps Sink old new c result
  unfolding held_at
  open-bogus fault old new c front result from e is keeps =
      keeps_silent Sink old (record old { comment = front; fault = fault; state = state.BogusComment }) new c
      state.TagOpen state.BogusComment result from (record { state = refl; fresh = from.fresh }) refl refl
      (λ b s t. rw (is, e) (opened old b s (63 ∷ t) (bogus_comment_after (standing old InData) [] (63 ∷ t)) refl))
      keeps

  pub end-bogus_kept : (fault : ErrorCode) (old new : Tokenizer K) (c : ℕ) (front : List ℕ)
      (result : Result (ProcessResult H) ParseFault) → IsAt old state.EndTagOpen → is_ascii_alphabetic c ≡ false
      → nat_eq c 62 ≡ false → front ≡ []
      → Keeps Sink (record old { comment = front; fault = fault; state = state.BogusComment }) new c result → Keeps Sink old new c result
  unfolding held_at
  end-bogus_kept fault old new c front result from l e is keeps =
      keeps_silent Sink old (record old { comment = front; fault = fault; state = state.BogusComment }) new c
      state.EndTagOpen state.BogusComment result from (record { state = refl; fresh = from.fresh }) refl refl
      (λ b s t. rw is (opened old b s (47 ∷ c ∷ t) (longer (bogus_comment_after (standing old InData) [] (c ∷ t)))
      (end-bogus c l e (standing old InData) t)
      ∙ behind-one Sink laws old 47 refl (longer (bogus_comment_after (standing old InData) [] (c ∷ t)))
      (bogus_comment_after (standing old InData) [] (c ∷ t)) b s (c ∷ t) refl))
      keeps

  -- "<" is text
  open-says : (old : Tokenizer K) (c : ℕ) → IsText (opening c) → Says Sink state.TagOpen old c
      (owed_for (Some Slight)) (CharacterTokens (60 ∷ [])) (λ b s t. at Sink state.Data (record old { state = state.Data }) b s (c ∷ t))
  unfolding held_at
  open-says old c e b s h t =
      reading-char_as (λ p. Sink.is_sound p.0) (listening Sink) (rows_of old)
      (noting-lawful Sink.is_sound Sink.step Sink.ended Sink.is_quiet laws) (Some Slight) (standing old InData)
      (standing old InData) b s h 60 60 (c ∷ t) (line_number b)
      (open-text (opening c) (Sink.asks_cdata s.0) (standing old InData) c t e)
      ∙ ap (λ x. noting Sink.step Sink.is_quiet (noting_error Slight s) (CharacterTokens (60 ∷ [])) (line_number b)
      >>= λ p. reads Sink (rows_of old) (standing old InData) x p.0 (c ∷ t)) (sum-zero b)

  pub is-text : (c : ℕ) → is_ascii_alphabetic c ≡ false → nat_eq c 47 ≡ false → nat_eq c 33 ≡ false
      → nat_eq c 63 ≡ false → IsText (opening c)
  is-text c l a b d = text-by c (nat_eq c 62) refl l a b d

  pub open-text_kept : (old mid new : Tokenizer K) (c : ℕ) (result : Result (ProcessResult H) ParseFault)
      → IsAt old state.TagOpen → Sink.is_sound (Sink.view old.sink) → IsText (opening c)
      → Emitted Sink (owed_for (Some Slight)) (CharacterTokens (60 ∷ [])) old mid
      → Keeps Sink (record mid { state = state.Data }) new c result → Keeps Sink old new c result
  open-text_kept old mid new c result from ok e told keeps =
      keeps_told Sink old mid (record mid { state = state.Data }) new (record old { state = state.Data }) c
      state.TagOpen state.Data (CharacterTokens (60 ∷ [])) result from ok told
      (ap {A = Tokenizer K} (λ k. record k { state = state.Data }) told.changed)
      (record { state = refl; fresh = from.fresh }) refl (open-says old c e) keeps

  pub open-text_failed : (old new : Tokenizer K) (c : ℕ) (result : Result (ProcessResult H) ParseFault)
      (fault : ParseFault) → IsAt old state.TagOpen → Sink.is_sound (Sink.view old.sink) → IsText (opening c)
      → IsErrAnd result (λ y. y ≡ fault)
      → Falls Sink old.sink new.sink (Sink.step (Sink.view old.sink) (CharacterTokens (60 ∷ []))
      (line_number old.stream.breaks)) fault → Keeps Sink old new c result
  open-text_failed old new c result fault from ok e is fails = failed Sink (owed_for (Some Slight)) old new c
      state.TagOpen (CharacterTokens (60 ∷ [])) result fault _ from ok is fails (open-says old c e)

  -- "</>" gives nothing but an error
  pub end-nothing : (old mid : Tokenizer K) → IsAt old state.EndTagOpen → Sink.is_sound (Sink.view old.sink)
      → Erred Sink a_fault old mid → Keeps Sink old (record mid { state = state.Data }) 62 (Ok flow.Continue)
  unfolding held_at
  end-nothing old mid from ok h =
      let mid-at = at_erred Sink old mid state.EndTagOpen h from in
      let none : ℕ → Item = λ n. record { token = None; fault = Some Grave; len = n; next = standing old InData } in
      took_faulty Sink old mid (record mid { state = state.Data }) 62 state.EndTagOpen state.Data from
      (record { state = refl; fresh = mid-at.fresh }) ok h refl refl
      (λ b s t. opened old b s (47 ∷ 62 ∷ t) (none 2) refl
      ∙ behind-one Sink laws old 47 refl (none 2) (none 1) b s (62 ∷ t) refl
      ∙ behind-one Sink laws old 62 refl (none 1) (none 0) b s t refl
      ∙ ap (λ (k : Tokenizer K). reads Sink (rows_of k) (standing k InData) (b + 0) (noting_error Grave s) t) (sym h.changed))

  pub end-failed : (old new : Tokenizer K) (c : ℕ) (result : Result (ProcessResult H) ParseFault)
      (fault : ParseFault) → IsAt old state.EndTagOpen → IsErrAnd result (λ y. y ≡ fault)
      → FallsAll Sink old.sink new.sink fault → Keeps Sink old new c result
  unfolding held_at
  end-failed old new c result fault from is fails = keeps_failed Sink old new c state.EndTagOpen result fault from is fails
      (λ b s h t. reading-refused (listening Sink) (rows_of old) (noting-errs Sink) s h 0 (standing old InData) b (60 ∷ 47 ∷ c ∷ t))
