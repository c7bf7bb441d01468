-- CDATA sections.
use Rattle.std.proofs.Common.{◌≡◌, ◌∙◌, ℕ, ◌+◌, ◌<◌, Bool, false, nat_eq, List, [], ◌∷◌, ◌++◌, length, Some, Result, refl, sym}
use Rattle.std.proofs.Common.{ap, arith, append_assoc, append-nil}
use Rattle.std.specs.Prelude.{All}
use Rattle.std.proofs.lemmas.Bool.Decides.{nat_tests}
use Rattle.std.proofs.lemmas.List.Elements.{All-head, All-tail}
use Rattle.std.proofs.lemmas.Bool.{ne_eqb}
use Rattle.std.specs.Result.{IsErrAnd}
use Rattle.markup.specs.declared.fault.ParseFault.{ParseFault}
use Rattle.html_tokens.specs.declared.replies.ProcessResult.{ProcessResult}
use Rattle.html_tokens.specs.declared.replies.ProcessResult.TheVariants as flow
use Rattle.html_tokens.specs.declared.states.State.TheVariants as state
use Rattle.html_tokens.specs.declared.token.Token.TheVariants.{CharacterTokens, NullCharacterToken}
use Rattle.html_tokens.specs.declared.sink.TokenSink.{Ghosts}
use Rattle.html_tokens.specs.Notes.{Notes, noting, noting_error, noting_cdata, noting_end}
use Rattle.html_tokens.specs.Item.{Grave, InCdata, Stand, character}
use Rattle.html_tokens.specs.Items.{item}
use Rattle.html_tokens.specs.Reading.{◌>>=◌, line_number, line_break}
use Rattle.html_tokens.specs.Table.{Row}
use Rattle.html_tokens.specs.Sink.{SinkLaws}
use Rattle.html_tokens.proofs.Readings.{reading-item}
use Rattle.html_tokenizer.specs.declared.tokenizer.Tokenizer.{Tokenizer}
use Rattle.html_tokenizer.specs.Rest.{rows_of, standing, held_at}
use Rattle.html_tokenizer.specs.Steps.{IsAt, Falls, Emitted, TakesAs, Took, Keeps, nothing_owed, a_fault, reads}
use Rattle.html_tokenizer.proofs.Steps.Lawful.{noting-lawful}
use Rattle.html_tokenizer.proofs.Steps.Readings.{reading-char, sum-zero}
use Rattle.html_tokenizer.proofs.Steps.Runs.{reading-token, reading-text, reading-two, told-more}
use Rattle.html_tokenizer.proofs.Steps.Keeping.{Says, took, at}
use Rattle.html_tokenizer.proofs.Steps.Telling.{keeps_taken, keeps_then, not-told_from}
use Rattle.html_tokenizer.specs.Listeners.{emitted_text, listening}
use Rattle.html_tokenizer.specs.AheadRuns.{ends_run}
use Rattle.html_tokenizer.specs.declared.front_runs.RunKind.TheVariants.{CdataText, Brackets}
use Rattle.html_tokenizer.proofs.Text.Runs.{RunSays, place-says}

-- a character of a run of text is no NUL, no line feed and no "]"
cdata-plain : (c : ℕ) → ends_run CdataText c ≡ false → (nat_eq c 0 ≡ false) × (nat_eq c 10 ≡ false) × (nat_eq 93 c ≡ false)
cdata-plain c goes = (grind (arith, nat_tests, goes), grind (arith, nat_tests, goes), grind (arith, nat_tests, goes))

bracket-is : (c : ℕ) → ends_run Brackets c ≡ false → c ≡ 93
bracket-is c goes = grind (arith, nat_tests, goes)

module _ {K H : Type 0} (Sink : Ghosts K H) (laws : SinkLaws Sink.is_sound Sink.step Sink.ended Sink.is_quiet) where
  cdata-char : (old : Tokenizer K) (c : ℕ) → nat_eq 93 c ≡ false → nat_eq c 0 ≡ false
      → Says Sink state.CdataSection old c nothing_owed (CharacterTokens (c ∷ []))
      (λ b s t. at Sink state.CdataSection old (b + line_break (nat_eq c 10)) s t)
  unfolding held_at
  cdata-char old c f z b s h t =
      let here = standing old InCdata in
      reading-char (λ p. Sink.is_sound p.0) (listening Sink) (rows_of old)
      (noting-lawful Sink.is_sound Sink.step Sink.ended Sink.is_quiet laws) here here b s h c c t (line_number b) (rw (f, z) refl)

  cdata-null : (old : Tokenizer K) → Says Sink state.CdataSection old 0 a_fault NullCharacterToken
      (λ b s t. at Sink state.CdataSection old (b + line_break (nat_eq 0 10)) s t)
  unfolding held_at
  cdata-null old b s h t =
      let here = standing old InCdata in
      reading-token (λ p. Sink.is_sound p.0) (listening Sink) (rows_of old)
      (noting-lawful Sink.is_sound Sink.step Sink.ended Sink.is_quiet laws) (Some Grave) here here b s h 0 t
      NullCharacterToken tt refl refl

  -- a character of text was taken
  pub cdata-kept : (old new : Tokenizer K) (c : ℕ) (result : Result (ProcessResult H) ParseFault)
      → IsAt old state.CdataSection → Sink.is_sound (Sink.view old.sink) → (c ≡ 93 → ⊥) → (c ≡ 0 → ⊥)
      → TakesAs Sink nothing_owed (CharacterTokens (c ∷ [])) old new result → Keeps Sink old new c result
  cdata-kept old new c result from ok f z told = keeps_taken Sink nothing_owed old old new c state.CdataSection
      state.CdataSection (CharacterTokens (c ∷ [])) result from from refl refl ok told
      (cdata-char old c (ne_eqb 93 c (λ e. f (sym e))) (ne_eqb c 0 z))

  -- U+0000 was handed out
  pub cdata-null_kept : (old new : Tokenizer K) (c : ℕ) (result : Result (ProcessResult H) ParseFault)
      → IsAt old state.CdataSection → Sink.is_sound (Sink.view old.sink) → c ≡ 0
      → TakesAs Sink a_fault NullCharacterToken old new result → Keeps Sink old new c result
  cdata-null_kept old new c result from ok z told =
      rw z (keeps_taken Sink a_fault old old new 0 state.CdataSection state.CdataSection NullCharacterToken result
      from from refl refl ok told (cdata-null old))

  -- "]" was taken, which is held
  pub cdata-bracket : (old : Tokenizer K) (c : ℕ) → IsAt old state.CdataSection → Sink.is_sound (Sink.view old.sink)
      → c ≡ 93 → Took Sink old (record old { state = state.CdataSectionBracket }) c flow.Continue
  unfolding held_at
  cdata-bracket old c from ok e =
      rw e (took Sink old (record old { state = state.CdataSectionBracket }) 93 state.CdataSection
      state.CdataSectionBracket from (record { state = refl; fresh = from.fresh }) refl refl ok
      (λ b s t. ap (λ n. reads Sink (rows_of old) (standing old InCdata) n s (93 ∷ t)) (sym (sum-zero b))))

  pub cdata-brackets : (old : Tokenizer K) (c : ℕ) → IsAt old state.CdataSectionBracket
      → Sink.is_sound (Sink.view old.sink) → c ≡ 93 → Took Sink old (record old { state = state.CdataSectionEnd }) c flow.Continue
  unfolding held_at
  cdata-brackets old c from ok e =
      rw e (took Sink old (record old { state = state.CdataSectionEnd }) 93 state.CdataSectionBracket
      state.CdataSectionEnd from (record { state = refl; fresh = from.fresh }) refl refl ok
      (λ b s t. ap (λ n. reads Sink (rows_of old) (standing old InCdata) n s (93 ∷ 93 ∷ t)) (sym (sum-zero b))))

  -- "]" was text
  bracket-says : (old : Tokenizer K) (c : ℕ) → nat_eq 93 c ≡ false → Says Sink state.CdataSectionBracket old c
      nothing_owed (CharacterTokens (93 ∷ [])) (λ b s t. at Sink state.CdataSection (record old { state = state.CdataSection }) b s (c ∷ t))
  unfolding held_at
  bracket-says old c f b s h t =
      let here = standing old InCdata in
      reading-text (λ p. Sink.is_sound p.0) (listening Sink) (rows_of old)
      (noting-lawful Sink.is_sound Sink.step Sink.ended Sink.is_quiet laws) here here b s h 93 (c ∷ t) (line_number b) refl (rw f refl)

  pub bracket-kept : (old mid new : Tokenizer K) (c : ℕ) (result : Result (ProcessResult H) ParseFault)
      → IsAt old state.CdataSectionBracket → Sink.is_sound (Sink.view old.sink) → (c ≡ 93 → ⊥)
      → Emitted Sink nothing_owed (CharacterTokens (93 ∷ [])) (record old { state = state.CdataSection }) mid
      → Keeps Sink mid new c result → Keeps Sink old new c result
  bracket-kept old mid new c result from ok f told h = keeps_then Sink old
      (record old { state = state.CdataSection }) mid new c state.CdataSectionBracket state.CdataSection
      (CharacterTokens (93 ∷ [])) result from (record { state = refl; fresh = from.fresh }) refl refl ok told
      (bracket-says old c (ne_eqb 93 c (λ e. f (sym e)))) h

  pub bracket-failed : (old new : Tokenizer K) (c : ℕ) (result : Result (ProcessResult H) ParseFault)
      (fault : ParseFault) → IsAt old state.CdataSectionBracket → Sink.is_sound (Sink.view old.sink) → (c ≡ 93 → ⊥)
      → IsErrAnd result (λ y. y ≡ fault)
      → Falls Sink old.sink new.sink (Sink.step (Sink.view old.sink) (CharacterTokens (93 ∷ []))
      (line_number old.stream.breaks)) fault → Keeps Sink old new c result
  bracket-failed old new c result fault from ok f is fails = not-told_from Sink nothing_owed old old new c
      state.CdataSectionBracket (CharacterTokens (93 ∷ [])) result fault _ from refl refl ok is fails
      (bracket-says old c (ne_eqb 93 c (λ e. f (sym e))))

  -- "]]" was text
  brackets-says : (old : Tokenizer K) (c : ℕ) → nat_eq 93 c ≡ false → nat_eq 62 c ≡ false
      → Says Sink state.CdataSectionEnd old c nothing_owed (CharacterTokens (93 ∷ 93 ∷ []))
      (λ b s t. at Sink state.CdataSection (record old { state = state.CdataSection }) b s (c ∷ t))
  unfolding held_at
  brackets-says old c f g b s h t =
      let here = standing old InCdata in
      reading-two (λ p. Sink.is_sound p.0) (listening Sink) (rows_of old)
      (noting-lawful Sink.is_sound Sink.step Sink.ended Sink.is_quiet laws) here here here b s h 93 93 (c ∷ t)
      (line_number b) refl refl (λ x. rw g refl) (λ x. rw f refl)

  pub brackets-kept : (old mid new : Tokenizer K) (c : ℕ) (result : Result (ProcessResult H) ParseFault)
      → IsAt old state.CdataSectionEnd → Sink.is_sound (Sink.view old.sink) → (c ≡ 93 → ⊥) → (c ≡ 62 → ⊥)
      → Emitted Sink nothing_owed (CharacterTokens (93 ∷ 93 ∷ [])) (record old { state = state.CdataSection }) mid
      → Keeps Sink mid new c result → Keeps Sink old new c result
  brackets-kept old mid new c result from ok f g told h = keeps_then Sink old
      (record old { state = state.CdataSection }) mid new c state.CdataSectionEnd state.CdataSection
      (CharacterTokens (93 ∷ 93 ∷ [])) result from (record { state = refl; fresh = from.fresh }) refl refl ok told
      (brackets-says old c (ne_eqb 93 c (λ e. f (sym e))) (ne_eqb 62 c (λ e. g (sym e)))) h

  pub brackets-failed : (old new : Tokenizer K) (c : ℕ) (result : Result (ProcessResult H) ParseFault)
      (fault : ParseFault) → IsAt old state.CdataSectionEnd → Sink.is_sound (Sink.view old.sink) → (c ≡ 93 → ⊥)
      → (c ≡ 62 → ⊥) → IsErrAnd result (λ y. y ≡ fault)
      → Falls Sink old.sink new.sink (Sink.step (Sink.view old.sink) (CharacterTokens (93 ∷ 93 ∷ []))
      (line_number old.stream.breaks)) fault → Keeps Sink old new c result
  brackets-failed old new c result fault from ok f g is fails = not-told_from Sink nothing_owed old old new c
      state.CdataSectionEnd (CharacterTokens (93 ∷ 93 ∷ [])) result fault _ from refl refl ok is fails
      (brackets-says old c (ne_eqb 93 c (λ e. f (sym e))) (ne_eqb 62 c (λ e. g (sym e))))

  -- of "]]]" the first was text
  more-says : (old : Tokenizer K) → Says Sink state.CdataSectionEnd old 93 nothing_owed (CharacterTokens (93 ∷ []))
      (λ b s t. at Sink state.CdataSectionEnd old (b + line_break (nat_eq 93 10)) s t)
  unfolding held_at
  more-says old b s h t =
      let here = standing old InCdata in
      reading-char (λ p. Sink.is_sound p.0) (listening Sink) (rows_of old)
      (noting-lawful Sink.is_sound Sink.step Sink.ended Sink.is_quiet laws) here here b s h 93 93 (93 ∷ 93 ∷ t) (line_number b) refl

  pub more-kept : (old new : Tokenizer K) (c : ℕ) (result : Result (ProcessResult H) ParseFault)
      → IsAt old state.CdataSectionEnd → Sink.is_sound (Sink.view old.sink) → c ≡ 93 → TakesAs Sink nothing_owed
      (CharacterTokens (93 ∷ [])) old new result → Keeps Sink old new c result
  more-kept old new c result from ok e told =
      rw e (keeps_taken Sink nothing_owed old old new 93 state.CdataSectionEnd state.CdataSectionEnd
      (CharacterTokens (93 ∷ [])) result from from refl refl ok told (more-says old))

  -- "]]>" ends the section
  pub cdata-ended : (old : Tokenizer K) (c : ℕ) → IsAt old state.CdataSectionEnd
      → Sink.is_sound (Sink.view old.sink) → c ≡ 62 → Took Sink old (record old { state = state.Data }) c flow.Continue
  unfolding held_at
  cdata-ended old c from ok e =
      rw e (took Sink old (record old { state = state.Data }) 62 state.CdataSectionEnd state.Data from
      (record { state = refl; fresh = from.fresh }) refl refl ok
      (λ b s t. reading-item (noting Sink.step Sink.is_quiet) noting_error (noting_cdata Sink.asks_cdata)
      (noting_end Sink.ended) (rows_of old) (standing old InCdata) b s 93 (93 ∷ 62 ∷ t)))

  -- RUNS

  -- text is told as one, as far as it has no "]", no NUL and no line end
  pub cdata-text_says : (old : Tokenizer K) (run : List ℕ) → 0 < length run
      → All (λ c. ends_run CdataText c ≡ false) run → RunSays Sink state.CdataSection old run
  unfolding held_at
  cdata-text_says old run filled lacking =
      place-says Sink laws old InCdata (ends_run CdataText) run (λ c goes. (cdata-plain c goes).1) filled lacking
      (λ c goes x t. let p = cdata-plain c goes in rw (p.2, p.0) refl)

  -- of "]" after "]]" as many are told as one text
  brackets-more : (st : Stand) (rows : List Row)
      → ((x : Bool) (t : List ℕ) → item rows x st 93 (93 ∷ 93 ∷ t) ≡ character 93 st)
      → (b : ℕ) (s : Sink.State × Notes ℕ) → Sink.is_sound s.0 → (front run t : List ℕ) (l : ℕ) → All (λ c. ends_run Brackets c ≡ false) run
      → (noting Sink.step Sink.is_quiet s (CharacterTokens front) l >>= λ p. emitted_text (listening Sink) rows st b
      p.0 (93 ∷ 93 ∷ (run ++ t)))
      ≡ (noting Sink.step Sink.is_quiet s (CharacterTokens (front ++ run)) l >>= λ p. emitted_text (listening Sink)
      rows st b p.0 (93 ∷ 93 ∷ t))
  brackets-more st rows plain b s h front [] t l are =
      ap (λ a. noting Sink.step Sink.is_quiet s (CharacterTokens a) l >>= λ p. emitted_text (listening Sink) rows st
      b p.0 (93 ∷ 93 ∷ t)) (sym (append-nil front))
  brackets-more st rows plain b s h front (c ∷ run) t l are =
      let lawful = noting-lawful Sink.is_sound Sink.step Sink.ended Sink.is_quiet laws in
      let is : c ≡ 93 = bracket-is c (All-head (λ c. ends_run Brackets c ≡ false) c run are) in
      rw is (
      told-more (λ p. Sink.is_sound p.0) (listening Sink) rows lawful st st b s h front 93 (93 ∷ 93 ∷ (run ++ t)) l
      (λ s h. reading-text (λ p. Sink.is_sound p.0) (listening Sink) rows lawful st st b s h 93
      (93 ∷ 93 ∷ (run ++ t)) l refl (plain (Sink.asks_cdata s.0) (run ++ t)))
      ∙ brackets-more st rows plain b s h (front ++ 93 ∷ []) run t l (All-tail (λ c. ends_run Brackets c ≡ false) c run are)
      ∙ ap (λ a. noting Sink.step Sink.is_quiet s (CharacterTokens a) l >>= λ p. emitted_text (listening Sink) rows
      st b p.0 (93 ∷ 93 ∷ t)) (append_assoc front (93 ∷ []) run))

  pub brackets-run_says : (old : Tokenizer K) (run : List ℕ) → 0 < length run
      → All (λ c. ends_run Brackets c ≡ false) run → RunSays Sink state.CdataSectionEnd old run
  unfolding held_at
  brackets-run_says old [] filled are b s h t = absurd (omega (arith, filled))
  brackets-run_says old (c ∷ run) filled are b s h t =
      let lawful = noting-lawful Sink.is_sound Sink.step Sink.ended Sink.is_quiet laws in
      let here = standing old InCdata in
      let is : c ≡ 93 = bracket-is c (All-head (λ c. ends_run Brackets c ≡ false) c run are) in
      rw is (
      reading-text (λ p. Sink.is_sound p.0) (listening Sink) (rows_of old) lawful here here b s h 93
      (93 ∷ 93 ∷ (run ++ t)) (line_number b) refl refl
      ∙ brackets-more here (rows_of old) (λ x t. refl) b s h (93 ∷ []) run t (line_number b)
      (All-tail (λ c. ends_run Brackets c ≡ false) c run are))
