-- The end of the input in text, and after what may begin markup in it.
use Rattle.std.proofs.Common.{◌≡◌, ◌∙◌, ℕ, Bool, true, false, nat_eq, List, [], ◌∷◌, ◌++◌, Option, Some, None, Result, refl, ap}
use Rattle.std.proofs.Common.{append-nil, subst, Err, sym, codes}
use Rattle.std.specs.Prelude.{◌&&◌, map}
use Rattle.std.specs.Char.{to_ascii_lowercase, is_ascii_alphabetic}
use Rattle.std.specs.List.{list_all}
use Rattle.markup.specs.declared.fault.ParseFault.{ParseFault}
use Rattle.html_tokens.specs.declared.states.RawKind.{RawKind}
use Rattle.html_tokens.specs.declared.states.RawKind.TheVariants as raw
use Rattle.html_tokens.specs.declared.states.ScriptEscapeKind.TheVariants as script
use Rattle.html_tokens.specs.declared.states.State.{State}
use Rattle.html_tokens.specs.declared.states.State.TheVariants as state
use Rattle.html_tokens.specs.declared.token.Token.TheVariants.{CharacterTokens}
use Rattle.html_tokens.specs.Characters.{begins_by, begins_name}
use Rattle.html_tokens.specs.Item.{InCdata, InData, InRaw, character, Grave, Slight, grave_if, slight_if, is_escaped_kind}
use Rattle.html_tokens.specs.Items.{item}
use Rattle.html_tokens.specs.Notes.{Notes, noting, noting_error}
use Rattle.html_tokens.specs.RawText.{is_letters, is_fitting_end, ends_at_tag, next_kind}
use Rattle.html_tokens.specs.Reading.{◌>>=◌, line_number, reading_from, erred_by}
use Rattle.html_tokens.specs.Sink.{SinkLaws}
use Rattle.html_tokenizer.specs.Calls.{at_end, Closes}
use Rattle.html_tokenizer.specs.EndText.{is_emitted_text, is_escaped}
use Rattle.html_tokenizer.specs.declared.tokenizer.Tokenizer.{Tokenizer}
use Rattle.html_tokenizer.specs.Rest.{rows_of, standing, held_at}
use Rattle.html_tokenizer_parts.specs.Words.{kind_after}
use Rattle.html_tokenizer.specs.Steps.{IsAt, Emitted, Tells, Errs, owed_for, nothing_owed, a_fault, reads}
use Rattle.html_tokenizer.proofs.EndOfInput.Keeping.{OnlyEnds, TellsLast, TellsThen, closes_told, closes_errs, closes_untold, closes_then}
use Rattle.html_tokenizer.proofs.Steps.Lawful.{noting-lawful}
use Rattle.html_tokenizer_parts.proofs.RawKinds.{and-none, double_escaped, letter-no_end, kind_after-letters}
use Rattle.html_tokenizer.proofs.RawText.Names.{end_tag-run}
use Rattle.html_tokenizer.proofs.Steps.Runs.{reading-token, reading-text, reading-two, told-more}
use Rattle.html_tokenizer.proofs.Steps.Readings.{sum-zero}
use Rattle.html_tokenizer.proofs.Errors.Rises.{IsNoMore, slight-no-more, slight-less, no-more-same}
use Rattle.html_tokenizer_parts.proofs.Words.{and_parts}
use Rattle.html_tokens.specs.declared.states.ScriptEscapeKind.{ScriptEscapeKind}
use Rattle.html_tokens.specs.declared.sink.TokenSink.{Ghosts}
use Rattle.std.specs.Result.{IsErrAnd}
use Rattle.html_tokenizer.specs.Listeners.{listening}

-- what does not begin so after a character does not before it
begins_by-none : (same : Bool) (go : Unit {0} → Bool) → go tt ≡ false → begins_by same go ≡ false
begins_by-none true go h = h
begins_by-none false go h = refl

-- no letters are a whole name, as nothing ends it
letters-no_name : (name word : List ℕ) → list_all is_ascii_alphabetic word ≡ true → begins_name name word ≡ false
letters-no_name [] [] h = refl
letters-no_name [] (c ∷ word) h = letter-no_end c (and_parts _ _ h).0
letters-no_name (n ∷ name) [] h = refl
letters-no_name (n ∷ name) (c ∷ word) h = begins_by-none (nat_eq n (to_ascii_lowercase c))
    (λ _. begins_name name word) (letters-no_name name word (and_parts _ _ h).1)

-- so no end tag fits that ends with its name
unfit-last : (last : Option (List ℕ)) (word : List ℕ) → list_all is_ascii_alphabetic word ≡ true → is_fitting_end last (47 ∷ word) ≡ false
unfit-last None word h = refl
unfit-last (Some name) word h = rw (letters-no_name (map to_ascii_lowercase name) word h) (and-none (is_letters name))

-- nor where nothing follows
unfit-nothing : (last : Option (List ℕ)) → is_fitting_end last [] ≡ false
unfit-nothing None = refl
unfit-nothing (Some name) = and-none (is_letters name)

open-word : (word : List ℕ) → list_all is_ascii_alphabetic word ≡ true
    → next_kind (raw.ScriptDataEscaped script.Escaped) 60 (word ++ []) ≡ raw.ScriptDataEscaped script.Escaped
open-word word h = rw (append-nil word, letters-no_name (codes "script") word h) refl

slash-word : (word : List ℕ) → list_all is_ascii_alphabetic word ≡ true
    → next_kind (next_kind (raw.ScriptDataEscaped script.DoubleEscaped) 60 (47 ∷ (word ++ []))) 47
    (word ++ []) ≡ raw.ScriptDataEscaped script.DoubleEscaped
slash-word word h = rw (append-nil word, letters-no_name (codes "script") word h) refl

-- nothing that ends begins after "</" and a word
slash-behind : (kind : RawKind) (word : List ℕ) → list_all is_ascii_alphabetic word ≡ true
    → next_kind (next_kind kind 60 (47 ∷ (word ++ []))) 47 (word ++ []) ≡ kind
slash-behind raw.Rcdata word h = refl
slash-behind raw.Rawtext word h = refl
slash-behind raw.ScriptData word h = refl
slash-behind (raw.ScriptDataEscaped script.Escaped) word h = refl
slash-behind (raw.ScriptDataEscaped script.DoubleEscaped) word h = slash-word word h

-- a word after "<" does not change how a script's text is escaped, while nothing follows it
word-kind : (word : List ℕ) → list_all is_ascii_alphabetic word ≡ true
    → kind_after (raw.ScriptDataEscaped script.Escaped) (60 ∷ word) [] ≡ raw.ScriptDataEscaped script.Escaped
word-kind word h = kind_after-letters (next_kind (raw.ScriptDataEscaped script.Escaped) 60 (word ++ [])) word [] h ∙ open-word word h

-- nor does one after "</"
slash-kind : (word : List ℕ) → list_all is_ascii_alphabetic word ≡ true
    → kind_after (raw.ScriptDataEscaped script.DoubleEscaped) (60 ∷ 47 ∷ word) [] ≡ raw.ScriptDataEscaped script.DoubleEscaped
slash-kind word h = kind_after-letters
    (next_kind (next_kind (raw.ScriptDataEscaped script.DoubleEscaped) 60 (47 ∷ (word ++ []))) 47 (word ++ [])) word
    [] h ∙ slash-word word h

module _ {K H : Type 0} (Sink : Ghosts K H) where
  -- where a script's text is so escaped
  ends-as : (k : Tokenizer K) (kind : RawKind) (escaped : ScriptEscapeKind) (b : ℕ) (s : Sink.State × Notes ℕ)
      → kind ≡ raw.ScriptDataEscaped escaped
      → reads Sink (rows_of k) (standing k (InRaw kind)) b s [] ≡ at_end Sink b (noting_error Slight s)
  unfolding reading_from
  ends-as k kind escaped b s e = rw e refl

  dash-ends : (k : Tokenizer K) (kind : ScriptEscapeKind) → OnlyEnds Sink (Some Slight) (state.ScriptDataEscapedDash kind) k
  unfolding held_at reading_from
  dash-ends k script.Escaped b s = refl
  dash-ends k script.DoubleEscaped b s = refl

  dashes-ends : (k : Tokenizer K) (kind : ScriptEscapeKind) → OnlyEnds Sink (Some Slight) (state.ScriptDataEscapedDashDash kind) k
  unfolding held_at reading_from
  dashes-ends k script.Escaped b s = refl
  dashes-ends k script.DoubleEscaped b s = refl

  -- in a state of told text nothing is to come but the end, after what is slight where a script's text is escaped
  told-ends : (st : State) → is_emitted_text st ≡ true → (k : Tokenizer K)
      → list_all is_ascii_alphabetic k.word ≡ true → OnlyEnds Sink (slight_if (is_escaped st)) st k
  unfolding held_at reading_from
  told-ends state.Data h k w b s = refl
  told-ends state.Plaintext h k w b s = refl
  told-ends (state.RawData kind) h k w b s = refl
  told-ends (state.ScriptDataEscapeStart script.Escaped) h k w b s = refl
  told-ends (state.ScriptDataEscapeStart script.DoubleEscaped) h k w b s =
      ends-as k (kind_after (raw.ScriptDataEscaped script.Escaped) (60 ∷ k.word) []) script.Escaped b s (word-kind k.word w)
  told-ends state.ScriptDataEscapeStartDash h k w b s = refl
  told-ends (state.ScriptDataEscapedDash kind) h k w b s = dash-ends k kind b s
  told-ends (state.ScriptDataEscapedDashDash kind) h k w b s = dashes-ends k kind b s
  told-ends state.ScriptDataDoubleEscapeEnd h k w b s =
      ends-as k (kind_after (raw.ScriptDataEscaped script.DoubleEscaped) (60 ∷ 47 ∷ k.word) []) script.DoubleEscaped
      b s (slash-kind k.word w)
  told-ends _ h k w b s = absurd cc

  -- nothing is held of text
  pub told-closes : (old new : Tokenizer K) (result : Result (Unit {0}) ParseFault)
      → is_emitted_text old.state ≡ true → old.char_ref ≡ None → Sink.is_sound (Sink.view old.sink)
      → list_all is_ascii_alphabetic old.word ≡ true → Errs Sink (owed_for (grave_if (is_escaped old.state))) old
      new result → Closes Sink old new result
  told-closes old new result h fresh ok w errs = closes_errs Sink (slight_if (is_escaped old.state))
      (owed_for (grave_if (is_escaped old.state))) old new old.state result (slight-less (is_escaped old.state))
      (record { state = refl; fresh = fresh }) ok (told-ends old.state h old w) errs

  -- in text that is escaped twice "<" was told
  deep-ends : (k : Tokenizer K) → OnlyEnds Sink (Some Slight) (state.RawLessThanSign (raw.ScriptDataEscaped script.DoubleEscaped)) k
  unfolding held_at reading_from
  deep-ends k b s = refl

  -- so nothing is held there
  pub deep-closes : (old new : Tokenizer K) (kind : RawKind) (result : Result (Unit {0}) ParseFault)
      → IsAt old (state.RawLessThanSign kind) → ends_at_tag kind ≡ false → Sink.is_sound (Sink.view old.sink)
      → Errs Sink (owed_for (grave_if (is_escaped old.state))) old new result → Closes Sink old new result
  deep-closes old new kind result from e ok errs =
      let at-deep : IsAt old (state.RawLessThanSign (raw.ScriptDataEscaped script.DoubleEscaped)) = rw (double_escaped kind e) at from in
      closes_errs Sink (Some Slight) (owed_for (grave_if (is_escaped old.state))) old new
      (state.RawLessThanSign (raw.ScriptDataEscaped script.DoubleEscaped)) result
      (subst (λ b. IsNoMore (owed_for (Some Slight)) (owed_for (grave_if b))) (sym (ap is_escaped at-deep.state))
      slight-no-more) at-deep ok (deep-ends old) errs

  -- in a CDATA section nothing is to come but the end, which cuts it off
  cdata-ends : (k : Tokenizer K) → OnlyEnds Sink (Some Grave) state.CdataSection k
  unfolding held_at reading_from
  cdata-ends k b s = refl

  -- a section that does not end is an error
  pub cdata-closes : (old new : Tokenizer K) (result : Result (Unit {0}) ParseFault) → IsAt old state.CdataSection
      → Sink.is_sound (Sink.view old.sink) → Errs Sink a_fault old new result → Closes Sink old new result
  cdata-closes old new result from ok h = closes_errs Sink (Some Grave) a_fault old new state.CdataSection result
      (no-more-same a_fault) from ok (cdata-ends old) h

module _ {K H : Type 0} (Sink : Ghosts K H) (laws : SinkLaws Sink.is_sound Sink.step Sink.ended Sink.is_quiet) where
  -- after "<" that is to come, and then the end
  open-last : (k : Tokenizer K) → TellsLast Sink state.TagOpen k (owed_for (Some Slight)) (CharacterTokens (60 ∷ []))
  unfolding held_at reading_from
  open-last k b s h =
      let here = standing k InData in
      reading-token (λ p. Sink.is_sound p.0) (listening Sink) (rows_of k)
      (noting-lawful Sink.is_sound Sink.step Sink.ended Sink.is_quiet laws) (Some Slight) here here b s h 60 []
      (CharacterTokens (60 ∷ [])) tt refl refl
      ∙ ap (λ n. noting Sink.step Sink.is_quiet (noting_error Slight s) (CharacterTokens (60 ∷ [])) (line_number b)
      >>= λ p. at_end Sink n p.0) (sum-zero b)

  -- "<" was text
  pub open-closes : (old new : Tokenizer K) (result : Result (Unit {0}) ParseFault) → IsAt old state.TagOpen
      → Sink.is_sound (Sink.view old.sink) → Tells Sink (owed_for (Some Slight)) (CharacterTokens (60 ∷ [])) old new
      result → Closes Sink old new result
  open-closes old new result from ok told = closes_told Sink (owed_for (Some Slight)) old new state.TagOpen
      (CharacterTokens (60 ∷ [])) result from ok (open-last old) told

  -- after "</" those are to come, and then the end
  end_open-last : (k : Tokenizer K) → TellsLast Sink state.EndTagOpen k (owed_for (Some Slight)) (CharacterTokens (60 ∷ 47 ∷ []))
  unfolding held_at reading_from
  end_open-last k b s h =
      let here = standing k InData in
      let lawful = noting-lawful Sink.is_sound Sink.step Sink.ended Sink.is_quiet laws in
      reading-token (λ p. Sink.is_sound p.0) (listening Sink) (rows_of k) lawful (Some Slight) here here b s h 60
      (47 ∷ []) (CharacterTokens (60 ∷ [])) tt refl refl
      ∙ ap (λ n. noting Sink.step Sink.is_quiet (noting_error Slight s) (CharacterTokens (60 ∷ [])) (line_number b)
      >>= λ p. reads Sink (rows_of k) here n p.0 (47 ∷ [])) (sum-zero b)
      ∙ told-more (λ p. Sink.is_sound p.0) (listening Sink) (rows_of k) lawful here here b (noting_error Slight s) h
      (60 ∷ []) 47 [] (line_number b)
      (λ q g. reading-text (λ p. Sink.is_sound p.0) (listening Sink) (rows_of k) lawful here here b q g 47 [] (line_number b) refl refl)

  -- "</" was text
  pub end_open-closes : (old new : Tokenizer K) (result : Result (Unit {0}) ParseFault) → IsAt old state.EndTagOpen
      → Sink.is_sound (Sink.view old.sink) → Tells Sink (owed_for (Some Slight)) (CharacterTokens (60 ∷ 47 ∷ []))
      old new result → Closes Sink old new result
  end_open-closes old new result from ok told = closes_told Sink (owed_for (Some Slight)) old new state.EndTagOpen
      (CharacterTokens (60 ∷ 47 ∷ [])) result from ok (end_open-last old) told

  -- "<" in raw text is read as text
  raw_open-item : (k : Tokenizer K) (kind : RawKind) (x : Bool) → ends_at_tag kind ≡ true → item (rows_of k) x
      (standing k (InRaw kind)) 60 [] ≡ character 60 (standing k (InRaw kind))
  raw_open-item k raw.Rcdata x e = rw (unfit-nothing k.raw_end.name) refl
  raw_open-item k raw.Rawtext x e = rw (unfit-nothing k.raw_end.name) refl
  raw_open-item k raw.ScriptData x e = rw (unfit-nothing k.raw_end.name) refl
  raw_open-item k (raw.ScriptDataEscaped script.Escaped) x e = rw (unfit-nothing k.raw_end.name) refl
  raw_open-item k (raw.ScriptDataEscaped script.DoubleEscaped) x e = absurd cc

  -- so it is to come, and then the end
  -- what the end of a script's escaped text owes is no more than its error
  escaped-less : (old mid : Tokenizer K) (st : State) → IsAt old st → mid ≡ record old { sink = mid.sink }
      → IsNoMore (owed_for (slight_if (is_escaped st))) (owed_for (grave_if (is_escaped mid.state)))
  escaped-less old mid st from changed =
      subst (λ x. IsNoMore (owed_for (slight_if (is_escaped st))) (owed_for (grave_if (is_escaped x))))
      (sym (ap (λ (k : Tokenizer K). k.state) changed ∙ from.state)) (slight-less (is_escaped st))

  raw_open-read : (k : Tokenizer K) (kind : RawKind) (b : ℕ) (s : Sink.State × Notes ℕ) → Sink.is_sound s.0 → ends_at_tag kind ≡ true
      → reads Sink (rows_of k) (standing k (InRaw kind)) b s
      (60 ∷ []) ≡ (noting Sink.step Sink.is_quiet s (CharacterTokens (60 ∷ [])) (line_number b)
      >>= λ p. at_end Sink b (erred_by noting_error (slight_if (is_escaped_kind kind)) p.0))
  unfolding reading_from
  raw_open-read k kind b s h e =
      let here = standing k (InRaw kind) in
      reading-text (λ p. Sink.is_sound p.0) (listening Sink) (rows_of k)
      (noting-lawful Sink.is_sound Sink.step Sink.ended Sink.is_quiet laws) here here b s h 60 []
      (line_number b) refl (raw_open-item k kind (Sink.asks_cdata s.0) e)

  -- the same by the state after it
  raw_open-last : (k : Tokenizer K) (kind : RawKind) → ends_at_tag kind ≡ true
      → TellsThen Sink (slight_if (is_escaped_kind kind)) (state.RawLessThanSign kind) k (CharacterTokens (60 ∷ []))
  unfolding held_at
  raw_open-last k raw.Rcdata e b s h = raw_open-read k raw.Rcdata b s h e
  raw_open-last k raw.Rawtext e b s h = raw_open-read k raw.Rawtext b s h e
  raw_open-last k raw.ScriptData e b s h = raw_open-read k raw.ScriptData b s h e
  raw_open-last k (raw.ScriptDataEscaped script.Escaped) e b s h = raw_open-read k (raw.ScriptDataEscaped script.Escaped) b s h e
  raw_open-last k (raw.ScriptDataEscaped script.DoubleEscaped) e b s h = absurd cc

  -- "<" was text
  pub raw_open-closes : (old mid new : Tokenizer K) (kind : RawKind) (result : Result (Unit {0}) ParseFault)
      → IsAt old (state.RawLessThanSign kind) → Sink.is_sound (Sink.view old.sink) → ends_at_tag kind ≡ true
      → Emitted Sink nothing_owed (CharacterTokens (60 ∷ [])) old mid
      → Errs Sink (owed_for (grave_if (is_escaped mid.state))) mid new result → Closes Sink old new result
  raw_open-closes old mid new kind result from ok e told errs = closes_then Sink (slight_if (is_escaped_kind kind))
      (owed_for (grave_if (is_escaped mid.state))) old mid new (state.RawLessThanSign kind)
      (CharacterTokens (60 ∷ [])) result (escaped-less old mid (state.RawLessThanSign kind) from told.changed) from
      ok (raw_open-last old kind e) told errs

  pub raw_open-untold : (old new : Tokenizer K) (kind : RawKind) (told : ParseFault)
      (result : Result (Unit {0}) ParseFault) → IsAt old (state.RawLessThanSign kind)
      → Sink.is_sound (Sink.view old.sink) → ends_at_tag kind ≡ true → Tells Sink nothing_owed
      (CharacterTokens (60 ∷ [])) old new (Err told) → IsErrAnd result (λ y. y ≡ told) → Closes Sink old new result
  raw_open-untold old new kind told result from ok e fails is = closes_untold Sink
      (slight_if (is_escaped_kind kind)) old new (state.RawLessThanSign kind) (CharacterTokens (60 ∷ [])) told
      result from ok (raw_open-last old kind e) fails is

  -- "</" and letters in raw text are to come, and then the end
  raw_name-read : (k : Tokenizer K) (kind : RawKind) (word : List ℕ) (b : ℕ) (s : Sink.State × Notes ℕ)
      → Sink.is_sound s.0 → list_all is_ascii_alphabetic word ≡ true
      → reads Sink (rows_of k) (standing k (InRaw kind)) b s (60 ∷ 47 ∷ (word ++ [])) ≡
      (noting Sink.step Sink.is_quiet s (CharacterTokens (60 ∷ 47 ∷ word)) (line_number b)
      >>= λ p. at_end Sink b (erred_by noting_error (slight_if (is_escaped_kind kind)) p.0))
  unfolding reading_from
  raw_name-read k kind word b s h w =
      end_tag-run Sink laws k kind word b s h [] w
      (ap (λ u. ends_at_tag kind && is_fitting_end k.raw_end.name (47 ∷ u)) (append-nil word)
      ∙ rw (unfit-last k.raw_end.name word w) (and-none (ends_at_tag kind)))
      ∙ ap (λ kind. noting Sink.step Sink.is_quiet s (CharacterTokens (60 ∷ 47 ∷ word)) (line_number b)
      >>= λ p. reads Sink (rows_of k) (standing k (InRaw kind)) b p.0 []) (slash-behind kind word w)

  -- the same by the states after "</" and after the letters
  raw_end_open-last : (k : Tokenizer K) (kind : RawKind) → TellsThen Sink (slight_if (is_escaped_kind kind))
      (state.RawEndTagOpen kind) k (CharacterTokens (60 ∷ 47 ∷ []))
  unfolding held_at
  raw_end_open-last k kind b s h = raw_name-read k kind [] b s h refl

  raw_name-last : (k : Tokenizer K) (kind : RawKind) → list_all is_ascii_alphabetic k.raw_end.letters ≡ true
      → TellsThen Sink (slight_if (is_escaped_kind kind)) (state.RawEndTagName kind) k (CharacterTokens (60 ∷ 47 ∷ k.raw_end.letters))
  unfolding held_at
  raw_name-last k kind w b s h = raw_name-read k kind k.raw_end.letters b s h w

  -- they were text
  pub raw_end_open-closes : (old mid new : Tokenizer K) (kind : RawKind) (result : Result (Unit {0}) ParseFault)
      → IsAt old (state.RawEndTagOpen kind) → Sink.is_sound (Sink.view old.sink) → Emitted Sink nothing_owed
      (CharacterTokens (60 ∷ 47 ∷ [])) old mid → Errs Sink (owed_for (grave_if (is_escaped mid.state))) mid new
      result → Closes Sink old new result
  raw_end_open-closes old mid new kind result from ok told errs = closes_then Sink
      (slight_if (is_escaped_kind kind)) (owed_for (grave_if (is_escaped mid.state))) old mid new
      (state.RawEndTagOpen kind) (CharacterTokens (60 ∷ 47 ∷ [])) result
      (escaped-less old mid (state.RawEndTagOpen kind) from told.changed) from ok (raw_end_open-last old kind) told errs

  pub raw_end_open-untold : (old new : Tokenizer K) (kind : RawKind) (told : ParseFault)
      (result : Result (Unit {0}) ParseFault) → IsAt old (state.RawEndTagOpen kind)
      → Sink.is_sound (Sink.view old.sink) → Tells Sink nothing_owed (CharacterTokens (60 ∷ 47 ∷ [])) old new
      (Err told) → IsErrAnd result (λ y. y ≡ told) → Closes Sink old new result
  raw_end_open-untold old new kind told result from ok fails is = closes_untold Sink
      (slight_if (is_escaped_kind kind)) old new (state.RawEndTagOpen kind) (CharacterTokens (60 ∷ 47 ∷ [])) told
      result from ok (raw_end_open-last old kind) fails is

  pub raw_name-closes : (old mid new : Tokenizer K) (kind : RawKind) (result : Result (Unit {0}) ParseFault)
      → IsAt old (state.RawEndTagName kind) → Sink.is_sound (Sink.view old.sink)
      → list_all is_ascii_alphabetic old.raw_end.letters ≡ true → Emitted Sink nothing_owed
      (CharacterTokens (60 ∷ 47 ∷ old.raw_end.letters)) old mid
      → Errs Sink (owed_for (grave_if (is_escaped mid.state))) mid new result → Closes Sink old new result
  raw_name-closes old mid new kind result from ok w told errs = closes_then Sink (slight_if (is_escaped_kind kind))
      (owed_for (grave_if (is_escaped mid.state))) old mid new (state.RawEndTagName kind)
      (CharacterTokens (60 ∷ 47 ∷ old.raw_end.letters)) result
      (escaped-less old mid (state.RawEndTagName kind) from told.changed) from ok (raw_name-last old kind w) told errs

  pub raw_name-untold : (old new : Tokenizer K) (kind : RawKind) (told : ParseFault)
      (result : Result (Unit {0}) ParseFault) → IsAt old (state.RawEndTagName kind)
      → Sink.is_sound (Sink.view old.sink) → list_all is_ascii_alphabetic old.raw_end.letters ≡ true
      → Tells Sink nothing_owed (CharacterTokens (60 ∷ 47 ∷ old.raw_end.letters)) old new (Err told)
      → IsErrAnd result (λ y. y ≡ told) → Closes Sink old new result
  raw_name-untold old new kind told result from ok w fails is = closes_untold Sink
      (slight_if (is_escaped_kind kind)) old new (state.RawEndTagName kind)
      (CharacterTokens (60 ∷ 47 ∷ old.raw_end.letters)) told result from ok (raw_name-last old kind w) fails is

  -- in a CDATA section "]" or "]]" is to come, and then the end, which cuts it off
  bracket-last : (k : Tokenizer K) → TellsThen Sink (Some Grave) state.CdataSectionBracket k (CharacterTokens (93 ∷ []))
  unfolding held_at reading_from
  bracket-last k b s h =
      let here = standing k InCdata in
      reading-text (λ p. Sink.is_sound p.0) (listening Sink) (rows_of k)
      (noting-lawful Sink.is_sound Sink.step Sink.ended Sink.is_quiet laws) here here b s h 93 [] (line_number b) refl refl

  brackets-last : (k : Tokenizer K) → TellsThen Sink (Some Grave) state.CdataSectionEnd k (CharacterTokens (93 ∷ 93 ∷ []))
  unfolding held_at reading_from
  brackets-last k b s h =
      let here = standing k InCdata in
      reading-two (λ p. Sink.is_sound p.0) (listening Sink) (rows_of k)
      (noting-lawful Sink.is_sound Sink.step Sink.ended Sink.is_quiet laws) here here here b s h 93 93 []
      (line_number b) refl refl (λ x. refl) (λ x. refl)

  -- the "]" after which a section does not end was text, and that it does not is an error
  pub bracket-closes : (old mid new : Tokenizer K) (result : Result (Unit {0}) ParseFault)
      → IsAt old state.CdataSectionBracket → Sink.is_sound (Sink.view old.sink) → Emitted Sink nothing_owed
      (CharacterTokens (93 ∷ [])) old mid → Errs Sink a_fault mid new result → Closes Sink old new result
  bracket-closes old mid new result from ok told errs = closes_then Sink (Some Grave) a_fault old mid new
      state.CdataSectionBracket (CharacterTokens (93 ∷ [])) result (no-more-same a_fault) from ok (bracket-last old) told errs

  pub bracket-untold : (old new : Tokenizer K) (told : ParseFault) (result : Result (Unit {0}) ParseFault)
      → IsAt old state.CdataSectionBracket → Sink.is_sound (Sink.view old.sink) → Tells Sink nothing_owed
      (CharacterTokens (93 ∷ [])) old new (Err told) → IsErrAnd result (λ y. y ≡ told) → Closes Sink old new result
  bracket-untold old new told result from ok fails is = closes_untold Sink (Some Grave) old new
      state.CdataSectionBracket (CharacterTokens (93 ∷ [])) told result from ok (bracket-last old) fails is

  -- the same of "]]"
  pub brackets-closes : (old mid new : Tokenizer K) (result : Result (Unit {0}) ParseFault)
      → IsAt old state.CdataSectionEnd → Sink.is_sound (Sink.view old.sink) → Emitted Sink nothing_owed
      (CharacterTokens (93 ∷ 93 ∷ [])) old mid → Errs Sink a_fault mid new result → Closes Sink old new result
  brackets-closes old mid new result from ok told errs = closes_then Sink (Some Grave) a_fault old mid new
      state.CdataSectionEnd (CharacterTokens (93 ∷ 93 ∷ [])) result (no-more-same a_fault) from ok (brackets-last old) told errs

  pub brackets-untold : (old new : Tokenizer K) (told : ParseFault) (result : Result (Unit {0}) ParseFault)
      → IsAt old state.CdataSectionEnd → Sink.is_sound (Sink.view old.sink) → Tells Sink nothing_owed
      (CharacterTokens (93 ∷ 93 ∷ [])) old new (Err told) → IsErrAnd result (λ y. y ≡ told) → Closes Sink old new result
  brackets-untold old new told result from ok fails is = closes_untold Sink (Some Grave) old new
      state.CdataSectionEnd (CharacterTokens (93 ∷ 93 ∷ [])) told result from ok (brackets-last old) fails is
