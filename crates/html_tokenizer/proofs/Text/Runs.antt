-- What the machine makes of a run of text.
use Rattle.std.proofs.Common.{◌≡◌, ◌≢◌, ◌∙◌, ℕ, ◌<◌, Bool, true, false, nat_eq, List, [], ◌∷◌, ◌++◌, length, Some, Result, Ok}
use Rattle.std.proofs.Common.{Err, refl, sym, ap, subst, arith, append_assoc, append-nil, inl, inr}
use Rattle.std.specs.Prelude.{◌&&◌, ◌⊎◌, All, OnOk, IfErr, map}
use Rattle.std.specs.Char.{to_ascii_lowercase}
use Rattle.std.proofs.lemmas.Bool.{and_parts, and_from}
use Rattle.std.proofs.lemmas.Bool.Decides.{nat_tests}
use Rattle.std.proofs.lemmas.List.{map-append}
use Rattle.std.proofs.lemmas.List.Elements.{All-head, All-tail}
use Rattle.markup.specs.declared.fault.ParseFault.{ParseFault}
use Rattle.markup.specs.declared.fault.ParseFault.TheVariants.{Memory}
use Rattle.html_queue.specs.declared.set.SmallCharSet.{SmallCharSet}
use Rattle.html_queue.specs.Set.{has}
use Rattle.html_tokens.specs.declared.replies.ProcessResult.TheVariants as flow
use Rattle.html_tokens.specs.declared.states.AttrValueKind.{AttrValueKind}
use Rattle.html_tokens.specs.declared.states.AttrValueKind.TheVariants as value
use Rattle.html_tokens.specs.declared.states.RawKind.{RawKind}
use Rattle.html_tokens.specs.declared.states.RawKind.TheVariants as raw
use Rattle.html_tokens.specs.declared.states.ScriptEscapeKind.TheVariants as script
use Rattle.html_tokens.specs.declared.states.State.{State}
use Rattle.html_tokens.specs.declared.states.State.TheVariants as state
use Rattle.html_tokens.specs.declared.token.Token.TheVariants.{CharacterTokens}
use Rattle.html_tokens.specs.declared.sink.TokenSink.{Ghosts}
use Rattle.html_tokens.specs.Characters.{ends_attribute_name, ends_word, lowered, shown}
use Rattle.html_tokens.specs.Item.{TextPlace, InData, InPlaintext, InRaw, Stand, character}
use Rattle.html_tokens.specs.Items.{item}
use Rattle.html_tokens.specs.Notes.{Notes, noting}
use Rattle.html_tokens.specs.RawText.{has_references, next_kind}
use Rattle.html_tokens.specs.Reading.{◌>>=◌, line_number}
use Rattle.html_tokens.specs.Sink.{SinkLaws}
use Rattle.html_tokens.specs.Table.{Row}
use Rattle.html_tokens.specs.Tags.{is_odd_unquoted}
use Rattle.html_tokenizer.specs.Calls.{TookRun, KeepsRun}
use Rattle.html_tokenizer_parts.specs.CharRefs.{fits_in}
use Rattle.html_tokenizer.specs.declared.tokenizer.Tokenizer.{Tokenizer}
use Rattle.html_tokenizer.specs.Quotes.{quote_of}
use Rattle.html_tokenizer.specs.Rest.{rows_of, standing, held_at}
use Rattle.html_tokenizer.specs.Steps.{Owed, Erred, Fell, IsAt, more, Tells, Took, how_many, now, nothing_owed, owed_for_each}
use Rattle.html_tokenizer.specs.Steps.{and_heard, together, reads}
use Rattle.html_tokenizer.specs.Stops.{with_breaks, attribute_stops, raw_stops, value_stops, state_stops, IsRunAt}
use Rattle.html_tokenizer.proofs.Attributes.Names.{name-more}
use Rattle.html_tokenizer.proofs.Attributes.Values.{quoted-more, unquoted-held}
use Rattle.html_tokenizer.proofs.Declarations.Comments.{bogus-push, comment-push}
use Rattle.html_tokenizer.proofs.Steps.Keeping.{at, now-at, now-target, erred-now, at_erred, sound_erred, token-fails}
use Rattle.html_tokenizer.proofs.Steps.Keeping.{told-next, stays-same, stays-then, fell-same, no-break, fits-at}
use Rattle.html_tokenizer.proofs.Errors.Rises.{more-more, rises-less, rises-same, rises-then}
use Rattle.html_tokenizer.proofs.Steps.Lawful.{Lawful, noting-lawful}
use Rattle.html_tokenizer.proofs.RawText.States.{raw-item}
use Rattle.html_tokenizer.proofs.Steps.Runs.{reading-text, told-more}
use Rattle.html_tokenizer.proofs.Text.RunStops.{run-at}
use Rattle.html_tokenizer.proofs.Text.ShownTexts.{shown-itself}
use Rattle.html_tokenizer_parts.proofs.Sets.{differs, not-member}
use Rattle.html_tokenizer.specs.Listeners.{Listener, listening, emitted_text}

-- a character of an attribute's name that is no U+0000
pub lowered-same : (c : ℕ) → nat_eq c 0 ≡ false → lowered c ≡ to_ascii_lowercase c
lowered-same c e = grind (arith, nat_tests, e)

-- a set with the line feed has each line feed
pub set-unbroken : (bits : ℕ) → has bits 10 ≡ true → (c : ℕ) → has bits c ≡ false → nat_eq c 10 ≡ false
set-unbroken bits feed c lacks = not-member bits c 10 feed lacks

-- what is not in the set ends no attribute's name
pub name-goes_on : (c : ℕ) → has attribute_stops.bits c ≡ false → ends_attribute_name c ≡ false
name-goes_on c lacks =
    let bits = attribute_stops.bits in
    rw (
      not-member bits c 9 refl lacks,
      not-member bits c 10 refl lacks,
      not-member bits c 12 refl lacks,
      not-member bits c 32 refl lacks,
      not-member bits c 47 refl lacks,
      not-member bits c 62 refl lacks,
      not-member bits c 61 refl lacks,
    ) refl

-- READINGS

module _ {T : Type 0} (sound : T → Type 0) (to : Listener T) (rows : List Row) (laws : Lawful sound to.step) where
  -- Each character at which a run does not end is read as itself; at a line feed it ends.
  module _ (ends : ℕ → Bool) (unbroken : (c : ℕ) → ends c ≡ false → nat_eq c 10 ≡ false) (st : Stand)
      (plain : (c : ℕ) → ends c ≡ false → (x : Bool) (t : List ℕ) → item rows x st c t ≡ character c st) where
    one-told : (b : ℕ) (s : T) → sound s → (c : ℕ) (t : List ℕ) (l : ℕ) → ends c ≡ false
        → emitted_text to rows st b s (c ∷ t) ≡ (to.step s (CharacterTokens (c ∷ [])) l >>= λ p. emitted_text to rows st b p.0 t)
    one-told b s h c t l lacks = reading-text sound to rows laws st st b s h c t l (unbroken c lacks) (plain c lacks (to.cdata s) t)

    -- text, and then a run more of it
    run-more : (b : ℕ) (s : T) → sound s → (front run t : List ℕ) (l : ℕ) → All (λ c. ends c ≡ false) run
        → (to.step s (CharacterTokens front) l >>= λ p. emitted_text to rows st b p.0 (run ++ t)) ≡
        (to.step s (CharacterTokens (front ++ run)) l >>= λ p. emitted_text to rows st b p.0 t)
    run-more b s h front [] t l lacking =
        ap (λ a. to.step s (CharacterTokens a) l >>= λ p. emitted_text to rows st b p.0 t) (sym (append-nil front))
    run-more b s h front (c ∷ run) t l lacking =
        told-more sound to rows laws st st b s h front c (run ++ t) l
        (λ s h. one-told b s h c (run ++ t) l (All-head (λ c. ends c ≡ false) c run lacking))
        ∙ run-more b s h (front ++ c ∷ []) run t l (All-tail (λ c. ends c ≡ false) c run lacking)
        ∙ ap (λ a. to.step s (CharacterTokens a) l >>= λ p. emitted_text to rows st b p.0 t) (append_assoc front (c ∷ []) run)

    -- a run is read as one text
    pub run-told : (b : ℕ) (s : T) → sound s → (run t : List ℕ) (l : ℕ) → 0 < length run → All (λ c. ends c ≡ false) run
        → emitted_text to rows st b s (run ++ t) ≡ (to.step s (CharacterTokens run) l >>= λ p. emitted_text to rows st b p.0 t)
    run-told b s h [] t l filled lacking = absurd (omega arith)
    run-told b s h (c ∷ run) t l filled lacking =
        one-told b s h c (run ++ t) l (All-head (λ c. ends c ≡ false) c run lacking)
        ∙ run-more b s h (c ∷ []) run t l (All-tail (λ c. ends c ≡ false) c run lacking)

-- CHARACTERS

pub shown-same : (c : ℕ) → nat_eq c 0 ≡ false → shown c ≡ c
shown-same c e = rw e refl

and-false : (b : Bool) → (b && false) ≡ false
and-false true = refl
and-false false = refl

-- a character of raw text that stands for itself, and changes no kind
pub raw-by : {K : Type 0} (k : Tokenizer K) (kind : RawKind) (x : Bool) (c : ℕ) (t : List ℕ) → nat_eq c 60 ≡ false
    → nat_eq c 0 ≡ false → (nat_eq c 38 && has_references kind) ≡ false → next_kind kind c t ≡ kind
    → item (rows_of k) x (standing k (InRaw kind)) c t ≡ character c (standing k (InRaw kind))
raw-by k kind x c t e z f same =
    raw-item k kind x c t (rw e refl) f
    ∙ shown-itself c (standing k (InRaw (next_kind kind c t))) z
    ∙ ap (λ kind. character c (standing k (InRaw kind))) same

raw-plain : {K : Type 0} (k : Tokenizer K) (kind : RawKind) (c : ℕ) → has (raw_stops kind).bits c ≡ false
    → (x : Bool) (t : List ℕ) → item (rows_of k) x (standing k (InRaw kind)) c t ≡ character c (standing k (InRaw kind))
raw-plain k raw.Rcdata c lacks x t =
    let bits = (raw_stops raw.Rcdata).bits in
    raw-by k raw.Rcdata x c t (not-member bits c 60 refl lacks) (not-member bits c 0 refl lacks)
    (rw (not-member bits c 38 refl lacks) refl) refl
raw-plain k raw.Rawtext c lacks x t =
    let bits = (raw_stops raw.Rawtext).bits in
    raw-by k raw.Rawtext x c t (not-member bits c 60 refl lacks) (not-member bits c 0 refl lacks) (and-false (nat_eq c 38)) refl
raw-plain k raw.ScriptData c lacks x t =
    let bits = (raw_stops raw.ScriptData).bits in
    raw-by k raw.ScriptData x c t (not-member bits c 60 refl lacks) (not-member bits c 0 refl lacks)
    (and-false (nat_eq c 38)) (rw (not-member bits c 60 refl lacks) refl)
raw-plain k (raw.ScriptDataEscaped script.Escaped) c lacks x t =
    let bits = (raw_stops (raw.ScriptDataEscaped script.Escaped)).bits in
    raw-by k (raw.ScriptDataEscaped script.Escaped) x c t (not-member bits c 60 refl lacks)
    (not-member bits c 0 refl lacks) (and-false (nat_eq c 38))
    (rw (not-member bits c 60 refl lacks, not-member bits c 45 refl lacks) refl)
raw-plain k (raw.ScriptDataEscaped script.DoubleEscaped) c lacks x t =
    let bits = (raw_stops (raw.ScriptDataEscaped script.DoubleEscaped)).bits in
    raw-by k (raw.ScriptDataEscaped script.DoubleEscaped) x c t (not-member bits c 60 refl lacks)
    (not-member bits c 0 refl lacks) (and-false (nat_eq c 38))
    (rw (not-member bits c 60 refl lacks, not-member bits c 45 refl lacks) refl)

raw-unbroken : (kind : RawKind) → has (raw_stops kind).bits 10 ≡ true
raw-unbroken raw.Rcdata = refl
raw-unbroken raw.Rawtext = refl
raw-unbroken raw.ScriptData = refl
raw-unbroken (raw.ScriptDataEscaped kind) = refl

data-plain : {K : Type 0} (k : Tokenizer K) (c : ℕ) → has (with_breaks (38 ∷ 60 ∷ [])).bits c ≡ false
    → (x : Bool) (t : List ℕ) → item (rows_of k) x (standing k InData) c t ≡ character c (standing k InData)
data-plain k c lacks x t =
    let bits = (with_breaks (38 ∷ 60 ∷ [])).bits in
    rw (not-member bits c 60 refl lacks, not-member bits c 38 refl lacks, not-member bits c 0 refl lacks) refl

plaintext-plain : {K : Type 0} (k : Tokenizer K) (c : ℕ) → has (with_breaks []).bits c ≡ false
    → (x : Bool) (t : List ℕ) → item (rows_of k) x (standing k InPlaintext) c t ≡ character c (standing k InPlaintext)
plaintext-plain k c lacks x t = shown-itself c (standing k InPlaintext) (not-member (with_breaks []).bits c 0 refl lacks)

-- a character more that is not odd
none-odd : (odd : ℕ → Bool) (c : ℕ) (run : List ℕ) → odd c ≡ false → how_many odd run ≡ 0 → how_many odd (c ∷ run) ≡ 0
none-odd odd c run e h = rw e (omega (arith, h))

-- white space and ">" are no part of a run of a value without quotes
no-end : (c : ℕ) → has (value_stops value.Unquoted).bits c ≡ false → ends_word c ≡ false
no-end c lacks =
    let bits = (value_stops value.Unquoted).bits in
    rw (
      not-member bits c 9 refl lacks,
      not-member bits c 10 refl lacks,
      not-member bits c 12 refl lacks,
      not-member bits c 32 refl lacks,
      not-member bits c 62 refl lacks,
    ) refl

some-same : {A : Type 0} (a b : A) → Some a ≡ Some b → a ≡ b
some-same a b e = cc

-- a run without the characters of a set, for the set that it is
lacking-in : (a b : SmallCharSet) (run : List ℕ) → Some a ≡ Some b → All (λ c. has b.bits c ≡ false) run
    → All (λ c. has a.bits c ≡ false) run
lacking-in a b run e lacking = rw (some-same a b e) lacking

-- STATES

module _ {K H : Type 0} (Sink : Ghosts K H) where
  -- A run is told next, as one text.
  abbrev pub RunSays : State → Tokenizer K → List ℕ → Type 0
  RunSays st old run = (b : ℕ) (s : Sink.State × Notes ℕ) → Sink.is_sound s.0 → (t : List ℕ) → at Sink st old b s
      (run ++ t) ≡ (noting Sink.step Sink.is_quiet s (CharacterTokens run) (line_number b) >>= λ p. at Sink st old b p.0 t)

  pub run-kept : (old new : Tokenizer K) (run : List ℕ) (st : State) (result : Result (Unit {0}) ParseFault)
      → IsAt old st → Sink.is_sound (Sink.view old.sink) → Tells Sink nothing_owed (CharacterTokens run) old new result → RunSays st old run
      → KeepsRun Sink old new run result
  run-kept old new run st (Ok x) from ok told law = record {
    paused = tt;
    owed = and_heard (Sink.is_quiet (Sink.view old.sink) (CharacterTokens run)) nothing_owed;
    rises = told.rises;
    same = λ notes t.
        now-at Sink old st old.stream.breaks (Sink.view old.sink, notes) (run ++ t) from
        ∙ law old.stream.breaks (Sink.view old.sink, notes) ok t
        ∙ told-next Sink nothing_owed old new (CharacterTokens run) notes (λ s. at Sink st old old.stream.breaks s t) told
        ∙ sym (now-target Sink old new.sink st old.stream.breaks
        (Sink.view new.sink, more (and_heard (Sink.is_quiet (Sink.view old.sink) (CharacterTokens run)) nothing_owed) notes) t from)
        ∙ sym (ap (λ k. now Sink k old.stream.breaks (
          Sink.view new.sink,
          more
              (and_heard (Sink.is_quiet (Sink.view old.sink) (CharacterTokens run)) nothing_owed) notes,
        ) t) told.changed);
    stream = ap (λ k. k.stream) told.changed;
    sound = told.sound;
    fits = ap (λ k. fits_in (rows_of k) k.char_ref k.state) told.changed ∙ fits-at old st from;
    stays = told.stays;
  }
  run-kept old new run st (Err fault) from ok fails law = (
    fails.0,
    λ notes t.
        token-fails Sink old.sink new.sink _ (Sink.view old.sink) notes (CharacterTokens run)
        (line_number old.stream.breaks) fault _ fails.1
        (now-at Sink old st old.stream.breaks (Sink.view old.sink, notes) (run ++ t) from ∙ law old.stream.breaks
        (Sink.view old.sink, notes) ok t),
  )

  -- A character was taken, and then a run.
  pub took-then : (old mid new : Tokenizer K) (c : ℕ) (run : List ℕ) → nat_eq c 10 ≡ false
      → Took Sink old mid c flow.Continue → TookRun Sink mid new run → TookRun Sink old new (c ∷ run)
  took-then old mid new c run unbroken first rest = record {
    paused = tt;
    owed = together rest.owed first.owed;
    rises = rises-then Sink.errors old.sink mid.sink new.sink first.rises rest.rises;
    same = λ notes t.
        first.same notes (run ++ t)
        ∙ ap (λ n. now Sink mid n (Sink.view mid.sink, more first.owed notes) (run ++ t)) (no-break old.stream.breaks c unbroken)
        ∙ (rw (← first.stream) (rest.same (more first.owed notes) t))
        ∙ ap (λ n. now Sink new old.stream.breaks (Sink.view new.sink, n) t) (more-more rest.owed first.owed notes);
    stream = rest.stream ∙ first.stream;
    sound = rest.sound;
    fits = rest.fits;
    stays = stays-then Sink old.sink mid.sink new.sink first.stays rest.stays;
  }

  -- Errors were told, and then a run was taken that is quiet only where none were.
  erred-run : (old mid new : Tokenizer K) (run : List ℕ) (owed : Owed) → Erred Sink owed old mid
      → (took : TookRun Sink mid new run) → (took.owed.is_quiet ≡ true → owed.is_quiet ≡ true) → TookRun Sink old new run
  erred-run old mid new run owed h took quiet-too = record {
    paused = tt;
    owed = took.owed;
    rises = rises-less Sink.errors old.sink new.sink
        (record { faults = omega arith; quiet = λ e. and_from took.owed.is_quiet owed.is_quiet e (quiet-too e) })
        (rises-then Sink.errors old.sink mid.sink new.sink h.rises took.rises);
    same = λ notes t. erred-now Sink old mid old.stream.breaks notes (run ++ t) h
        ∙ (rw (← ap (λ k. k.stream) h.changed) (took.same notes t));
    stream = took.stream ∙ ap (λ k. k.stream) h.changed;
    sound = took.sound;
    fits = took.fits;
    stays = stays-then Sink old.sink mid.sink new.sink h.stays took.stays;
  }

  -- A machine by what it holds of a text, where each character at which a run does not end is held after the others, and is quiet only
  -- where it is not odd.
  module _ (machine : List ℕ → Tokenizer K) (ends : ℕ → Bool) (odd : ℕ → Bool) (unbroken : (c : ℕ) → ends c ≡ false
      → nat_eq c 10 ≡ false) (ok : (front : List ℕ) → Sink.is_sound (Sink.view (machine front).sink))
      (fits : (front : List ℕ) → fits_in (rows_of (machine front)) (machine front).char_ref (machine front).state ≡ true)
      (each : (front : List ℕ) (c : ℕ) → ends c ≡ false
      → (took : Took Sink (machine front) (machine (front ++ c ∷ [])) c flow.Continue)
      × (took.owed.is_quiet ≡ true → odd c ≡ false)) where
    run-noted : (front run : List ℕ) → All (λ c. ends c ≡ false) run
        → (took : TookRun Sink (machine front) (machine (front ++ run)) run) × (took.owed.is_quiet ≡ true → how_many odd run ≡ 0)
    unfolding took-then
    run-noted front [] lacking =
        let none : (took : TookRun Sink (machine front) (machine front) []) × (took.owed.is_quiet ≡ true → how_many odd [] ≡ 0) = (
          record {
            paused = tt;
            owed = nothing_owed;
            rises = rises-same Sink.errors (machine front).sink (machine front).sink refl;
            same = λ notes t. refl;
            stream = refl;
            sound = ok front;
            fits = fits front;
            stays = stays-same Sink (machine front).sink (machine front).sink refl;
          },
          λ h. refl,
        ) in
        rw (append-nil front) none
    run-noted front (c ∷ run) lacking =
        let lacks = All-head (λ c. ends c ≡ false) c run lacking in
        let first = each front c lacks in
        let rest = run-noted (front ++ c ∷ []) run (All-tail (λ c. ends c ≡ false) c run lacking) in
        let both : (took : TookRun Sink (machine front) (machine ((front ++ c ∷ []) ++ run)) (c ∷ run))
        × (took.owed.is_quiet ≡ true → how_many odd (c ∷ run) ≡ 0) = (
          took-then (machine front) (machine (front ++ c ∷ [])) (machine ((front ++ c ∷ []) ++ run)) c run
              (unbroken c lacks) first.0 rest.0,
          λ h. none-odd odd c run (first.1 (and_parts rest.0.owed.is_quiet first.0.owed.is_quiet h).1)
              (rest.1 (and_parts rest.0.owed.is_quiet first.0.owed.is_quiet h).0),
        ) in
        rw (append_assoc front (c ∷ []) run) at both

  -- The same, where nothing is said of what is odd.
  pub run-held : (machine : List ℕ → Tokenizer K) (ends : ℕ → Bool)
      → ((c : ℕ) → ends c ≡ false → nat_eq c 10 ≡ false)
      → ((front : List ℕ) → Sink.is_sound (Sink.view (machine front).sink))
      → ((front : List ℕ) → fits_in (rows_of (machine front)) (machine front).char_ref (machine front).state ≡ true)
      → ((front : List ℕ) (c : ℕ) → ends c ≡ false → Took Sink (machine front) (machine (front ++ c ∷ [])) c flow.Continue)
      → (front run : List ℕ) → All (λ c. ends c ≡ false) run → TookRun Sink (machine front) (machine (front ++ run)) run
  run-held machine ends unbroken ok fits each front run lacking =
      (run-noted machine ends (λ c. false) unbroken ok fits (λ front c lacks. (each front c lacks, λ h. refl)) front run lacking).0

  -- A run is held, if there is memory.
  pub held-kept : (old : Tokenizer K) (machine : List ℕ → Tokenizer K) (front whole run : List ℕ)
      (result : Result (Unit {0}) ParseFault) → OnOk result (front ≡ whole) → IfErr result (λ fault. fault ≡ Memory)
      → Fell Sink old.sink (machine front).sink → TookRun Sink old (machine whole) run
      → KeepsRun Sink old (machine front) run result
  held-kept old machine front whole run (Ok x) is fault fell took = rw is took
  held-kept old machine front whole run (Err e) is fault fell took = rw fault (fell, λ notes t. tt)

  quoted-run : (old : Tokenizer K) (kind : AttrValueKind) (quote : ℕ) (bits : ℕ) (run : List ℕ)
      → IsAt old (state.AttributeValue kind) → Sink.is_sound (Sink.view old.sink) → quote_of kind ≡ Some quote
      → has bits 0 ≡ true → has bits 10 ≡ true → has bits 38 ≡ true → has bits quote ≡ true → All (λ c. has bits c ≡ false) run
      → TookRun Sink old (record old { attribute_value = old.attribute_value ++ run }) run
  quoted-run old kind quote bits run from ok quoted null unbroken amp ended lacking =
      run-held (λ front. record old { attribute_value = front }) (has bits) (set-unbroken bits unbroken)
      (λ front. ok) (λ front. fits-at old (state.AttributeValue kind) from)
      (λ front c lacks. quoted-more Sink (record old { attribute_value = front }) kind quote c (front ++ c ∷ [])
      (record { state = from.state; fresh = from.fresh }) ok quoted (differs bits c quote ended lacks)
      (differs bits c 38 amp lacks) (ap (λ d. front ++ d ∷ []) (sym (shown-same c (not-member bits c 0 null lacks)))))
      old.attribute_value run lacking

  -- a run of a value in quotes
  pub value-run : (old : Tokenizer K) (kind : AttrValueKind) (run : List ℕ) → kind ≢ value.Unquoted
      → IsAt old (state.AttributeValue kind) → Sink.is_sound (Sink.view old.sink) → (set : SmallCharSet)
      → Some (value_stops kind) ≡ Some set → All (λ c. has set.bits c ≡ false) run
      → TookRun Sink old (record old { attribute_value = old.attribute_value ++ run }) run
  value-run old value.Unquoted run quoted from ok set are lacking = absurd (quoted refl)
  value-run old value.SingleQuoted run quoted from ok set are lacking =
      quoted-run old value.SingleQuoted 39 (value_stops value.SingleQuoted).bits run from ok refl refl refl refl
      refl (lacking-in (value_stops value.SingleQuoted) set run are lacking)
  value-run old value.DoubleQuoted run quoted from ok set are lacking =
      quoted-run old value.DoubleQuoted 34 (value_stops value.DoubleQuoted).bits run from ok refl refl refl refl
      refl (lacking-in (value_stops value.DoubleQuoted) set run are lacking)

  -- what is read of a name
  lowered-run : (before front : List ℕ) (c : ℕ) → nat_eq c 0 ≡ false → before ++ map to_ascii_lowercase
      (front ++ c ∷ []) ≡ (before ++ map to_ascii_lowercase front) ++ lowered c ∷ []
  lowered-run before front c e =
      ap (λ u. before ++ u) (map-append to_ascii_lowercase front (c ∷ [])
      ∙ ap (λ d. map to_ascii_lowercase front ++ d ∷ []) (sym (lowered-same c e)))
      ∙ sym (append_assoc before (map to_ascii_lowercase front) (lowered c ∷ []))

  name-run : (old : Tokenizer K) (run : List ℕ) → IsAt old state.AttributeName → Sink.is_sound (Sink.view old.sink)
      → All (λ c. has attribute_stops.bits c ≡ false) run
      → TookRun Sink old (record old { attribute_name = old.attribute_name ++ map to_ascii_lowercase run }) run
  name-run old run from ok lacking =
      let bits = attribute_stops.bits in
      let machine : List ℕ → Tokenizer K = λ front. record old { attribute_name = old.attribute_name ++ map to_ascii_lowercase front } in
      let whole : TookRun Sink (machine []) (machine run) run =
      run-held machine (has bits) (set-unbroken bits refl) (λ front. ok) (λ front. fits-at old state.AttributeName from)
      (λ front c lacks. name-more Sink (machine front) c
      (old.attribute_name ++ map to_ascii_lowercase (front ++ c ∷ []))
      (record { state = from.state; fresh = from.fresh }) ok (name-goes_on c lacks)
      (lowered-run old.attribute_name front c (not-member bits c 0 refl lacks)))
      [] run lacking in
      subst (λ name. TookRun Sink (record old { attribute_name = name }) (machine run) run) (append-nil old.attribute_name) whole

  -- a run was taken in an attribute's name
  pub name_run-kept : (old : Tokenizer K) (front run : List ℕ) (result : Result (Unit {0}) ParseFault)
      → IsRunAt old run → Sink.is_sound (Sink.view old.sink) → old.state ≡ state.AttributeName
      → OnOk result (front ≡ old.attribute_name ++ map to_ascii_lowercase run) → IfErr result (λ fault. fault ≡ Memory)
      → KeepsRun Sink old (record old { attribute_name = front }) run result
  name_run-kept old front run result runs ok is grown fault =
      let from = run-at old run runs in
      held-kept old (λ front. record old { attribute_name = front }) front
      (old.attribute_name ++ map to_ascii_lowercase run) run result grown fault (fell-same Sink old.sink old.sink refl ok)
      (name-run old run (record { state = is; fresh = from.0.fresh }) ok
      (lacking-in attribute_stops runs.stops run (rw is at from.1) runs.lacking))

  -- a run was taken in a value in quotes
  pub value_run-kept : (old : Tokenizer K) (kind : AttrValueKind) (front run : List ℕ)
      (result : Result (Unit {0}) ParseFault) → kind ≢ value.Unquoted → IsRunAt old run
      → Sink.is_sound (Sink.view old.sink) → old.state ≡ state.AttributeValue kind
      → OnOk result (front ≡ old.attribute_value ++ run) → IfErr result (λ fault. fault ≡ Memory)
      → KeepsRun Sink old (record old { attribute_value = front }) run result
  value_run-kept old kind front run result quoted runs ok is grown fault =
      let from = run-at old run runs in
      held-kept old (λ front. record old { attribute_value = front }) front (old.attribute_value ++ run) run result
      grown fault (fell-same Sink old.sink old.sink refl ok)
      (value-run old kind run quoted (record { state = is; fresh = from.0.fresh }) ok runs.stops (rw is at from.1) runs.lacking)

  -- a run of a value without quotes is held, and what is odd in it is noted
  unquoted-run : (old : Tokenizer K) (run : List ℕ) → IsAt old (state.AttributeValue value.Unquoted)
      → Sink.is_sound (Sink.view old.sink) → All (λ c. has (value_stops value.Unquoted).bits c ≡ false) run
      → (took : TookRun Sink old (record old { attribute_value = old.attribute_value ++ run }) run)
      × (took.owed.is_quiet ≡ true → how_many is_odd_unquoted run ≡ 0)
  unquoted-run old run from ok lacking =
      let bits = (value_stops value.Unquoted).bits in
      run-noted (λ front. record old { attribute_value = front }) (has bits) is_odd_unquoted
      (set-unbroken bits refl) (λ front. ok) (λ front. fits-at old (state.AttributeValue value.Unquoted) from)
      (λ front c lacks. rw (shown-same c (not-member bits c 0 refl lacks)) at (
      unquoted-held Sink (record old { attribute_value = front }) c
      (record { state = from.state; fresh = from.fresh }) ok (no-end c lacks) (not-member bits c 38 refl lacks)))
      old.attribute_value run lacking

  -- errors of a run of a value without quotes were told, and then it was taken
  pub unquoted_run-kept : (old mid : Tokenizer K) (front run : List ℕ) (result : Result (Unit {0}) ParseFault)
      → IsRunAt old run → Sink.is_sound (Sink.view old.sink) → old.state ≡ state.AttributeValue value.Unquoted
      → Erred Sink (owed_for_each is_odd_unquoted run) old mid → OnOk result (front ≡ mid.attribute_value ++ run)
      → IfErr result (λ fault. fault ≡ Memory)
      → KeepsRun Sink old (record mid { attribute_value = front }) run result
  unquoted_run-kept old mid front run result runs ok is told grown fault =
      let from = run-at old run runs in
      let at : IsAt old (state.AttributeValue value.Unquoted) = record { state = is; fresh = from.0.fresh } in
      let took = unquoted-run mid run (at_erred Sink old mid (state.AttributeValue value.Unquoted) told at)
      (sound_erred Sink old mid told ok) (lacking-in (value_stops value.Unquoted) runs.stops run (rw is at from.1) runs.lacking) in
      held-kept old (λ front. record mid { attribute_value = front }) front (mid.attribute_value ++ run) run result
      grown fault (record { sound = λ h. sound_erred Sink old mid told ok; loans = told.stays.loans })
      (erred-run old mid (record mid { attribute_value = mid.attribute_value ++ run }) run
      (owed_for_each is_odd_unquoted run) told took.0 (λ e. ap (λ n. nat_eq n 0) (took.1 e)))

module _ {K H : Type 0} (Sink : Ghosts K H) (laws : SinkLaws Sink.is_sound Sink.step Sink.ended Sink.is_quiet) where
  -- a run of a comment
  comment-run : (old : Tokenizer K) (st : State) (run : List ℕ) → IsAt old st → (st ≡ state.BogusComment)
      ⊎ (st ≡ state.Comment) → Sink.is_sound (Sink.view old.sink) → (set : SmallCharSet) → state_stops st ≡ Some set
      → All (λ c. has set.bits c ≡ false) run
      → TookRun Sink old (record old { comment = old.comment ++ run }) run
  comment-run old st run from (inl e) ok set are lacking =
      let bits = (with_breaks (62 ∷ [])).bits in
      run-held Sink (λ front. record old { comment = front }) (has bits) (set-unbroken bits refl) (λ front. ok)
      (λ front. fits-at old st from)
      (λ front c lacks. bogus-push Sink laws (record old { comment = front }) c ok (front ++ c ∷ [])
      (record { state = from.state ∙ e; fresh = from.fresh }) (not-member bits c 62 refl lacks)
      (ap (λ d. front ++ d ∷ []) (sym (shown-same c (not-member bits c 0 refl lacks)))))
      old.comment run (lacking-in (with_breaks (62 ∷ [])) set run (rw e at are) lacking)
  comment-run old st run from (inr e) ok set are lacking =
      let bits = (with_breaks (45 ∷ [])).bits in
      run-held Sink (λ front. record old { comment = front }) (has bits) (set-unbroken bits refl) (λ front. ok)
      (λ front. fits-at old st from)
      (λ front c lacks. comment-push Sink laws (record old { comment = front }) c ok (front ++ c ∷ [])
      (record { state = from.state ∙ e; fresh = from.fresh }) (not-member bits c 45 refl lacks)
      (ap (λ d. front ++ d ∷ []) (sym (shown-same c (not-member bits c 0 refl lacks)))))
      old.comment run (lacking-in (with_breaks (45 ∷ [])) set run (rw e at are) lacking)

  -- a run was taken in a comment
  pub comment_run-kept : (old : Tokenizer K) (front run : List ℕ) (result : Result (Unit {0}) ParseFault)
      → IsRunAt old run → Sink.is_sound (Sink.view old.sink) → (old.state ≡ state.BogusComment) ⊎ (old.state ≡ state.Comment)
      → OnOk result (front ≡ old.comment ++ run) → IfErr result (λ fault. fault ≡ Memory)
      → KeepsRun Sink old (record old { comment = front }) run result
  comment_run-kept old front run result runs ok is grown fault =
      let from = run-at old run runs in
      held-kept Sink old (λ front. record old { comment = front }) front (old.comment ++ run) run result grown fault
      (fell-same Sink old.sink old.sink refl ok)
      (comment-run old old.state run from.0 is ok runs.stops from.1 runs.lacking)

  -- A run of text is told as one.
  pub place-says : (old : Tokenizer K) (place : TextPlace) (ends : ℕ → Bool) (run : List ℕ)
      → ((c : ℕ) → ends c ≡ false → nat_eq c 10 ≡ false) → 0 < length run → All (λ c. ends c ≡ false) run
      → ((c : ℕ) → ends c ≡ false → (x : Bool) (t : List ℕ) → item (rows_of old) x (standing old place) c
      t ≡ character c (standing old place))
      → (b : ℕ) (s : Sink.State × Notes ℕ) → Sink.is_sound s.0 → (t : List ℕ)
      → reads Sink (rows_of old) (standing old place) b s (run ++ t) ≡
      (noting Sink.step Sink.is_quiet s (CharacterTokens run) (line_number b) >>= λ p. reads Sink (rows_of old)
      (standing old place) b p.0 t)
  place-says old place ends run unbroken filled lacking plain b s h t =
      run-told (λ p. Sink.is_sound p.0) (listening Sink) (rows_of old)
      (noting-lawful Sink.is_sound Sink.step Sink.ended Sink.is_quiet laws) ends unbroken (standing old place)
      plain b s h run t (line_number b) filled lacking

  text-says : (old : Tokenizer K) (st : State) (set : SmallCharSet) (run : List ℕ) → state_stops st ≡ Some set
      → ((kind : AttrValueKind) → st ≢ state.AttributeValue kind) → st ≢ state.BogusComment → st ≢ state.Comment → st ≢ state.AttributeName
      → 0 < length run → All (λ c. has set.bits c ≡ false) run → RunSays Sink st old run
  unfolding held_at
  text-says old state.Data set run are e f g n filled lacking =
      place-says old InData (has (with_breaks (38 ∷ 60 ∷ [])).bits) run
      (set-unbroken (with_breaks (38 ∷ 60 ∷ [])).bits refl) filled
      (lacking-in (with_breaks (38 ∷ 60 ∷ [])) set run are lacking) (data-plain old)
  text-says old state.Plaintext set run are e f g n filled lacking =
      place-says old InPlaintext (has (with_breaks []).bits) run (set-unbroken (with_breaks []).bits refl) filled
      (lacking-in (with_breaks []) set run are lacking) (plaintext-plain old)
  text-says old (state.RawData kind) set run are e f g n filled lacking =
      place-says old (InRaw kind) (has (raw_stops kind).bits) run
      (set-unbroken (raw_stops kind).bits (raw-unbroken kind)) filled
      (lacking-in (raw_stops kind) set run are lacking) (raw-plain old kind)
  text-says old (state.AttributeValue kind) set run are e f g n filled lacking = absurd (e kind refl)
  text-says old state.BogusComment set run are e f g n filled lacking = absurd (f refl)
  text-says old state.Comment set run are e f g n filled lacking = absurd (g refl)
  text-says old state.AttributeName set run are e f g n filled lacking = absurd (n refl)
  text-says old _ set run are e f g n filled lacking = absurd cc

  -- a run was told as text
  pub text_run-kept : (old new : Tokenizer K) (run : List ℕ) (result : Result (Unit {0}) ParseFault)
      → IsRunAt old run → Sink.is_sound (Sink.view old.sink)
      → ((kind : AttrValueKind) → old.state ≢ state.AttributeValue kind) → old.state ≢ state.BogusComment
      → old.state ≢ state.Comment → old.state ≢ state.AttributeName
      → Tells Sink nothing_owed (CharacterTokens run) old new result → KeepsRun Sink old new run result
  text_run-kept old new run result runs ok e f g n told =
      let from = run-at old run runs in
      run-kept Sink old new run old.state result from.0 ok told
      (text-says old old.state runs.stops run from.1 e f g n runs.filled runs.lacking)
