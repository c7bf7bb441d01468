-- References by name that are read from the front of a text at once.
use Rattle.std.proofs.Common.{◌≡◌, ◌∙◌, ℕ, ◌-◌, ◌<◌, true, false, nat_eq, List, [], ◌∷◌, ◌++◌, length, take, drop, ◌+◌}
use Rattle.std.proofs.Common.{Some, Option, Result, Ok, Err, refl, sym, ap, subst, arith, append_assoc, append-nil}
use Rattle.std.proofs.Common.{length-append}
use Rattle.std.specs.List.{ends_with, list_all, slice_range}
use Rattle.std.specs.Result.{IsErrAnd}
use Rattle.std.specs.Prelude.{IfErr, OnOk, is_some}
use Rattle.std.specs.Str.{IsCharBoundary, IsUtf8, chars}
use Rattle.std.proofs.lemmas.Bool.{and_parts, true≢false}
use Rattle.std.proofs.lemmas.Bool.Decides.{Decides-eqb, nat_tests}
use Rattle.std.proofs.lemmas.List.Elements.{All-cons, All-nil}
use Rattle.std.proofs.lemmas.Result.{err_from_is_err_and}
use Rattle.std.proofs.lemmas.Slice.Eq.{ends_is}
use Rattle.std.proofs.lemmas.Str.{chars-append, IsCharBoundary-from_take, IsUtf8-append, IsUtf8-from_ascii, chars-IsAscii}
use Rattle.std.proofs.Math.Seq.{drop-length, take-append_seam}
use Rattle.markup.specs.declared.fault.ParseFault.{ParseFault}
use Rattle.markup.specs.declared.fault.ParseFault.TheVariants.{Memory}
use Rattle.html_queue.specs.Queue.{Queue, Takes}
use Rattle.html_references.specs.References.{IsCheckedTable, is_front}
use Rattle.html_references.proofs.WholeNames.{whole-read, whole-row, whole-stops}
use Rattle.html_tokens.specs.declared.replies.ProcessResult.{ProcessResult}
use Rattle.html_tokens.specs.declared.sink.TokenSink.{Ghosts}
use Rattle.html_tokens.specs.declared.states.AttrValueKind.{AttrValueKind}
use Rattle.html_tokens.specs.declared.states.State.{State}
use Rattle.html_tokens.specs.declared.states.State.TheVariants as state
use Rattle.html_tokens.specs.declared.table.ReferenceRow.{ReferenceRow}
use Rattle.html_tokens.specs.declared.token.Token.TheVariants.{CharacterTokens}
use Rattle.html_tokens.specs.Notes.{Notes, noting}
use Rattle.html_tokens.specs.Reading.{◌>>=◌, line_number}
use Rattle.html_tokens.specs.Item.{slight_if}
use Rattle.html_tokens.specs.Reference.{Reference, fault_of_reference, reference_at}
use Rattle.html_tokens.specs.Sink.{SinkLaws}
use Rattle.html_tokenizer.specs.Calls.{KeepsRun, Moves, TookRun, answered}
use Rattle.html_tokenizer_parts.specs.CharRefs.{decided, fits_in, is_front_by, is_held, reference_of, resolved, resolved_by}
use Rattle.html_tokenizer_parts.specs.declared.numbers.Found.{Found}
use Rattle.html_tokens.specs.Table.{Row}
use Rattle.html_tokenizer_parts.proofs.CharRefs.{fault-decided, reference-end}
use Rattle.html_tokenizer_parts.proofs.HeldFronts.{front-held, hash-unnamed}
use Rattle.html_tokenizer_parts.proofs.InputRuns.{front-comes}
use Rattle.html_tokenizer.specs.Fronts.{IsReferenceAt, IsWholeName, ReadsAhead, StandsFor, TakesFront}
use Rattle.html_tokenizer_parts.specs.Input.{IsUnbroken, coming_in}
use Rattle.html_tokenizer.specs.Rest.{rows_of}
use Rattle.html_tokenizer.specs.Steps.{IsAt, Tells, and_heard, more, nothing_owed, now, owed_for}
use Rattle.html_tokenizer.specs.declared.tokenizer.Tokenizer.{Tokenizer}
use Rattle.html_tokenizer.proofs.Feeds.Pieces.{comes-to}
use Rattle.html_tokenizer.proofs.Fronts.Texts.{ascii-one, chars-cons, utf8-cons}
use Rattle.html_tokenizer.proofs.Fronts.Lines.{from-front}
use Rattle.html_tokenizer.proofs.Fronts.Moves.{heeding}
use Rattle.html_tokenizer.proofs.Errors.Rises.{rises-slight}
use Rattle.html_tokenizer.proofs.HeldReferences.InText.{data-at_end, data-resolves, reference-told}
use Rattle.html_tokenizer.proofs.HeldReferences.InValues.{value-at_end, value-resolves, wronged_by}
use Rattle.html_tokenizer.proofs.Steps.Keeping.{at, fails-along, fell-same, fits-at, now-at, now-target, stays-same, told-next, token-fails}

held-no_break : (c : ℕ) → is_held c ≡ true → (nat_eq c 10 ≡ false) × (nat_eq c 13 ≡ false)
held-no_break c h = (grind (arith, nat_tests, h), grind (arith, nat_tests, h))

-- what is held has no line end
held-whole : (cs : List ℕ) → list_all is_held cs ≡ true → IsUnbroken cs
held-whole [] h = All-nil (λ c. (nat_eq c 10 ≡ false) × (nat_eq c 13 ≡ false))
held-whole (c ∷ cs) h =
    let p = and_parts (is_held c) (list_all is_held cs) h in
    All-cons (λ c. (nat_eq c 10 ≡ false) × (nat_eq c 13 ≡ false)) c cs (held-no_break c p.0) (held-whole cs p.1)

-- what begins a name of the table and ends in ";" is a whole name
pub whole-name : (rows : List ReferenceRow) → IsCheckedTable rows → (cs : List ℕ) → is_front rows cs ≡ true
    → ends_with nat_eq cs (59 ∷ []) ≡ true → IsWholeName rows cs
whole-name rows checked [] f e = absurd (true≢false (sym e))
whole-name rows checked (h ∷ hs) f e =
    let p = front-held rows checked (h ∷ hs) f in
    let r = whole-row rows (h ∷ hs) checked.names f e in
    let read = whole-read rows checked r.0 r.1 (ap (λ name. ends_with nat_eq name (59 ∷ [])) r.2 ∙ e) true in
    record {
      checked = checked;
      front = p.0;
      held = p.1;
      ends = λ c. ap (λ b. is_front_by b rows h (hs ++ c ∷ [])) (hash-unnamed h hs rows checked.names f)
          ∙ whole-stops rows checked (h ∷ hs) c e;
      same = λ t.
          ap (λ name. reference_at true rows (name ++ t)) (sym r.2)
          ∙ (read t ∙ sym (read [])
          ∙ (ap (reference_at true rows) (append-nil ((r.0).name)) ∙ ap (reference_at true rows) r.2));
    }

semicolon-ends : (cs : List ℕ) → ends_with nat_eq (cs ++ 59 ∷ []) (59 ∷ []) ≡ true
semicolon-ends cs = (ends_is Decides-eqb (cs ++ 59 ∷ []) (59 ∷ []) _ refl).1 cs refl

-- "&", a name and ";" stand at the front of a text
front-of_reference : (inner name after rest : List ℕ) → inner ≡ name ++ after → after ≡ 59 ∷ rest → inner ≡ (name ++ 59 ∷ []) ++ rest
front-of_reference inner name after rest e f = e ∙ ap (λ u. name ++ u) f ∙ sym (append_assoc name (59 ∷ []) rest)

name-utf8 : (name : List ℕ) → IsUtf8 name → IsUtf8 (name ++ 59 ∷ [])
name-utf8 name utf8 = IsUtf8-append name (59 ∷ []) utf8 (IsUtf8-from_ascii (59 ∷ []) (ascii-one 59 (omega arith)))

name-width : (name : List ℕ) → length name + 1 ≡ length (name ++ 59 ∷ [])
name-width name = omega (arith, length-append name (59 ∷ []))

name-taken : (inner name after rest : List ℕ) → inner ≡ name ++ after → after ≡ 59 ∷ rest → take (length name + 1) inner ≡ name ++ 59 ∷ []
name-taken inner name after rest e f = ap (λ n. take n inner) (name-width name)
    ∙ ap (take (length (name ++ 59 ∷ []))) (front-of_reference inner name after rest e f) ∙ take-append_seam (name ++ 59 ∷ []) rest

pub name-cut : (inner name after rest : List ℕ) → inner ≡ name ++ after → after ≡ 59 ∷ rest → IsUtf8 inner
    → IsUtf8 name → IsCharBoundary inner (length name + 1)
name-cut inner name after rest e f utf8 cut =
    IsCharBoundary-from_take inner (length name + 1) utf8
    (omega (arith, ap length (front-of_reference inner name after rest e f), length-append (name ++ 59 ∷ []) rest, name-width name))
    (subst IsUtf8 (sym (name-taken inner name after rest e f)) (name-utf8 name cut))

pub reference-found : (text inner name after rest slice : List ℕ) → text ≡ 38 ∷ inner → inner ≡ name ++ after
    → after ≡ 59 ∷ rest → IsUtf8 name → slice ≡ slice_range inner 0 (length name + 1) → IsReferenceAt slice rest text
reference-found text inner name after rest slice is e f cut lent =
    let same : slice ≡ name ++ 59 ∷ [] = lent ∙ from-front inner (length name + 1) ∙ name-taken inner name after rest e f in
    rw same (record {
      whole = is ∙ ap (λ u. 38 ∷ u) (front-of_reference inner name after rest e f);
      utf8 = name-utf8 name cut;
      ends = ap (λ cs. ends_with nat_eq cs (59 ∷ [])) (chars-append name (59 ∷ []) cut ∙ ap (λ u. chars name ++ u)
          (chars-IsAscii (59 ∷ []) (ascii-one 59 (omega arith)))) ∙ semicolon-ends (chars name);
    })

-- nothing stands after the name in what is held
stands-resolved : (rows : List Row) (cs : List ℕ) (found : Found) → StandsFor rows cs found
    → resolved_by (Some (reference_of found)) cs ≡ (reference_of found).chars
stands-resolved rows cs found whole = ap (λ n. (reference_of found).chars ++ drop n cs) whole.is.len
    ∙ ap (λ u. (reference_of found).chars ++ u) (drop-length cs) ∙ append-nil ((reference_of found).chars)

module _ {K H : Type 0} (Sink : Ghosts K H) (laws : SinkLaws Sink.is_sound Sink.step Sink.ended Sink.is_quiet) where
  -- a whole name is told in data as what it stands for, whatever follows
  whole-says : (old : Tokenizer K) (cs : List ℕ) → IsWholeName (rows_of old) cs → (b : ℕ) (s : Sink.State × Notes ℕ)
      → Sink.is_sound s.0 → (t : List ℕ)
      → at Sink state.Data old b s (38 ∷ cs ++ t) ≡
      (noting Sink.step Sink.is_quiet (s.0, more (owed_for (fault_of_reference (rows_of old) cs)) s.1)
      (CharacterTokens (resolved false (rows_of old) cs false)) (line_number b) >>= λ p. at Sink state.Data old b p.0 t)
  whole-says old cs whole b s h [] = data-at_end Sink laws old cs whole.held b s h
  whole-says old cs whole b s h (c ∷ t) = data-resolves Sink laws old cs c
      (record { checked = whole.checked; held = whole.held; front = whole.front; ends = whole.ends c }) b s h t

  pub whole-told : (old new : Tokenizer K) (cs : List ℕ) (result : Result (Unit {0}) ParseFault)
      → IsAt old state.Data → Sink.is_sound (Sink.view old.sink) → IsWholeName (rows_of old) cs
      → Tells Sink (owed_for (fault_of_reference (rows_of old) cs))
      (CharacterTokens (resolved false (rows_of old) cs false)) old new result → KeepsRun Sink old new (38 ∷ cs) result
  whole-told old new cs (Ok x) from ok whole told =
      let token = CharacterTokens (resolved false (rows_of old) cs false) in
      let owed = owed_for (fault_of_reference (rows_of old) cs) in
      let heard = and_heard (Sink.is_quiet (Sink.view old.sink) token) owed in
      record {
        paused = tt;
        owed = heard;
        rises = told.rises;
        same = λ notes t.
            now-at Sink old state.Data old.stream.breaks (Sink.view old.sink, notes) ((38 ∷ cs) ++ t) from
            ∙ whole-says old cs whole old.stream.breaks (Sink.view old.sink, notes) ok t
            ∙ told-next Sink owed old new token notes (λ s. at Sink state.Data old old.stream.breaks s t) told
            ∙ sym (now-target Sink old new.sink state.Data old.stream.breaks (Sink.view new.sink, more heard notes) t from)
            ∙ sym (ap (λ k. now Sink k old.stream.breaks (Sink.view new.sink, more heard notes) t) told.changed);
        stream = ap (λ k. k.stream) told.changed;
        sound = told.sound;
        fits = ap (λ (k : Tokenizer K). fits_in (rows_of k) k.char_ref k.state) told.changed ∙ fits-at old state.Data from;
        stays = told.stays;
      }
  whole-told old new cs (Err fault) from ok whole fails = (
    fails.0,
    λ notes t.
        token-fails Sink old.sink new.sink _ (Sink.view old.sink)
        (more (owed_for (fault_of_reference (rows_of old) cs)) notes)
        (CharacterTokens (resolved false (rows_of old) cs false)) (line_number old.stream.breaks) fault _ fails.1
        (now-at Sink old state.Data old.stream.breaks (Sink.view old.sink, notes) ((38 ∷ cs) ++ t) from
        ∙ whole-says old cs whole old.stream.breaks (Sink.view old.sink, notes) ok t),
  )

  -- what it stands for was told
  pub whole-emitted : (old new : Tokenizer K) (cs front text : List ℕ) (found : Found)
      (result : Result (Unit {0}) ParseFault) → IsAt old state.Data → Sink.is_sound (Sink.view old.sink)
      → StandsFor (rows_of old) cs found → text ≡ front ++ (reference_of found).chars → front ≡ []
      → Tells Sink nothing_owed (CharacterTokens text) old new result → KeepsRun Sink old new (38 ∷ cs) result
  whole-emitted old new cs front text found result from ok whole pushed none tells =
      whole-told old new cs result from ok whole.name
      (reference-told Sink laws false false old new cs front text (Some (reference_of found)) result refl
      (sym (whole.is.faultless whole.ends))
      (pushed ∙ ap (λ u. front ++ u) (sym (stands-resolved (rows_of old) cs found whole))) none (whole.is.stands false) tells)

  -- no memory was left for it
  pub whole-unmade : (old : Tokenizer K) (cs : List ℕ) (fault : ParseFault) (result : Result (Unit {0}) ParseFault)
      → Sink.is_sound (Sink.view old.sink) → fault ≡ Memory → IsErrAnd result (λ y. y ≡ fault) → KeepsRun Sink old old (38 ∷ cs) result
  whole-unmade old cs fault result ok memory e =
      let p = err_from_is_err_and result e in
      rw (p.1, p.2, memory) (fell-same Sink old.sink old.sink refl ok, λ notes t. tt)

module _ {K H : Type 0} (Sink : Ghosts K H) where
  -- the machine with what a whole name stands for after its value
  abbrev with_whole : Tokenizer K → List ℕ → Tokenizer K
  with_whole k cs = record k { attribute_value = k.attribute_value ++ resolved true (rows_of k) cs false }

  -- a whole name in a value is read as what it stands for, whatever follows
  whole-value-says : (kind : AttrValueKind) (old : Tokenizer K) (cs : List ℕ) → IsWholeName (rows_of old) cs
      → (b : ℕ) (s : Sink.State × Notes ℕ) (t : List ℕ)
      → at Sink (state.AttributeValue kind) old b s (38 ∷ cs ++ t) ≡ at Sink (state.AttributeValue kind)
      (with_whole old cs) b (wronged_by Sink old cs s) t
  whole-value-says kind old cs whole b s [] = value-at_end Sink kind old cs whole.held b s
  whole-value-says kind old cs whole b s (c ∷ t) =
      value-resolves Sink kind old cs (c ∷ t) false whole.held
      (whole.same (c ∷ t) ∙ reference-end true (rows_of old) cs)
      (fault-decided (rows_of old) cs c t whole.checked whole.front (whole.ends c)) b s

  whole-pushed : (kind : AttrValueKind) (old : Tokenizer K) (cs text : List ℕ) (found : Option Reference)
      → IsAt old (state.AttributeValue kind) → Sink.is_sound (Sink.view old.sink) → IsWholeName (rows_of old) cs
      → text ≡ old.attribute_value ++ resolved_by found cs → found ≡ decided true (rows_of old) cs false
      → KeepsRun Sink old (record old { attribute_value = text }) (38 ∷ cs) (Ok tt)
  whole-pushed kind old cs text found from ok whole pushed is =
      let wrong = is_some (fault_of_reference (rows_of old) cs) in
      let same : text ≡ old.attribute_value ++ resolved true (rows_of old) cs false = pushed
      ∙ ap (λ o. old.attribute_value ++ resolved_by o cs) is in
      let there : IsAt (with_whole old cs) (state.AttributeValue kind) = record { state = from.state; fresh = from.fresh } in
      rw same (record {
        paused = tt;
        owed = owed_for (slight_if wrong);
        rises = rises-slight Sink.errors wrong old.sink old.sink refl;
        same = λ notes t.
            now-at Sink old (state.AttributeValue kind) old.stream.breaks (Sink.view old.sink, notes) ((38 ∷ cs) ++ t) from
            ∙ whole-value-says kind old cs whole old.stream.breaks (Sink.view old.sink, notes) t
            ∙ sym (now-at Sink (with_whole old cs) (state.AttributeValue kind) old.stream.breaks
            (wronged_by Sink old cs (Sink.view old.sink, notes)) t there);
        stream = refl;
        sound = ok;
        fits = fits-at (with_whole old cs) (state.AttributeValue kind) there;
        stays = stays-same Sink old.sink old.sink refl;
      })

  whole-taken : (kind : AttrValueKind) (old : Tokenizer K) (cs text : List ℕ) (found : Option Reference)
      (result : Result (Unit {0}) ParseFault) → IsAt old (state.AttributeValue kind)
      → Sink.is_sound (Sink.view old.sink) → IsWholeName (rows_of old) cs
      → OnOk result (text ≡ old.attribute_value ++ resolved_by found cs) → IfErr result (λ fault. fault ≡ Memory)
      → found ≡ decided true (rows_of old) cs false → KeepsRun Sink old (record old { attribute_value = text }) (38 ∷ cs) result
  whole-taken kind old cs text found (Ok x) from ok whole pushed memory is = whole-pushed kind old cs text found from ok whole pushed is
  whole-taken kind old cs text found (Err fault) from ok whole pushed memory is =
      rw memory (fell-same Sink old.sink old.sink refl ok, λ notes t. tt)

  valued : (rows : List Row) (cs front text : List ℕ) (found : Found) (result : Result (Unit {0}) ParseFault)
      → StandsFor rows cs found → OnOk result (text ≡ front ++ (reference_of found).chars)
      → OnOk result (text ≡ front ++ resolved_by (Some (reference_of found)) cs)
  valued rows cs front text found (Ok x) whole pushed =
      pushed ∙ ap (λ u. front ++ u) (sym (stands-resolved rows cs found whole))
  valued rows cs front text found (Err fault) whole pushed = tt

  -- what it stands for was put after a value
  pub whole-valued : (kind : AttrValueKind) (old : Tokenizer K) (cs text : List ℕ) (found : Found)
      (result : Result (Unit {0}) ParseFault) → IsAt old (state.AttributeValue kind)
      → Sink.is_sound (Sink.view old.sink) → StandsFor (rows_of old) cs found
      → OnOk result (text ≡ old.attribute_value ++ (reference_of found).chars)
      → IfErr result (λ fault. fault ≡ Memory) → KeepsRun Sink old (record old { attribute_value = text }) (38 ∷ cs) result
  whole-valued kind old cs text found result from ok whole pushed memory =
      whole-taken kind old cs text (Some (reference_of found)) result from ok whole.name
      (valued (rows_of old) cs old.attribute_value text found result whole pushed) memory (whole.is.stands true)

module _ {K H : Type 0} (Sink : Ghosts K H) where
  -- the bytes of "&" and a name stand at the front of the text, and spell these characters
  pub record Spells (name rest text : List ℕ) (cs : List ℕ) : Type 0 where
    pub whole : text ≡ (38 ∷ name) ++ rest
    pub utf8 : IsUtf8 (38 ∷ name)
    pub spelled : chars (38 ∷ name) ≡ 38 ∷ cs

  pub reference-spells : (name rest text : List ℕ) → IsReferenceAt name rest text → Spells name rest text (chars name)
  reference-spells name rest text at = record {
    whole = at.whole;
    utf8 = utf8-cons 38 name (omega arith) at.utf8;
    spelled = chars-cons 38 name (omega arith);
  }

  -- the text may be cut after them
  pub reference-cut : (name rest text read : List ℕ) (cs : List ℕ) (width : ℕ) → IsUtf8 text → text ≡ read
      → width ≡ length text - length rest → Spells name rest text cs → IsCharBoundary read width
  reference-cut name rest text read cs width utf8 e is at =
      let front = 38 ∷ name in
      let n : width ≡ length front = omega (arith, is, ap length at.whole, length-append front rest) in
      let taken : take (length front) text ≡ front = ap (take (length front)) at.whole ∙ take-append_seam front rest in
      subst (λ u. IsCharBoundary u width) e
      (subst (IsCharBoundary text) (sym n)
      (IsCharBoundary-from_take text (length front) utf8
      (omega (arith, ap length at.whole, length-append front rest)) (subst IsUtf8 (sym taken) at.utf8)))

  front-unbroken : (cs : List ℕ) → list_all is_held cs ≡ true → IsUnbroken (38 ∷ cs)
  front-unbroken cs held = All-cons (λ c. (nat_eq c 10 ≡ false) × (nat_eq c 13 ≡ false)) 38 cs (refl, refl) (held-whole cs held)

  pub reference-taken : (old new : Tokenizer K) (name rest text cs : List ℕ) → Spells name rest text cs
      → list_all is_held cs ≡ true → KeepsRun Sink old new (38 ∷ cs) (Ok tt) → TakesFront Sink old new text rest
  reference-taken old new name rest text cs at held p = record {
    front = 38 ∷ name;
    whole = at.whole;
    utf8 = at.utf8;
    unbroken = subst IsUnbroken (sym at.spelled) (front-unbroken cs held);
    took = subst (TookRun Sink old new) (sym at.spelled) p;
  }

  -- the input stays stuck where what it stands for could not be told
  pub reference-stuck : (st : State) (old new : Tokenizer K) (from to : Queue) (name rest text read cs : List ℕ)
      (width : ℕ) (fault : ParseFault) (answer : ProcessResult H) (result : Result (Unit {0}) ParseFault)
      → ReadsAhead old st → text ≡ read → width ≡ length text - length rest → Spells name rest text cs → list_all is_held cs ≡ true
      → Takes (chars (take width read)) from to → KeepsRun Sink (heeding Sink old) new (38 ∷ cs) (Err fault)
      → IsErrAnd result (λ y. y ≡ fault) → Moves Sink old new from to (answered answer result)
  reference-stuck st old new from to name rest text read cs width fault answer result reads e is at held takes fails wrong =
      let p = err_from_is_err_and result wrong in
      let front = 38 ∷ name in
      let run = 38 ∷ cs in
      let n : width ≡ length front = omega (arith, is, ap length at.whole, length-append front rest) in
      let taken : chars (take width read) ≡ run = ap (λ u. chars (take width u)) (sym e)
      ∙ ap (λ k. chars (take k text)) n ∙ ap chars (ap (take (length front)) at.whole ∙ take-append_seam front rest) ∙ at.spelled in
      let comes : (t : List ℕ) → coming_in old.stream (run ++ t) ≡ run ++ coming_in (heeding Sink old).stream t =
      λ t. front-comes old.stream run t reads.unmarked (omega arith) (front-unbroken cs held) in
      rw (p.1, p.2) (record {
        lost = run;
        takes = subst (λ u. Takes u from to) taken takes;
        fell = fails.0;
        fails = λ notes t. fails-along Sink old.sink new.sink _ _ fault
            (comes-to Sink old (heeding Sink old) (run ++ t) (run ++ coming_in (heeding Sink old).stream t) notes
            refl refl (comes t)) (fails.1 notes (coming_in (heeding Sink old).stream t));
      })

  -- less is left than there was
  pub reference-shorter : (name rest text : List ℕ) → IsReferenceAt name rest text → length rest < length text
  reference-shorter name rest text at = omega (arith, ap length at.whole, length-append name rest)
