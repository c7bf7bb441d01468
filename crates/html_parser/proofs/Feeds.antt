-- What calls of a tokenizer read, one after the other.
use Rattle.std.proofs.Common.{◌≡◌, ◌∙◌, ℕ, ◌<◌, true, false, List, [], ◌∷◌, ◌++◌, length, Option, Some, None, Result, Ok, Err}
use Rattle.std.proofs.Common.{append_assoc, append-nil, length-append, arith, refl, sym, ap, subst}
use Rattle.std.specs.Prelude.{IsErr, OnOk, is_err}
use Rattle.markup.specs.declared.fault.ParseFault.{ParseFault}
use Rattle.markup.specs.declared.fault.ParseFault.TheVariants.{Memory, TokenInText, Ended, Shape, Failed}
use Rattle.markup.specs.declared.tokenizer_result.TokenizerResult.{TokenizerResult}
use Rattle.markup.specs.declared.tokenizer_result.TokenizerResult.TheVariants.{Done, Script, EncodingIndicator}
use Rattle.html_queue.specs.Queue.{Queue, Takes}
use Rattle.html_tokens.specs.Laws.{IsNotedReadAlike}
use Rattle.html_tokens.specs.Notes.{Notes, no_notes, without_notes}
use Rattle.html_tokens.specs.NormalText.{normal_text}
use Rattle.html_tokens.specs.Reading.{first_stand}
use Rattle.html_tokens.specs.Sink.{IsRefusal, Reply}
use Rattle.html_tokens.specs.Table.{Row}
use Rattle.html_tokens.specs.declared.options.TokenizerOpts.{TokenizerOpts}
use Rattle.html_tokens.specs.declared.sink.TokenSink.{Ghosts}
use Rattle.html_tokens.specs.declared.token.Token.{Token}
use Rattle.html_tokenizer.specs.Calls.{last_of, EndGives, FailsToEnd, Fed, FeedGives, HasEnded, HasFailed, HasMoved, IsNew}
use Rattle.html_tokenizer.specs.Calls.{owed_for_text, refusal_of}
use Rattle.html_tokenizer.specs.Rest.{coming}
use Rattle.html_tokenizer.specs.Steps.{FailsAmong, more, together}
use Rattle.html_tokenizer.specs.declared.tokenizer.Tokenizer.{Tokenizer}
use Rattle.html_parser.specs.Read.{Beginning, EndsAll, FailsAfter, FeedsAll, HasRead, IsLeft, IsRefusedAfter, ReadsOn, RisesTo}
use Rattle.html_parser.specs.Read.{TakesText, beginning, left_by, note_whole, read_whole}
use Rattle.html_parser.proofs.Rising.{by-number, nothing-comes, rises-ended, rises-moved, rises-new}

-- what is refused is refused also where what is noted is left out
still-refused : {S F : Type 0} (r : Result (S × Notes ℕ) (F × ℕ)) → IsErr r → IsErr (without_notes r)
still-refused (Ok p) h = absurd cc
still-refused (Err e) h = refl

-- what a call that did not fail gives
pub not-failed : {P : Type 0} (r : Result (Unit {0}) ParseFault) → OnOk r P → is_err r ≡ false → P
not-failed (Ok x) h e = h
not-failed (Err fault) h e = absurd cc

last-some : (t : List ℕ) → last_of t ≡ 62 → 0 < length t
last-some [] e = absurd (omega arith)
last-some (c ∷ t) e = omega arith

shorter : (from to : Queue) (first : List ℕ) → Takes first from to → 0 < length first → length to.characters < length from.characters
shorter from to first takes some = let e = simp length-append at (ap length takes.split) in omega arith

-- the answer of a call that failed so
abbrev failed_by : (A : Type 0) → ParseFault → Result A ParseFault
failed_by A fault = Err fault

abbrev fault_or : {A : Type 0} → ParseFault → Result A ParseFault → ParseFault
fault_or other (Ok x) = other
fault_or other (Err fault) = fault

-- what fails so in one call fails so in another
failed-same : (A B : Type 0) (fault other : ParseFault) → failed_by A fault ≡ failed_by A other → failed_by B fault ≡ failed_by B other
failed-same A B fault other e = ap (failed_by B) (ap (fault_or fault) e)

module _ {K H : Type 0} (Sink : Ghosts K H) where
  -- what fails by a refusal is refused
  is-refused : {A F : Type 0} (among : Token → Type 0) (old left : K) (given : Result A F) (fault : ParseFault)
      → IsRefusal fault → FailsAmong Sink among old left given fault → IsErr given
  is-refused among old left given Memory r h = absurd r
  is-refused among old left given TokenInText r h = h.0
  is-refused among old left given Ended r h = h.0
  is-refused among old left given Shape r h = h.0
  is-refused among old left given Failed r h = absurd r

  -- a tokenizer that is new has read nothing
  pub read-nothing : (k : Tokenizer K) (sink : K) (opts : TokenizerOpts) (table : List Row)
      → IsNotedReadAlike Sink.step Sink.is_quiet Sink.asks_cdata Sink.ended → IsNew Sink k sink opts table
      → HasRead Sink (beginning table opts (Sink.view sink) (Sink.errors sink)) [] k
  read-nothing k sink opts table alike new = record {
    notes = no_notes;
    same = λ t. ap without_notes (new.same no_notes t)
        ∙ alike table (first_stand opts.initial_state opts.last_start_tag_name) 0 (Sink.view sink) no_notes
        (normal_text opts.discard_bom t);
    noted = λ t. new.same no_notes t;
    came = [];
    comes = λ t. sym (new.comes t);
    exact = new.exact;
    rises = rises-new opts.exact_errors (Sink.errors sink) (Sink.errors k.sink) (ap Sink.errors new.over);
  }

  -- what a call took was read
  moved-behind : {pauses : List Reply → List Reply} {leaves : List ℕ → Type 0} (old new : Tokenizer K)
      (from to : Queue) → (moved : HasMoved Sink pauses leaves old new from to)
      → (begin : Beginning Sink.State) (before : List ℕ) → HasRead Sink begin before old → HasRead Sink begin (before ++ moved.taken) new
  moved-behind {pauses} old new from to moved begin before r = record {
    notes = record (more moved.owed r.notes) { pauses = pauses r.notes.pauses };
    same = λ t. ap without_notes (sym (moved.same r.notes t))
        ∙ (r.same (moved.taken ++ t) ∙ ap (read_whole Sink begin) (sym (append_assoc before moved.taken t)));
    noted = λ t. sym (moved.same r.notes t)
        ∙ (r.noted (moved.taken ++ t) ∙ ap (note_whole Sink begin) (sym (append_assoc before moved.taken t)));
    came = r.came ++ moved.came;
    comes = λ t.
        ap (normal_text begin.discard_bom) (append_assoc before moved.taken t)
        ∙ (r.comes (moved.taken ++ t) ∙ (ap (λ u. r.came ++ u) (moved.comes t) ∙ sym (append_assoc r.came moved.came (coming new t))));
    exact = moved.exact ∙ r.exact;
    rises = rises-moved begin.exact_errors moved.owed r.notes (pauses r.notes.pauses) r.came moved.came begin.errors
        (Sink.errors old.sink) (Sink.errors new.sink) r.rises
        (subst (λ b. RisesTo (together moved.owed (owed_for_text b moved.came)) (Sink.errors old.sink)
        (Sink.errors new.sink)) r.exact (by-number Sink.errors old.sink new.sink moved.rises));
  }

  read-moved : {pauses : List Reply → List Reply} {leaves : List ℕ → Type 0} (old new : Tokenizer K)
      (from to : Queue) → (moved : HasMoved Sink pauses leaves old new from to) → ReadsOn Sink old new moved.taken
  read-moved old new from to moved = record { reads = moved-behind old new from to moved; works = moved.stays.failed }

  -- what tells that the sink failed tells it of the sink before
  had-failed : {A F : Type 0} (among : Token → Type 0) (old left : K) (given : Result A F) (fault : ParseFault)
      → FailsAmong Sink among old left given fault → fault ≡ Failed → Sink.has_failed old ≡ true
  had-failed among old left given fault fails e = subst (λ x. FailsAmong Sink among old left given x) e fails

  -- where a call fails by a refusal, what it was to take is refused
  refused-behind : (old : Tokenizer K) (left : K) (from to : Queue) (fault : ParseFault)
      → HasFailed Sink old left from to fault → IsRefusal fault → (begin : Beginning Sink.State) (before : List ℕ)
      → HasRead Sink begin before old → IsRefusedAfter Sink begin before
  refused-behind old left from to fault failed refusal begin before r =
      let r' = moved-behind old failed.at from failed.via failed.moved begin before r in
      let text = failed.moved.taken ++ (failed.stuck.lost ++ []) in
      let err = still-refused _ (is-refused _ failed.at.sink left _ fault refusal (failed.stuck.fails r'.notes [])) in
      record {
        behind = text;
        is = subst (λ x. IsErr x) (r'.same (failed.stuck.lost ++ []) ∙ ap (read_whole Sink begin)
            (append_assoc before failed.moved.taken (failed.stuck.lost ++ []))) err;
      }

  failed-behind : (old : Tokenizer K) (left : K) (from to : Queue) (fault : ParseFault)
      → HasFailed Sink old left from to fault → FailsAfter Sink old fault
  failed-behind old left from to fault failed = record {
    refused = refused-behind old left from to fault failed;
    failed = λ e. failed.moved.stays.failed (had-failed _ failed.at.sink left _ fault (failed.stuck.fails no_notes []) e);
  }

  -- so where the end can't be told
  end-behind : (old new : Tokenizer K) (fault : ParseFault) → FailsToEnd Sink old new fault → FailsAfter Sink old fault
  end-behind old new fault failed = record {
    refused = λ refusal begin before r. record {
      behind = [];
      is = subst (λ x. IsErr x) (r.same []) (still-refused _ (is-refused _ old.sink new.sink _ fault refusal (failed.fails r.notes)));
    };
    failed = λ e. had-failed _ old.sink new.sink _ fault (failed.fails no_notes) e;
  }

  -- what is refused after a text that was read is refused after what was read before it
  pub behind-both : (begin : Beginning Sink.State) (before text : List ℕ) → IsRefusedAfter Sink begin
      (before ++ text) → IsRefusedAfter Sink begin before
  behind-both begin before text r = record {
    behind = text ++ r.behind;
    is = subst (λ x. IsErr (read_whole Sink begin x)) (append_assoc before text r.behind) r.is;
  }

  pub fails-on : (old new : Tokenizer K) (text : List ℕ) (fault : ParseFault) → ReadsOn Sink old new text
      → FailsAfter Sink new fault → FailsAfter Sink old fault
  fails-on old new text fault reads fails = record {
    refused = λ refusal begin before r. behind-both begin before text
        (fails.refused refusal begin (before ++ text) (reads.reads begin before r));
    failed = λ e. reads.works (fails.failed e);
  }

  pub reads-no_more : (k : Tokenizer K) → ReadsOn Sink k k []
  reads-no_more k = record { reads = λ begin before r. subst (λ t. HasRead Sink begin t k) (sym (append-nil before)) r; works = λ e. e }

  pub reads-both : (old mid new : Tokenizer K) (a b : List ℕ) → ReadsOn Sink old mid a → ReadsOn Sink mid new b
      → ReadsOn Sink old new (a ++ b)
  reads-both old mid new a b r r' = record {
    reads = λ begin before read. subst (λ t. HasRead Sink begin t new) (append_assoc before a b)
        (r'.reads begin (before ++ a) (r.reads begin before read));
    works = λ e. r.works (r'.works e);
  }

  pub reads-same : (old new : Tokenizer K) (a b : List ℕ) → a ≡ b → ReadsOn Sink old new a → ReadsOn Sink old new b
  reads-same old new a b e r = subst (λ t. ReadsOn Sink old new t) e r

  -- of a text some was read, and this is left
  pub record Fronts (old now : Tokenizer K) (text left : List ℕ) : Type 0 where
    pub front : List ℕ
    pub reads : ReadsOn Sink old now front
    pub whole : front ++ left ≡ text
    pub begun : refusal_of now ≡ None

  -- how far the calls have come, where nothing stood against the first; else all is as it was
  abbrev pub IsFeeding : Option ParseFault → Tokenizer K → Tokenizer K → Queue → Queue → Type 0
  IsFeeding None old now from input = Fronts old now from.characters input.characters
  IsFeeding (Some fault) old now from input = (refusal_of now ≡ Some fault) × (now ≡ old) × (input ≡ from)

  pub feeding-starts : (old : Tokenizer K) (from : Queue) → IsFeeding (refusal_of old) old old from from
  feeding-starts old from = by (refusal_of old) refl
    where
      by : (refused : Option ParseFault) → refusal_of old ≡ refused → IsFeeding refused old old from from
      by None e = record { front = []; reads = reads-no_more old; whole = refl; begun = e }
      by (Some fault) e = (e, refl, refl)

  fronts-fed : (old now new : Tokenizer K) (text : List ℕ) (input to : Queue) (result : TokenizerResult H)
      → Fronts old now text input.characters → Fed Sink now new input to result → Fronts old new text to.characters
  fronts-fed old now new text input to result f fed = record {
    front = f.front ++ fed.taken;
    reads = reads-both old now new f.front fed.taken f.reads (read-moved now new input to fed);
    whole = append_assoc f.front fed.taken to.characters ∙ (ap (λ t. f.front ++ t) (sym fed.takes.split) ∙ f.whole);
    begun = rw (fed.failed, fed.ended) f.begun;
  }

  pub feeding-fed : (refused : Option ParseFault) (old now new : Tokenizer K) (from input to : Queue)
      (result : TokenizerResult H) → IsFeeding refused old now from input
      → FeedGives Sink (refusal_of now) now new input to (Ok result) → IsFeeding refused old new from to
  feeding-fed None old now new from input to result f gives =
      let fed = rw f.begun at gives in
      fronts-fed old now new from.characters input to result f fed
  feeding-fed (Some fault) old now new from input to result f gives =
      let none = rw f.0 at gives in
      absurd (let e = none.0 in cc)

  pub feeding-done : (refused : Option ParseFault) (old now new : Tokenizer K) (from input to : Queue)
      → IsFeeding refused old now from input
      → FeedGives Sink (refusal_of now) now new input to (Ok Done) → FeedsAll Sink refused old new from to (Ok tt)
  feeding-done None old now new from input to f gives =
      let fed = rw f.begun at gives in
      let f' = fronts-fed old now new from.characters input to Done f fed in
      let all = ap (λ t. f'.front ++ t) (sym fed.left.0) ∙ f'.whole in
      (reads-same old new f'.front from.characters (sym (append-nil f'.front) ∙ all) f'.reads, fed.left.0, f'.begun)
  feeding-done (Some fault) old now new from input to f gives =
      let none = rw f.0 at gives in
      absurd (let e = none.0 in cc)

  pub feeding-failed : (refused : Option ParseFault) (old now new : Tokenizer K) (from input to : Queue)
      (fault : ParseFault) → IsFeeding refused old now from input
      → FeedGives Sink (refusal_of now) now new input to (Err fault) → FeedsAll Sink refused old new from to (Err fault)
  feeding-failed None old now new from input to fault f gives =
      let failed = rw f.begun at gives in
      (failed.0, fails-on old now f.front fault f.reads (failed-behind now new.sink input to fault failed.1))
  feeding-failed (Some other) old now new from input to fault f gives =
      let same = rw f.0 at gives in
      (failed-same (TokenizerResult H) (Unit {0}) fault other same.0, same.1 ∙ f.1, same.2 ∙ f.2)

  pub paused-shorter : (now new : Tokenizer K) (input to : Queue) (handle : H) → FeedGives Sink (refusal_of now) now
      new input to (Ok (Script handle)) → length to.characters < length input.characters
  paused-shorter now new input to handle gives = by (refusal_of now) gives
    where
      by : (refused : Option ParseFault) → FeedGives Sink refused now new input to (Ok (Script handle))
          → length to.characters < length input.characters
      by None fed = shorter input to fed.taken fed.takes (last-some fed.taken fed.left.0)
      by (Some fault) same = absurd (let e = same.0 in cc)

  pub hinted-shorter : (now new : Tokenizer K) (input to : Queue) (label : List ℕ)
      → FeedGives Sink (refusal_of now) now new input to (Ok (EncodingIndicator label)) → length to.characters < length input.characters
  hinted-shorter now new input to label gives = by (refusal_of now) gives
    where
      by : (refused : Option ParseFault) → FeedGives Sink refused now new input to (Ok (EncodingIndicator label))
          → length to.characters < length input.characters
      by None fed = shorter input to fed.taken fed.takes (last-some fed.taken fed.left.0)
      by (Some fault) same = absurd (let e = same.0 in cc)

  -- where the input was read, the end leaves what the whole text does
  ended-whole : (k new : Tokenizer K) (begin : Beginning Sink.State) (text : List ℕ) → HasRead Sink begin text k
      → HasEnded Sink k new → IsLeft Sink begin text new.sink
  ended-whole k new begin text r e =
      let noted : note_whole Sink begin text ≡ Ok (Sink.view new.sink, more e.owed r.notes) =
      ap (note_whole Sink begin) (sym (append-nil text)) ∙ (sym (r.noted []) ∙ e.same r.notes) in
      let came : normal_text begin.discard_bom text ≡ r.came = ap (normal_text begin.discard_bom)
      (sym (append-nil text)) ∙ (r.comes [] ∙ (ap (λ u. r.came ++ u) (nothing-comes k) ∙ append-nil r.came)) in
      record {
        is = ap (read_whole Sink begin) (sym (append-nil text)) ∙ (sym (r.same []) ∙ ap without_notes (e.same r.notes));
        told = e.told;
        rises = rises-ended begin.exact_errors e.owed r.notes (note_whole Sink begin text) (Sink.view new.sink)
            (normal_text begin.discard_bom text) r.came begin.errors (Sink.errors k.sink) (Sink.errors e.told) noted
            came r.rises (by-number Sink.errors k.sink e.told e.rises);
        counts = e.counts;
      }

  -- input was fed, and then the end was told, or something failed
  end-given : (refused : Option ParseFault) (k mid new : Tokenizer K) (from to : Queue)
      → FeedsAll Sink refused k mid from to (Ok tt) → EndGives Sink (refusal_of mid) mid new (Ok tt)
      → EndsAll Sink refused k from.characters (Ok new.sink)
  end-given None k mid new from to fed gives = λ begin before r.
      let ended = rw fed.2 at gives in
      ended-whole mid new begin (before ++ from.characters) (fed.0.reads begin before r) ended
  end-given (Some fault) k mid new from to fed gives = absurd (let e = fed.0 in cc)

  end-refused : (refused : Option ParseFault) (k mid new : Tokenizer K) (from to : Queue) (fault : ParseFault)
      → FeedsAll Sink refused k mid from to (Ok tt) → EndGives Sink (refusal_of mid) mid new (Err fault)
      → EndsAll Sink refused k from.characters (Err fault)
  end-refused None k mid new from to fault fed gives =
      let failed = rw fed.2 at gives in
      fails-on k mid from.characters fault fed.0 (end-behind mid new fault failed.1)
  end-refused (Some other) k mid new from to fault fed gives = absurd (let e = fed.0 in cc)

  pub feed-refused : (refused : Option ParseFault) (k mid : Tokenizer K) (from to : Queue) (fault : ParseFault)
      → FeedsAll Sink refused k mid from to (Err fault) → EndsAll Sink refused k from.characters (Err fault)
  feed-refused None k mid from to fault fed = fed.1
  feed-refused (Some other) k mid from to fault fed = failed-same (Unit {0}) K fault other fed.0

  -- the same of either answer of the end
  pub end-answered : (refused : Option ParseFault) (k mid new : Tokenizer K) (from to : Queue)
      (result : Result (Unit {0}) ParseFault) → FeedsAll Sink refused k mid from to (Ok tt)
      → EndGives Sink (refusal_of mid) mid new result → EndsAll Sink refused k from.characters (left_by Sink new.sink result)
  end-answered refused k mid new from to (Ok x) fed gives = end-given refused k mid new from to fed gives
  end-answered refused k mid new from to (Err fault) fed gives = end-refused refused k mid new from to fault fed gives

  -- what waited was fed, and then a text
  pub text-taken : (refused left : Option ParseFault) (old mid new : Tokenizer K) (from waits mid_input to : Queue)
      (text : List ℕ) (result : Result (Unit {0}) ParseFault) → FeedsAll Sink refused old mid from waits (Ok tt)
      → mid_input.characters ≡ waits.characters ++ text → left ≡ refusal_of new → FeedsAll Sink (refusal_of mid) mid
      new mid_input to result → TakesText Sink refused left old new from to text result
  text-taken None left old mid new from waits mid_input to text (Ok x) fed e l fed' =
      let all = rw fed.2 at fed' in (
        reads-both old mid new from.characters text fed.0
            (reads-same mid new mid_input.characters text (e ∙ ap (λ t. t ++ text) fed.1) all.0),
        all.1,
        l ∙ all.2,
      )
  text-taken None left old mid new from waits mid_input to text (Err fault) fed e l fed' =
      let failed = rw fed.2 at fed' in
      (l ∙ has-failed new failed.0, fails-on old mid from.characters fault fed.0 failed.1)
    where
      has-failed : (k : Tokenizer K) → k.stream.has_failed ≡ true → refusal_of k ≡ Some Failed
      has-failed k h = rw h refl
  text-taken (Some fault) left old mid new from waits mid_input to text result fed e l fed' = absurd (let e = fed.0 in cc)
