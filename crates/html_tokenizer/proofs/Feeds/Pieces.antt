-- The input is taken piece by piece.
use Rattle.std.proofs.Common.{◌≡◌, ◌∙◌, ℕ, ◌<◌, Bool, true, List, [], ◌∷◌, ◌++◌, length, nat_eq, false, Result, Ok, Err, refl}
use Rattle.std.proofs.Common.{sym, ap, arith, append_assoc, length-append, subst, Option, Some}
use Rattle.std.specs.Result.{IsErrAnd}
use Rattle.std.proofs.lemmas.Result.{err_from_is_err_and}
use Rattle.markup.specs.declared.fault.ParseFault.{ParseFault}
use Rattle.markup.specs.declared.tokenizer_result.TokenizerResult.{TokenizerResult}
use Rattle.markup.specs.declared.tokenizer_result.TokenizerResult.TheVariants as answer
use Rattle.html_queue.specs.Queue.{Queue, Takes}
use Rattle.html_tokens.specs.declared.replies.ProcessResult.{ProcessResult}
use Rattle.html_tokens.specs.declared.replies.ProcessResult.TheVariants as flow
use Rattle.html_tokens.specs.Notes.{Notes, noting_error}
use Rattle.html_tokens.specs.Reading.{erred_by}
use Rattle.html_tokens.specs.Sink.{Reply}
use Rattle.html_tokenizer_parts.specs.CharRefs.{fits_in}
use Rattle.html_tokenizer.specs.Calls.{ComesAsRunAt, to_come, paused_with, IsReady, Passes, KeepsRun, answered, Leaves}
use Rattle.html_tokenizer.specs.Calls.{HasMoved, Moved, Moves, Fed, Runs, Rests, owed_for_text}
use Rattle.html_tokenizer_parts.specs.Input.{coming_in, newline_for, last_of, ComesAs, Vanishes}
use Rattle.html_tokenizer_parts.specs.Keywords.{IsPart}
use Rattle.html_tokenizer_parts.specs.declared.stream.Stream.{Stream}
use Rattle.html_tokenizer_parts.specs.declared.held_reference.Ampersand.{Ampersand}
use Rattle.html_tokenizer.specs.declared.tokenizer.Tokenizer.{Tokenizer}
use Rattle.html_tokenizer.specs.Rest.{fault_after, pending, coming, rows_of}
use Rattle.html_tokenizer_parts.specs.Words.{BeginsEnd}
use Rattle.html_tokenizer.proofs.HeldReferences.Parts.{holds-part, holds-end}
use Rattle.html_tokenizer.proofs.Untold.States.{untold}
use Rattle.html_tokenizer.specs.Steps.{Owed, PausesAt, paused_by, more, noted_by, Rises, now, Stays, nothing_owed, together}
use Rattle.html_tokenizer.proofs.Errors.Rises.{more-more, text-no-more, none-no-more, rises-same, rises-less, rises-besides}
use Rattle.std.specs.Prelude.{if◌then◌else◌}
use Rattle.html_tokenizer_parts.proofs.InputChars.{takes-more}
use Rattle.html_tokenizer.proofs.Steps.Keeping.{held-other, fails-along, fails-before, stays-same, stays-then, fell-behind}
use Rattle.html_tokenizer.specs.Stops.{stops_of}
use Rattle.html_queue.specs.declared.set.SmallCharSet.{SmallCharSet}
use Rattle.html_tokens.specs.declared.states.State.{State}
use Rattle.html_tokens.specs.declared.sink.TokenSink.{Ghosts}
use Rattle.html_tokenizer.specs.Listeners.{listening}

-- a character that stands for ">" is ">"
newline-close : (c : ℕ) (b : Bool) → nat_eq c 13 ≡ b → (if b then 10 else c) ≡ 62 → c ≡ 62
newline-close c true e h = absurd cc
newline-close c false e h = h

-- a text that ends in ">", whatever stands before it
last-close : (a b : List ℕ) → last_of b ≡ 62 → last_of (a ++ b) ≡ 62
last-close [] b h = h
last-close (c ∷ a) [] h = absurd cc
last-close (c ∷ []) (d ∷ b) h = h
last-close (c ∷ x ∷ a) (d ∷ b) h = last-close (x ∷ a) (d ∷ b) h

-- what is known of the input but for its front
abbrev pub IsOther : Stream → Stream → Type 0
IsOther old new = new ≡ record old { ignore_lf = new.ignore_lf; discard_bom = new.discard_bom }

module _ {K H : Type 0} (Sink : Ghosts K H) where
  -- The front of the input was taken from the queue: the machine is to make of the characters that come what it is to make of the input.
  pub comes-to : (old mid : Tokenizer K) (u v : List ℕ) (notes : Notes ℕ) → IsOther old.stream mid.stream
      → mid ≡ record old { stream = mid.stream } → coming_in old.stream u ≡ v
      → to_come Sink old notes u ≡ now Sink mid mid.stream.breaks (Sink.view mid.sink, notes) v
  comes-to old mid u v notes other is comes =
      ap (λ x. now Sink old old.stream.breaks (Sink.view old.sink, notes) x) comes
      ∙ sym (held-other (listening Sink) old.state old old.sink mid.stream old.stream.breaks
      (erred_by noting_error (fault_after old.char_ref) (Sink.view old.sink, notes))
      (pending old.char_ref ++ v) (ap (λ s. s.table) other))
      ∙ ap (λ n. now Sink (record old { stream = mid.stream }) n (Sink.view old.sink, notes) v) (sym (ap (λ s. s.breaks) other))
      ∙ sym (ap (λ (k : Tokenizer K). now Sink k mid.stream.breaks (Sink.view k.sink, notes) v) is)

  -- So far some characters were taken: whatever follows them, what is to come is what was to come.
  pub record Going (old new : Tokenizer K) (from to : Queue) : Type 0 where
    pub taken : List ℕ
    pub takes : Takes taken from to
    pub came : List ℕ
    pub comes : (t : List ℕ) → coming old (taken ++ t) ≡ came ++ coming new t
    pub owed : Owed
    pub rises : Rises Sink.errors (together owed (owed_for_text old.stream.exact_errors came)) old.sink new.sink
    pub same : (notes : Notes ℕ) (t : List ℕ) → to_come Sink old notes (taken ++ t) ≡ to_come Sink new (more owed notes) t
    pub ready : IsReady Sink new
    pub stays : Stays Sink old.sink new.sink
    pub ended : new.stream.has_ended ≡ old.stream.has_ended
    pub failed : new.stream.has_failed ≡ old.stream.has_failed
    pub exact : new.stream.exact_errors ≡ old.stream.exact_errors

  pub started : (old : Tokenizer K) (from : Queue) → IsReady Sink old → Going old old from from
  started old from ready = record {
    taken = [];
    takes = record { split = refl; counted = omega arith };
    came = [];
    comes = λ t. refl;
    owed = nothing_owed;
    rises = rises-less Sink.errors old.sink old.sink (none-no-more old.stream.exact_errors)
        (rises-same Sink.errors old.sink old.sink refl);
    same = λ notes t. refl;
    ready = ready;
    stays = stays-same Sink old.sink old.sink refl;
    ended = refl;
    failed = refl;
    exact = refl;
  }

  -- what was to come over all that was taken
  both-taken : (old mid new : Tokenizer K) (from via to : Queue) (result : ProcessResult H)
      (h : Going old mid from via) (m : Moved Sink mid new via to result) (notes : Notes ℕ) (t : List ℕ)
      → to_come Sink old notes ((h.taken ++ m.taken) ++ t) ≡ to_come Sink new (noted_by Sink.number (together m.owed h.owed) notes result) t
  both-taken old mid new from via to result h m notes t =
      ap (λ u. to_come Sink old notes u) (append_assoc h.taken m.taken t)
      ∙ h.same notes (m.taken ++ t)
      ∙ m.same (more h.owed notes) t
      ∙ ap (λ n. to_come Sink new (record n { pauses = paused_by Sink.number notes.pauses result }) t) (more-more m.owed h.owed notes)

  -- the characters that came of all that was taken
  both-come : (old mid new : Tokenizer K) (from via to : Queue) (result : ProcessResult H)
      (h : Going old mid from via) (m : Moved Sink mid new via to result) (t : List ℕ)
      → coming old ((h.taken ++ m.taken) ++ t) ≡ (h.came ++ m.came) ++ coming new t
  both-come old mid new from via to result h m t =
      ap (coming old) (append_assoc h.taken m.taken t)
      ∙ h.comes (m.taken ++ t)
      ∙ ap (λ u. h.came ++ u) (m.comes t)
      ∙ sym (append_assoc h.came m.came (coming new t))

  -- what errors rose by
  both-rise : (old mid new : Tokenizer K) (from via to : Queue) (result : ProcessResult H)
      (h : Going old mid from via) (m : Moved Sink mid new via to result)
      → Rises Sink.errors (together (together m.owed h.owed) (owed_for_text old.stream.exact_errors (h.came ++ m.came))) old.sink new.sink
  both-rise old mid new from via to result h m =
      rises-besides Sink.errors old.stream.exact_errors h.owed m.owed h.came m.came old.sink mid.sink new.sink
      h.rises (subst (λ b. Rises Sink.errors (together m.owed (owed_for_text b m.came)) mid.sink new.sink) h.exact m.rises)

  pub going-on : (old mid new : Tokenizer K) (from via to : Queue) → Going old mid from via
      → Moved Sink mid new via to flow.Continue → Going old new from to
  going-on old mid new from via to h m = record {
    taken = h.taken ++ m.taken;
    takes = takes-more h.taken m.taken from via to h.takes m.takes;
    came = h.came ++ m.came;
    comes = both-come old mid new from via to flow.Continue h m;
    owed = together m.owed h.owed;
    rises = both-rise old mid new from via to flow.Continue h m;
    same = both-taken old mid new from via to flow.Continue h m;
    ready = m.ready;
    stays = stays-then Sink old.sink mid.sink new.sink h.stays m.stays;
    ended = m.ended ∙ h.ended;
    failed = m.failed ∙ h.failed;
    exact = m.exact ∙ h.exact;
  }

  -- a step that goes on
  step-going : (old new : Tokenizer K) (from to : Queue) → Moved Sink old new from to flow.Continue → Going old new from to
  step-going old new from to m = record {
    taken = m.taken;
    takes = m.takes;
    came = m.came;
    comes = m.comes;
    owed = m.owed;
    rises = m.rises;
    same = m.same;
    ready = m.ready;
    stays = m.stays;
    ended = m.ended;
    failed = m.failed;
    exact = m.exact;
  }

  -- where a step ends so after more characters
  leaves-more : (result : ProcessResult H) (new : Tokenizer K) (a b : List ℕ) (to : Queue)
      → Leaves Sink result new b to → Leaves Sink result new (a ++ b) to
  leaves-more flow.Continue new a b to h = omega (arith, length-append a b)
  leaves-more flow.Suspend new a b to h = h
  leaves-more (flow.Script handle) new a b to h = (last-close a b h.0, h.1, h.2)
  leaves-more (flow.EncodingIndicator label) new a b to h = (last-close a b h.0, h.1, h.2)

  -- two steps are one
  pub moved-then : (old mid new : Tokenizer K) (from via to : Queue) (result : Result (ProcessResult H) ParseFault)
      → Moves Sink old mid from via (Ok flow.Continue) → Moves Sink mid new via to result → Moves Sink old new from to result
  moved-then old mid new from via to (Ok result) first m =
      let h = step-going old mid from via first in
      record {
        taken = h.taken ++ m.taken;
        takes = takes-more h.taken m.taken from via to h.takes m.takes;
        came = h.came ++ m.came;
        comes = both-come old mid new from via to result h m;
        owed = together m.owed h.owed;
        rises = both-rise old mid new from via to result h m;
        same = both-taken old mid new from via to result h m;
        ready = m.ready;
        stays = stays-then Sink old.sink mid.sink new.sink h.stays m.stays;
        ended = m.ended ∙ h.ended;
        failed = m.failed ∙ h.failed;
        exact = m.exact ∙ h.exact;
        left = leaves-more result new h.taken m.taken to m.left;
      }
  moved-then old mid new from via to (Err fault) first m =
      let h = step-going old mid from via first in
      record {
        lost = h.taken ++ m.lost;
        takes = takes-more h.taken m.lost from via to h.takes m.takes;
        fell = fell-behind Sink old.sink mid.sink new.sink h.stays m.fell;
        fails = λ notes t.
            fails-along Sink old.sink new.sink _ _ fault
            (ap (λ u. to_come Sink old notes u) (append_assoc h.taken m.lost t) ∙ h.same notes (m.lost ++ t))
            (fails-before Sink old.sink mid.sink new.sink _ fault h.stays (m.fails (more h.owed notes) t));
      }

  -- the call ends where a step ends so
  fed : (old mid new : Tokenizer K) (from via to : Queue) (result : ProcessResult H) (given : TokenizerResult H)
      (h : Going old mid from via) (m : Moved Sink mid new via to result)
      → ((pauses : List Reply) → paused_by Sink.number pauses result ≡ paused_with Sink.number pauses given)
      → Rests Sink given new (h.taken ++ m.taken) to → Fed Sink old new from to given
  fed old mid new from via to result given h m pauses_same rests = record {
    taken = h.taken ++ m.taken;
    takes = takes-more h.taken m.taken from via to h.takes m.takes;
    came = h.came ++ m.came;
    comes = both-come old mid new from via to result h m;
    owed = together m.owed h.owed;
    rises = both-rise old mid new from via to result h m;
    same = λ notes t. both-taken old mid new from via to result h m notes t
        ∙ ap (λ x. to_come Sink new (record (more (together m.owed h.owed) notes) { pauses = x }) t) (pauses_same notes.pauses);
    ready = m.ready;
    stays = stays-then Sink old.sink mid.sink new.sink h.stays m.stays;
    ended = m.ended ∙ h.ended;
    failed = m.failed ∙ h.failed;
    exact = m.exact ∙ h.exact;
    left = rests;
  }

  pub fed-whole : (old mid new : Tokenizer K) (from via to : Queue) → Going old mid from via
      → Moved Sink mid new via to flow.Suspend → BeginsEnd new.raw_end.name new.raw_end.letters → IsPart new.keyword
      → Fed Sink old new from to answer.Done
  fed-whole old mid new from via to h m begins part = fed old mid new from via to flow.Suspend answer.Done h m
      (λ pauses. refl) (
        m.left,
        holds-part (rows_of new) new.state new.char_ref m.ready.fits,
        holds-end new.state new.raw_end begins,
        untold (Sink.State × Notes ℕ) new new.state part begins,
      )

  pub fed-script : (old mid new : Tokenizer K) (from via to : Queue) (handle : H) → Going old mid from via
      → Moved Sink mid new via to (flow.Script handle) → Fed Sink old new from to (answer.Script handle)
  fed-script old mid new from via to handle h m = fed old mid new from via to (flow.Script handle)
      (answer.Script handle) h m (λ pauses. refl) (last-close h.taken m.taken m.left.0, m.left.1, m.left.2)

  pub fed-encoding : (old mid new : Tokenizer K) (from via to : Queue) (label : List ℕ) → Going old mid from via
      → Moved Sink mid new via to (flow.EncodingIndicator label) → Fed Sink old new from to (answer.EncodingIndicator label)
  fed-encoding old mid new from via to label h m = fed old mid new from via to (flow.EncodingIndicator label)
      (answer.EncodingIndicator label) h m (λ pauses. refl) (last-close h.taken m.taken m.left.0, m.left.1, m.left.2)

  -- what was taken so far, as a move
  gone : (old new : Tokenizer K) (from to : Queue) → Going old new from to → HasMoved Sink (λ pauses. pauses)
      (λ taken. Unit {0}) old new from to
  gone old new from to h = record {
    taken = h.taken;
    takes = h.takes;
    came = h.came;
    comes = h.comes;
    owed = h.owed;
    rises = h.rises;
    same = h.same;
    ready = h.ready;
    stays = h.stays;
    ended = h.ended;
    failed = h.failed;
    exact = h.exact;
    left = tt;
  }

  -- a step failed, and so does the call
  pub not-fed : (old mid new : Tokenizer K) (from via to : Queue) (fault : ParseFault)
      (result : Result (TokenizerResult H) ParseFault) → Going old mid from via → Moves Sink mid new via to (Err fault)
      → IsErrAnd result (λ y. y ≡ fault) → Runs Sink old new from to result
  not-fed old mid new from via to fault result h m is =
      let p = err_from_is_err_and result is in
      rw (p.1, p.2) (record { at = mid; via = via; moved = gone old mid from via h; stuck = m })

  -- NO CHARACTER IS LEFT, OR ONE COMES, OR A RUN

  other-fits : (old mid : Tokenizer K) → mid ≡ record old { stream = mid.stream } → IsOther old.stream mid.stream
      → IsReady Sink old → IsReady Sink mid
  other-fits old mid is other ready =
      rw is (record { sound = ready.sound; fits = ap (λ s. fits_in s.table old.char_ref old.state) other ∙ ready.fits })

  pub moved-nowhere : (old mid : Tokenizer K) (from to : Queue) → mid ≡ record old { stream = mid.stream }
      → Vanishes old.stream mid.stream from to → IsReady Sink old → Moved Sink old mid from to flow.Suspend
  moved-nowhere old mid from to is h ready = record {
    taken = h.taken;
    takes = h.takes;
    came = [];
    comes = h.all;
    owed = nothing_owed;
    rises = rises-less Sink.errors old.sink mid.sink (none-no-more old.stream.exact_errors)
        (rises-same Sink.errors old.sink mid.sink (ap (λ (k : Tokenizer K). k.sink) is));
    same = λ notes t. comes-to old mid (h.taken ++ t) (coming_in mid.stream t) notes h.changed is (h.all t);
    ready = other-fits old mid is h.changed ready;
    stays = stays-same Sink old.sink mid.sink (ap (λ (k : Tokenizer K). k.sink) is);
    ended = ap (λ s. s.has_ended) h.changed;
    failed = ap (λ s. s.has_failed) h.changed;
    exact = ap (λ s. s.exact_errors) h.changed;
    left = h.empty;
  }

  leaves : (result : ProcessResult H) (c : ℕ) (new : Tokenizer K) (taken : List ℕ) (to : Queue) → 0 < length taken
      → newline_for (last_of taken) ≡ c → PausesAt Sink result c new → Leaves Sink result new taken to
  leaves flow.Continue c new taken to filled last h = filled
  leaves flow.Suspend c new taken to filled last h = absurd h
  leaves (flow.Script handle) c new taken to filled last h =
      (newline-close (last_of taken) (nat_eq (last_of taken) 13) refl (last ∙ h.0), h.1, h.2)
  leaves (flow.EncodingIndicator label) c new taken to filled last h =
      (newline-close (last_of taken) (nat_eq (last_of taken) 13) refl (last ∙ h.0), h.1, h.2)

  -- what errors rose by from the machine whose input's front was taken
  from-mid : (old mid new : Tokenizer K) (owed : Owed) (came : List ℕ) → mid ≡ record old { stream = mid.stream }
      → mid.stream.exact_errors ≡ old.stream.exact_errors
      → Rises Sink.errors (together owed (owed_for_text mid.stream.exact_errors came)) mid.sink new.sink
      → Rises Sink.errors (together owed (owed_for_text old.stream.exact_errors came)) old.sink new.sink
  from-mid old mid new owed came is exact h =
      subst (λ s. Rises Sink.errors (together owed (owed_for_text old.stream.exact_errors came)) s new.sink)
      (ap (λ (k : Tokenizer K). k.sink) is)
      (subst (λ b. Rises Sink.errors (together owed (owed_for_text b came)) mid.sink new.sink) exact h)

  -- a run comes only where control characters and noncharacters are not told
  run-plain : (exact : Bool) (held : Option Ampersand) (st : State) (set : SmallCharSet) → stops_of exact held st ≡ Some set → exact ≡ false
  run-plain true held st set e = absurd cc
  run-plain false held st set e = refl

  pub moved-one : (old mid new : Tokenizer K) (from to : Queue) (c : ℕ)
      (result : Result (ProcessResult H) ParseFault) → mid ≡ record old { stream = mid.stream } → ComesAs old.stream mid.stream from to c
      → Passes Sink mid new c result → Moves Sink old new from to result
  moved-one old mid new from to c (Ok result) is h p = record {
    taken = h.taken;
    takes = h.takes;
    came = c ∷ [];
    comes = λ t. h.front t ∙ ap (λ s. c ∷ coming_in s t) (sym p.stream);
    owed = p.owed;
    rises = from-mid old mid new p.owed (c ∷ []) is (ap (λ s. s.exact_errors) h.changed) p.rises;
    same = λ notes t.
        comes-to old mid (h.taken ++ t) (c ∷ coming_in mid.stream t) notes h.changed is (h.front t)
        ∙ p.same notes (coming_in mid.stream t)
        ∙ ap (λ s. now Sink new new.stream.breaks (Sink.view new.sink, noted_by Sink.number p.owed notes result)
        (coming_in s t)) (sym p.stream);
    ready = record { sound = p.sound; fits = p.fits };
    stays = stays-then Sink old.sink mid.sink new.sink (stays-same Sink old.sink mid.sink (ap (λ (k : Tokenizer K). k.sink) is)) p.stays;
    ended = ap (λ s. s.has_ended) p.stream ∙ ap (λ s. s.has_ended) h.changed;
    failed = ap (λ s. s.has_failed) p.stream ∙ ap (λ s. s.has_failed) h.changed;
    exact = ap (λ s. s.exact_errors) p.stream ∙ ap (λ s. s.exact_errors) h.changed;
    left = leaves result c new h.taken to h.filled h.last p.paused;
  }
  moved-one old mid new from to c (Err fault) is h p =
      let stays : Stays Sink old.sink mid.sink = stays-same Sink old.sink mid.sink (ap (λ (k : Tokenizer K). k.sink) is) in
      record {
        lost = h.taken;
        takes = h.takes;
        fell = fell-behind Sink old.sink mid.sink new.sink stays p.0;
        fails = λ notes t.
            fails-along Sink old.sink new.sink _ _ fault
            (comes-to old mid (h.taken ++ t) (c ∷ coming_in mid.stream t) notes h.changed is (h.front t))
            (fails-before Sink old.sink mid.sink new.sink _ fault stays (p.1 notes (coming_in mid.stream t)));
      }

  -- a front was taken as a run, where control characters and noncharacters are not told
  pub moved-plain : (old mid new : Tokenizer K) (from to : Queue) (run : List ℕ)
      (result : Result (Unit {0}) ParseFault) → mid ≡ record old { stream = mid.stream }
      → IsOther old.stream mid.stream → old.stream.exact_errors ≡ false
      → Takes run from to → ((t : List ℕ) → coming_in old.stream (run ++ t) ≡ run ++ coming_in mid.stream t)
      → 0 < length run → KeepsRun Sink mid new run result → Moves Sink old new from to (answered flow.Continue result)
  moved-plain old mid new from to run (Ok x) is other plain takes front filled p = record {
    taken = run;
    takes = takes;
    came = run;
    comes = λ t. front t ∙ ap (λ s. run ++ coming_in s t) (sym p.stream);
    owed = p.owed;
    rises =
        subst (λ b. Rises Sink.errors (together p.owed (owed_for_text b run)) old.sink new.sink) (sym plain)
        (rises-less Sink.errors old.sink new.sink (text-no-more run p.owed)
        (subst (λ s. Rises Sink.errors p.owed s new.sink) (ap (λ (k : Tokenizer K). k.sink) is) p.rises));
    same = λ notes t.
        comes-to old mid (run ++ t) (run ++ coming_in mid.stream t) notes other is (front t)
        ∙ p.same notes (coming_in mid.stream t)
        ∙ ap (λ s. now Sink new s.breaks (Sink.view new.sink, more p.owed notes) (coming_in s t)) (sym p.stream);
    ready = record { sound = p.sound; fits = p.fits };
    stays = stays-then Sink old.sink mid.sink new.sink (stays-same Sink old.sink mid.sink (ap (λ (k : Tokenizer K). k.sink) is)) p.stays;
    ended = ap (λ s. s.has_ended) p.stream ∙ ap (λ s. s.has_ended) other;
    failed = ap (λ s. s.has_failed) p.stream ∙ ap (λ s. s.has_failed) other;
    exact = ap (λ s. s.exact_errors) p.stream ∙ ap (λ s. s.exact_errors) other;
    left = filled;
  }
  moved-plain old mid new from to run (Err fault) is other plain takes front filled p =
      let stays : Stays Sink old.sink mid.sink = stays-same Sink old.sink mid.sink (ap (λ (k : Tokenizer K). k.sink) is) in
      record {
        lost = run;
        takes = takes;
        fell = fell-behind Sink old.sink mid.sink new.sink stays p.0;
        fails = λ notes t.
            fails-along Sink old.sink new.sink _ _ fault
            (comes-to old mid (run ++ t) (run ++ coming_in mid.stream t) notes other is (front t))
            (fails-before Sink old.sink mid.sink new.sink _ fault stays (p.1 notes (coming_in mid.stream t)));
      }

  pub moved-run : (old mid new : Tokenizer K) (from to : Queue) (run : List ℕ)
      (result : Result (Unit {0}) ParseFault) → mid ≡ record old { stream = mid.stream } → ComesAsRunAt old mid.stream from to run
      → KeepsRun Sink mid new run result → Moves Sink old new from to (answered flow.Continue result)
  moved-run old mid new from to run result is h p =
      moved-plain old mid new from to run result is h.comes.changed
      (run-plain old.stream.exact_errors old.char_ref old.state h.stops h.are) h.comes.takes h.comes.front h.comes.filled p
