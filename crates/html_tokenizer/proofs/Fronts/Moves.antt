-- The input moves on by a front that was taken at once.
use Rattle.std.proofs.Common.{◌≡◌, ◌∙◌, ℕ, ◌-◌, ◌<◌, false, List, [], ◌++◌, length, take, Result, Ok, refl, sym, ap, subst}
use Rattle.std.proofs.Common.{arith, length-append}
use Rattle.std.specs.Result.{IsErrAnd}
use Rattle.std.specs.Str.{IsCharBoundary, IsUtf8, chars}
use Rattle.std.proofs.lemmas.Result.{err_from_is_err_and}
use Rattle.std.proofs.lemmas.Str.{encodes-chars, IsCharBoundary-from_take}
use Rattle.std.proofs.Math.Seq.{take-append_seam}
use Rattle.markup.specs.declared.fault.ParseFault.{ParseFault}
use Rattle.markup.specs.declared.fault.ParseFault.TheVariants.{Memory}
use Rattle.html_queue.specs.Queue.{Queue, Takes}
use Rattle.html_queue.proofs.Taking.{filled}
use Rattle.html_tokens.specs.declared.replies.ProcessResult.{ProcessResult}
use Rattle.html_tokens.specs.declared.replies.ProcessResult.TheVariants as flow
use Rattle.html_tokens.specs.declared.sink.TokenSink.{Ghosts}
use Rattle.html_tokens.specs.declared.states.State.{State}
use Rattle.html_tokenizer.specs.Calls.{IsReady, Moves, answered, owed_for_text}
use Rattle.html_tokenizer.specs.Fronts.{ReadsAhead, TakesFront}
use Rattle.html_tokenizer_parts.specs.Input.{coming_in}
use Rattle.html_tokenizer.specs.declared.tokenizer.Tokenizer.{Tokenizer}
use Rattle.html_tokenizer.specs.Steps.{Rises, more, now, together}
use Rattle.html_tokenizer.proofs.Feeds.Pieces.{comes-to}
use Rattle.html_tokenizer.proofs.Steps.Keeping.{fell-same}
use Rattle.html_tokenizer_parts.proofs.InputRuns.{front-comes}
use Rattle.html_tokenizer.proofs.Errors.Rises.{rises-less, text-no-more}

module _ {K H : Type 0} (Sink : Ghosts K H) where
  -- how many bytes a front has
  pub front-width : (old new : Tokenizer K) (text rest : List ℕ) → (front : TakesFront Sink old new text rest)
      → length text - length rest ≡ length front.front
  front-width old new text rest front = omega (arith, ap length front.whole, length-append front.front rest)

  front-take : (old new : Tokenizer K) (text rest : List ℕ) → (front : TakesFront Sink old new text rest)
      → take (length front.front) text ≡ front.front
  front-take old new text rest front = ap (take (length front.front)) front.whole ∙ take-append_seam front.front rest

  -- a text may be cut after it
  front-cut : (old new : Tokenizer K) (text rest : List ℕ) → IsUtf8 text
      → (front : TakesFront Sink old new text rest) → IsCharBoundary text (length front.front)
  front-cut old new text rest utf8 front =
      IsCharBoundary-from_take text (length front.front) utf8
      (omega (arith, ap length front.whole, length-append front.front rest))
      (subst IsUtf8 (sym (front-take old new text rest front)) front.utf8)

  pub skip-cut : (old new : Tokenizer K) (text spelled rest : List ℕ) (width : ℕ) → IsUtf8 text → text ≡ spelled
      → width ≡ length text - length rest → TakesFront Sink old new text rest → IsCharBoundary spelled width
  skip-cut old new text spelled rest width utf8 e is front =
      subst (λ u. IsCharBoundary u width) e
      (subst (IsCharBoundary text) (sym (is ∙ front-width old new text rest front)) (front-cut old new text rest utf8 front))

  -- the machine without a line feed to be left out
  abbrev pub heeding : Tokenizer K → Tokenizer K
  heeding k = record k { stream = record k.stream { ignore_lf = false } }

  -- a step goes on
  pub goes-on_by : (old new : Tokenizer K) (from to : Queue) (answer : ProcessResult H) → answer ≡ flow.Continue
      → Moves Sink old new from to (Ok flow.Continue) → Moves Sink old new from to (Ok answer)
  goes-on_by old new from to answer e h = rw e h

  -- what was taken is what the queue lost
  pub moved-front : (st : State) (old new : Tokenizer K) (from to : Queue) (text spelled rest : List ℕ) (width : ℕ)
      → ReadsAhead old st → text ≡ spelled → width ≡ length text - length rest → length rest < length text
      → TakesFront Sink (heeding old) new text rest
      → Takes (chars (take width spelled)) from to → Moves Sink old new from to (Ok flow.Continue)
  moved-front st old new from to text spelled rest width reads e is shorter front takes =
      let run = chars front.front in
      let p = front.took in
      let mid = heeding old in
      let some : 0 < length run = filled run front.front (encodes-chars front.front front.utf8)
      (omega (arith, ap length front.whole, length-append front.front rest, shorter)) in
      let taken : chars (take width spelled) ≡ run = ap (λ u. chars (take width u)) (sym e)
      ∙ ap (λ n. chars (take n text)) (is ∙ front-width mid new text rest front) ∙ ap chars (front-take mid new text rest front) in
      let comes : (t : List ℕ) → coming_in old.stream (run ++ t) ≡ run ++ coming_in mid.stream t =
      λ t. front-comes old.stream run t reads.unmarked some front.unbroken in
      record {
        taken = run;
        takes = subst (λ u. Takes u from to) taken takes;
        came = run;
        comes = λ t. comes t ∙ ap (λ s. run ++ coming_in s t) (sym p.stream);
        owed = p.owed;
        rises = subst (λ b. Rises Sink.errors (together p.owed (owed_for_text b run)) old.sink new.sink)
            (sym reads.plain) (rises-less Sink.errors old.sink new.sink (text-no-more run p.owed) p.rises);
        same = λ notes t.
            comes-to Sink old mid (run ++ t) (run ++ coming_in mid.stream t) notes refl refl (comes t)
            ∙ p.same notes (coming_in mid.stream t)
            ∙ ap (λ s. now Sink new s.breaks (Sink.view new.sink, more p.owed notes) (coming_in s t)) (sym p.stream);
        ready = record { sound = p.sound; fits = p.fits };
        stays = record { failed = p.stays.failed; loans = p.stays.loans };
        ended = ap (λ s. s.has_ended) p.stream;
        failed = ap (λ s. s.has_failed) p.stream;
        exact = ap (λ s. s.exact_errors) p.stream;
        left = some;
      }

  -- no memory was left for it
  pub not-fronted : (old new : Tokenizer K) (from : Queue) (fault : ParseFault) (answer : ProcessResult H)
      (result : Result (Unit {0}) ParseFault) → new.sink ≡ old.sink → fault ≡ Memory → IsReady Sink old
      → IsErrAnd result (λ y. y ≡ fault) → Moves Sink old new from from (answered answer result)
  not-fronted old new from fault answer result same memory ready e =
      let p = err_from_is_err_and result e in
      rw (p.1, p.2, memory) (record {
        lost = [];
        takes = record { split = refl; counted = omega arith };
        fell = fell-same Sink old.sink new.sink same ready.sound;
        fails = λ notes t. tt;
      })
