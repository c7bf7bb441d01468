-- Runs of text, and the ends of tags, at the front of the input.
use Rattle.std.proofs.Common.{◌≡◌, ◌∙◌, ℕ, ◌<◌, ◌==◌, Bool, true, false, List, [], ◌∷◌, ◌++◌, length, take, Result, Ok, Err}
use Rattle.std.proofs.Common.{refl, sym, ap, subst, arith, length-append}
use Rattle.std.specs.Str.{IsCharBoundary, IsUtf8, chars}
use Rattle.std.proofs.lemmas.Str.{encodes-chars, IsCharBoundary-from_take}
use Rattle.std.proofs.Math.Seq.{take-append_seam}
use Rattle.markup.specs.declared.fault.ParseFault.{ParseFault}
use Rattle.html_queue.specs.Queue.{Queue, Takes}
use Rattle.html_queue.specs.declared.set.SmallCharSet.{SmallCharSet}
use Rattle.html_queue.proofs.Taking.{filled}
use Rattle.html_tokens.specs.declared.replies.ProcessResult.{ProcessResult}
use Rattle.html_tokens.specs.declared.sink.TokenSink.{Ghosts}
use Rattle.html_tokenizer.specs.Calls.{ComesAsRunAt, Passes, owed_for_text}
use Rattle.html_tokenizer.specs.Fronts.{IsInTag, Lacks, after_name, after_value, in_name, in_value}
use Rattle.html_tokenizer.specs.Steps.{Keeps, Rises}
use Rattle.html_tokenizer.specs.Stops.{IsRunAt, IsStoppedBy}
use Rattle.html_tokenizer_parts.specs.declared.stream.Stream.{Stream}
use Rattle.html_tokenizer.specs.declared.tokenizer.Tokenizer.{Tokenizer}
use Rattle.html_tokenizer.proofs.Fronts.Tags.{lacks-breaks}
use Rattle.html_tokenizer.proofs.Fronts.Texts.{some-of}
use Rattle.html_tokenizer.proofs.Steps.Keeping.{stays-same}
use Rattle.html_tokenizer_parts.proofs.InputRuns.{front-comes}
use Rattle.html_tokenizer.proofs.Errors.Rises.{rises-same}
use Rattle.html_tokenizer.proofs.Feeds.Characters.{passed}

-- RUNS OF DATA

front-of_both : (text bytes rest : List ℕ) → text ≡ bytes ++ rest → take (length bytes) text ≡ bytes
front-of_both text bytes rest whole = ap (take (length bytes)) whole ∙ take-append_seam bytes rest

-- a text may be cut after a front of it
pub run-cut : (text spelled bytes rest : List ℕ) → IsUtf8 text → text ≡ spelled → text ≡ bytes ++ rest
    → IsUtf8 bytes → IsCharBoundary spelled (length bytes)
run-cut text spelled bytes rest utf8 e whole cut =
    subst (λ u. IsCharBoundary u (length bytes)) e
    (IsCharBoundary-from_take text (length bytes) utf8 (omega (arith, ap length whole, length-append bytes rest))
    (subst IsUtf8 (sym (front-of_both text bytes rest whole)) cut))

run-filled : (bytes : List ℕ) (empty : Bool) → IsUtf8 bytes → empty ≡ (length bytes == 0) → empty ≡ false → 0 < length (chars bytes)
run-filled bytes empty utf8 e f = filled (chars bytes) bytes (encodes-chars bytes utf8) (some-of (length bytes) (sym e ∙ f))

module _ {K : Type 0} where
  pub run-at : (k : Tokenizer K) (set : SmallCharSet) (bytes made : List ℕ) (empty : Bool) → IsStoppedBy set k
      → IsUtf8 bytes → made ≡ chars bytes → empty ≡ (length bytes == 0) → empty ≡ false → Lacks set (chars bytes) → IsRunAt k made
  run-at k set bytes made empty stopped utf8 is e f lacks =
      rw is (record { stops = set; are = stopped.are; filled = run-filled bytes empty utf8 e f; lacking = lacks })

  pub run-comes_at : (k : Tokenizer K) (set : SmallCharSet) (text spelled bytes rest made : List ℕ) (empty : Bool)
      (from to : Queue) → IsStoppedBy set k → k.stream.discard_bom ≡ false → text ≡ spelled → text ≡ bytes ++ rest
      → IsUtf8 bytes → made ≡ chars bytes → empty ≡ (length bytes == 0) → empty ≡ false → Lacks set (chars bytes)
      → Takes (chars (take (length bytes) spelled)) from to → ComesAsRunAt k (record k.stream { ignore_lf = false }) from to made
  run-comes_at k set text spelled bytes rest made empty from to stopped unmarked e whole utf8 is none f lacks takes =
      let taken : chars (take (length bytes) spelled) ≡ chars bytes = ap (λ u. chars (take (length bytes) u))
      (sym e) ∙ ap chars (front-of_both text bytes rest whole) in
      let some = run-filled bytes empty utf8 none f in
      rw is (record {
        stops = set;
        are = stopped.are;
        comes = record {
          takes = subst (λ u. Takes u from to) taken takes;
          front = λ t. front-comes k.stream (chars bytes) t unmarked some
              (lacks-breaks set.bits stopped.breaks.1 stopped.breaks.2 (chars bytes) lacks);
          changed = refl;
          filled = some;
          lacking = lacks;
        };
      })

  -- THE END OF A TAG

  pub in-tag-still : (k : Tokenizer K) (stream : Stream) → IsInTag k → IsInTag (record k { stream = stream })
  in-tag-still k stream (after_name from) = after_name (record { state = from.state; fresh = from.fresh })
  in-tag-still k stream (after_value from) = after_value (record { state = from.state; fresh = from.fresh })
  in-tag-still k stream (in_name from) = in_name (record { state = from.state; fresh = from.fresh })
  in-tag-still k stream (in_value from) = in_value (record { state = from.state; fresh = from.fresh })

module _ {K H : Type 0} (Sink : Ghosts K H) where
  -- ">" is no error on its own
  close-unforbidden : (exact : Bool) (k : K) → Rises Sink.errors (owed_for_text exact (62 ∷ [])) k k
  close-unforbidden true k = rises-same Sink.errors k k refl
  close-unforbidden false k = rises-same Sink.errors k k refl

  close-passes : (old new : Tokenizer K) (result : Result (ProcessResult H) ParseFault)
      → Keeps Sink old new 62 result → Passes Sink old new 62 result
  close-passes old new (Ok result) h =
      passed Sink old old new new.stream 62 result
      (record {
        sink = refl;
        changed = refl;
        stays = stays-same Sink old.sink old.sink refl;
        rises = close-unforbidden old.stream.exact_errors old.sink;
      }) h refl
  close-passes old new (Err fault) h = h

  -- ">" ends the tag
  pub tag-passes : (old new : Tokenizer K) (c : ℕ) (result : Result (ProcessResult H) ParseFault) → c ≡ 62
      → Keeps Sink old new 62 result → Passes Sink old new c result
  tag-passes old new c result e h = rw e (close-passes old new result h)
