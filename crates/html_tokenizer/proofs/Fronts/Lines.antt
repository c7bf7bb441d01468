-- Lines of data at the front of the input, told as one text.
use Rattle.std.proofs.Common.{◌≡◌, ◌≢◌, ◌∙◌, ℕ, zero, suc, ◌+◌, ◌-◌, ◌<◌, Bool, true, false, nat_eq, List, [], ◌∷◌, ◌++◌, drop}
use Rattle.std.proofs.Common.{length, take, Result, Ok, Err, refl, sym, ap, subst, arith, append_assoc, append-nil}
use Rattle.std.proofs.Common.{length-append}
use Rattle.std.specs.Prelude.{min, if◌then◌else◌}
use Rattle.std.specs.List.{slice_range}
use Rattle.std.specs.Result.{IsErrAnd}
use Rattle.std.specs.Str.{IsCharBoundary, IsUtf8, chars}
use Rattle.std.proofs.lemmas.List.Elements.{All-append, All-cons, All-head, All-nil, All-tail}
use Rattle.std.proofs.lemmas.Result.{err_from_is_err_and}
use Rattle.std.proofs.lemmas.Str.{chars-append, encodes-chars, IsCharBoundary-from_take, IsUtf8-append, IsUtf8-drop}
use Rattle.std.proofs.Math.Seq.{drop-append_seam, take-append_seam}
use Rattle.markup.specs.declared.fault.ParseFault.{ParseFault}
use Rattle.html_queue.specs.Queue.{Queue, Takes}
use Rattle.html_queue.specs.Set.{has}
use Rattle.html_queue.proofs.Taking.{filled}
use Rattle.html_tokens.specs.declared.replies.ProcessResult.{ProcessResult}
use Rattle.html_tokens.specs.declared.replies.ProcessResult.TheVariants as flow
use Rattle.html_tokens.specs.declared.sink.TokenSink.{Ghosts}
use Rattle.html_tokens.specs.declared.states.State.TheVariants as state
use Rattle.html_tokens.specs.declared.token.Token.TheVariants.{CharacterTokens}
use Rattle.html_tokens.specs.Item.{InData, Stand, character}
use Rattle.html_tokens.specs.Items.{item}
use Rattle.html_tokens.specs.NormalText.{newlines_after, without_mark}
use Rattle.html_tokens.specs.Notes.{Notes, noting, noting_error}
use Rattle.html_tokens.specs.Reading.{◌>>=◌, erred_by, line_break, line_number}
use Rattle.html_tokens.specs.Sink.{SinkLaws}
use Rattle.html_tokens.specs.Table.{Row}
use Rattle.html_tokens.proofs.Readings.{bind_same}
use Rattle.html_tokenizer_parts.specs.CharRefs.{fits_in}
use Rattle.html_tokenizer_parts.specs.Input.{coming_in, counted}
use Rattle.html_tokenizer_parts.specs.declared.stream.Stream.{Stream}
use Rattle.html_tokenizer_parts.proofs.InputRuns.{without_none}
use Rattle.html_tokenizer_parts.proofs.Sets.{not-member}
use Rattle.html_tokenizer.specs.Calls.{Moves, answered, owed_for_text}
use Rattle.html_tokenizer.specs.declared.tokenizer.Tokenizer.{Tokenizer}
use Rattle.html_tokenizer.specs.Fronts.{AreLines, HasLines, IsOfLine, KeepsLines, Lacks, ReadsTags, counted_all}
use Rattle.html_tokenizer.specs.Listeners.{Listener, listening, emitted_text}
use Rattle.html_tokenizer.specs.Rest.{fault_after, held_at, pending, rows_of, standing}
use Rattle.html_tokenizer.specs.Steps.{IsAt, Rises, Tells, and_heard, more, nothing_owed, now, together}
use Rattle.html_tokenizer.specs.Stops.{data_stops}
use Rattle.html_tokenizer.proofs.Errors.Rises.{rises-less, text-no-more}
use Rattle.html_tokenizer.proofs.Feeds.Pieces.{comes-to}
use Rattle.html_tokenizer.proofs.Fronts.Runs.{run-cut}
use Rattle.html_tokenizer.proofs.Fronts.Texts.{chars-cons, utf8-cons}
use Rattle.html_tokenizer.proofs.Steps.Keeping.{at, fails-along, fits-at, held-other, now-at, now-target, told-next, token-fails}
use Rattle.html_tokenizer.proofs.Steps.Lawful.{Lawful, noting-lawful}
use Rattle.html_tokenizer.proofs.Steps.Lines.{lines-capped, reading-lines}
use Rattle.html_tokenizer.proofs.Steps.Readings.{reading-char, sum-zero}
use Rattle.html_tokenizer.proofs.Steps.Runs.{told-then}

-- LINES OF A TEXT

-- a run of data is a part of a line
pub run-lines : (cs : List ℕ) → Lacks data_stops cs → AreLines cs
run-lines [] lacks = All-nil IsOfLine
run-lines (c ∷ cs) lacks =
    let bits = data_stops.bits in
    let first = All-head (λ c. has bits c ≡ false) c cs lacks in
    All-cons IsOfLine c cs (
      not-member bits c 0 refl first,
      not-member bits c 13 refl first,
      not-member bits c 38 refl first,
      not-member bits c 60 refl first,
    )
    (run-lines cs (All-tail (λ c. has bits c ≡ false) c cs lacks))

-- and breaks no line
run-counts : (b : ℕ) (cs : List ℕ) → Lacks data_stops cs → counted_all b cs ≡ b
run-counts b [] lacks = refl
run-counts b (c ∷ cs) lacks =
    let bits = data_stops.bits in
    ap (λ x. counted_all (if x then min (b + 1) 0xffff_ffff_ffff_ffff else b) cs)
    (not-member bits c 10 refl (All-head (λ c. has bits c ≡ false) c cs lacks))
    ∙ run-counts b cs (All-tail (λ c. has bits c ≡ false) c cs lacks)

counts-append : (b : ℕ) (cs ds : List ℕ) → counted_all b (cs ++ ds) ≡ counted_all (counted_all b cs) ds
counts-append b [] ds = refl
counts-append b (c ∷ cs) ds = counts-append (counted b c) cs ds

-- what follows a front of a text is a text
pub rest-utf8 : (text run rest : List ℕ) → IsUtf8 text → text ≡ run ++ rest → IsUtf8 run → IsUtf8 rest
rest-utf8 text run rest utf8 whole cut = subst IsUtf8 (ap (drop (length run)) whole ∙ drop-append_seam run rest)
    (IsUtf8-drop text (length run) utf8 (run-cut text text run rest utf8 refl whole cut))

-- what stands before the first line feed
pub lines-begun : (text run rest : List ℕ) (b : ℕ) → text ≡ run ++ rest → IsUtf8 run → Lacks data_stops (chars run) → HasLines text rest b b
lines-begun text run rest b whole utf8 lacks = record {
  front = run;
  whole = whole;
  utf8 = utf8;
  lines = run-lines (chars run) lacks;
  counts = sym (run-counts b (chars run) lacks);
}

-- lines, and after a line feed a run of one more
pub lines-more : (text rest after run more : List ℕ) (b m n : ℕ) → HasLines text rest b m → rest ≡ 10 ∷ after
    → after ≡ run ++ more → IsUtf8 run → Lacks data_stops (chars run) → n ≡ min (m + 1) 0xffff_ffff_ffff_ffff → HasLines text more b n
lines-more text rest after run more b m n lines feed split utf8 lacks is =
    let spelled : chars (lines.front ++ 10 ∷ run) ≡ chars lines.front ++ 10 ∷ chars run = chars-append lines.front
    (10 ∷ run) lines.utf8 ∙ ap (λ u. chars lines.front ++ u) (chars-cons 10 run (omega arith)) in
    record {
      front = lines.front ++ 10 ∷ run;
      whole = lines.whole ∙ ap (λ u. lines.front ++ u) (feed ∙ ap (λ u. 10 ∷ u) split) ∙ sym (append_assoc lines.front (10 ∷ run) more);
      utf8 = IsUtf8-append lines.front (10 ∷ run) lines.utf8 (utf8-cons 10 run (omega arith) utf8);
      lines = subst AreLines (sym spelled) (All-append IsOfLine (chars lines.front) (10 ∷ chars run) lines.lines
          (All-cons IsOfLine 10 (chars run) (refl, refl, refl, refl) (run-lines (chars run) lacks)));
      counts =
          is
          ∙ ap (λ x. min (x + 1) 0xffff_ffff_ffff_ffff) lines.counts
          ∙ sym (run-counts (counted (counted_all b (chars lines.front)) 10) (chars run) lacks)
          ∙ sym (counts-append b (chars lines.front) (10 ∷ chars run))
          ∙ ap (counted_all b) (sym spelled);
    }

-- how many bytes lines have
pub lines-width : (text rest : List ℕ) (b m : ℕ) → (lines : HasLines text rest b m) → length text - length rest ≡ length lines.front
lines-width text rest b m lines = omega (arith, ap length lines.whole, length-append lines.front rest)

lines-take : (text rest : List ℕ) (b m : ℕ) → (lines : HasLines text rest b m) → take (length lines.front) text ≡ lines.front
lines-take text rest b m lines = ap (take (length lines.front)) lines.whole ∙ take-append_seam lines.front rest

-- a text may be cut after them
pub lines-cut : (text spelled rest : List ℕ) (width b m : ℕ) → IsUtf8 text → text ≡ spelled
    → width ≡ length text - length rest → HasLines text rest b m → IsCharBoundary spelled width
lines-cut text spelled rest width b m utf8 e is lines =
    subst (λ u. IsCharBoundary u width) e
    (subst (IsCharBoundary text) (sym (is ∙ lines-width text rest b m lines))
    (IsCharBoundary-from_take text (length lines.front) utf8
    (omega (arith, ap length lines.whole, length-append lines.front rest))
    (subst IsUtf8 (sym (lines-take text rest b m lines)) lines.utf8)))

less-none : (n : ℕ) → n - 0 ≡ n
less-none n = omega arith

-- they are what is cut off
lines-taken : (text spelled rest : List ℕ) (width b m : ℕ) → text ≡ spelled → width ≡ length text - length rest
    → (lines : HasLines text rest b m) → chars (take width spelled) ≡ chars lines.front
lines-taken text spelled rest width b m e is lines =
    ap (λ u. chars (take width u)) (sym e) ∙ ap (λ n. chars (take n text)) (is ∙ lines-width text rest b m lines)
    ∙ ap chars (lines-take text rest b m lines)

more-than-none : (n : ℕ) → n ≢ 0 → 0 < n
more-than-none zero some = absurd (some refl)
more-than-none (suc n) some = omega arith

-- they have characters, if they have bytes
lines-filled : (text rest : List ℕ) (width b m : ℕ) → width ≡ length text - length rest → width ≢ 0
    → (lines : HasLines text rest b m) → 0 < length (chars lines.front)
lines-filled text rest width b m is some lines =
    let bytes : width ≡ length lines.front = is ∙ lines-width text rest b m lines in
    filled (chars lines.front) lines.front (encodes-chars lines.front lines.utf8) (subst (λ n. 0 < n) bytes (more-than-none width some))

pub from-front : (text : List ℕ) (width : ℕ) → slice_range text 0 width ≡ take width text
from-front text width = ap (λ n. take n text) (less-none width)

-- A text was made of them, and the queue lost them.
pub lines-made : (text spelled rest slice made : List ℕ) (width b m : ℕ) (from to : Queue) → text ≡ spelled
    → width ≡ length text - length rest → slice ≡ slice_range text 0 width → made ≡ chars slice → width ≢ 0 → HasLines text rest b m
    → Takes (chars (take width spelled)) from to → (0 < length made) × AreLines made × Takes made from to
lines-made text spelled rest slice made width b m from to e is cut spelt some lines takes =
    let same : made ≡ chars lines.front = spelt ∙ ap chars (cut ∙ from-front text width)
    ∙ lines-taken text text rest width b m refl is lines in (
      subst (λ u. 0 < length u) (sym same) (lines-filled text rest width b m is some lines),
      subst AreLines (sym same) lines.lines,
      subst (λ u. Takes u from to) (lines-taken text spelled rest width b m e is lines ∙ sym same) takes,
    )

-- HOW THEY COME

line-comes : (c : ℕ) (t : List ℕ) → nat_eq c 13 ≡ false → newlines_after false (c ∷ t) ≡ c ∷ newlines_after false t
line-comes c t e = rw e refl

lines-come : (run t : List ℕ) → AreLines run → newlines_after false (run ++ t) ≡ run ++ newlines_after false t
lines-come [] t lines = refl
lines-come (c ∷ run) t lines = line-comes c (run ++ t) (All-head IsOfLine c run lines).1
    ∙ ap (λ u. c ∷ u) (lines-come run t (All-tail IsOfLine c run lines))

-- lines come as they are, where no byte order mark and no line feed is left out
lines-front : (stream : Stream) (run t : List ℕ) → stream.discard_bom ≡ false → stream.ignore_lf ≡ false
    → AreLines run → coming_in stream (run ++ t) ≡ run ++ coming_in stream t
lines-front stream run t unmarked heeded lines =
    ap (λ mark. newlines_after stream.ignore_lf (without_mark mark (run ++ t))) unmarked
    ∙ ap (newlines_after stream.ignore_lf) (without_none (run ++ t))
    ∙ ap (λ lf. newlines_after lf (run ++ t)) heeded
    ∙ lines-come run t lines
    ∙ ap (λ lf. run ++ newlines_after lf t) (sym heeded)
    ∙ ap (λ u. run ++ newlines_after stream.ignore_lf u) (sym (without_none t))
    ∙ ap (λ mark. run ++ newlines_after stream.ignore_lf (without_mark mark t)) (sym unmarked)

-- HOW THEY ARE READ

module _ {T : Type 0} (sound : T → Type 0) (to : Listener T) (rows : List Row) (laws : Lawful sound to.step) where
  break-counted : (st : Stand) (b : ℕ) (x : Bool) (s : T) (t : List ℕ) → emitted_text to rows st (b + line_break x)
      s t ≡ emitted_text to rows st (if x then min (b + 1) 0xffff_ffff_ffff_ffff else b) s t
  break-counted st b true s t = reading-lines to rows 0 st (b + 1) (min (b + 1) 0xffff_ffff_ffff_ffff) s t (lines-capped (b + 1))
  break-counted st b false s t = ap (λ n. emitted_text to rows st n s t) (sum-zero b)

  module _ (st : Stand) (plain : (c : ℕ) → IsOfLine c → (x : Bool) (t : List ℕ) → item rows x st c t ≡ character c st) where
    one-told : (b : ℕ) (s : T) → sound s → (c : ℕ) (t : List ℕ) (l : ℕ) → IsOfLine c → emitted_text to rows st b s
        (c ∷ t) ≡ (to.step s (CharacterTokens (c ∷ [])) l >>= λ p. emitted_text to rows st (counted b c) p.0 t)
    one-told b s h c t l is =
        reading-char sound to rows laws st st b s h c c t l (plain c is (to.cdata s) t)
        ∙ bind_same (to.step s (CharacterTokens (c ∷ [])) l)
        (λ p. emitted_text to rows st (b + line_break (nat_eq c 10)) p.0 t)
        (λ p. emitted_text to rows st (counted b c) p.0 t) (λ p. break-counted st b (nat_eq c 10) p.0 t)

    -- text, and then lines more of it
    more-told : (b : ℕ) (s : T) → sound s → (front run t : List ℕ) (l : ℕ) → AreLines run
        → (to.step s (CharacterTokens front) l >>= λ p. emitted_text to rows st b p.0 (run ++ t)) ≡
        (to.step s (CharacterTokens (front ++ run)) l >>= λ p. emitted_text to rows st (counted_all b run) p.0 t)
    more-told b s h front [] t l lines =
        ap (λ a. to.step s (CharacterTokens a) l >>= λ p. emitted_text to rows st b p.0 t) (sym (append-nil front))
    more-told b s h front (c ∷ run) t l lines =
        told-then sound to rows laws st st b (counted b c) s h front c (run ++ t) l
        (λ s h. one-told b s h c (run ++ t) l (All-head IsOfLine c run lines))
        ∙ more-told (counted b c) s h (front ++ c ∷ []) run t l (All-tail IsOfLine c run lines)
        ∙ ap (λ a. to.step s (CharacterTokens a) l >>= λ p. emitted_text to rows st (counted_all (counted b c) run)
        p.0 t) (append_assoc front (c ∷ []) run)

    -- lines are read as one text
    lines-told : (b : ℕ) (s : T) → sound s → (run t : List ℕ) (l : ℕ) → 0 < length run → AreLines run
        → emitted_text to rows st b s (run ++ t) ≡ (to.step s (CharacterTokens run) l
        >>= λ p. emitted_text to rows st (counted_all b run) p.0 t)
    lines-told b s h [] t l some lines = absurd (omega arith)
    lines-told b s h (c ∷ run) t l some lines =
        one-told b s h c (run ++ t) l (All-head IsOfLine c run lines)
        ∙ more-told (counted b c) s h (c ∷ []) run t l (All-tail IsOfLine c run lines)

line-plain : {K : Type 0} (k : Tokenizer K) (c : ℕ) → IsOfLine c → (x : Bool) (t : List ℕ) → item (rows_of k) x
    (standing k InData) c t ≡ character c (standing k InData)
line-plain k c is x t = rw (is.3, is.2, is.0) refl

module _ {K H : Type 0} (Sink : Ghosts K H) where
  -- lines stand next in data, as one text
  lines-say : SinkLaws Sink.is_sound Sink.step Sink.ended Sink.is_quiet → (k : Tokenizer K) (run t : List ℕ) (b : ℕ)
      (s : Sink.State × Notes ℕ) → Sink.is_sound s.0 → 0 < length run → AreLines run
      → at Sink state.Data k b s (run ++ t) ≡ (noting Sink.step Sink.is_quiet s (CharacterTokens run)
      (line_number b) >>= λ p. at Sink state.Data k (counted_all b run) p.0 t)
  unfolding held_at
  lines-say laws k run t b s h some lines =
      lines-told (λ p. Sink.is_sound p.0) (listening Sink) (rows_of k)
      (noting-lawful Sink.is_sound Sink.step Sink.ended Sink.is_quiet laws) (standing k InData) (line-plain k) b
      s h run t (line_number b) some lines

  -- Lines were told, and their line breaks counted.
  pub lines-kept : SinkLaws Sink.is_sound Sink.step Sink.ended Sink.is_quiet → (old mid : Tokenizer K)
      (stream : Stream) (run : List ℕ) (b : ℕ) → IsAt old state.Data → Sink.is_sound (Sink.view old.sink)
      → 0 < length run → AreLines run → b ≡ counted_all old.stream.breaks run
      → Tells Sink nothing_owed (CharacterTokens run) old mid (Ok tt) → stream ≡ record mid.stream { breaks = b }
      → KeepsLines Sink old (record mid { stream = stream }) run (Ok tt)
  lines-kept laws old mid stream run b from ok some lines counts told is =
      let behind = counted_all old.stream.breaks run in
      let quiet = and_heard (Sink.is_quiet (Sink.view old.sink) (CharacterTokens run)) nothing_owed in
      let same-stream : stream ≡ record old.stream { breaks = behind } = is
      ∙ ap (λ x. record mid.stream { breaks = x }) counts ∙ ap {A = Tokenizer K}
      (λ k. record k.stream { breaks = behind }) told.changed in
      rw same-stream (record {
        paused = tt;
        owed = quiet;
        rises = told.rises;
        same = λ notes t.
            now-at Sink old state.Data old.stream.breaks (Sink.view old.sink, notes) (run ++ t) from
            ∙ lines-say laws old run t old.stream.breaks (Sink.view old.sink, notes) ok some lines
            ∙ told-next Sink nothing_owed old mid (CharacterTokens run) notes (λ s. at Sink state.Data old behind s t) told
            ∙ sym (now-target Sink old mid.sink state.Data behind (Sink.view mid.sink, more quiet notes) t from)
            ∙ sym (ap (λ (k : Tokenizer K). now Sink k behind (Sink.view mid.sink, more quiet notes) t) told.changed)
            ∙ sym (held-other (listening Sink) mid.state mid mid.sink (record old.stream { breaks = behind }) behind
            (erred_by noting_error (fault_after mid.char_ref) (Sink.view mid.sink, more quiet notes))
            (pending mid.char_ref ++ t) (sym (ap (λ (k : Tokenizer K). k.stream.table) told.changed)));
        stream = refl;
        sound = told.sound;
        fits = ap (λ (k : Tokenizer K). fits_in (rows_of old) k.char_ref k.state) told.changed ∙ fits-at old state.Data from;
        stays = told.stays;
      })

  -- They could not be told.
  pub lines-refused : SinkLaws Sink.is_sound Sink.step Sink.ended Sink.is_quiet → (old mid : Tokenizer K)
      (run : List ℕ) (fault : ParseFault) (result : Result (Unit {0}) ParseFault) → IsAt old state.Data
      → Sink.is_sound (Sink.view old.sink) → 0 < length run → AreLines run
      → Tells Sink nothing_owed (CharacterTokens run) old mid (Err fault) → IsErrAnd result (λ y. y ≡ fault)
      → KeepsLines Sink old mid run result
  lines-refused laws old mid run fault result from ok some lines fails e =
      let p = err_from_is_err_and result e in
      rw (p.1, p.2) (
        fails.0,
        λ notes t.
            token-fails Sink old.sink mid.sink _ (Sink.view old.sink) notes (CharacterTokens run)
            (line_number old.stream.breaks) fault _ fails.1
            (now-at Sink old state.Data old.stream.breaks (Sink.view old.sink, notes) (run ++ t) from
            ∙ lines-say laws old run t old.stream.breaks (Sink.view old.sink, notes) ok some lines),
      )

  -- The input moves on by them.
  pub moved-lines : (old new : Tokenizer K) (run : List ℕ) (from to : Queue) → ReadsTags old
      → old.stream.ignore_lf ≡ false → 0 < length run → AreLines run → Takes run from to
      → KeepsLines Sink old new run (Ok tt) → Moves Sink old new from to (Ok flow.Continue)
  moved-lines old new run from to reads heeded some lines takes p =
      let comes : (t : List ℕ) → coming_in old.stream (run ++ t) ≡ run ++ coming_in old.stream t =
      λ t. lines-front old.stream run t reads.unmarked heeded lines in
      record {
        taken = run;
        takes = takes;
        came = run;
        comes = λ t. comes t ∙ ap (λ s. run ++ coming_in s t) (sym p.stream);
        owed = p.owed;
        rises = subst (λ b. Rises Sink.errors (together p.owed (owed_for_text b run)) old.sink new.sink)
            (sym reads.plain) (rises-less Sink.errors old.sink new.sink (text-no-more run p.owed) p.rises);
        same = λ notes t.
            comes-to Sink old old (run ++ t) (run ++ coming_in old.stream t) notes refl refl (comes t)
            ∙ p.same notes (coming_in old.stream t)
            ∙ ap (λ s. now Sink new new.stream.breaks (Sink.view new.sink, more p.owed notes) (coming_in s t)) (sym p.stream);
        ready = record { sound = p.sound; fits = p.fits };
        stays = record { failed = p.stays.failed; loans = p.stays.loans };
        ended = ap (λ s. s.has_ended) p.stream;
        failed = ap (λ s. s.has_failed) p.stream;
        exact = ap (λ s. s.exact_errors) p.stream;
        left = some;
      }

  -- The input stays stuck where they could not be told.
  pub lines-stuck : (old new : Tokenizer K) (run : List ℕ) (from to : Queue) (fault : ParseFault)
      (answer : ProcessResult H) (result : Result (Unit {0}) ParseFault) → ReadsTags old
      → old.stream.ignore_lf ≡ false → AreLines run → Takes run from to → KeepsLines Sink old new run (Err fault)
      → IsErrAnd result (λ y. y ≡ fault) → Moves Sink old new from to (answered answer result)
  lines-stuck old new run from to fault answer result reads heeded lines takes fails e =
      let p = err_from_is_err_and result e in
      let comes : (t : List ℕ) → coming_in old.stream (run ++ t) ≡ run ++ coming_in old.stream t =
      λ t. lines-front old.stream run t reads.unmarked heeded lines in
      rw (p.1, p.2) (record {
        lost = run;
        takes = takes;
        fell = fails.0;
        fails = λ notes t. fails-along Sink old.sink new.sink _ _ fault
            (comes-to Sink old old (run ++ t) (run ++ coming_in old.stream t) notes refl refl (comes t))
            (fails.1 notes (coming_in old.stream t));
      })
