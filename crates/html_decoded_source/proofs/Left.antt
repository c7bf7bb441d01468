-- What is left of a source that decodes another does not change as it is decoded.
use Rattle.std.proofs.Common.{◌≡◌, ◌∙◌, ℕ, ◌+◌, ◌≤◌, Bool, true, false, List, [], ◌++◌, length, take, drop, Option, Some, None, refl}
use Rattle.std.proofs.Common.{sym, ap}
use Rattle.std.proofs.Common.{append_assoc, append-nil}
use Rattle.std.proofs.lemmas.List.{drop-drop, length-take-le, take-append-drop}
use Rattle.std.proofs.Math.Seq.{take-append_seam}
use Rattle.std.specs.Prelude.{option_map}
use Rattle.std.specs.Io.KnownBytes.{IsAtEnd}
use Rattle.html_encodings.specs.Decoders.{decoding}
use Rattle.html_encodings.specs.Handlers.{reading, utf8_of}
use Rattle.html_encodings.specs.declared.names.Encoding.{Encoding}
use Rattle.html_encodings.proofs.Readings.{reading-append}
use Rattle.html_encodings.proofs.Texts.{utf8_of-append}
use Rattle.html_encodings_multibyte.specs.Every.{every_end, every_start, every_step}
use Rattle.html_encodings_multibyte.specs.declared.every.Every.{Every}
use Rattle.html_decoded_source.specs.Sources.{Decoding, left_of, text_in, to_come}

-- what is written of a piece comes before what is written of the rest
decoding-piece : (h : Every) (piece rest : List ℕ) → utf8_of (decoding every_step every_end h (piece ++ rest))
    ≡ utf8_of (reading every_step h piece).written ++ utf8_of (decoding every_step every_end (reading every_step h piece).state rest)
decoding-piece h piece rest =
    let first = reading every_step h piece in
    let next = reading every_step first.state rest in
    ap (λ r. utf8_of (r.written ++ every_end r.state)) (reading-append every_step h piece rest)
    ∙ (ap utf8_of (append_assoc first.written next.written (every_end next.state))
    ∙ utf8_of-append first.written (next.written ++ every_end next.state))

module _ {R : Type 0} (left : R → Option (List ℕ)) (source : R) where
  abbrev pub at : Every → List ℕ → List ℕ → Bool → Decoding R
  at h held waiting ended = record { source = source; handler = h; held = held; waiting = waiting; has_ended = ended }

  -- a piece is decoded
  pub held-decoded : (h h' : Every) (piece waiting waiting' : List ℕ) (ended : Bool) → ended ≡ false
      → waiting' ≡ waiting ++ utf8_of (reading every_step h piece).written → h' ≡ (reading every_step h piece).state
      → left_of left (at h' [] waiting' ended) ≡ left_of left (at h piece waiting ended)
  held-decoded h h' piece waiting waiting' ended open' more state = rw open' (by (left source))
    where
      by : (o : Option (List ℕ)) → option_map (λ rest. waiting' ++ to_come false h' ([] ++ rest)) o
          ≡ option_map (λ rest. waiting ++ to_come false h (piece ++ rest)) o
      by None = refl
      by (Some rest) = ap (λ bytes. Some bytes) (rw (more, state)
          (append_assoc waiting (utf8_of (reading every_step h piece).written)
          (utf8_of (decoding every_step every_end (reading every_step h piece).state rest))
          ∙ ap (λ bytes. waiting ++ bytes) (sym (decoding-piece h piece rest))))

  -- the end is decoded
  pub end-decoded : (h : Every) (held waiting waiting' : List ℕ) (ended : Bool) → held ≡ [] → ended ≡ false
      → waiting' ≡ waiting ++ utf8_of (every_end h) → IsAtEnd (left source)
      → left_of left (at h held waiting' true) ≡ left_of left (at h held waiting ended)
  end-decoded h held waiting waiting' ended none open' more end = rw (none, open') (by (left source) end)
    where
      by : (o : Option (List ℕ)) → IsAtEnd o → option_map (λ rest. waiting' ++ to_come true h ([] ++ rest)) o
          ≡ option_map (λ rest. waiting ++ to_come false h ([] ++ rest)) o
      by None end = refl
      by (Some rest) end = ap (λ bytes. Some bytes) (append-nil waiting' ∙ (more
          ∙ ap (λ bytes. waiting ++ utf8_of (decoding every_step every_end h bytes)) (sym end)))

-- before anything is read all is to come
pub all-left : {R : Type 0} (left : R → Option (List ℕ)) (source : R) (encoding : Encoding)
    → left_of left (at left source (every_start encoding) [] [] false) ≡ option_map (text_in encoding) (left source)
unfolding utf8_of
all-left left source encoding = refl

-- what was given, and what waits after it
pub given-front : (text room waiting run : List ℕ) (given n : ℕ) → waiting ≡ drop given text → n ≤ length waiting → run ≡ take n waiting
    → waiting ≡ take n (run ++ drop n room) ++ drop (given + n) text
given-front text room waiting run given n is within taken =
    let long : length run ≡ n = ap length taken ∙ length-take-le n waiting within in
    let first : take n (run ++ drop n room) ≡ take n waiting =
    ap (λ m. take m (run ++ drop n room)) (sym long) ∙ (take-append_seam run (drop n room) ∙ taken) in
    let rest : drop (given + n) text ≡ drop n waiting =
    sym (drop-drop n given text) ∙ ap (λ xs. drop n xs) (sym is) in
    sym (ap (λ xs. xs ++ drop (given + n) text) first ∙ (ap (λ xs. take n waiting ++ xs) rest ∙ take-append-drop n waiting))
