-- What a handler makes of bytes, piece by piece.
use Rattle.std.proofs.Common.{◌≡◌, ◌∙◌, ℕ, suc, ◌+◌, ◌-◌, ◌^◌, ◌<◌, min, Option, Some, List, [], ◌∷◌, ◌++◌, map}
use Rattle.std.proofs.Common.{refl, sym, ap, subst, arith, lit<, append_assoc, length, length-append, take, drop, get_or, drop-cons}
use Rattle.std.proofs.Common.{add-one}
use Rattle.std.specs.Prelude.{IsAscii, flat_map}
use Rattle.std.proofs.lemmas.List.{append-nil, take-append-drop, length-drop}
use Rattle.std.proofs.Math.Seq.{take-length, take-append_seam}
use Rattle.std.specs.Str.{IsUtf8, IsCharBoundary}
use Rattle.std.specs.String.Boundary.{IsSplitPoint}
use Rattle.std.proofs.lemmas.Str.{IsCharBoundary-from_take}
use Rattle.html_encodings.specs.Handlers.{Step, past, reading, utf8_of, error_count, CopiesAscii}
use Rattle.html_encodings.specs.Decoders.{Output, after, decoding, Begins, ReadsFront, CopiesRun}
use Rattle.html_encodings.specs.Emitted.{items, Does}
use Rattle.html_encodings.specs.declared.emitted.Emitted.{Emitted}
use Rattle.html_encodings.proofs.Texts.{utf8_of-append, utf8_of-nil, error_count-append, utf8_of_ascii, error_count_none}

past-past : {S : Type 0} (xs ys : List (Option ℕ)) (next : Step S) → past xs (past ys next) ≡ past (xs ++ ys) next
past-past xs ys next = ap (λ w. let s : Step _ = record { written = w; state = next.state } in s) (sym (append_assoc xs ys next.written))

-- bytes after bytes
pub reading-append : {S : Type 0} (step : S → ℕ → Step S) (state : S) (xs ys : List ℕ)
    → reading step state (xs ++ ys) ≡ (let first = reading step state xs in past first.written (reading step first.state ys))
reading-append step state [] ys = refl
reading-append step state (x ∷ xs) ys =
    let first = step state x in
    ap (past first.written) (reading-append step first.state xs ys)
    ∙ past-past first.written (reading step first.state xs).written (reading step (reading step first.state xs).state ys)

-- a run of ASCII is copied
ascii_run : {S : Type 0} (step : S → ℕ → Step S) (state : S) → CopiesAscii step state → (run : List ℕ) → IsAscii run
    → reading step state run ≡ record { written = map Some run; state = state }
ascii_run step state copies [] ascii = refl
ascii_run step state copies (byte ∷ run) ascii =
    let tail : IsAscii run = λ i. let h : get_or (byte ∷ run) (suc i) 0 < 128 = ascii (suc i) in h in
    let head : byte < 128 = ascii 0 in
    rw (copies byte head) (ap (past (Some byte ∷ [])) (ascii_run step state copies run tail))

pub front_of_run : {S : Type 0} (step : S → ℕ → Step S) (state : S) → CopiesAscii step state → (bytes old new : List ℕ) (count : ℕ)
    → CopiesRun bytes old new count → ReadsFront step state bytes old new count
front_of_run step state copies bytes old new count run = record {
  within = run.within;
  written = map Some (take count bytes);
  reads = ap (reading step state) (sym (take-append-drop count bytes)) ∙ reading-append step state (take count bytes) (drop count bytes)
      ∙ ap (λ r. past r.written (reading step r.state (drop count bytes))) (ascii_run step state copies (take count bytes) run.ascii);
  faultless = error_count_none (take count bytes);
  copied = run.copied ∙ ap (λ t. old ++ t) (sym (utf8_of_ascii (take count bytes) run.ascii));
}

pub front_of_none : {S : Type 0} (step : S → ℕ → Step S) (state : S) (bytes old : List ℕ) → ReadsFront step state bytes old old 0
front_of_none step state bytes old = record {
  within = omega arith;
  written = [];
  reads = refl;
  faultless = refl;
  copied = rw (utf8_of-nil, append-nil old) refl;
}

same_output : (t u : List ℕ) (m n : ℕ) → t ≡ u → m ≡ n
    → (let o : Output = record { text = t; errors = m } in o) ≡ record { text = u; errors = n }
same_output t u m n p q = cc

-- what is written after what was written
pub after-append : (output : Output) (xs ys : List (Option ℕ)) → after (after output xs) ys ≡ after output (xs ++ ys)
after-append output xs ys =
    same_output _ _ _ _ (append_assoc output.text (utf8_of xs) (utf8_of ys) ∙ ap (λ t. output.text ++ t) (sym (utf8_of-append xs ys)))
    (omega (arith, error_count-append xs ys))

-- before anything is read
abbrev pub nothing : Output
nothing = record { text = []; errors = 0 }

-- bytes of which so much is read that the rest leads to the same
pub record IsLeft {S : Type 0} (step : S → ℕ → Step S) (first : S) (bytes : List ℕ) (old : Output)
    (now : S) (rest : List ℕ) (new : Output) : Type 0 where
  pub output : after new (reading step now rest).written ≡ after old (reading step first bytes).written
  pub state : (reading step now rest).state ≡ (reading step first bytes).state
  pub begins : Begins old.text new.text
  pub fits : new.errors < 2 ^ 64

-- what was copied in front is read
pub left_front : {S : Type 0} (step : S → ℕ → Step S) (first : S) (bytes : List ℕ) (old : Output)
    (now : S) (rest text more : List ℕ) (errors count : ℕ)
    → IsLeft step first bytes old now rest (record { text = text; errors = errors }) → ReadsFront step now rest text more count
    → IsLeft step first bytes old now (drop count rest) (record { text = more; errors = errors })
left_front step first bytes old now rest text more errors count left front =
    let w : List (Option ℕ) = (reading step now (drop count rest)).written in
    let f : List (Option ℕ) = front.written in
    let output : Output = record { text = text; errors = errors } in
    let texts : more ++ utf8_of w ≡ text ++ utf8_of (f ++ w) =
    ap (λ t. t ++ utf8_of w) front.copied ∙ append_assoc text (utf8_of f) (utf8_of w) ∙ ap (λ t. text ++ t) (sym (utf8_of-append f w)) in
    let none : error_count f ≡ 0 = front.faultless in
    let counts : min (errors + error_count w) (2 ^ 64 - 1) ≡ min (errors + error_count (f ++ w)) (2 ^ 64 - 1) =
    omega (arith, error_count-append f w, none) in
    record {
      output = same_output _ _ _ _ texts counts ∙ ap (λ r. after output r.written) (sym front.reads) ∙ left.output;
      state = ap (λ r. r.state) (sym front.reads) ∙ left.state;
      fits = left.fits;
      begins = record {
        more = left.begins.more ++ utf8_of front.written;
        is = front.copied ∙ ap (λ t. t ++ utf8_of front.written) left.begins.is
            ∙ append_assoc old.text left.begins.more (utf8_of front.written);
      };
    }

-- a byte is read
pub left_step : {S : Type 0} (step : S → ℕ → Step S) (first : S) (bytes : List ℕ) (old : Output)
    (now next : S) (byte : ℕ) (rest : List ℕ) (new : Output)
    (emitted : Emitted) (text : List ℕ) (errors : ℕ) → IsLeft step first bytes old now (byte ∷ rest) new → Does (step now byte) emitted next
    → text ≡ new.text ++ utf8_of (items emitted) → errors ≡ min (new.errors + error_count (items emitted)) (2 ^ 64 - 1)
    → IsLeft step first bytes old next rest (record { text = text; errors = errors })
left_step step first bytes old now next byte rest new emitted text errors left does put counted =
    let goes : past (items emitted) (reading step next rest) ≡ reading step now (byte ∷ rest) =
    ap (λ i. past i (reading step next rest)) does.written ∙ ap (λ s. past (step now byte).written (reading step s rest)) does.state in
    record {
      output = ap (λ o. after o (reading step next rest).written) (same_output _ _ _ _ put counted)
          ∙ after-append new (items emitted) (reading step next rest).written ∙ ap (λ r. after new r.written) goes ∙ left.output;
      state = ap (λ r. r.state) goes ∙ left.state;
      fits = omega (arith, counted);
      begins = record {
        more = left.begins.more ++ utf8_of (items emitted);
        is = put ∙ ap (λ t. t ++ utf8_of (items emitted)) left.begins.is ∙ append_assoc old.text left.begins.more (utf8_of (items emitted));
      };
    }

-- all is read
pub left_end : {S : Type 0} (step : S → ℕ → Step S) (first : S) (bytes : List ℕ) (old : Output) (now : S) (new : Output)
    → IsLeft step first bytes old now [] new → new ≡ after old (reading step first bytes).written
left_end step first bytes old now new left =
    let text : new.text ≡ new.text ++ utf8_of [] = rw (utf8_of-nil, append-nil new.text) refl in
    let errors : new.errors ≡ min (new.errors + error_count []) (2 ^ 64 - 1) = omega (arith, left.fits) in
    same_output _ _ _ _ text errors ∙ left.output

-- the rest of a slice, as it is lent
pub rest_of : (n : ℕ) (xs : List ℕ) → take (length xs - n) (drop n xs) ≡ drop n xs
rest_of n xs = ap (λ k. take k (drop n xs)) (sym (length-drop n xs)) ∙ take-length (drop n xs)

-- a text may be cut where another that begins it ends
pub cut : (old new : List ℕ) (n : ℕ) → Begins old new → IsUtf8 old → IsUtf8 new → n ≡ length old → IsSplitPoint new n
cut old new n begins utf8_old utf8_new is =
    let long : length new ≡ length old + length begins.more = ap length begins.is ∙ length-append old begins.more in
    let front : take n new ≡ old = rw (is, begins.is) (take-append_seam old begins.more) in
    let at : IsCharBoundary new n = IsCharBoundary-from_take new n utf8_new (omega arith) (subst IsUtf8 (sym front) utf8_old) in
    (at.0, λ _ less high. at.1 less high)

-- a piece is read
pub left_piece : {S : Type 0} (step : S → ℕ → Step S) (first : S) (bytes : List ℕ) (old : Output) (now next : S) (piece rest : List ℕ)
    (new output : Output) → IsLeft step first bytes old now (piece ++ rest) new → output ≡ after new (reading step now piece).written
    → next ≡ (reading step now piece).state → IsLeft step first bytes old next rest output
left_piece step first bytes old now next piece rest new output left put goes =
    let r = reading step now piece in
    let both : past r.written (reading step next rest) ≡ reading step now (piece ++ rest) =
    ap (λ s. past r.written (reading step s rest)) goes ∙ sym (reading-append step now piece rest) in
    let texts : output.text ≡ new.text ++ utf8_of r.written = ap (λ o. o.text) put in
    let errors : output.errors ≡ min (new.errors + error_count r.written) (2 ^ 64 - 1) = ap (λ o. o.errors) put in
    record {
      output = ap (λ o. after o (reading step next rest).written) put
          ∙ after-append new r.written (reading step next rest).written ∙ ap (λ w. after new w.written) both ∙ left.output;
      state = ap (λ w. w.state) both ∙ left.state;
      begins = record {
        more = left.begins.more ++ utf8_of r.written;
        is = texts ∙ ap (λ t. t ++ utf8_of r.written) left.begins.is ∙ append_assoc old.text left.begins.more (utf8_of r.written);
      };
      fits = omega (arith, errors);
    }

-- nothing is read yet
pub left_start : {S : Type 0} (step : S → ℕ → Step S) (first : S) (bytes : List ℕ) → IsLeft step first bytes nothing first bytes nothing
left_start step first bytes = record { output = refl; state = refl; begins = record { more = []; is = refl }; fits = lit< tt }

-- all is read, and the end
pub left_whole : {S : Type 0} (step : S → ℕ → Step S) (end : S
    → List (Option ℕ)) (first : S) (bytes : List ℕ) (now : S) (new whole : Output)
    → IsLeft step first bytes nothing now [] new → whole ≡ after new (end now) → whole ≡ after nothing (decoding step end first bytes)
left_whole step end first bytes now new whole left ends =
    ends ∙ ap (λ o. after o (end now)) (left_end step first bytes nothing now new left)
    ∙ ap (λ s. after (after nothing (reading step first bytes).written) (end s)) left.state
    ∙ after-append nothing (reading step first bytes).written (end (reading step first bytes).state)

pub whole_text : (items : List (Option ℕ)) (text : List ℕ) (errors : ℕ)
    → (let o : Output = record { text = text; errors = errors } in o) ≡ after nothing items
    → (text ≡ utf8_of items) × (errors ≡ min (error_count items) (2 ^ 64 - 1))
whole_text items text errors is = (ap (λ o. o.text) is, omega (arith, ap (λ o. o.errors) is))

-- the next piece, and the others
pub pieces_left : {X : Type 0} (now : X → List ℕ) (pieces : List X) (i : ℕ) (d : X) → i < length pieces
    → flat_map now (drop i pieces) ≡ now (get_or pieces i d) ++ flat_map now (drop (i + 1) pieces)
pieces_left now pieces i d less = rw (add-one, drop-cons pieces i d) refl
