-- A parser that takes what a reader has, read by read.
use Rattle.std.proofs.Common.{◌≡◌, ◌==◌, ◌∙◌, true, false, ℕ, ◌+◌, ◌<◌, ◌≤◌, ◌^◌, Bool, List, [], ◌∷◌, ◌++◌, length, take, refl}
use Rattle.std.proofs.Common.{sym, ap, subst, arith, Option, Some, None, IsUtf8, append_assoc, length-append, inl, inr, ◌⊎◌}
use Rattle.std.specs.Prelude.{IsErr}
use Rattle.std.specs.Io.KnownBytes.{IsAtEnd, prepend_known}
use Rattle.std.specs.Str.{chars}
use Rattle.std.proofs.Math.Seq.{take-append_seam}
use Rattle.std.proofs.lemmas.Bool.{eqb-true}
use Rattle.std.proofs.lemmas.List.{append-nil}
use Rattle.std.proofs.lemmas.Str.{IsUtf8-append, IsUtf8-nil, chars-append, chars-nil}
use Rattle.markup.specs.declared.fault.ParseFault.{ParseFault}
use Rattle.markup.specs.declared.fault.ParseFault.TheVariants as parse
use Rattle.markup.specs.declared.tree_sink.TreeSink.{Ghosts as TreeGhosts}
use Rattle.html_input.specs.Reading.{HasBegun, IsFaultAfter, IsFront, IsSplit, ShowsNotUtf8, StaysAtFault}
use Rattle.html_input.specs.declared.fault.TextFault.{TextFault}
use Rattle.html_input.specs.declared.fault.TextFault.TheVariants as text
use Rattle.html_input.proofs.Utf8.{BeginsText-front, IsFront-nil, begun-shown, front-behind, known_split, moved-more}
use Rattle.html_input.proofs.Utf8.{moved-none, shows-end, shows-fault}
use Rattle.html_parser.specs.Documents.{builder}
use Rattle.html_parser.specs.Read.{FailsAfter, HasRead, ReadsOn, read_whole}
use Rattle.html_tokenizer.specs.declared.tokenizer.Tokenizer.{Tokenizer}
use Rattle.html_tree_builder.specs.declared.builder.TreeBuilder.{TreeBuilder}
use Rattle.html_normal.specs.Faults.{fault_of, input_fault_of}
use Rattle.devices.specs.Devices.{TellsBytes, count_after}
use Rattle.html_normal.specs.Normal.{HasTooMany, IsInputFault, IsTooLong}
use Rattle.html_normal.specs.Parsing.{HasReadAll, MayRefuse}

-- BYTES

-- what was read so far: a text of so many bytes, and after it bytes that are held
pub record IsDecoded (old now : Option (List ℕ)) (decoded held : List ℕ) (taken : ℕ) : Type 0 where
  pub moved : old ≡ prepend_known (decoded ++ held) now
  pub text : IsUtf8 decoded
  pub front : IsFront (decoded ++ held) (length decoded)
  pub counted : taken ≡ length decoded

pub IsDecoded-none : (known : Option (List ℕ)) (held : List ℕ) → held ≡ [] → IsDecoded known known [] held 0
IsDecoded-none known held none = record {
  moved = moved-none known held none;
  text = IsUtf8-nil;
  front = IsFront-nil held none;
  counted = refl;
}

module _ (old mid new : Option (List ℕ)) (decoded held piece : List ℕ) (taken : ℕ)
    (so_far : IsDecoded old mid decoded held taken) (moved : mid ≡ prepend_known piece new) where
  pub moved-piece : old ≡ prepend_known ((decoded ++ held) ++ piece) new
  moved-piece = moved-more old mid new (decoded ++ held) piece so_far.moved moved

  -- a piece was read and split
  pub IsDecoded-more : (bytes more cut : List ℕ) → bytes ≡ held ++ piece → IsSplit bytes more cut
      → IsDecoded old new (decoded ++ more) cut (taken + length more)
  IsDecoded-more bytes more cut is split =
      let all : (decoded ++ held) ++ piece ≡ (decoded ++ more) ++ cut = append_assoc decoded held piece
      ∙ ap (λ bs. decoded ++ bs) (sym is ∙ split.parts) ∙ sym (append_assoc decoded more cut) in
      let own : IsUtf8 more = subst IsUtf8 (ap (take (length more)) split.parts ∙ take-append_seam more cut) split.front.text in
      let front = front-behind decoded bytes (length more) so_far.text split.front in
      let whole : decoded ++ bytes ≡ (decoded ++ more) ++ cut = ap (λ bs. decoded ++ bs) split.parts
      ∙ sym (append_assoc decoded more cut) in
      record {
        moved = moved-piece ∙ ap (λ bs. prepend_known bs new) all;
        text = IsUtf8-append decoded more so_far.text own;
        front = subst (λ (bs : List ℕ). IsFront bs (length (decoded ++ more))) whole
            (subst (IsFront (decoded ++ bytes)) (sym (length-append decoded more)) front);
        counted = omega (arith, length-append decoded more, so_far.counted);
      }

  -- a piece was read that shows bytes at fault
  pub fault-shown : (refused : Type 0) (fault : TextFault) (bytes : List ℕ) → bytes ≡ held ++ piece
      → length piece ≤ 32768 → IsFaultAfter taken bytes fault → IsInputFault refused old new (input_fault_of fault)
  fault-shown refused (text.NotUtf8 at) bytes is short shown =
      let whole : decoded ++ bytes ≡ (decoded ++ held) ++ piece = ap (λ bs. decoded ++ bs) is ∙ sym (append_assoc decoded held piece) in
      let fault = subst (λ (bs : List ℕ). StaysAtFault bs at) whole (shown decoded so_far.text (sym so_far.counted)) in
      shows-fault old new (decoded ++ held) piece at moved-piece
      (BeginsText-front (decoded ++ held) (length decoded) so_far.front) short fault
  fault-shown refused text.Read bytes is short shown = absurd shown
  fault-shown refused text.Memory bytes is short shown = tt

  -- a piece was read after which no place can be counted
  pub too-long : (bytes : List ℕ) → bytes ≡ held ++ piece → 2 ^ 64 ≤ taken + length bytes → (whole left : List ℕ)
      → old ≡ Some whole → new ≡ Some left → IsTooLong whole left
  too-long bytes is long whole left told rest = record {
    read = (decoded ++ held) ++ piece;
    moved = known_split old new ((decoded ++ held) ++ piece) whole left moved-piece told rest;
    long = omega (
      arith,
      so_far.counted,
      ap length is,
      length-append held piece,
      length-append decoded held,
      length-append (decoded ++ held) piece,
    );
  }

  -- so a reader that tells how often it failed has told these bytes
  pub too-many : (bytes : List ℕ) → bytes ≡ held ++ piece → 2 ^ 64 ≤ taken + length bytes
      → (failures now : Option ℕ) → TellsBytes mid failures → now ≡ failures → (now ≡ count_after true failures)
      ⊎ ((now ≡ failures) × HasTooMany old new)
  too-many bytes is long None now tells same = inl same
  too-many bytes is long (Some n) now tells same = inr (same, by mid new tells moved moved-piece (too-long bytes is long)) where
    by : (mid new : Option (List ℕ)) → TellsBytes mid (Some n) → mid ≡ prepend_known piece new → old ≡ prepend_known
        ((decoded ++ held) ++ piece) new → ((whole left : List ℕ) → old ≡ Some whole → new ≡ Some left
        → IsTooLong whole left) → HasTooMany old new
    by None new tells e f long = absurd tells
    by (Some m) None tells e f long = absurd (cc)
    by (Some m) (Some r) tells e f long = record {
      whole = ((decoded ++ held) ++ piece) ++ r;
      rest = r;
      before = f;
      after = refl;
      long = long (((decoded ++ held) ++ piece) ++ r) r f refl;
    }

-- a read that failed
pub begun : (old mid new : Option (List ℕ)) (decoded held : List ℕ) (taken : ℕ)
    → IsDecoded old mid decoded held taken → new ≡ mid → (whole left : List ℕ) → old ≡ Some whole → new ≡ Some left → HasBegun whole left
begun old mid new decoded held taken so_far kept = begun-shown old mid new (decoded ++ held) so_far.moved kept
    (BeginsText-front (decoded ++ held) (length decoded) so_far.front)

-- the end of the input within a character
pub cut-shown : (old mid new : Option (List ℕ)) (decoded held : List ℕ) (taken : ℕ)
    → IsDecoded old mid decoded held taken → mid ≡ prepend_known [] new → IsAtEnd mid → 0 < length held
    → (whole left : List ℕ) → old ≡ Some whole → new ≡ Some left → ShowsNotUtf8 whole left taken
cut-shown old mid new decoded held taken so_far now end some whole left told rest =
    subst (ShowsNotUtf8 whole left) (sym so_far.counted)
    (shows-end old mid new (decoded ++ held) (length decoded) so_far.moved now end so_far.front
    (omega (arith, length-append decoded held)) whole left told rest)

end-known : (mid new : Option (List ℕ)) → mid ≡ prepend_known [] new → IsAtEnd mid → IsAtEnd new
end-known mid None now end = tt
end-known mid (Some left) now end = subst IsAtEnd now end

-- PARSING

module _ {K H O : Type 0} (Sink : TreeGhosts K H O) where
  pub ReadsOn-none : (k : Tokenizer (TreeBuilder K H O)) → ReadsOn (builder Sink) k k (chars [])
  ReadsOn-none k = record {
    reads = λ begin before read. subst (λ (cs : List ℕ). HasRead (builder Sink) begin cs k)
        (sym (append-nil before) ∙ ap (λ cs. before ++ cs) (sym chars-nil)) read;
    works = λ e. e;
  }

  pub ReadsOn-more : (k mid k' : Tokenizer (TreeBuilder K H O)) (decoded more : List ℕ) → IsUtf8 decoded
      → ReadsOn (builder Sink) k mid (chars decoded) → ReadsOn (builder Sink) mid k' (chars more)
      → ReadsOn (builder Sink) k k' (chars (decoded ++ more))
  ReadsOn-more k mid k' decoded more text first then = record {
    reads = λ begin before read.
        subst (λ (cs : List ℕ). HasRead (builder Sink) begin cs k')
        (append_assoc before (chars decoded) (chars more) ∙ ap (λ cs. before ++ cs) (sym (chars-append decoded more text)))
        (then.reads begin (before ++ chars decoded) (first.reads begin before read));
    works = λ e. first.works (then.works e);
  }

  -- what waited was nothing
  pub ReadsOn-alone : (mid k' : Tokenizer (TreeBuilder K H O)) (waits more : List ℕ) → waits ≡ []
      → ReadsOn (builder Sink) mid k' (waits ++ more) → ReadsOn (builder Sink) mid k' more
  ReadsOn-alone mid k' waits more none reads = subst (λ (cs : List ℕ). ReadsOn (builder Sink) mid k' cs) (ap (λ cs. cs ++ more) none) reads

  -- what is refused after more is refused after less
  pub refused-before : (k k' : Tokenizer (TreeBuilder K H O)) (more : List ℕ) → ReadsOn (builder Sink) k k' more
      → MayRefuse Sink k' → MayRefuse Sink k
  refused-before k k' more reads refuses begin before read =
      let there = refuses begin (before ++ more) (reads.reads begin before read) in
      record {
        behind = more ++ there.behind;
        is = subst (λ (cs : List ℕ). IsErr (read_whole (builder Sink) begin cs)) (append_assoc before more there.behind) there.is;
      }

  -- a fault of a parser
  pub parse-fault : (fault : ParseFault) (old new : Option (List ℕ)) (k k' : Tokenizer (TreeBuilder K H O))
      (more : List ℕ) → ReadsOn (builder Sink) k k' more → FailsAfter (builder Sink) k' fault
      → IsInputFault (MayRefuse Sink k) old new (fault_of fault)
  parse-fault parse.Memory old new k k' more reads fails = tt
  parse-fault parse.Failed old new k k' more reads fails = tt
  parse-fault parse.TokenInText old new k k' more reads fails = refused-before k k' more reads (fails.refused tt)
  parse-fault parse.Ended old new k k' more reads fails = refused-before k k' more reads (fails.refused tt)
  parse-fault parse.Shape old new k k' more reads fails = refused-before k k' more reads (fails.refused tt)

  -- all was read
  pub read-all : (old mid new : Option (List ℕ)) (decoded held : List ℕ) (taken : ℕ)
      (k k' : Tokenizer (TreeBuilder K H O)) → IsDecoded old mid decoded held taken → mid ≡ prepend_known [] new
      → IsAtEnd mid → held ≡ [] → ReadsOn (builder Sink) k k' (chars decoded) → HasReadAll Sink old new k k'
  read-all old mid new decoded held taken k k' so_far now end none reads = record {
    bytes = decoded;
    moved = moved-piece old mid new decoded held [] taken so_far now ∙ ap (λ bs. prepend_known bs new)
        (append-nil (decoded ++ held) ∙ ap (λ bs. decoded ++ bs) none ∙ append-nil decoded);
    end = end-known mid new now end;
    text = so_far.text;
    reads = reads;
  }

-- bytes that a test of their number found to be none, or some
pub empty-is : (b : Bool) (n : ℕ) (xs : List ℕ) → n ≡ length xs → b ≡ (n == 0) → b ≡ true → xs ≡ []
empty-is b n [] len told is = refl
empty-is b n (x ∷ xs) len told is = let e : (n == 0) ≡ true = sym told ∙ is in absurd (omega (arith, len, eqb-true n 0 e))

pub some-is : (b : Bool) (n : ℕ) (xs : List ℕ) → n ≡ length xs → b ≡ (n == 0) → b ≡ false → 0 < length xs
some-is b n [] len told is = let zero : (n == 0) ≡ true = ap (λ m. m == 0) len in let clash : true ≡ false = sym zero ∙ sym told ∙ is in cc
some-is b n (x ∷ xs) len told is = omega arith
