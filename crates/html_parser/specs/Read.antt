-- What a tokenizer has read, over any sink.
use Rattle.std.specs.Prelude.{◌≡◌, ℕ, Bool, true, false, List, [], ◌++◌, Option, Some, None, Result, Ok, Err, IsErr, IsOk}
use Rattle.markup.specs.declared.fault.ParseFault.{ParseFault}
use Rattle.markup.specs.declared.fault.ParseFault.TheVariants.{Failed}
use Rattle.html_queue.specs.Queue.{Queue}
use Rattle.html_tokens.specs.declared.options.TokenizerOpts.{TokenizerOpts}
use Rattle.html_tokens.specs.declared.sink.TokenSink.{Ghosts}
use Rattle.html_tokens.specs.Item.{Stand}
use Rattle.html_tokens.specs.NormalText.{normal_text}
use Rattle.html_tokens.specs.Notes.{Notes, errors_of, no_notes, noted_reading, was_quiet, without_notes}
use Rattle.html_tokens.specs.Reading.{first_stand, reading}
use Rattle.html_tokens.specs.Sink.{IsRefusal, Refusal, one_more}
use Rattle.html_tokens.specs.Table.{Row}
use Rattle.html_tokenizer.specs.Calls.{owed_for_text, refusal_of, to_come}
use Rattle.html_tokenizer.specs.Rest.{coming}
use Rattle.html_tokenizer.specs.Steps.{Owed, Rises, together}
use Rattle.html_tokenizer.specs.declared.tokenizer.Tokenizer.{Tokenizer}

-- how a reading begins: with which references, whether a byte order mark is dropped, where it stands, in which state of the sink,
-- whether control characters and noncharacters are told as errors, and how many errors were counted before
pub record Beginning (S : Type 0) : Type 0 where
  pub table : List Row
  pub discard_bom : Bool
  pub stand : Stand
  pub state : S
  pub exact_errors : Bool
  pub errors : ℕ

-- a beginning by the options of a tokenizer, after so many errors
abbrev pub beginning : {S : Type 0} → List Row → TokenizerOpts → S → ℕ → Beginning S
beginning table opts s errors = record {
  table = table;
  discard_bom = opts.discard_bom;
  stand = first_stand opts.initial_state opts.last_start_tag_name;
  state = s;
  exact_errors = opts.exact_errors;
  errors = errors;
}

-- the same beginning where one error more was counted before
abbrev pub after_error : {S : Type 0} → Beginning S → Beginning S
after_error begin = record begin { errors = one_more begin.errors }

-- what is owed for what was noted
abbrev pub owed_in : Notes ℕ → Owed
owed_in notes = record { faults = notes.errors; is_quiet = notes.is_quiet }

-- a number of errors that was m and rose by what is owed is n
abbrev pub RisesTo : Owed → ℕ → ℕ → Type 0
RisesTo owed m n = Rises (λ (errors : ℕ). errors) owed m n

-- what stands against a call: a text that could not be kept, or what stands against the tokenizer
abbrev pub stopped_by : Bool → Option ParseFault → Option ParseFault
stopped_by true refusal = Some Failed
stopped_by false refusal = refusal

module _ {K H : Type 0} (Sink : Ghosts K H) where
  -- what a whole text leaves
  abbrev pub read_whole : Beginning Sink.State → List ℕ → Result Sink.State Refusal
  read_whole begin text = reading Sink.step (λ fault s. s) Sink.asks_cdata Sink.ended begin.table begin.stand 0
      begin.state (normal_text begin.discard_bom text)

  -- the same, with what is noted of the text
  abbrev pub note_whole : Beginning Sink.State → List ℕ → Result (Sink.State × Notes ℕ) (Refusal × ℕ)
  note_whole begin text = noted_reading Sink.step Sink.is_quiet Sink.asks_cdata Sink.ended begin.table begin.stand 0
      (begin.state, no_notes) (normal_text begin.discard_bom text)

  -- what a whole text owes of errors: one for each faulty item, and, where these are told, for each control character and
  -- noncharacter; none where it is quiet
  abbrev pub owed_by : Beginning Sink.State → List ℕ → Owed
  owed_by begin text =
      together (record { faults = errors_of (note_whole begin text); is_quiet = was_quiet (note_whole begin text) })
      (owed_for_text begin.exact_errors (normal_text begin.discard_bom text))

  -- A text was read: of whatever follows the tokenizer makes, what is noted aside, what the beginning makes of both; and the number
  -- of errors rose by what was owed for what was noted.
  pub record HasRead (begin : Beginning Sink.State) (text : List ℕ) (k : Tokenizer K) : Type 0 where
    pub notes : Notes ℕ
    pub same : (t : List ℕ) → without_notes (to_come Sink k notes t) ≡ read_whole begin (text ++ t)
    pub noted : (t : List ℕ) → to_come Sink k notes t ≡ note_whole begin (text ++ t)
    -- the characters that came of the text
    pub came : List ℕ
    pub comes : (t : List ℕ) → normal_text begin.discard_bom (text ++ t) ≡ came ++ coming k t
    pub exact : k.stream.exact_errors ≡ begin.exact_errors
    pub rises : RisesTo (together (owed_in notes) (owed_for_text begin.exact_errors came)) begin.errors (Sink.errors k.sink)

  -- After whatever was read, this text was read too; and the sink has failed only where it had.
  pub record ReadsOn (old new : Tokenizer K) (text : List ℕ) : Type 0 where
    pub reads : (begin : Beginning Sink.State) (before : List ℕ) → HasRead begin before old → HasRead begin (before ++ text) new
    pub works : Sink.has_failed new.sink ≡ true → Sink.has_failed old.sink ≡ true

  -- whatever was read still was, after one error more
  abbrev pub KeepsRead : Tokenizer K → Tokenizer K → Type 0
  KeepsRead old new = (begin : Beginning Sink.State) (before : List ℕ) → HasRead begin before old → HasRead (after_error begin) before new

  -- no token of a text is refused
  abbrev pub IsTaken : Beginning Sink.State → Type 0
  IsTaken begin = (text : List ℕ) → IsOk (read_whole begin text)

  -- a text that begins so is refused
  pub record IsRefusedAfter (begin : Beginning Sink.State) (before : List ℕ) : Type 0 where
    pub behind : List ℕ
    pub is : IsErr (read_whole begin (before ++ behind))

  -- What a fault tells, where nothing stood against the call: by a refusal a text that begins as what was read is refused, and by
  -- `Failed` the sink had failed. Of want of memory nothing is said.
  pub record FailsAfter (k : Tokenizer K) (fault : ParseFault) : Type 0 where
    pub refused : IsRefusal fault → (begin : Beginning Sink.State) (before : List ℕ) → HasRead begin before k → IsRefusedAfter begin before
    pub failed : fault ≡ Failed → Sink.has_failed k.sink ≡ true

  -- All of an input was read, past every pause; or the tokenizer failed. What stands against a call leaves all as it is.
  abbrev pub FeedsAll : Option ParseFault → Tokenizer K → Tokenizer K → Queue → Queue → Result (Unit {0}) ParseFault → Type 0
  FeedsAll None old new from to (Ok x) = ReadsOn old new from.characters × (to.characters ≡ []) × (refusal_of new ≡ None)
  FeedsAll None old new from to (Err fault) = (new.stream.has_failed ≡ true) × FailsAfter old fault
  FeedsAll (Some fault) old new from to result = (result ≡ Err fault) × (new ≡ old) × (to ≡ from)

  -- A sink is left as the whole text leaves it; its number of errors is what its end made of it, which had risen by what the text owes.
  pub record IsLeft (begin : Beginning Sink.State) (text : List ℕ) (left : K) : Type 0 where
    pub is : read_whole begin text ≡ Ok (Sink.view left)
    pub told : K
    pub rises : RisesTo (owed_by begin text) begin.errors (Sink.errors told)
    pub counts : Sink.errors left ≡ Sink.errors_ended (Sink.view told) (Sink.errors told)

  -- what a call leaves of a sink, where it was answered
  abbrev pub left_by : K → Result (Unit {0}) ParseFault → Result K ParseFault
  left_by sink (Ok x) = Ok sink
  left_by sink (Err fault) = Err fault

  -- All of a text was read, and its end: the sink is left as the whole text leaves it.
  abbrev pub EndsAll : Option ParseFault → Tokenizer K → List ℕ → Result K ParseFault → Type 0
  EndsAll None k text (Ok sink) = (begin : Beginning Sink.State) (before : List ℕ) → HasRead begin before k
      → IsLeft begin (before ++ text) sink
  EndsAll None k text (Err fault) = FailsAfter k fault
  EndsAll (Some fault) k text result = result ≡ Err fault

  -- What waited was read, and then a text, past every pause; or the tokenizer failed, or the text could not be kept.
  abbrev pub TakesText : Option ParseFault → Option ParseFault → Tokenizer K → Tokenizer K → Queue → Queue → List ℕ
      → Result (Unit {0}) ParseFault → Type 0
  TakesText None left old new from to text (Ok x) = ReadsOn old new (from.characters ++ text) × (to.characters ≡ []) × (left ≡ None)
  TakesText None left old new from to text (Err fault) = (left ≡ Some Failed) × FailsAfter old fault
  TakesText (Some fault) left old new from to text result = (result ≡ Err fault) × (new ≡ old) × (to ≡ from)
