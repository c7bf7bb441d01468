-- What a tokenizer has read up to where an encoding is named, over any sink.
use Rattle.std.specs.Prelude.{◌≡◌, ℕ, ◌<◌, List, [], ◌++◌, length, Option, Some, None, Ok}
use Rattle.html_tokens.specs.Notes.{Notes, pauses_of}
use Rattle.html_tokens.specs.Sink.{Reply}
use Rattle.html_tokens.specs.declared.sink.TokenSink.{Ghosts}
use Rattle.html_tokens.specs.declared.states.State.TheVariants as state
use Rattle.html_tokenizer.specs.Calls.{IsReady, refusal_of, to_come}
use Rattle.html_tokenizer.specs.Steps.{IsAt}
use Rattle.html_tokenizer.specs.declared.tokenizer.Tokenizer.{Tokenizer}
use Rattle.html_parser.specs.Read.{Beginning, HasRead, IsLeft, IsTaken, ReadsOn, note_whole}
use Rattle.html_encodings.specs.declared.names.Encoding.{Encoding}
use Rattle.html_decoded_pages.specs.Changing.{first_named, named_by, settled}

module _ {K H : Type 0} (Sink : Ghosts K H) where
  -- Some of a text was read, with these pauses, and this waits: of it and whatever follows the tokenizer makes what the beginning makes
  -- of the text and what follows.
  pub record HasPaused (begin : Beginning Sink.State) (text : List ℕ) (pauses : List Reply) (k : Tokenizer K)
      (waits : List ℕ) : Type 0 where
    pub notes : Notes ℕ
    pub are : notes.pauses ≡ pauses
    pub noted : (t : List ℕ) → to_come Sink k notes (waits ++ t) ≡ note_whole Sink begin (text ++ t)

  -- Nothing stands against a call.
  pub record IsFree (k : Tokenizer K) : Type 0 where
    pub begun : refusal_of k ≡ None
    pub ready : IsReady Sink k

  -- Nothing was read yet, and no text is refused.
  pub record IsBefore (begin : Beginning Sink.State) (k : Tokenizer K) : Type 0 where
    pub read : HasRead Sink begin [] k
    pub paused : (text : List ℕ) → HasPaused begin text [] k text
    pub taken : IsTaken Sink begin
    pub free : IsFree k

  -- Some of an input was read, with these pauses, whatever follows it.
  pub record Goes (old new : Tokenizer K) (from to : List ℕ) (added : List Reply) : Type 0 where
    pub front : List ℕ
    pub whole : front ++ to ≡ from
    pub reads : ReadsOn Sink old new front
    pub free : IsFree new
    pub pauses : (begin : Beginning Sink.State) (text behind : List ℕ) (earlier : List Reply)
        → HasPaused begin text earlier old (from ++ behind) → HasPaused begin text (earlier ++ added) new (to ++ behind)

  -- at the end of the input, or after a tag that named an encoding
  abbrev pub StandsAt : Tokenizer K → (from to : List ℕ) → Option Encoding → Type 0
  StandsAt k from to None = to ≡ []
  StandsAt k from to (Some encoding) = IsAt k state.Data × (length to < length from)

  -- An input was read up to the first `meta` that names an encoding, or all of it where none does.
  pub record Meets (old new : Tokenizer K) (from to : List ℕ) (met : Option Encoding) : Type 0 where
    pub added : List Reply
    pub goes : Goes old new from to added
    pub first : first_named added ≡ met
    pub stands : StandsAt new from to met

  -- All of an input was read.
  pub record GoesOn (old new : Tokenizer K) (text : List ℕ) : Type 0 where
    pub reads : ReadsOn Sink old new text
    pub free : IsFree new

  -- The end of the input was read, and left this sink: all that was read had the pauses so far.
  pub record Ends (k : Tokenizer K) (sink : K) : Type 0 where
    pub left : (begin : Beginning Sink.State) (text : List ℕ) → HasRead Sink begin text k → IsLeft Sink begin text sink
    pub pauses : (begin : Beginning Sink.State) (text : List ℕ) (pauses : List Reply) → HasPaused begin text pauses k []
        → pauses_of (note_whole Sink begin text) ≡ Ok pauses

  -- the encoding in which a text is to be read that was read in this one
  unfoldable pub settled_by : Beginning Sink.State → List ℕ → Encoding → Encoding
  settled_by begin text encoding = settled encoding (named_by (pauses_of (note_whole Sink begin text)))

  -- A text was read, and its end, and it was in this encoding; or it is in another.
  abbrev pub ReadsIn : Beginning Sink.State → List ℕ → Encoding → K → Option Encoding → Type 0
  ReadsIn begin text encoding left None = IsLeft Sink begin text left × (settled_by begin text encoding ≡ encoding)
  ReadsIn begin text encoding left (Some other) = settled_by begin text encoding ≡ other
