-- The characters at which a run of plain text ends, by where the machine stands.
use Rattle.std.specs.Prelude.{◌≡◌, ◌<◌, ℕ, ◌+◌, ◌^◌, Bool, true, false, List, [], ◌∷◌, length, All, Option, Some, None}
use Rattle.html_queue.specs.Set.{has}
use Rattle.html_queue.specs.declared.set.SmallCharSet.{SmallCharSet}
use Rattle.html_tokens.specs.declared.states.AttrValueKind.{AttrValueKind}
use Rattle.html_tokens.specs.declared.states.AttrValueKind.TheVariants as value
use Rattle.html_tokens.specs.declared.states.RawKind.{RawKind}
use Rattle.html_tokens.specs.declared.states.RawKind.TheVariants as raw
use Rattle.html_tokens.specs.declared.states.State.{State}
use Rattle.html_tokens.specs.declared.states.State.TheVariants as state
use Rattle.html_tokenizer_parts.specs.declared.held_reference.Ampersand.{Ampersand}
use Rattle.html_tokenizer.specs.declared.tokenizer.Tokenizer.{Tokenizer}

-- the bits of these characters, of which none stands twice
abbrev pub bits_of : List ℕ → ℕ
bits_of [] = 0
bits_of (c ∷ cs) = 2 ^ c + bits_of cs

-- the set of NUL, line feed, carriage return and these characters
abbrev pub with_breaks : List ℕ → SmallCharSet
with_breaks cs = record { bits = bits_of (0 ∷ 10 ∷ 13 ∷ cs) }

-- NUL, line feed and carriage return are in the set
abbrev pub HasBreaks : SmallCharSet → Type 0
HasBreaks set = (has set.bits 0 ≡ true) × (has set.bits 10 ≡ true) × (has set.bits 13 ≡ true)

-- text ends at "<" and "&"
abbrev pub data_stops : SmallCharSet
data_stops = with_breaks (38 ∷ 60 ∷ [])

-- raw text ends at "<", text with references also at "&", and a script's escaped text at "-"
abbrev pub raw_stops : RawKind → SmallCharSet
raw_stops raw.Rcdata = with_breaks (38 ∷ 60 ∷ [])
raw_stops raw.Rawtext = with_breaks (60 ∷ [])
raw_stops raw.ScriptData = with_breaks (60 ∷ [])
raw_stops (raw.ScriptDataEscaped kind) = with_breaks (45 ∷ 60 ∷ [])

-- a value ends at its quote, or, where it has none, at white space and ">"; and "&" may begin a reference
abbrev pub value_stops : AttrValueKind → SmallCharSet
value_stops value.Unquoted = with_breaks (9 ∷ 12 ∷ 32 ∷ 38 ∷ 62 ∷ [])
value_stops value.SingleQuoted = with_breaks (38 ∷ 39 ∷ [])
value_stops value.DoubleQuoted = with_breaks (34 ∷ 38 ∷ [])

-- an attribute's name ends at white space, "/", "=" and ">"; and what is an error in it is taken by itself
abbrev pub attribute_stops : SmallCharSet
attribute_stops = with_breaks (9 ∷ 12 ∷ 32 ∷ 34 ∷ 39 ∷ 47 ∷ 60 ∷ 61 ∷ 62 ∷ [])

-- where runs are read: in text, in names and values of attributes and in comments
abbrev pub state_stops : State → Option SmallCharSet
state_stops state.Data = Some data_stops
state_stops state.Plaintext = Some (with_breaks [])
state_stops (state.RawData kind) = Some (raw_stops kind)
state_stops state.AttributeName = Some attribute_stops
state_stops (state.AttributeValue kind) = Some (value_stops kind)
state_stops state.BogusComment = Some (with_breaks (62 ∷ []))
state_stops state.Comment = Some (with_breaks (45 ∷ []))
state_stops _ = None

-- the same where errors of single characters are not told, and nothing is awaited after "&"
abbrev pub stops_of : Bool → Option Ampersand → State → Option SmallCharSet
stops_of true char_ref st = None
stops_of false None st = state_stops st
stops_of false (Some held) st = None

-- these are the stops where the machine stands, and line ends are among them
pub record IsStoppedBy {K : Type 0} (set : SmallCharSet) (k : Tokenizer K) : Type 0 where
  pub are : stops_of k.stream.exact_errors k.char_ref k.state ≡ Some set
  pub breaks : HasBreaks set

-- A run, which is not empty, of characters that are no stops where the machine stands.
pub record IsRunAt {K : Type 0} (k : Tokenizer K) (run : List ℕ) : Type 0 where
  pub stops : SmallCharSet
  pub are : stops_of k.stream.exact_errors k.char_ref k.state ≡ Some stops
  pub filled : 0 < length run
  pub lacking : All (λ c. has stops.bits c ≡ false) run
