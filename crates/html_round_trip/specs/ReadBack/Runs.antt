-- What it means that a text is read from one state of the rules to another without an error.
use Rattle.std.specs.Prelude.{ℕ, List, [], ◌++◌}
use Rattle.html_rules.specs.ForeignContent.{asks_cdata}
use Rattle.html_rules.specs.State.{State}
use Rattle.html_rules.specs.Step.{ended, is_quiet, step}
use Rattle.html_round_trip.specs.Slices.Slices.{IsSpelled, Takes}
use Rattle.html_tokens.specs.Item.{Stand}
use Rattle.html_tokens.specs.Reading.{next_stand}
use Rattle.html_tokens.specs.Sink.{Reply}
use Rattle.html_tokens.specs.Table.{Row}
use Rattle.html_tokens.specs.declared.token.Token.{Token}

-- the rules take a token quietly, on whatever line, and hand nothing back
abbrev pub TakesQuietly : List Row → State → Token → State → Reply → Type 0
TakesQuietly rows s token new reply = (line : ℕ) → Takes step is_quiet asks_cdata ended rows s token line new reply

-- a text of slices, each of which spells a token that the rules take quietly
pub data Reads (rows : List Row) : Stand → State → List ℕ → Stand → State → Type 0 where
  NoText : {st : Stand} {s : State} → Reads rows st s [] st s
  TokenFirst : {st : Stand} {s : State} {last : Stand} {left : State} (next : Stand) (new : State)
      (slice rest : List ℕ) (token : Token) (reply : Reply)
      → IsSpelled rows st slice token next → TakesQuietly rows s token new reply → Reads rows (next_stand next reply) new rest last left
      → Reads rows st s (slice ++ rest) last left
