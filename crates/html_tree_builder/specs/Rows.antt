-- The row that a token takes, and what comes once its actions are done.
use Rattle.std.specs.Prelude.{ℕ, Option, Some, None}
use denote.Bor.{Bor}
use Rattle.html_tokens.specs.Sink.{numbered}
use Rattle.html_tokens.specs.declared.token.Token.{Token}
use Rattle.html_rules.specs.Rules as rules
use Rattle.html_rules.specs.State.{State}
use Rattle.html_rules.specs.Table as table
use Rattle.html_rules.specs.declared.insertion_mode.InsertionMode.{InsertionMode}
use Rattle.html_modes.specs.Tables.{action_of, row_of}
use Rattle.html_modes.specs.declared.table.Row.{Row}
use Rattle.html_tree_builder.specs.declared.conclusions.Ending.{Ending}
use Rattle.html_tree_builder.specs.declared.conclusions.Ending.TheVariants.{Finished, Again, Replied}
use Rattle.html_tree_builder.specs.declared.conclusions.Next.{Next}
use Rattle.html_tree_builder.specs.declared.conclusions.Next.TheVariants.{Ends, Using, UsingThen}

-- the row that was found, or another
abbrev pub row_or : Option (Bor Row) → table.Row → table.Row
row_or (Some row) other = row_of row.now
row_or None other = other

-- how a turn ends, with the number of each handle in its place
abbrev pub ending_of : {H : Type 0} → (H → ℕ) → Ending H → rules.Ending
ending_of node (Finished acknowledged) = rules.Finished acknowledged
ending_of node Again = rules.Again
ending_of node (Replied reply) = rules.Replied (numbered node reply)

-- the turn that comes of what is next, where `using` is what the rules of another mode make of a token
abbrev pub next_turn : {H : Type 0} → (H → ℕ) → (InsertionMode → Token → State → rules.Turn) → Next H → Token → State → rules.Turn
next_turn node using (Ends ending) t s = rules.turn_of s (ending_of node ending)
next_turn node using (Using mode) t s = using mode t s
next_turn node using (UsingThen mode after) t s = rules.turn_then (action_of after.now) t (using mode t s)
