-- What functions leave that go on to the next character.
use Rattle.std.specs.Prelude.{ℕ, Result, Ok, Err}
use Rattle.markup.specs.declared.fault.ParseFault.{ParseFault}
use Rattle.html_tokens.specs.declared.replies.ProcessResult.TheVariants as flow
use Rattle.html_tokens.specs.declared.sink.TokenSink.{Ghosts}
use Rattle.html_tokenizer.specs.Calls.{Passed, Passes}
use Rattle.html_tokenizer.specs.declared.tokenizer.Tokenizer.{Tokenizer}
use Rattle.html_tokenizer.specs.Steps.{Keeps, Took}

module _ {K H : Type 0} (Sink : Ghosts K H) where
  -- the character was taken, and no pause follows
  abbrev pub KeepsOn : Tokenizer K → Tokenizer K → ℕ → Result (Unit {0}) ParseFault → Type 0
  KeepsOn old new c (Ok x) = Took Sink old new c flow.Continue
  KeepsOn old new c (Err fault) = Keeps Sink old new c (Err fault)

  -- the same, its line counted
  abbrev pub PassesOn : Tokenizer K → Tokenizer K → ℕ → Result (Unit {0}) ParseFault → Type 0
  PassesOn old new c (Ok x) = Passed Sink old new c flow.Continue
  PassesOn old new c (Err fault) = Passes Sink old new c (Err fault)
