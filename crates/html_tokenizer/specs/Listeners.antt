-- What a reading is told to.
use Rattle.std.specs.Prelude.{ℕ, Bool, List, Result}
use Rattle.html_tokens.specs.declared.sink.TokenSink.{Ghosts}
use Rattle.html_tokens.specs.declared.token.Token.{Token}
use Rattle.html_tokens.specs.Item.{Fault, Stand, Item}
use Rattle.html_tokens.specs.Notes.{Notes, NotedStep, noting, noting_error, noting_cdata, noting_end}
use Rattle.html_tokens.specs.Reading.{reading, play}
use Rattle.html_tokens.specs.Sink.{Reply, Refusal}
use Rattle.html_tokens.specs.Table.{Row}

-- what a token makes of it, what a fault does, its answer to the CDATA question, and what its end does
pub record Listener (T : Type 0) : Type 0 where
  pub step : NotedStep T
  pub erred : Fault → T → T
  pub cdata : T → Bool
  pub ends : T → T

-- a sink of which pauses, faulty items and quiet are noted
abbrev pub noting_listener : {S : Type 0} → (S → Token → ℕ → Result (S × Reply) Refusal) → (S → Token → Bool)
    → (S → Bool) → (S → S) → Listener (S × Notes ℕ)
noting_listener step quiet cdata ends = record {
  step = noting step quiet;
  erred = noting_error;
  cdata = noting_cdata cdata;
  ends = noting_end ends;
}

abbrev pub listening : {K H : Type 0} → (Sink : Ghosts K H) → Listener (Sink.State × Notes ℕ)
listening Sink = noting_listener Sink.step Sink.is_quiet Sink.asks_cdata Sink.ended

module _ {T : Type 0} (to : Listener T) (rows : List Row) where
  -- what a text makes of it, and what an item and the text after it do
  abbrev pub emitted_text : Stand → ℕ → T → List ℕ → Result T (Refusal × ℕ)
  emitted_text st b s t = reading to.step to.erred to.cdata to.ends rows st b s t

  abbrev pub emitted_item : Item → ℕ → T → List ℕ → Result T (Refusal × ℕ)
  emitted_item i b s t = play to.step to.erred to.cdata to.ends rows i b s t
