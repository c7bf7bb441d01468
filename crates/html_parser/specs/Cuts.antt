-- That a text may be cut anywhere.
use Rattle.std.specs.Prelude.{◌≡◌, ℕ, Bool, List, [], ◌∷◌, ◌++◌, None, Ok}
use Rattle.html_queue.specs.Queue.{Queue}
use Rattle.html_tokens.specs.declared.sink.TokenSink.{Ghosts}
use Rattle.html_tokenizer.specs.declared.tokenizer.Tokenizer.{Tokenizer}
use Rattle.html_parser.specs.Read.{Beginning, EndsAll, HasRead, TakesText}

-- the text of all pieces
abbrev pub joined : List (List ℕ) → List ℕ
joined [] = []
joined (piece ∷ pieces) = piece ++ joined pieces

module _ {K H : Type 0} (Sink : Ghosts K H) where
  -- the pieces were taken, one after the other
  abbrev pub AreTaken : List (List ℕ) → Tokenizer K → Queue → Tokenizer K → Queue → Type 0
  AreTaken [] old from new to = (old ≡ new) × (from ≡ to)
  AreTaken (piece ∷ pieces) old from new to = (mid : Tokenizer K)
      × ((waits : Queue) × (TakesText Sink None None old mid from waits piece (Ok tt) × AreTaken pieces mid waits new to))

  -- Two readings that begin alike, but for which errors are told and how many were, of two lists of pieces with one joined text, leave
  -- the sink in one state at their ends.
  abbrev pub MayBeCut : Type 0
  MayBeCut = (begin : Beginning Sink.State) (exact_errors : Bool) (errors : ℕ) (k k' last last' : Tokenizer K)
      (from from' to to' : Queue) (pieces pieces' : List (List ℕ)) (left left' : K)
      → HasRead Sink begin [] k → HasRead Sink (record begin { exact_errors = exact_errors; errors = errors }) [] k'
      → from.characters ≡ [] → from'.characters ≡ []
      → AreTaken pieces k from last to → AreTaken pieces' k' from' last' to' → joined pieces ≡ joined pieces'
      → EndsAll Sink None last to.characters (Ok left) → EndsAll Sink None last' to'.characters (Ok left')
      → Sink.view left ≡ Sink.view left'
