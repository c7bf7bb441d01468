-- A call of `feed` that answers takes something of what waits.
use Rattle.std.proofs.Common.{◌≡◌, ◌∙◌, ◌==◌, ℕ, ◌+◌, ◌<◌, Bool, false, List, [], ◌∷◌, length, Ok, ap, arith, length-append}
use Rattle.std.proofs.Common.{Option, Some, None}
use Rattle.figpliers.specs.ParseFault.{ParseFault}
use Rattle.figpliers.specs.TokenizerResult.{TokenizerResult}
use Rattle.figpliers.specs.TokenizerResult.TheVariants.{Done, Script, EncodingIndicator}
use Rattle.figpliers.specs.Queue.{Queue}
use Rattle.figpliers.specs.TokenSink.{Ghosts}
use Rattle.figpliers.specs.TokenizerCalls.{last_of, Fed, FeedGives}
use Rattle.figpliers.specs.Tokenizer.{Tokenizer}

-- a text that ends in ">" is not empty
ends-somewhere : (t : List ℕ) → last_of t ≡ 62 → 0 < length t
ends-somewhere [] h = absurd cc
ends-somewhere (c ∷ t) h = omega arith

-- what is not empty has a character
pub some-wait : (t : List ℕ) (b : Bool) → b ≡ (length t == 0) → b ≡ false → 0 < length t
some-wait t b e f = grind (arith, e, f)

module _ {K H : Type 0} (Sink : Ghosts K H) where
  behind-close : (old new : Tokenizer K) (from to : Queue) (result : TokenizerResult H)
      (fed : Fed Sink old new from to result) → last_of fed.taken ≡ 62 → length to.characters < length from.characters
  behind-close old new from to result fed close =
      let sizes : length from.characters ≡ length fed.taken + length to.characters = ap length fed.takes.split
      ∙ length-append fed.taken to.characters in
      let some = ends-somewhere fed.taken close in
      omega arith

  fed-less : (old new : Tokenizer K) (from to : Queue) (result : TokenizerResult H) → 0 < length from.characters
      → Fed Sink old new from to result → length to.characters < length from.characters
  fed-less old new from to Done h fed = let none : length to.characters ≡ 0 = ap length fed.left.0 in omega arith
  fed-less old new from to (Script handle) h fed = behind-close old new from to (Script handle) fed fed.left.0
  fed-less old new from to (EncodingIndicator label) h fed = behind-close old new from to (EncodingIndicator label) fed fed.left.0

  pub feeds-less : (refused : Option ParseFault) (old new : Tokenizer K) (from to : Queue)
      (result : TokenizerResult H) → 0 < length from.characters → FeedGives Sink refused old new from to (Ok result)
      → length to.characters < length from.characters
  feeds-less None old new from to result h gives = fed-less old new from to result h gives
  feeds-less (Some fault) old new from to result h gives = let e = gives.0 in absurd cc
