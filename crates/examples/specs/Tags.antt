-- A sink that counts tags, as a state with its step.
use Rattle.std.specs.Prelude.{◌≡◌, ℕ, true, Ok, refl}
use Rattle.figpliers.specs.Counting.{tags_after}
use Rattle.figpliers.specs.Sink.{IsIdle, IsReplyTo, SinkLaws, Step}
use Rattle.figpliers.specs.TokenSinkResult.TheVariants.{Continue}
use Rattle.figpliers.specs.Token.{Token}
use Rattle.figpliers.specs.Token.TheVariants.{CharacterTokens, CommentToken, DoctypeToken, EOFToken, NullCharacterToken}
use Rattle.figpliers.specs.Token.TheVariants.{ParseError, TagToken}

-- a token is counted if it is a tag, and reading goes on
abbrev pub step : Step ℕ
step tags token line = Ok (tags_after token tags, Continue)

-- empty text and errors are no tags
idle : (tags : ℕ) (token : Token) → IsIdle token → tags_after token tags ≡ tags
idle tags (DoctypeToken doctype) h = refl
idle tags (TagToken tag) h = absurd h
idle tags (CommentToken text) h = refl
idle tags (CharacterTokens text) h = refl
idle tags NullCharacterToken h = refl
idle tags EOFToken h = refl
idle tags (ParseError message) h = refl

replies : (token : Token) → IsReplyTo token Continue
replies (DoctypeToken doctype) = refl
replies (TagToken tag) = tt
replies (CommentToken text) = refl
replies (CharacterTokens text) = refl
replies NullCharacterToken = refl
replies EOFToken = refl
replies (ParseError message) = refl

pub laws : SinkLaws (λ tags. Unit {0}) step (λ tags. tags) (λ tags token. true)
laws = record {
  keeps = λ s is t line. tt;
  ends = λ s is. tt;
  pieces = λ s is a b line. refl;
  lines = λ s is a line other. refl;
  idle = λ s is t i line. idle s t i;
  idle_refused = λ s is t i line refused any other. refused;
  replies = λ s is t line. replies t;
  quiet = λ s is a b line. refl;
}
