-- What the rules make of a token at a spot where they do no harm.
use Rattle.std.specs.Prelude.{◌≡◌, ◌≤◌, ℕ, suc, true, false, Option, None, Some, IfSome}
use Rattle.html_tokens.specs.Sink.{Reply}
use Rattle.html_tokens.specs.declared.replies.TokenSinkResult.TheVariants as reply
use Rattle.html_tokens.specs.declared.states.RawKind.{RawKind}
use Rattle.html_tokens.specs.declared.token.Token.{Token}
use Rattle.html_rules.specs.Rules.{Settled, is_self_closing, settle, within}
use Rattle.html_rules.specs.State.{State}
use Rattle.html_faithful.specs.Faces.{Stands}
use Rattle.html_faithful.specs.Harmless.{Made, made_of}
use Rattle.html_faithful.specs.Spots.{Spot}
use Rattle.html_faithful.specs.Steps.{Adopts, Comes, is_settled}

-- the reply: raw text of that kind follows; or text of the same kind as before
abbrev pub IsReplied : Option RawKind → Reply → Type 0
IsReplied (Some kind) given = given ≡ reply.RawData kind
IsReplied None (reply.RawData kind) = ⊥
IsReplied None reply.Plaintext = ⊥
IsReplied None given = Unit {0}

-- a token was settled, as was made of it
abbrev pub IsDone : Token → State → Settled → Made → Type 0
IsDone t before left made = Comes t before left.state made × (left.is_settled ≡ true) × IsReplied made.raw left.reply

-- whatever is made of a token at a spot was done to the state
abbrev pub IsDoneAt : Token → Spot → State → Settled → Type 0
IsDoneAt t p before left = IfSome (made_of t p) (λ made. IsDone t before left made)

-- A token of which something is made at a spot is settled so by the rules, in each state that stands there: one node is put in its place,
-- or the current node is closed, and the state stands at the new spot.
abbrev pub AreTokensFollowed : Type 0
AreTokensFollowed = (t : Token) (p : Spot) (s : State) → Stands s p → is_settled s.open_elems s.active_formatting ≡ true → Adopts s
    → is_self_closing t ≡ false → IsDoneAt t p s (settle t s)

-- The same in four turns or more.
abbrev pub AreTokensFollowedWithin : Type 0
AreTokensFollowedWithin = (t : Token) (p : Spot) (s : State) → Stands s p → is_settled s.open_elems s.active_formatting ≡ true → Adopts s
    → is_self_closing t ≡ false → (turns : ℕ) (beyond : State → Settled) → 3 ≤ turns
    → IfSome (made_of t p) (λ made. IsDone t s (within (suc turns) beyond t s) made)
