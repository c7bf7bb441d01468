-- The rules do not look at the number of errors, and only count it on.
use Rattle.std.specs.Prelude.{◌≡◌, ℕ}
use Rattle.markup.specs.Forest.{Forest, one_more}
use Rattle.html_tokens.specs.declared.token.Token.{Token}
use Rattle.html_rules.specs.Rules.{Settled}
use Rattle.html_rules.specs.State.{State}
use Rattle.html_rules.specs.Step.{taken}

-- a forest with as many errors as a function makes of its own
abbrev pub louder_forest : (ℕ → ℕ) → Forest → Forest
louder_forest g f = record f { errors = g f.errors }

abbrev pub louder : (ℕ → ℕ) → State → State
louder g s = record s { forest = louder_forest g s.forest }

abbrev pub louder_settled : (ℕ → ℕ) → Settled → Settled
louder_settled g settled = record settled { state = louder g settled.state }

-- one error more is one more after it too
abbrev pub Commutes : (ℕ → ℕ) → Type 0
Commutes g = (n : ℕ) → g (one_more n) ≡ one_more (g n)

-- more errors before a token are more errors after it, and nothing else changes
abbrev pub AreErrorsCounted : Type 0
AreErrorsCounted = (g : ℕ → ℕ) → Commutes g → (t : Token) (s : State) → taken t (louder g s) ≡ louder_settled g (taken t s)
