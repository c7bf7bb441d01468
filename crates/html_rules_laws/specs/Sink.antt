-- The rules as a sink.
use Rattle.std.specs.Prelude.{◌≡◌, ℕ, true, false, Option}
use Rattle.markup.specs.Forest.{Forest}
use Rattle.html_tokens.specs.Sink.{SinkLaws}
use Rattle.html_tokens.specs.declared.token.Token.{Token}
use Rattle.html_rules.specs.Documents.{Setting, before_document, before_fragment}
use Rattle.html_rules.specs.Shape.{is_fit}
use Rattle.html_rules.specs.State.{Open, State}
use Rattle.html_rules.specs.Step.{ended, is_quiet, step, taken}
use Rattle.html_rules_laws.specs.Sound.{Sound}

pub record AreRulesLawful : Type 0 where
  -- with sound states the rules keep all laws of sinks
  pub sink : SinkLaws Sound step ended is_quiet
  -- in a sound state that takes tokens every token is settled
  pub settled : (s : State) → Sound s → s.has_ended ≡ false → is_fit s ≡ true → (t : Token) → (taken t s).is_settled ≡ true
  -- the states before the first token of a document and of a fragment are sound
  pub document : (setting : Setting) (f : Forest) → Sound (before_document setting f)
  pub fragment : (setting : Setting) (context : Open) (form : Option ℕ) (f : Forest) → Sound (before_fragment setting context form f)
