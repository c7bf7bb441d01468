-- The states in which a tree builder may be used.
use Rattle.std.specs.Prelude.{◌≡◌, ℕ, false, Option, Some, None, IfSome, codes}
use Rattle.markup.specs.Forest.{Forest, IsNode, above_of, data_of, element_name}
use Rattle.markup.specs.Named.{IsTree}
use Rattle.html_tokens.specs.Sink.{SinkLaws}
use Rattle.html_rules.specs.Documents.{Setting, before_document, before_fragment, form_of_context}
use Rattle.html_rules.specs.Names.{Html, element_name_of}
use Rattle.html_rules.specs.State.{Open, State, hushed}
use Rattle.html_rules.specs.Step.{ended, is_quiet, step}
use Rattle.html_rules_laws.specs.Nesting.{IsNested}
use Rattle.html_rules_laws.specs.Soundness.{IsOwn}
use Rattle.html_rules_laws.specs.Upright.{Steady}

pub record Usable (s : State) : Type 0 where
  -- the tree is one, the open elements stand in it in order, and text in pieces is taken as in one
  pub steady : Steady s
  -- up to the end the open elements nest as the mode wants them, so that the state takes tokens
  pub nested : s.has_ended ≡ false → IsNested s
  -- the context of a fragment is a node of the tree
  pub context : IfSome s.context_elem (λ c. IsNode s.forest c.number)

pub record AreStatesUsable : Type 0 where
  -- with usable states the rules keep all laws of sinks
  pub sink : SinkLaws Usable step ended is_quiet
  -- the states before the first token are usable, over a tree with the document on top
  pub document : (setting : Setting) (f : Forest) → IsTree f → above_of f 0 ≡ None → Usable (hushed (before_document setting f))
  pub fragment : (setting : Setting) (context : Open) (form : Option ℕ) (f : Forest) → IsTree f
      → above_of f 0 ≡ None → IsOwn context.namespace → IsNode f context.number
      → IfSome (form_of_context setting.opts.rules context form) (λ n. element_name (data_of f n) ≡ Some (element_name_of Html (codes "form")))
      → Usable (hushed (before_fragment setting context form f))
