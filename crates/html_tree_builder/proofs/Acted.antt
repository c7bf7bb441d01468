-- What stands after an action that may be taken.
use Rattle.std.proofs.Common.{◌≡◌, ◌∙◌, false, ap, sym, subst}
use Rattle.markup.specs.Forest.{Forest}
use Rattle.markup.specs.declared.tree_sink.TreeSink.{Ghosts}
use Rattle.html_tokens.specs.declared.token.Token.{Token}
use Rattle.html_rules.specs.Actions.{act}
use Rattle.html_modes.specs.Tables.{action_of}
use Rattle.html_modes.specs.declared.table.Action.{Action as Asked}
use Rattle.html_rules.specs.State.{Answers, State}
use Rattle.html_rules.specs.Table.{Action}
use Rattle.html_tree_builder.specs.Acting.{Grounded, MayAct}
use Rattle.html_tree_builder.specs.States.{Building, Stands, answers_of, state_of}
use Rattle.html_tree_builder.proofs.Grounded.{act-grounded}

pub grounded-of : (a : Answers) (b : Building) (f : Forest) → Stands f b → Grounded (state_of a b f)
grounded-of a b f h = record { standing = h.standing; head = h.head; form = h.form; context = h.context }

pub stands-of : (a : Answers) (b : Building) (f : Forest) → Grounded (state_of a b f) → Stands f b
stands-of a b f h = record { standing = h.standing; head = h.head; form = h.form; context = h.context }

-- a construction and a tree that are what the action makes of others
pub acted-stands : (a : Answers) (b c : Building) (f g : Forest) (action : Action) (t : Token)
    → MayAct action t (state_of a b f) → Stands f b → state_of a c g ≡ act action t (state_of a b f) → Stands g c
acted-stands a b c f g action t may h is =
    stands-of a c g (subst Grounded (sym is) (act-grounded action t (state_of a b f) may (grounded-of a b f h)))

-- what a sink answers
abbrev pub its_answers : {K H O : Type 0} → Ghosts K H O → Answers
its_answers sink = answers_of sink.integration_point sink.allows_shadow_roots sink.attaches_shadow

-- what one action makes is made by the action that is the same
pub acted-as : (t : Token) (s made : State) (a b : Asked) → a ≡ b → made ≡ act (action_of b) t s → made ≡ act (action_of a) t s
acted-as t s made a b is h = h ∙ ap (λ x. act (action_of x) t s) (sym is)

-- some answers of a sink
pub no_answers : Answers
no_answers = record {
  integration_point = λ f n. false;
  allows_shadow_roots = λ f n. false;
  attaches_shadow = λ f host template attributes. false;
}
