-- What stands of a usable state that takes a token.
use Rattle.std.proofs.Common.{◌≡◌, ◌∙◌, ℕ, true, false, Option, Some, None}
use Rattle.std.specs.Prelude.{IfSome, codes}
use Rattle.markup.specs.Forest.{Forest, IsNode, data_of, element_name}
use Rattle.markup.specs.declared.names.QualName.{QualName}
use Rattle.markup.proofs.PutTexts.{element-IsNode}
use Rattle.html_tokens.specs.declared.token.Token.{Token}
use Rattle.html_rules.specs.Actions.{set_ignore_lf}
use Rattle.html_rules.specs.Names.{Html, element_name_of}
use Rattle.html_rules.specs.Rules.{settle}
use Rattle.html_rules.specs.State.{State}
use Rattle.html_rules_laws.specs.Held.{Held}
use Rattle.html_rules_laws.specs.Sound.{Sound}
use Rattle.html_rules_laws.specs.Upright.{MayCome}
use Rattle.html_rules_laws.proofs.Termination.Settled.{settle-rest, token-settled}
use Rattle.html_rules_laws.proofs.Soundness.Sink.{mode-fits, sound-of}
use Rattle.html_rules_laws.proofs.TreePreserved.Tokens.{settle-kept, states-steady}
use Rattle.html_rules_laws.proofs.ModesPreserved.Tokens.{settle-nested, unlined-nested}
use Rattle.html_rules_laws.specs.Usable.{Usable}
use Rattle.html_rules_laws.proofs.Frames.Larger.{context-stays, settle-larger}
use Rattle.html_rules_laws.proofs.Progress.UsableTokens.{usable-fit}

-- the pointers name nodes

named-node : (f : Forest) (o : Option ℕ) (name : QualName) → IfSome o (λ n. element_name (data_of f n) ≡ Some name) → IfSome o (IsNode f)
named-node f None name h = tt
named-node f (Some n) name h = element-IsNode f n name h

pub head-node : (s : State) → Usable s → IfSome s.head_elem (IsNode s.forest)
head-node s h = named-node s.forest s.head_elem (element_name_of Html (codes "head")) h.steady.upright.head

pub form-node : (s : State) → Usable s → s.has_ended ≡ false → IfSome s.form_elem (IsNode s.forest)
form-node s h going = let nested = h.nested going in named-node s.forest s.form_elem (element_name_of Html (codes "form")) nested.form

-- a token may come
pub may-come : (t : Token) (s : State) → Usable s → s.has_ended ≡ false → MayCome t s
may-come t s h going = states-steady.begins s h.steady going (usable-fit s h going) t

-- and the turns that it may take are enough for it
pub is-settled : (t : Token) (s : State) → Usable s → s.has_ended ≡ false → (settle t s).is_settled ≡ true
is-settled t s h going = token-settled t s (mode-fits s (usable-fit s h going)) h.steady.sound.listed h.steady.sound.modes

unhushed-sound : (s : State) → Held s → Sound s
unhushed-sound s h = let is = sound-of s h in record {
  listed = is.listed;
  modes = is.modes;
  head = is.head;
  original = is.original;
  placed = is.placed;
}

-- it leads to a usable state
pub settled-usable : (t : Token) (s : State) → Usable s → s.has_ended ≡ false → Usable (settle t s).state
settled-usable t s h going =
    let may = may-come t s h going in
    let kept = settle-kept t s may in
    record {
      steady = record { sound = unhushed-sound (settle t s).state kept.held; upright = kept.left.upright };
      nested = λ e. settle-nested t s may (h.nested going);
      context = context-stays s (settle t s).state (settle-larger t s) h.context;
    }

-- which has not ended
pub settled-going : (t : Token) (s : State) → s.has_ended ≡ false → (settle t s).state.has_ended ≡ false
settled-going t s going = (settle-rest t s).ended ∙ going

-- a line feed that would be dropped is of no account
pub unlined-usable : (s : State) → Usable s → Usable (set_ignore_lf false s)
unfolding set_ignore_lf
unlined-usable s h = record {
  steady = record {
    sound = record {
      listed = h.steady.sound.listed;
      modes = h.steady.sound.modes;
      head = h.steady.sound.head;
      original = h.steady.sound.original;
      placed = h.steady.sound.placed;
    };
    upright = record {
      standing = h.steady.upright.standing;
      rooted = h.steady.upright.rooted;
      head = h.steady.upright.head;
      context = h.steady.upright.context;
    };
  };
  nested = λ going. unlined-nested s (h.nested going);
  context = h.context;
}

pub unlined-going : (s : State) → s.has_ended ≡ false → (set_ignore_lf false s).has_ended ≡ false
unfolding set_ignore_lf
unlined-going s going = going
