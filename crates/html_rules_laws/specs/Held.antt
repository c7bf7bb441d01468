-- States within a token.
use Rattle.std.specs.Prelude.{◌≡◌, ℕ, ◌+◌, ◌≤◌, true, length}
use Rattle.html_rules.specs.Conditions.{context_is}
use Rattle.html_rules.specs.Shape.{one_if}
use Rattle.html_rules.specs.Stack.{has_open, open_templates}
use Rattle.html_rules.specs.State.{State}
use Rattle.html_rules.specs.declared.tag_set.TagSet.TheVariants as set
use Rattle.html_rules_laws.specs.Ready.{are_formatting}
use Rattle.html_rules_laws.specs.Settled.{are_template_modes}
use Rattle.html_rules_laws.specs.Sound.{are_placed_in, has_its_head, is_later, is_later_original}

-- how many template modes there are to be
abbrev pub wanted : State → ℕ
wanted s = open_templates s.open_elems + one_if (context_is set.Template s.context_elem)

-- where a root is wanted, there is one
abbrev pub HasRoot : State → Type 0
HasRoot s = is_later s.mode ≡ true → has_open set.Html s.open_elems ≡ true

-- a state within a token
pub record Held (s : State) : Type 0 where
  pub listed : are_formatting s.active_formatting ≡ true
  pub modes : are_template_modes s.template_modes ≡ true
  pub head : has_its_head s.mode s.head_elem s.context_elem ≡ true
  pub original : is_later_original s.orig_mode ≡ true
  pub most : wanted s ≤ length s.template_modes
  pub placed : wanted s ≡ length s.template_modes → HasRoot s → are_placed_in s.mode s.orig_mode s.open_elems ≡ true
