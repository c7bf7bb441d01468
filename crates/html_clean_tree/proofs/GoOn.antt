-- The rules go on with data after tags of kept names.
use Rattle.std.proofs.Common.{◌≡◌, List, ℕ, false, true, ap}
use Rattle.std.proofs.lemmas.Bool.{and_parts}
use Rattle.std.specs.Prelude.{not}
use Rattle.html_clean.specs.Names.{is_safe_name}
use Rattle.html_clean.specs.Policies.{is_kept_name, is_ruled}
use Rattle.html_clean.specs.declared.policy.Policy.{Policy}
use Rattle.html_clean.specs.PieceLaws.{GoesOn}
use Rattle.html_rules.specs.State.{State}
use Rattle.html_rules.specs.Step.{step}
use Rattle.html_clean_tree.proofs.SafeTags.{is_unsafe, tag-continues}

safe : (policy : Policy) (name : List ℕ) → is_kept_name policy name ≡ true → is_unsafe name ≡ false
safe policy name h = ap not (and_parts (is_safe_name name) (is_ruled policy.kept.items name) h).0

pub go-on : (policy : Policy) (is_sound : State → Type 0) → GoesOn is_sound step (is_kept_name policy)
go-on policy is_sound = record {
  starts = λ s sound name h attributes line. tag-continues _ s line (safe policy name h);
  ends = λ s sound name h line. tag-continues _ s line (safe policy name h);
}
