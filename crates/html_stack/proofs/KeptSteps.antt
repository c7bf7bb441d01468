-- Steps that keep the open elements standing, for whoever makes them on a stack and a tree.
use Rattle.std.proofs.Common.{◌≡◌, Bool, false, refl, sym, subst}
use Rattle.markup.specs.Forest.{Forest}
use Rattle.html_rules.specs.State.{State}
use Rattle.html_rules_laws.specs.Soundness.{IsStanding, Standing}
use Rattle.html_rules_laws.proofs.TreePreserved.StandingSteps.{Keeps}
use Rattle.html_stack.specs.Stacks.{Stacked, joined}
use Rattle.html_stack.proofs.States.{some_state}

pub kept-by : (step : State → State) → Keeps step → (foster : Bool) (old new : Stacked) (f g : Forest)
    → ((s : State) → s.foster_parenting ≡ foster → joined s new g ≡ step (joined s old f))
    → IsStanding f old.open_elems old.active_formatting → IsStanding g new.open_elems new.active_formatting
kept-by step keeps foster old new f g e is = subst (λ s. Standing s) (sym (e (some_state foster) refl))
    (keeps (joined (some_state foster) old f) is)

-- where foster parenting does not matter
pub kept-always : (step : State → State) → Keeps step → (old new : Stacked) (f g : Forest)
    → ((s : State) → joined s new g ≡ step (joined s old f))
    → IsStanding f old.open_elems old.active_formatting → IsStanding g new.open_elems new.active_formatting
kept-always step keeps old new f g e is = kept-by step keeps false old new f g (λ s foster. e s) is
