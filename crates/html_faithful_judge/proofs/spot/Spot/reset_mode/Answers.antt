use Rattle.std.proofs.Common.{◌≡◌, ℕ, Bool, true, false, cond, ap, is_some, refl, sym}
use Rattle.std.specs.Prelude.{Some, None}
use Rattle.html_rules.specs.Reset.{reset_insertion_mode}
use Rattle.html_stack.specs.Stacks.{Stacked}
use Rattle.html_faithful.specs.Spots.{hollow}
use Rattle.html_faithful_judge.specs.Spots.{spot_of}
use Rattle.html_faithful_judge.proofs.spot.Spot.reset_mode.Goals as goal

head-is : (b : Bool) → is_some {T = ℕ} (cond b (Some 0) None) ≡ b
head-is true = refl
head-is false = refl

pub returns : goal.returns
unfolding reset_insertion_mode
returns c =
    ap (λ mode. record (spot_of c.args.self.now) { mode = mode })
    (c.reset_insertion_mode-self.ensures (hollow (spot_of c.args.self.now)) (ap (λ (s : Stacked). s.open_elems) (sym c.as_stack.ensures))
    (ap (λ (s : Stacked). s.template_modes) (sym c.as_stack.ensures)) (head-is c.args.self.now.has_head) tt)
