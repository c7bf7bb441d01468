use Rattle.std.proofs.Common.{◌≡◌, ◌∙◌, ◌-◌, ap, arith, length, sym, take}
use Rattle.html_rules.specs.Stack.{without_current}
use Rattle.html_stack.specs.Stacks.{Stacked}
use Rattle.html_faithful_judge.specs.Contexts.{kept_of}
use Rattle.html_faithful_judge.proofs.Contexts.{count-below, opens-below}
use Rattle.html_faithful_judge.proofs.open.OpenElements.pop.Goals as goal

pub invariant_of-self : goal.invariant_of-self
invariant_of-self c =
    let left : c.below-below.result ≡ length c.args.self.now.open_elems - 1 =
    omega (arith, c.below-below.ensures, count-below c.args.self.now.open_elems) in
    let same = ap (λ (s : Stacked). s.open_elems) c.self.view_is in
    let own : c.below-below.result ≡ length c.self.inside.stack.open_elems - 1 = omega (arith, left, ap length same) in
    c.truncate.ensures.items
    ∙ (ap (take c.kept_below-kept.result) (sym c.as_slice.ensures.value)
    ∙ c.kept_below-kept.ensures.kept c.args.self.now.open_elems
    (c.as_slice.ensures.value ∙ (c.self.invariant ∙ ap (λ (s : Stacked). kept_of s.open_elems) c.self.view_is)) c.below-below.ensures
    ∙ sym (ap (λ (s : Stacked). kept_of s.open_elems) c.truncate-2.ensures
    ∙ (ap kept_of (opens-below c.self.inside.stack.open_elems c.below-below.result own) ∙ ap (λ xs. kept_of (without_current xs)) same)))

pub returns : goal.returns
returns c =
    let left : c.below-below.result ≡ length c.args.self.now.open_elems - 1 =
    omega (arith, c.below-below.ensures, count-below c.args.self.now.open_elems) in
    let same = ap (λ (s : Stacked). s.open_elems) c.self.view_is in
    let own : c.below-below.result ≡ length c.self.inside.stack.open_elems - 1 = omega (arith, left, ap length same) in
    c.truncate-2.ensures
    ∙ (ap (λ xs. record c.self.inside.stack { open_elems = xs }) (opens-below c.self.inside.stack.open_elems c.below-below.result own)
    ∙ ap (λ (s : Stacked). record s { open_elems = without_current s.open_elems }) c.self.view_is)
