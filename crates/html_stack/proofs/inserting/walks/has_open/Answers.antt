use Rattle.std.proofs.Common.{◌≡◌, ◌∙◌, ◌-◌, ◌∷◌, ℕ, List, get_or, take, true, false, ap, sym, refl, arith}
use Rattle.html_rules.specs.Stack.{has_open}
use Rattle.html_rules.specs.State.{Open, is_in}
use Rattle.html_rules.specs.declared.tag_set.TagSet.{TagSet}
use Rattle.html_stack.specs.Stacks.{open_of, opens_of}
use Rattle.html_stack.specs.declared.entries.OpenElement.{OpenElement}
use Rattle.html_stack.proofs.WalksBack.{IsWalked-end, walk-at, walk-none, walk-on}
use Rattle.html_stack.proofs.inserting.walks.has_open.Goals as goal

here : {H : Type 0} (node : H → ℕ) (set : TagSet) (x y : OpenElement H) (rest : List Open) → x ≡ y
    → true ≡ is_in set (open_of node y) → has_open set (open_of node x ∷ rest) ≡ true
here node set x y rest e is = rw (ap (λ z. is_in set (open_of node z)) e ∙ sym is) refl

past : {H : Type 0} (node : H → ℕ) (set : TagSet) (x y : OpenElement H) (rest : List Open) → x ≡ y
    → false ≡ is_in set (open_of node y) → has_open set (open_of node x ∷ rest) ≡ has_open set rest
past node set x y rest e is = rw (ap (λ z. is_in set (open_of node z)) e ∙ sym is) refl

pub loop-i-init : goal.loop-i-init
loop-i-init g c = IsWalked-end open_of (has_open c.args.set) c.args.elements.now

pub returns-then-is_in : goal.returns-then-is_in
returns-then-is_in g c node =
    sym (walk-at open_of (has_open c.args.set) c.args.elements.now c.loop-i.i _ c.index-elements-i.result
    c.loop-i.invariant (omega arith) c.index-elements-i.is node
    ∙ here node c.args.set c.index-elements-i.result
    (get_or c.args.elements.now (c.loop-i.i - 1) c.index-elements-i.result)
    (opens_of node (take (c.loop-i.i - 1) c.args.elements.now)) c.index-elements-i.is c.if-is_in.ensures)

pub loop-i-preserved : goal.loop-i-preserved
loop-i-preserved g c =
    walk-on open_of (has_open c.args.set) c.args.elements.now c.loop-i.i _ c.index-elements-i.result
    c.loop-i.invariant (omega arith) c.index-elements-i.is
    (λ node. past node c.args.set c.index-elements-i.result
    (get_or c.args.elements.now (c.loop-i.i - 1) c.index-elements-i.result)
    (opens_of node (take (c.loop-i.i - 1) c.args.elements.now)) c.index-elements-i.is c.if-is_in.ensures)

pub returns : goal.returns
returns g c node = sym (walk-none open_of (has_open c.args.set) c.args.elements.now c.loop-i.i c.loop-i.invariant (omega arith) node)
