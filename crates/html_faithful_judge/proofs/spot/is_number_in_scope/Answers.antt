use Rattle.std.proofs.Common.{◌∙◌, sym, refl, arith}
use Rattle.html_rules.specs.Adoption.{is_number}
use Rattle.html_rules.specs.Stack.{in_scope}
use Rattle.html_rules.specs.declared.tag_set.TagSet.TheVariants.{DefaultScope}
use Rattle.html_stack.specs.Stacks.{open_of}
use Rattle.html_stack.proofs.WalksBack.{IsWalked-end, walk-at, walk-none, walk-on}
use Rattle.html_faithful_judge.specs.Contexts.{number_of}
use Rattle.html_faithful_judge.proofs.spot.is_number_in_scope.Goals as goal

pub loop-i-init : goal.loop-i-init
loop-i-init c = IsWalked-end (λ n. open_of number_of) (in_scope DefaultScope (is_number c.args.number)) c.args.elements.now

pub returns-then-eq : goal.returns-then-eq
returns-then-eq c =
    sym (walk-at (λ n. open_of number_of) (in_scope DefaultScope (is_number c.args.number)) c.args.elements.now c.loop-i.i
    _ c.index-elements-i.result c.loop-i.invariant (omega arith) c.index-elements-i.is (λ u. 0)
    ∙ rw (← c.if-eq.ensures) refl)

pub returns-then-is_in : goal.returns-then-is_in
returns-then-is_in c =
    sym (walk-at (λ n. open_of number_of) (in_scope DefaultScope (is_number c.args.number)) c.args.elements.now c.loop-i.i
    _ c.index-elements-i.result c.loop-i.invariant (omega arith) c.index-elements-i.is (λ u. 0)
    ∙ rw (← c.if-eq.ensures, ← c.if-is_in.ensures) refl)

pub loop-i-preserved : goal.loop-i-preserved
loop-i-preserved c =
    walk-on (λ n. open_of number_of) (in_scope DefaultScope (is_number c.args.number)) c.args.elements.now c.loop-i.i _
    c.index-elements-i.result c.loop-i.invariant (omega arith) c.index-elements-i.is
    (λ u. rw (← c.if-eq.ensures, ← c.if-is_in.ensures) refl)

pub returns : goal.returns
returns c = sym (walk-none (λ n. open_of number_of) (in_scope DefaultScope (is_number c.args.number)) c.args.elements.now c.loop-i.i
    c.loop-i.invariant (omega arith) (λ u. 0))
