use Rattle.std.proofs.Common.{◌∙◌, sym}
use Rattle.std.proofs.lemmas.Bool.{true≢false}
use Rattle.html_references.proofs.Repeats.{below-all, below-none, below-other, below-repeat}
use Rattle.html_references.proofs.references.arranging.first_repeat.Goals as goal
use Rattle.html_references.proofs.references.arranging.first_repeat.Goals.{then-is_repeated, else-is_repeated}

pub loop-index-init : goal.loop-index-init
loop-index-init c = below-none c.args.rows.now c.args.order.now

pub loop-index-preserved : goal.loop-index-preserved
loop-index-preserved c =
    elim c.if-is_repeated.branch [
      | then-is_repeated w ↦
          rw (w.first-is, w.sooner.ensures)
          (below-repeat c.args.rows.now c.args.order.now c.loop-index.index c.loop-index.first
          (c.is_repeated.ensures.0 w.if-is_repeated.true) c.loop-index.invariant)
      | else-is_repeated w ↦
          rw w.first-is
          (below-other c.args.rows.now c.args.order.now c.loop-index.index c.loop-index.first
          (λ r. true≢false (sym (c.is_repeated.ensures.1 r) ∙ w.if-is_repeated.false)) c.loop-index.invariant)
    ]

pub returns : goal.returns
returns c = below-all c.args.rows.now c.args.order.now c.loop-index.index c.loop-index.first c.loop-index-test.false c.loop-index.invariant
