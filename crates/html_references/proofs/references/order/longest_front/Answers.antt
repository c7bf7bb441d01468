use Rattle.std.proofs.Common.{◌∙◌, ◌+◌, length, take, sym, arith}
use Rattle.html_references.proofs.Longest.{found-within, longest-all, longest-more, longest-none, within-more}
use Rattle.html_references.proofs.references.order.longest_front.Goals as goal

pub loop-end-init : goal.loop-end-init
loop-end-init c = record { fits = omega arith; within = tt; longest = longest-none c.args.rows.now c.args.order.now c.requires }

pub loop-end-preserved : goal.loop-end-preserved
loop-end-preserved c = record {
  fits = omega arith;
  within =
      rw c.or-longest.ensures
      (within-more (length c.args.rows.now) c.find.result c.loop-end.longest
      (found-within c.args.rows.now (take (c.loop-end.end + 1) c.args.text.now) c.find.result
      c.find.ensures.found) c.loop-end.invariant.within);
  longest =
      rw c.or-longest.ensures
      (longest-more c.args.rows.now c.args.order.now c.args.text.now c.loop-end.end c.find.result c.loop-end.longest
      c.requires c.loop-end-test.true c.find.ensures.found c.find.ensures.absent c.loop-end.invariant.longest);
}

pub returns-else-goes_on-clause-longest : goal.returns-else-goes_on-clause-longest
returns-else-goes_on-clause-longest c =
    c.loop-end.invariant.longest ∙ longest-all c.args.rows.now c.args.text.now c.loop-end.end (sym c.goes_on.ensures ∙ c.if-goes_on.false)
