use Rattle.std.proofs.Common.{◌∙◌, sym, ap, arith}
use Rattle.std.specs.Cmp.Lexicographic.{slice_cmp}
use Rattle.std.specs.Ordering.{nat_cmp}
use Rattle.html_references.proofs.Orders.{above_middle, below_middle, same_from_equal}
use Rattle.html_references.proofs.references.order.search.Goals as goal

pub loop-low-preserved-in-Less : goal.loop-low-preserved-in-Less
loop-low-preserved-in-Less c = record {
  within = omega arith;
  fits = c.loop-low.invariant.fits;
  below =
      below_middle _ _ _ _ c.requires (omega arith)
      (ap (λ name. slice_cmp nat_cmp name c.args.name.now) (sym c.ordered_bytes.ensures) ∙ (sym c.cmp.ensures ∙ c.in-Less.is));
  above = c.loop-low.invariant.above;
}

pub returns-in-Equal-clause-found : goal.returns-in-Equal-clause-found
returns-in-Equal-clause-found c =
    (omega arith, sym c.ordered_bytes.ensures ∙ same_from_equal _ _ (sym c.cmp.ensures ∙ c.in-Equal.is))

pub loop-low-preserved : goal.loop-low-preserved
loop-low-preserved c = record {
  within = omega arith;
  fits = omega arith;
  below = c.loop-low.invariant.below;
  above =
      above_middle _ _ _ _ c.requires
      (ap (λ name. slice_cmp nat_cmp name c.args.name.now) (sym c.ordered_bytes.ensures) ∙ (sym c.cmp.ensures ∙ c.in-Greater.is));
}
