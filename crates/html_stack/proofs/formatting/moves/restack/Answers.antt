use Rattle.std.proofs.Common.{◌≡◌, ◌∙◌, ◌+◌, ◌≤◌, suc, [], ◌∷◌, length, take, drop, set, reverse, ◌++◌, sym, ap, arith, add-one}
use Rattle.std.proofs.Common.{vec_len, length-append}
use Rattle.html_stack.proofs.Restacked.{none-left, popped, restacked, written}
use Rattle.html_stack.proofs.formatting.moves.restack.Goals as goal

pub loop-other-preserved : goal.loop-other-preserved
loop-other-preserved g c =
    let old = c.args.items.now.items in
    let cs = c.args.others.items in
    let left = c.loop-other.others.items in
    let left' = c.pop.new.self.items in
    let e : left ≡ left' ++ c.in-Some.other ∷ [] = c.in-Some.ensures.items in
    let count : length left ≡ suc (length left') = ap length e ∙ length-append left' (c.in-Some.other ∷ []) ∙ (omega arith) in
    let at : c.loop-other.at + length left ≡ c.args.from + length cs = c.loop-other.invariant.at in
    let bound : length left ≤ length cs = c.loop-other.invariant.below in
    let p = popped cs left left' c.in-Some.other c.loop-other.invariant.rest bound e in
    let w = written old cs c.args.from c.loop-other.at (length left') c.in-Some.other (omega arith) (omega arith)
    (omega arith) (omega arith) p.1 in
    record {
      below = omega arith;
      rest = p.0;
      at = omega arith;
      items =
          ap (λ ys. set ys c.loop-other.at c.in-Some.other)
          (c.loop-other.invariant.items ∙ ap (λ n. take c.args.from old ++ (reverse (drop n cs) ++ drop c.loop-other.at old)) count)
          ∙ w
          ∙ ap (λ n. take c.args.from old ++ (reverse (drop (length left') cs) ++ drop n old)) (sym (add-one c.loop-other.at));
    }

pub swap-requires-clause-i_in_bounds : goal.swap-requires-clause-i_in_bounds
swap-requires-clause-i_in_bounds g c =
    let none = none-left c.pop.result (vec_len c.loop-other.others) c.pop.ensures.variant.1 c.in_default.not-Some in
    let e : length c.loop-other.others.items ≡ 0 = omega arith in
    let at : c.loop-other.at ≡ c.args.from + length c.args.others.items = omega (arith, c.loop-other.invariant.at) in
    let start = c.loop-other.invariant.items
    ∙ ap (λ n. take c.args.from c.args.items.now.items
    ++ (reverse (drop n c.args.others.items) ++ drop c.loop-other.at c.args.items.now.items)) e in
    let r = restacked c.args.items.now.items c.args.others.items
    (set c.loop-other.items.items c.loop-other.at c.args.last) c.remove_range.new.items.items c.args.from
    c.args.to c.loop-other.at c.args.last c.args.last (omega arith) (omega arith) at (omega arith)
    (ap (λ ys. set ys c.loop-other.at c.args.last) start) c.remove_range.ensures in
    omega (arith, r.0)

pub swap-requires-clause-j_in_bounds : goal.swap-requires-clause-j_in_bounds
swap-requires-clause-j_in_bounds g c =
    let none = none-left c.pop.result (vec_len c.loop-other.others) c.pop.ensures.variant.1 c.in_default.not-Some in
    let e : length c.loop-other.others.items ≡ 0 = omega arith in
    let at : c.loop-other.at ≡ c.args.from + length c.args.others.items = omega (arith, c.loop-other.invariant.at) in
    let start = c.loop-other.invariant.items
    ∙ ap (λ n. take c.args.from c.args.items.now.items
    ++ (reverse (drop n c.args.others.items) ++ drop c.loop-other.at c.args.items.now.items)) e in
    let r = restacked c.args.items.now.items c.args.others.items
    (set c.loop-other.items.items c.loop-other.at c.args.last) c.remove_range.new.items.items c.args.from
    c.args.to c.loop-other.at c.args.last c.args.last (omega arith) (omega arith) at (omega arith)
    (ap (λ ys. set ys c.loop-other.at c.args.last) start) c.remove_range.ensures in
    omega (arith, r.0)

pub returns : goal.returns
returns g c d =
    let none = none-left c.pop.result (vec_len c.loop-other.others) c.pop.ensures.variant.1 c.in_default.not-Some in
    let e : length c.loop-other.others.items ≡ 0 = omega arith in
    let at : c.loop-other.at ≡ c.args.from + length c.args.others.items = omega (arith, c.loop-other.invariant.at) in
    let start = c.loop-other.invariant.items
    ∙ ap (λ n. take c.args.from c.args.items.now.items
    ++ (reverse (drop n c.args.others.items) ++ drop c.loop-other.at c.args.items.now.items)) e in
    let r = restacked c.args.items.now.items c.args.others.items
    (set c.loop-other.items.items c.loop-other.at c.args.last) c.remove_range.new.items.items c.args.from
    c.args.to c.loop-other.at c.args.last d (omega arith) (omega arith) at (omega arith)
    (ap (λ ys. set ys c.loop-other.at c.args.last) start) c.remove_range.ensures in
    c.swap.ensures.items ∙ r.1
