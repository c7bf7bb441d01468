use Rattle.std.proofs.Common.{◌≡◌, ◌∙◌, ◌++◌, ◌∷◌, [], ℕ, List, length, ap, arith, length-append, subst, sym}
use Rattle.std.specs.Prelude.{cond}
use Rattle.html_selectors.specs.Order.{BeginsWith, inner_below, is_root}
use Rattle.html_selectors.proofs.Listing.{all-roots, begins-first, begins-more, none-by, other-next, root-next}
use Rattle.html_selectors.proofs.order.list_nodes.Goals as goal
use Rattle.html_selectors.proofs.order.list_nodes.Goals.{then-is_none+in_ok-push_tree, else-is_none}

pub loop-number-init : goal.loop-number-init
loop-number-init c =
    let f = c.args.forest.now in
    let order = c.push_document.new.order.items in
    let made : order ≡ cond (is_root f 0) (0 ∷ inner_below f 0) [] = c.in_ok-push_document.ensures.ok
    ∙ ap (λ (l : List ℕ). l ++ cond (is_root f 0) (0 ∷ inner_below f 0) []) (c.reserve.ensures.items ∙ c.new-order.ensures.items) in
    let all : c.len-first.result ≡ length order = omega (arith, c.len-first.ensures) in
    record {
      listed = all-roots f c.keeps.ensures.is_forest order c.args.count c.requires made;
      within = omega (arith, c.len-first.ensures);
      begins = subst (λ k. BeginsWith f k order) (sym all) (begins-first f order made);
    }

pub loop-number-preserved : goal.loop-number-preserved
loop-number-preserved c =
    let f = c.args.forest.now in
    let n = c.loop-number.number in
    let order = c.loop-number.order.items in
    let within = c.loop-number.invariant.within in
    let root : is_root f n ≡ c.is_none.result = ap (is_root f) (sym c.new-id.ensures)
    ∙ none-by _ c.is_none.result (rw c.parent.ensures at c.is_none.ensures) in
    elim c.if-is_none.branch [
      | then-is_none+in_ok-push_tree w ↦ rw (w.order-is, w.in_ok-push_tree.ensures.ok, c.new-id.ensures) (record {
        listed = root-next f order n c.args.count c.loop-number-test.true (root ∙ w.if-is_none.true) ∙ c.loop-number.invariant.listed;
        within = let longer = length-append order (n ∷ inner_below f n) in omega (arith, longer, within);
        begins = begins-more f c.len-first.result order (n ∷ inner_below f n) within c.loop-number.invariant.begins;
      })
      | else-is_none w ↦ rw w.order-is (record {
        listed = other-next f order n c.args.count c.loop-number-test.true (root ∙ w.if-is_none.false) ∙ c.loop-number.invariant.listed;
        within = within;
        begins = c.loop-number.invariant.begins;
      })
    ]
