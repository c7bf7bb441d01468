use Rattle.std.proofs.Common.{◌≡◌, ◌∙◌, List, Bool, ap, arith, false, sym, true}
use Rattle.markup.specs.Forest.{node_count, parent_of}
use Rattle.html_selectors.specs.Columns.{at}
use Rattle.html_selectors.proofs.Counts.{any-alone, any-more, any_beside, entered, entered-all, entered-none, owned-by, unwanted-more}
use Rattle.html_selectors.proofs.sides.before.Goals as goal
use Rattle.html_selectors.proofs.sides.before.Goals.{then-is_in, else-is_in}

pub loop-number-init : goal.loop-number-init
loop-number-init c =
    let f = c.args.index.now.forest.now in
    record {
      len = omega (arith, c.in_ok-before.ensures.len, c.args.index.now.counted);
      done = λ n own. c.in_ok-before.ensures.none n
          ∙ sym (entered-none false (any_beside (at c.args.column.now) true f) n (parent_of f n));
    }

pub loop-number-preserved : goal.loop-number-preserved
loop-number-preserved c =
    let f = c.args.index.now.forest.now in
    let is = c.keeps.ensures.is_forest in
    let t = at c.args.column.now in
    let wanted = at c.in_ok-parents.parents.items in
    let told : c.is_in.result ≡ wanted c.loop-number.number =
    c.is_in.ensures ∙ (ap (λ (l : List Bool). at l c.new-parent.result) c.as_slice.ensures.value ∙ ap wanted c.new-parent.ensures) in
    elim c.if-is_in.branch [
      | then-is_in w ↦ rw w.before-is (record {
        len = w.mark_before.ensures.len ∙ c.loop-number.invariant.len;
        done = λ n own. w.mark_before.ensures.beside n ∙ rw c.new-parent.ensures
            (any-more f is t c.loop-number.number n _ (c.loop-number.invariant.done n own));
      })
      | else-is_in w ↦ rw w.before-is (record {
        len = c.loop-number.invariant.len;
        done = λ n own. c.loop-number.invariant.done n own
            ∙ unwanted-more f false (any_beside t true f) wanted c.loop-number.number n (sym told ∙ w.if-is_in.false) own;
      })
    ]

pub returns-clause-ok : goal.returns-clause-ok
returns-clause-ok c =
    let f = c.args.index.now.forest.now in
    let t = at c.args.column.now in
    let value = any_beside t true f in
    let all : c.loop-number.number ≡ node_count f =
    omega (arith, c.loop-number-test.false, c.loop-number.auto.number-end, c.args.index.now.counted) in
    λ n inside.
    c.loop-number.invariant.done n
    (owned-by f (at c.args.wanted.now) (at c.in_ok-parents.parents.items) n inside c.in_ok-parents.ensures.ok)
    ∙ (ap (λ k. entered false value k n (parent_of f n)) all
    ∙ entered-all f c.keeps.ensures.is_forest false value n (any-alone t true f n))
