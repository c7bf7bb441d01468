use Rattle.std.proofs.Common.{◌≡◌, ◌∙◌, ℕ, suc, List, true, false, ap, arith, sym}
use Rattle.std.specs.Prelude.{cond}
use Rattle.markup.specs.Forest.{children_of, is_among, node_count, parent_of, those_before}
use Rattle.html_selector_matching.specs.Around.{those_after}
use Rattle.html_selector_matching.specs.Simples.{counts, place_of}
use Rattle.html_selectors.specs.Columns.{place_at}
use Rattle.html_selectors.specs.Kinds.{count_kind, kind_at, name_at}
use Rattle.html_selectors.proofs.Counts.{entered, entered-all, entered-none}
use Rattle.html_selectors.proofs.KindCounts.{firsts-more, kind-alone, kind-place, kind_place, lasts-more}
use Rattle.html_selectors.proofs.types.places_of_type.Goals as goal

pub loop-number-init : goal.loop-number-init
loop-number-init c =
    let f = c.args.index.now.forest.now in
    let kind = kind_at c.in_ok-kinds.kinds.items in
    record {
      size = c.in_ok-counts.ensures.len;
      first_len = omega (arith, c.in_ok-firsts.ensures.len, c.args.index.now.counted);
      last_len = omega (arith, c.in_ok-lasts.ensures.len, c.args.index.now.counted);
      none = c.in_ok-counts.ensures.none;
      firsts = λ n. c.in_ok-firsts.ensures.first n ∙ sym (entered-none 1 (kind_place kind false f) n (parent_of f n));
      lasts = λ n. c.in_ok-lasts.ensures.first n ∙ sym (entered-none 1 (kind_place kind true f) n (parent_of f n));
    }

pub loop-number-preserved : goal.loop-number-preserved
loop-number-preserved c =
    let f = c.args.index.now.forest.now in
    let is = c.keeps.ensures.is_forest in
    let kinds = c.in_ok-kinds.kinds.items in
    let count = c.loop-number.number in
    let firsts = c.loop-number.firsts.items in
    let lasts = c.loop-number.lasts.items in
    record {
      size = c.count_down.ensures.size ∙ (c.count_up.ensures.size ∙ c.loop-number.invariant.size);
      first_len = c.count_up.ensures.len ∙ c.loop-number.invariant.first_len;
      last_len = c.count_down.ensures.len ∙ c.loop-number.invariant.last_len;
      none = c.count_down.ensures.none;
      firsts = λ n. c.count_up.ensures.places n
          ∙ (ap (λ (l : List ℕ). cond (is_among n (children_of f c.new-parent.result))
          (suc (count_kind (kind_at l) (kind_at l n) (those_before n (children_of f c.new-parent.result)))) (place_at firsts n))
          c.as_slice.ensures.value
          ∙ (ap (λ p. cond (is_among n (children_of f p))
          (suc (count_kind (kind_at kinds) (kind_at kinds n) (those_before n (children_of f p)))) (place_at firsts n)) c.new-parent.ensures
          ∙ firsts-more f is (kind_at kinds) count n (place_at firsts n) (c.loop-number.invariant.firsts n)));
      lasts = λ n. c.count_down.ensures.places n
          ∙ (ap (λ (l : List ℕ). cond (is_among n (children_of f c.new-parent.result))
          (suc (count_kind (kind_at l) (kind_at l n) (those_after n (children_of f c.new-parent.result)))) (place_at lasts n))
          c.as_slice-in-loop-number.ensures.value
          ∙ (ap (λ p. cond (is_among n (children_of f p))
          (suc (count_kind (kind_at kinds) (kind_at kinds n) (those_after n (children_of f p)))) (place_at lasts n)) c.new-parent.ensures
          ∙ lasts-more f is (kind_at kinds) count n (place_at lasts n) (c.loop-number.invariant.lasts n)));
    }

pub returns-then-from_end-clause-ok : goal.returns-then-from_end-clause-ok
returns-then-from_end-clause-ok c =
    let f = c.args.index.now.forest.now in
    let is = c.keeps.ensures.is_forest in
    let kinds = c.in_ok-kinds.kinds.items in
    let all : c.loop-number.number ≡ node_count f =
    omega (arith, c.loop-number-test.false, c.loop-number.auto.number-end, c.args.index.now.counted) in
    λ n element. c.loop-number.invariant.lasts n
    ∙ (ap (λ k. entered 1 (kind_place (kind_at kinds) true f) k n (parent_of f n)) all
    ∙ (entered-all f is 1 (kind_place (kind_at kinds) true f) n (kind-alone (kind_at kinds) true f n)
    ∙ (kind-place f kinds c.in_ok-kinds.ensures.kinds true n element
    ∙ ap (λ b. place_of (counts f (name_at f n)) b f n) (sym c.if-from_end.true))))

pub returns-clause-ok : goal.returns-clause-ok
returns-clause-ok c =
    let f = c.args.index.now.forest.now in
    let is = c.keeps.ensures.is_forest in
    let kinds = c.in_ok-kinds.kinds.items in
    let all : c.loop-number.number ≡ node_count f =
    omega (arith, c.loop-number-test.false, c.loop-number.auto.number-end, c.args.index.now.counted) in
    λ n element. c.loop-number.invariant.firsts n
    ∙ (ap (λ k. entered 1 (kind_place (kind_at kinds) false f) k n (parent_of f n)) all
    ∙ (entered-all f is 1 (kind_place (kind_at kinds) false f) n (kind-alone (kind_at kinds) false f n)
    ∙ (kind-place f kinds c.in_ok-kinds.ensures.kinds false n element
    ∙ ap (λ b. place_of (counts f (name_at f n)) b f n) (sym c.if-from_end.false))))
