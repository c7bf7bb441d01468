use Rattle.std.proofs.Common.{◌∙◌, Bool, List, ap, sym}
use Rattle.std.specs.Prelude.{◌&&◌, ◌||◌}
use Rattle.std.specs.List.{list_any}
use Rattle.markup.specs.Forest.{parent_of}
use Rattle.html_selector_matching.specs.Around.{is_element, one_of}
use Rattle.html_selectors.specs.Columns.{at}
use Rattle.html_selectors.proofs.Beside.{near-element, near-own, near-parent}
use Rattle.html_selectors.proofs.keeping.siblings.Goals as goal

pub returns-clause-elements : goal.returns-clause-elements
returns-clause-elements c = λ n h. near-element (is_element c.args.index.now.forest.now n) (at c.args.column.now n)
    (list_any (at c.as_slice.result.now) (one_of (parent_of c.args.index.now.forest.now n)))
    (sym (c.keep_near.ensures n ∙ ap (λ b. b && (at c.args.column.now n
    || list_any (at c.as_slice.result.now) (one_of (parent_of c.args.index.now.forest.now n)))) (c.in_ok-beside.ensures.ok n)) ∙ h)

pub returns-clause-own : goal.returns-clause-own
returns-clause-own c = λ n h e. c.keep_near.ensures n ∙ (ap (λ b. b && (at c.args.column.now n
    || list_any (at c.as_slice.result.now) (one_of (parent_of c.args.index.now.forest.now n)))) (c.in_ok-beside.ensures.ok n)
    ∙ near-own (is_element c.args.index.now.forest.now n) (at c.args.column.now n)
    (list_any (at c.as_slice.result.now) (one_of (parent_of c.args.index.now.forest.now n))) e h)

pub returns-clause-siblings : goal.returns-clause-siblings
returns-clause-siblings c = λ n m p h up down e.
    let there = ap (λ (l : List Bool). at l p) c.as_slice.ensures.value ∙ c.in_ok-parents.ensures.ok n p h up in
    c.keep_near.ensures m ∙ (ap (λ b. b && (at c.args.column.now m
    || list_any (at c.as_slice.result.now) (one_of (parent_of c.args.index.now.forest.now m)))) (c.in_ok-beside.ensures.ok m)
    ∙ near-parent (at c.as_slice.result.now) (is_element c.args.index.now.forest.now m) (at c.args.column.now m)
    (parent_of c.args.index.now.forest.now m) p e down there)
