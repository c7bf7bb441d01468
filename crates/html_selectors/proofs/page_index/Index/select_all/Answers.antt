use Rattle.std.proofs.Common.{◌≡◌, ◌∙◌, ℕ, Bool, List, ap, subst}
use Rattle.std.specs.Prelude.{IfOk, filter}
use Rattle.html_nodes.specs.Below.{below}
use Rattle.html_selector_matching.specs.Selects.{is_any, scope_of}
use Rattle.html_selectors.specs.Columns.{at}
use Rattle.html_selectors.specs.Order.{inner_below, is_inner}
use Rattle.html_selectors.proofs.Lists.{filter-filter, filter-same}
use Rattle.html_selectors.proofs.Steps.{element-inner}
use Rattle.html_selectors.proofs.Within.{selected-element}
use Rattle.html_selectors.proofs.page_index.Index.select_all.Goals as goal

pub returns-in-Some-clause-ok : goal.returns-in-Some-clause-ok
returns-in-Some-clause-ok c =
    let f = c.args.self.now.forest.now in
    let s = c.args.selectors.now in
    let top = c.args.top in
    let scope = scope_of f top in
    let found : filter (at c.as_slice.result.now) c.in-Some.nodes.now ≡ filter (is_any s f scope) (below f top) =
    ap (filter (at c.as_slice.result.now)) c.in-Some.ensures
    ∙ (ap (λ (l : List Bool). filter (at l) (inner_below f top)) c.as_slice.ensures.value
    ∙ (filter-same (at c.in_ok-column.column.items) (is_any s f scope)
    (λ n. c.in_ok-column.ensures.ok n ∙ ap (λ (k : ℕ). is_any s f k n) c.scope_of.ensures) (inner_below f top)
    ∙ filter-filter (is_any s f scope) (is_inner f) (λ n h. element-inner f n (selected-element s f scope n h)) (below f top))) in
    subst (λ (l : List ℕ). IfOk c.those_of.result (λ found. found.items ≡ l)) found c.those_of.ensures.ok
