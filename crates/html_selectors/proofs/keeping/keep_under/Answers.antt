use Rattle.std.proofs.Common.{◌∙◌, Bool, List, ap}
use Rattle.std.specs.Prelude.{◌&&◌}
use Rattle.std.specs.List.{list_any}
use Rattle.html_selector_matching.specs.Around.{above}
use Rattle.html_selectors.specs.Columns.{at}
use Rattle.html_selectors.proofs.Steps.{all-up, under-any}
use Rattle.html_selectors.proofs.keeping.keep_under.Goals as goal

pub under-requires : goal.under-requires
under-requires c = λ n p h e.
    rw c.as_slice.ensures.value
    (all-up c.args.index.now.forest.now c.keeps.ensures.is_forest (at c.in_ok-all.all.items) c.in_ok-all.ensures.ok n p e)

pub returns-clause-ok : goal.returns-clause-ok
returns-clause-ok c =
    let f = c.args.index.now.forest.now in
    let old = at c.args.column.now.items in
    let t = at c.args.left.now in
    let those = at c.in_ok-those.those.items in
    λ n. c.keep_those.ensures n
    ∙ (ap (λ (l : List Bool). old n && at l n) c.as_slice-2.ensures.value
    ∙ under-any f c.keeps.ensures.is_forest t (at c.in_ok-all.all.items) those (old n) n c.in_ok-all.ensures.ok (c.requires n)
    (λ inner. c.in_ok-those.ensures.ok n inner ∙ ap (λ (l : List Bool). at l n && list_any t (above f n)) c.as_slice.ensures.value))
