use Rattle.std.proofs.Common.{◌∙◌, Bool, List, ap, false}
use Rattle.std.specs.Prelude.{◌&&◌}
use Rattle.std.specs.List.{list_any}
use Rattle.html_selector_matching.specs.Simples.{nodes_beside}
use Rattle.html_selectors.specs.Columns.{at}
use Rattle.html_selectors.proofs.Within.{agree}
use Rattle.html_selectors.proofs.keeping.keep_after.Goals as goal

pub returns-clause-ok : goal.returns-clause-ok
returns-clause-ok c =
    let old = at c.args.column.now.items in
    let t = at c.args.those.now in
    let f = c.args.index.now.forest.now in
    λ n. c.keep_those.ensures n
    ∙ (ap (λ (l : List Bool). old n && at l n) c.as_slice.ensures.value
    ∙ agree (old n) (at c.in_ok-with.with.items n) (list_any t (nodes_beside false f n))
    (λ there. c.in_ok-with.ensures.ok n (c.requires.elements n there)))
