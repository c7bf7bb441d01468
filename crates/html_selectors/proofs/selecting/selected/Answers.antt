use Rattle.std.proofs.Common.{◌∙◌, Bool, List, ap}
use Rattle.std.specs.Prelude.{◌&&◌}
use Rattle.html_selector_matching.specs.Selects.{is_any}
use Rattle.html_selectors.specs.Columns.{at}
use Rattle.html_selectors.proofs.Within.{any-element}
use Rattle.html_selectors.proofs.selecting.selected.Goals as goal

pub returns-clause-ok : goal.returns-clause-ok
returns-clause-ok c =
    let f = c.args.index.now.forest.now in
    let s = c.args.selectors.now in
    λ n. c.in_ok-column.ensures.ok n
    ∙ (ap (λ (l : List Bool). at l n && is_any s f c.args.scope n) c.as_slice.ensures.value
    ∙ (ap (λ b. b && is_any s f c.args.scope n) (c.args.index.now.marked n) ∙ any-element s f c.args.scope n))
