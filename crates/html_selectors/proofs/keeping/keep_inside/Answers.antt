use Rattle.std.proofs.Common.{◌∙◌, ap, sym}
use Rattle.std.specs.Prelude.{◌&&◌, cond}
use Rattle.std.specs.List.{list_any}
use Rattle.html_selector_matching.specs.Around.{above}
use Rattle.html_selector_matching.specs.Selects.{left_of}
use Rattle.selectors.specs.declared.selector.Combinator.TheVariants.{Child, Descendant}
use Rattle.html_selectors.specs.Columns.{at}
use Rattle.html_selectors.proofs.Marks.{refined-if}
use Rattle.html_selectors.proofs.Steps.{over-above, over-up, under-left}
use Rattle.html_selectors.proofs.keeping.keep_inside.Goals as goal

pub under-requires : goal.under-requires
under-requires c = λ n p h e.
    c.requires.wanted p
    ∙ over-up c.args.index.now.forest.now c.keeps.ensures.is_forest (at c.args.column.now.items) n p (sym (c.requires.wanted n) ∙ h) e

pub returns-clause-ok : goal.returns-clause-ok
returns-clause-ok c =
    let f = c.args.index.now.forest.now in
    let is = c.keeps.ensures.is_forest in
    let old = at c.args.column.now.items in
    let t = at c.args.left.now in
    λ n. refined-if _ (old n) _ (list_any t (above f n)) (c.refine-2.ensures n)
    (λ there r told. told.1 ∙ under-left f is t (at c.args.wanted.now) (at c.in_ok-those.those.items) n c.in_ok-those.ensures.ok
    (λ m among. c.requires.wanted m ∙ over-above f is old n m there among))
    ∙ ap (λ b. old n && list_any t (left_of (cond b Descendant Child) f n)) (sym c.if-not-deep.false)
