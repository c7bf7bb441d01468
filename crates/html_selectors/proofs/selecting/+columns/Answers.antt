use Rattle.std.proofs.Common.{◌∙◌, Bool, List, ap, sym}
use Rattle.std.specs.Prelude.{◌&&◌, cond}
use Rattle.std.specs.List.{list_all, list_any}
use Rattle.html_nodes.specs.Below.{below}
use Rattle.html_selector_matching.specs.Around.{is_element}
use Rattle.html_selector_matching.specs.Selects.{goes_on, is_any, is_complex, is_compound, is_nth_of, left_of, passes, right_of}
use Rattle.html_selector_matching.specs.Simples.{is_simple}
use Rattle.selectors.specs.declared.selector.Combinator.TheVariants.{Child, Descendant}
use Rattle.selectors.specs.declared.selector.Complex.{Complex}
use Rattle.selectors.specs.declared.selector.Relative.{Relative}
use Rattle.html_selectors.specs.Columns.{at}
use Rattle.html_selectors.specs.Relatives.{first_of}
use Rattle.html_selectors.proofs.Beside.{nth-beside}
use Rattle.html_selectors.proofs.Lists.{any-same}
use Rattle.html_selectors.proofs.Marks.{and-regroup}
use Rattle.html_selectors.proofs.Within.{agree, complex-element, complex-is-element, elements-more, has-on, joined, over-left}
use Rattle.html_selectors.proofs.selecting.+columns.Goals as goal

pub column_inside-returns-clause-ok : goal.column_inside-returns-clause-ok
column_inside-returns-clause-ok t c =
    let f = c.args.index.now.forest.now in
    let left = c.args.left.now in
    let scope = c.args.scope in
    let old = at c.args.column.items in
    let wanted = at c.in_ok-wanted.wanted.items in
    let those = at c.in_ok-those.those.items in
    λ n. let places = left_of (cond c.args.deep Descendant Child) f n in
    c.in_ok-keep_inside.ensures.ok n
    ∙ (ap (λ (l : List Bool). old n && list_any (at l) places) c.as_slice-5.ensures.value
    ∙ joined left (cond c.args.deep Descendant Child) f scope n (old n) those wanted
    (λ m. c.in_ok-those.ensures.ok m
    ∙ (ap (λ (l : List Bool). at l m && is_complex left f scope m) c.as_slice-3.ensures.value
    ∙ ap (λ b. b && is_complex left f scope m) (c.keep_those.ensures m
    ∙ (ap (λ (l : List Bool). at c.in_ok-there.there.items m && at l m) c.as_slice-2.ensures.value
    ∙ ap (λ b. b && wanted m) (c.in_ok-there.ensures.ok m)))))
    (λ there m among. c.in_ok-wanted.ensures.ok m
    ∙ (ap (λ (l : List Bool). list_any (at l) (below f m)) c.as_slice.ensures.value
    ∙ over-left c.args.deep f c.keeps.ensures.is_forest old n m there among)))

pub keep_nth-returns-clause-ok : goal.keep_nth-returns-clause-ok
keep_nth-returns-clause-ok t c =
    let f = c.args.index.now.forest.now in
    let s = c.args.selectors.now in
    let scope = c.args.scope in
    let nth = c.args.nth.now in
    let old = at c.args.column.now.items in
    let those = at c.in_ok-those.those.items in
    let beside = at c.in_ok-beside.beside.items in
    λ n. c.in_ok-keep_nth_of.ensures.ok n
    ∙ (ap (λ (l : List Bool). old n && is_nth_of (at l) nth f n) c.as_slice-3.ensures.value
    ∙ agree (old n) (is_nth_of those nth f n) (is_nth_of (λ m. is_any s f scope m) nth f n)
    (λ there. nth-beside s f c.keeps.ensures.is_forest scope nth n those beside
    (λ m. c.in_ok-those.ensures.ok m ∙ ap (λ (l : List Bool). at l m && is_any s f scope m) c.as_slice-2.ensures.value)
    (c.in_ok-beside.ensures.own n (ap (λ (l : List Bool). at l n) c.as_slice.ensures.value ∙ there) (c.requires n there))
    (λ m p up down e. c.in_ok-beside.ensures.siblings n m p (ap (λ (l : List Bool). at l n) c.as_slice.ensures.value ∙ there) up down e)))

pub keep_nth-siblings-requires : goal.keep_nth-siblings-requires
keep_nth-siblings-requires t c = λ n h. c.requires n (sym (ap (λ (l : List Bool). at l n) c.as_slice.ensures.value) ∙ h)

pub column_left-returns-clause-ok : goal.column_left-returns-clause-ok
column_left-returns-clause-ok t c =
    let f = c.args.index.now.forest.now in
    let scope = c.args.scope in
    let compound = c.args.compound.now in
    λ n. let asked = is_compound compound f scope n in
    let follows = list_any (at c.args.right.now) (right_of c.args.combinator f n) in
    c.in_ok-column.ensures.ok n
    ∙ (ap (λ (l : List Bool). at l n && asked) c.as_slice.ensures.value
    ∙ (ap (λ b. b && asked) (c.in_ok-keep_left.ensures.ok n ∙ ap (λ b. b && follows) (c.in_ok-within.ensures.ok n))
    ∙ elements-more (is_element f n) follows (list_all (is_simple f scope n) compound.simples.items) (passes compound.tests f scope n)))

pub selected_by_complex-returns-clause-ok : goal.selected_by_complex-returns-clause-ok
selected_by_complex-returns-clause-ok t c =
    let f = c.args.index.now.forest.now in
    let s = c.args.complex.now in
    λ n. c.in_ok-column.ensures.ok n
    ∙ (ap (λ (l : List Bool). at l n && is_complex s f c.args.scope n) c.as_slice.ensures.value
    ∙ (ap (λ b. b && is_complex s f c.args.scope n) (c.args.index.now.marked n) ∙ complex-element s f c.args.scope n))

pub selected_by_complex-returns-clause-elements : goal.selected_by_complex-returns-clause-elements
selected_by_complex-returns-clause-elements t c = λ n h.
    complex-is-element c.args.complex.now c.args.index.now.forest.now c.args.scope n (sym (selected_by_complex-returns-clause-ok t c n) ∙ h)

pub column_of_relative-returns-in_ok-column-in-Then-clause-ok : goal.column_of_relative-returns-in_ok-column-in-Then-clause-ok
column_of_relative-returns-in_ok-column-in-Then-clause-ok t c =
    let f = c.args.index.now.forest.now in
    let scope = c.args.scope in
    let rest = c.in-Then.rest.value in
    let right = at c.in_ok-right-in-Then.right.items in
    λ n. let asked = is_compound c.in-Then.compound f scope n in
    c.in_ok-column-in-Then.ensures.ok n
    ∙ (ap (λ (l : List Bool). asked && list_any (at l) (right_of c.first_of.result f n)) c.as_slice-in-Then.ensures.value
    ∙ (ap (λ k. asked && list_any right (right_of k f n)) (c.first_of.ensures ∙ ap first_of c.deref-in-Then.ensures)
    ∙ (ap (λ b. asked && b) (any-same right (λ m. goes_on rest f scope m)
    (λ m. c.in_ok-right-in-Then.ensures.ok m ∙ ap (λ (r : Relative). goes_on r f scope m) c.deref.ensures) (right_of (first_of rest) f n)
    ∙ has-on rest f scope n)
    ∙ sym (ap (λ (r : Relative). goes_on r f scope n) c.in-Then.is))))

pub column_of_complex-returns-in_ok-column-in-Beside-3-clause-ok : goal.column_of_complex-returns-in_ok-column-in-Beside-3-clause-ok
column_of_complex-returns-in_ok-column-in-Beside-3-clause-ok t c =
    let f = c.args.index.now.forest.now in
    let scope = c.args.scope in
    let left = c.in-Beside.left.value in
    let those = at c.in_ok-those-in-Beside.those.items in
    λ n. let places = left_of c.in-Beside.combinator f n in
    let asked = is_compound c.in-Beside.compound f scope n in
    c.in_ok-column-in-Beside-3.ensures.ok n
    ∙ (ap (λ (l : List Bool). (at c.args.within.now n && asked) && list_any (at l) places) c.as_slice.ensures.value
    ∙ (ap (λ b. (at c.args.within.now n && asked) && b) (any-same those (λ m. is_complex left f scope m)
    (λ m. c.in_ok-those-in-Beside.ensures.ok m ∙ ap (λ (k : Complex). is_complex k f scope m) c.deref-in-Beside.ensures) places)
    ∙ (and-regroup (at c.args.within.now n) asked (list_any (λ m. is_complex left f scope m) places)
    ∙ sym (ap (λ (k : Complex). at c.args.within.now n && is_complex k f scope n) c.in-Beside.is))))
