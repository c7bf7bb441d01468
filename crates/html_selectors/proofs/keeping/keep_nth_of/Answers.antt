use Rattle.std.proofs.Common.{◌∙◌, ℕ, Bool, List, ap}
use Rattle.std.specs.Prelude.{◌&&◌}
use Rattle.std.proofs.lemmas.Bool.{and_parts}
use Rattle.html_selector_matching.specs.Selects.{is_nth_of}
use Rattle.html_selector_matching.specs.Simples.{is_nth, place_of}
use Rattle.html_selectors.specs.Columns.{at, place_at}
use Rattle.html_selectors.proofs.Marks.{and-regroup}
use Rattle.html_selectors.proofs.Within.{agree}
use Rattle.html_selectors.proofs.keeping.keep_nth_of.Goals as goal

pub returns-clause-ok : goal.returns-clause-ok
unfolding is_nth_of
returns-clause-ok c =
    let old = at c.args.column.now.items in
    let t = at c.args.those.now in
    let nth = c.args.nth.now in
    let f = c.args.index.now.forest.now in
    λ n. c.keep_placed.ensures n
    ∙ (ap (λ b. b && is_nth nth (place_at c.as_slice-2.result.now n)) (c.keep_those.ensures n)
    ∙ (ap (λ (l : List ℕ). (old n && t n) && is_nth nth (place_at l n)) c.as_slice-2.ensures.value
    ∙ (agree (old n && t n) (is_nth nth (place_at c.in_ok-written.written.items n)) (is_nth nth (place_of t nth.from_end f n))
    (λ both. ap (is_nth nth) (c.in_ok-written.ensures.ok n
    (ap (λ (l : List Bool). at l n) c.as_slice.ensures.value ∙ (and_parts (old n) (t n) both).0)))
    ∙ and-regroup (old n) (t n) (is_nth nth (place_of t nth.from_end f n)))))
