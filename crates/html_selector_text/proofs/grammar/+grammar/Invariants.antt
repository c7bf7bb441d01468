-- Each call reads in fewer parentheses, or for a smaller part of a selector, or has fewer steps left.
use Rattle.std.proofs.Common.{◌≡◌, ◌+◌, ◌*◌, ◌^◌, ◌-◌, [], map}
use Rattle.html_selector_text.specs.Grammar.{list_at, parts, beside, relative_to, items}
use Rattle.html_selector_text.specs.Trees.{list_tree, complex_tree, compound_tree, left_tree}
use Rattle.html_selector_text.proofs.grammar.+grammar.Given as goal

abbrev pub decreases-list : goal.decreases-list
decreases-list l = l.depth * 10 * 2 ^ 64 + 0 * 2 ^ 64

abbrev pub decreases-meant : goal.decreases-meant
decreases-meant l = l.depth * 10 * 2 ^ 64 + 1 * 2 ^ 64

abbrev pub decreases-with_part : goal.decreases-with_part
decreases-with_part l = l.depth * 10 * 2 ^ 64 + 2 * 2 ^ 64

abbrev pub decreases-turn : goal.decreases-turn
decreases-turn l = l.depth * 10 * 2 ^ 64 + 3 * 2 ^ 64

abbrev pub decreases-parts : goal.decreases-parts
decreases-parts l = l.depth * 10 * 2 ^ 64 + 4 * 2 ^ 64

abbrev pub decreases-compound : goal.decreases-compound
decreases-compound l = l.depth * 10 * 2 ^ 64 + 5 * 2 ^ 64

abbrev pub decreases-beside : goal.decreases-beside
decreases-beside l = l.depth * 10 * 2 ^ 64 + 6 * 2 ^ 64

abbrev pub decreases-relative_to : goal.decreases-relative_to
decreases-relative_to l = l.depth * 10 * 2 ^ 64 + 6 * 2 ^ 64

abbrev pub decreases-complex : goal.decreases-complex
decreases-complex l = l.depth * 10 * 2 ^ 64 + 7 * 2 ^ 64

abbrev pub decreases-relative : goal.decreases-relative
decreases-relative l = l.depth * 10 * 2 ^ 64 + 7 * 2 ^ 64

abbrev pub decreases-item : goal.decreases-item
decreases-item l = l.depth * 10 * 2 ^ 64 + 8 * 2 ^ 64

abbrev pub decreases-items : goal.decreases-items
decreases-items l = l.depth * 10 * 2 ^ 64 + 9 * 2 ^ 64

abbrev pub invariant-parts-loop : goal.invariant-parts-loop
invariant-parts-loop l = parts (list_at l.fn.depth) l.fn.in_has l.left (compound_tree l.fn.so_far) l.fn.tokens
    ≡ parts (list_at l.fn.depth) l.fn.in_has (l.left - l.counter) (compound_tree l.compound) l.rest

abbrev pub invariant-beside-loop : goal.invariant-beside-loop
invariant-beside-loop l = beside (list_at l.fn.depth) l.fn.in_has l.left (complex_tree l.fn.so_far) l.fn.tokens
    ≡ beside (list_at l.fn.depth) l.fn.in_has (l.left - l.counter) (complex_tree l.complex) l.rest

abbrev pub invariant-items-loop : goal.invariant-items-loop
invariant-items-loop l = items (list_at l.fn.depth) l.fn.in_has l.fn.kind l.left (list_tree l.fn.so_far) l.fn.tokens
    ≡ items (list_at l.fn.depth) l.fn.in_has l.fn.kind (l.left - l.counter) (list_tree l.selectors) l.rest

abbrev pub invariant-relative_to-loop : goal.invariant-relative_to-loop
invariant-relative_to-loop l = relative_to (list_at l.fn.depth) l.fn.in_has l.left [] l.fn.first l.fn.tokens
    ≡ relative_to (list_at l.fn.depth) l.fn.in_has (l.left - l.counter) (map left_tree l.lefts.items) l.combinator l.rest
