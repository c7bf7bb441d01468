use Rattle.std.proofs.Common.{◌≡◌}
use Rattle.std.specs.List.{find}
use Rattle.html_selector_matching.specs.Around.{above}
use Rattle.html_selector_matching.specs.Selects.{is_any}
use Rattle.html_selectors.proofs.page_index.Index.closest.Given as goal

abbrev pub invariant-loop-up : goal.invariant-loop-up
invariant-loop-up l = find (is_any l.fn.selectors l.fn.self.forest.now l.fn.id) (above l.fn.self.forest.now l.fn.id)
    ≡ find (is_any l.fn.selectors l.fn.self.forest.now l.fn.id) l.up-iterator
