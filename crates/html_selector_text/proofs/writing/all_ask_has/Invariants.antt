use Rattle.std.proofs.Common.{◌≡◌}
use Rattle.html_selector_text.specs.Trees.{list_tree}
use Rattle.html_selector_text.specs.Written.{all_ask_has}
use Rattle.html_selector_text.proofs.writing.all_ask_has.Given as goal

abbrev pub invariant-loop-left : goal.invariant-loop-left
invariant-loop-left l = all_ask_has (list_tree l.selectors) ≡ all_ask_has (list_tree l.left)
