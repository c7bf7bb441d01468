use Rattle.std.proofs.Common.{◌≡◌, ◌++◌, drop}
use Rattle.html_tree_image.specs.Image.{words}
use Rattle.html_tree_image.proofs.words.push_words.Given as goal

abbrev pub invariant-loop-number : goal.invariant-loop-number
invariant-loop-number l = l.bytes.items ++ words (drop l.number-index l.numbers) ≡ l.fn.bytes.items ++ words l.numbers
