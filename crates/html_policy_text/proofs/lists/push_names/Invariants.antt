use Rattle.std.proofs.Common.{◌≡◌, ◌++◌, take}
use Rattle.html_policy_text.proofs.lists.push_names.Given as goal

abbrev pub invariant-loop-word : goal.invariant-loop-word
invariant-loop-word l = l.names.items ≡ l.fn.names.items ++ take l.word-index l.words
