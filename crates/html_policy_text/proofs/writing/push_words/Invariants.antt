use Rattle.std.proofs.Common.{◌≡◌, ◌++◌, drop}
use Rattle.html_policy_text.specs.Written.{spaced}
use Rattle.html_policy_text.proofs.writing.push_words.Given as goal

abbrev pub invariant-loop-word : goal.invariant-loop-word
invariant-loop-word l = l.text ++ spaced (drop l.word-index l.words) ≡ l.fn.text ++ spaced l.words
