use Rattle.std.proofs.Common.{◌≡◌, ◌++◌, drop, length}
use Rattle.std.specs.Str.{chars}
use Rattle.html_clean.specs.Values.{words_from, words_of}
use Rattle.html_clean.proofs.words.words_of.Given as goal

abbrev pub invariant-loop-c : goal.invariant-loop-c
invariant-loop-c l = l.words.items ++ words_from l.word (drop (length l.yielded) (chars l.text)) ≡ words_of (chars l.text)
