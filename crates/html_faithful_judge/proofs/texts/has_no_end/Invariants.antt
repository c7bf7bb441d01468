use Rattle.std.proofs.Common.{◌≡◌, ◌++◌, ℕ, List, drop, codes}
use Rattle.html_faithful.specs.Forms.{has_no_end}
use Rattle.html_faithful_judge.proofs.texts.has_no_end.Given as goal

abbrev pub invariant-loop-i : goal.invariant-loop-i
invariant-loop-i l = (text : List ℕ) → l.whole ≡ text ++ codes "-->" → has_no_end text ≡ has_no_end (drop l.i text)
