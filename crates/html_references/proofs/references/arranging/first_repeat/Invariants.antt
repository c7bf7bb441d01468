use Rattle.html_references.proofs.Repeats.{IsFirstRepeatBelow}
use Rattle.html_references.proofs.references.arranging.first_repeat.Given as goal

abbrev pub invariant-loop-index : goal.invariant-loop-index
invariant-loop-index l = IsFirstRepeatBelow l.rows l.order l.index l.first
