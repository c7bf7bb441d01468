use Rattle.html_references.proofs.Arranging.{AreNamed}
use Rattle.html_references.proofs.references.arranging.arranged.Given as goal

abbrev pub invariant-loop-place : goal.invariant-loop-place
invariant-loop-place l = AreNamed (λ named. named.0.now) (λ named. named.1) l.rows l.place l.names.items
