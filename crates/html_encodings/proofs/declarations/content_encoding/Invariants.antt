use Rattle.std.proofs.Common.{◌≡◌, length}
use Rattle.html_encodings.specs.Prescan.{content_encoding}
use Rattle.html_encodings.proofs.declarations.content_encoding.Given as goal

abbrev pub invariant-loop-rest : goal.invariant-loop-rest
invariant-loop-rest l = content_encoding l.content ≡ content_encoding l.rest

abbrev pub decreases-loop-rest : goal.decreases-loop-rest
decreases-loop-rest l = length l.rest
