use Rattle.std.proofs.Common.{rules}
use Rattle.html_encodings.proofs.Readings.{front_of_none, front_of_run}
use Rattle.html_encodings.proofs.decoder.copy_front.Goals as goal

pub returns-then-not-copies_ascii-clause-ok : goal.returns-then-not-copies_ascii-clause-ok
returns-then-not-copies_ascii-clause-ok g c = front_of_none _ _ _ _

pub returns-clause-ok : goal.returns-clause-ok
returns-clause-ok g c = front_of_run _ _ (c.copies_ascii.ensures (search rules)) _ _ _ _ c.in_ok-count.ensures.ok
