use Rattle.std.proofs.Common.{length}
use Rattle.std.specs.String.{string_bytes}
use Rattle.html_encodings.proofs.Readings.{IsLeft}
use Rattle.html_encodings.proofs.decoder.read_bytes.Given as goal

abbrev pub invariant-pieces : goal.invariant-pieces
invariant-pieces g l = IsLeft g.H.Handler.step l.fn.handler l.fn.bytes (record { text = string_bytes l.fn.text; errors = l.fn.errors })
    l.handler l.rest (record { text = string_bytes l.text; errors = l.errors })

abbrev pub decreases-pieces : goal.decreases-pieces
decreases-pieces g l = length l.rest
