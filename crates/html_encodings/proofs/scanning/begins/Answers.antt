use Rattle.std.proofs.Common.{◌∙◌, sym}
use Rattle.std.proofs.lemmas.List.{nil_from_length}
use Rattle.html_encodings.proofs.Scans.{begins_short}
use Rattle.html_encodings.proofs.scanning.begins.Goals as goal

pub returns-in_default : goal.returns-in_default
returns-in_default c =
    sym (c.loop-letter.invariant ∙ begins_short _ _ _ c.loop-letter-test.true (nil_from_length _ c.in_default.ensures.cases))
