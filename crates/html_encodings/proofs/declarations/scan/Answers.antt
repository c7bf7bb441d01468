use Rattle.std.proofs.Common.{◌≡◌, ◌∙◌, sym, ◌-◌, ◌+◌, suc, length, arith}
use Rattle.html_encodings.specs.Turns.{turn_view}
use Rattle.html_encodings.proofs.Scans.{scan_goes, scan_found}
use Rattle.html_encodings.proofs.declarations.scan.Goals as goal

pub returns-in-Some : goal.returns-in-Some
returns-in-Some c =
    let more : length c.args.bytes.now - c.loop-count.count ≡ suc (length c.args.bytes.now - (c.loop-count.count + 1)) = omega arith in
    sym (c.loop-count.invariant ∙ scan_found _ _ _ (turn_view c.next_turn-next.result) _ more c.next_turn-next.ensures c.in-Some.is)

pub loop-count-preserved : goal.loop-count-preserved
loop-count-preserved c =
    let more : length c.args.bytes.now - c.loop-count.count ≡ suc (length c.args.bytes.now - (c.loop-count.count + 1)) = omega arith in
    c.loop-count.invariant ∙ scan_goes _ _ _ (turn_view c.next_turn-next.result) more c.next_turn-next.ensures c.in_default.is
