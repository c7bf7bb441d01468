use Rattle.std.proofs.Common.{sym, arith}
use Rattle.html_stack.proofs.Room.{counted-equal, counted-other, counted-start, none-before, none-behind, roomed}
use Rattle.html_stack.proofs.formatting.listing.without_room.Goals as goal

pub loop-i-init : goal.loop-i-init
loop-i-init g c = counted-start c.args.tag.now c.args.entries.now

pub returns-in-Marker : goal.returns-in-Marker
returns-in-Marker g c node =
    let within = c.loop-i.invariant.within in
    roomed c.args.tag.now c.args.entries.now c.loop-i.i c.loop-i.count c.loop-i.earliest node c.if_three.result c.loop-i.invariant
    (none-behind c.args.tag.now c.args.entries.now c.loop-i.i _ c.index-entries-i.result node (omega arith)
    (omega arith) c.index-entries-i.is c.in-Marker.is)
    c.if_three.ensures

pub loop-i-preserved-then-are_equal : goal.loop-i-preserved-then-are_equal
loop-i-preserved-then-are_equal g c =
    counted-equal c.args.tag.now c.args.entries.now c.loop-i.i _ c.loop-i.count c.loop-i.earliest
    c.index-entries-i.result c.in-Element.field-0 c.in-Element.other c.loop-i.invariant
    (omega arith) c.index-entries-i.is c.in-Element.is (sym c.if-are_equal.ensures)

pub loop-i-preserved : goal.loop-i-preserved
loop-i-preserved g c =
    counted-other c.args.tag.now c.args.entries.now c.loop-i.i _ c.loop-i.count c.loop-i.earliest
    c.index-entries-i.result c.in-Element.field-0 c.in-Element.other c.loop-i.invariant
    (omega arith) c.index-entries-i.is c.in-Element.is (sym c.if-are_equal.ensures)

pub returns : goal.returns
returns g c node =
    roomed c.args.tag.now c.args.entries.now c.loop-i.i c.loop-i.count c.loop-i.earliest node c.if_three-2.result
    c.loop-i.invariant (none-before c.args.tag.now c.args.entries.now c.loop-i.i node (omega arith)) c.if_three-2.ensures
