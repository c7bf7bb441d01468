use Rattle.html_stack.specs.Noted.{named}
use Rattle.html_stack.proofs.Noted.{turned-noted}
use Rattle.html_stack.proofs.formatting.turns.turn_listed.Goals as goal

pub follow-requires : goal.follow-requires
follow-requires g c =
    rw c.as_slice-3.ensures.value
    (turned-noted c.place_of-place.result c.args.elements.now.items c.turn_placed-goes_on.new.elements.items
    c.cut_to.new.self c.cut_to.ensures.within c.turn_placed-goes_on.ensures.below
    (c.cut_to.ensures.noted (named c.args.elements.now.items) c.requires.noted))
