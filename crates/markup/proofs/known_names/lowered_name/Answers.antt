use Rattle.markup.proofs.LoweredNames.{lowered, names-count}
use Rattle.markup.proofs.known_names.lowered_name.Goals as goal

pub bounds-lowered_places-known : goal.bounds-lowered_places-known
bounds-lowered_places-known c = rw (← names-count) c.in_ok-known.ensures.found.within

pub returns : goal.returns
returns c =
    rw c.lowered_places.ensures (lowered c.in_ok-known.known.place 0 _ c.in_ok-known.ensures.found)
