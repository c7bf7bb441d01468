use Rattle.std.proofs.Common.{refl}
use Rattle.markup.specs.KnownSlots.{place_at}
use Rattle.markup.proofs.known_names.place_of.Goals as goal

pub returns : goal.returns
unfolding place_at
returns c = rw (c.shifts.ensures, c.slots.ensures) refl
