use Rattle.html_places.proofs.Goings.{around-of}
use Rattle.html_places.proofs.around.Surroundings.here.Goals as goal

pub returns : goal.returns
returns c = around-of _ _ _ _ _ _ _ _ _ c.parts.ensures.parts c.parts.ensures.place c.last_bytes.ensures.1 c.last_of.ensures.1
    c.first_of.ensures.1
