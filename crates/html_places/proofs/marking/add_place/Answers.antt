use Rattle.std.proofs.Common.{List, subst, sym}
use Rattle.html_places.specs.Places.{ArePlaces, IsNotBefore}
use Rattle.html_places.specs.declared.place.Place.{Place}
use Rattle.html_places.proofs.Marks.{places-push}
use Rattle.html_places.proofs.marking.add_place.Goals as goal

pub returns-clause-places : goal.returns-clause-places
returns-clause-places c = λ text are is.
    let order = subst (λ (ps : List Place). IsNotBefore ps c.not_before-place.result) c.as_slice.ensures.value
    c.not_before-place.ensures.order in
    let within = c.not_before-place.ensures.place text
    (subst (λ (ps : List Place). ArePlaces text ps) (sym c.as_slice.ensures.value) are) is in
    rw c.in_ok-push.ensures.items (places-push text c.args.places.now.items c.not_before-place.result are within order)
