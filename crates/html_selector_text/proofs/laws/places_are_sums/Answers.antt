use Rattle.html_selector_text.proofs.Places.{by_signs}
use Rattle.html_selector_text.proofs.laws.places_are_sums.Goals as goal

pub returns-clause-places : goal.returns-clause-places
returns-clause-places c = λ a b k from. (by_signs a.is_negative b.is_negative a.value b.value k from).0

pub returns-clause-sums : goal.returns-clause-sums
returns-clause-sums c = λ a b k from. (by_signs a.is_negative b.is_negative a.value b.value k from).1
