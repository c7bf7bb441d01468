use Rattle.markup.proofs.AttributeIndex.{IsIndex-named}
use Rattle.markup.proofs.attribute_index.with_one_more.Goals as goal

pub returns-clause-ok : goal.returns-clause-ok
returns-clause-ok c = λ more is.
    IsIndex-named _ _ _ more _ is c.in_ok-index.ensures.ok (rw c.deref_mut.ensures.value at c.in_ok-add.ensures.ok)
