use Rattle.html_tokenizer.proofs.Fronts.Whole.{value-within}
use Rattle.html_tokenizer.proofs.whole_tags.value_in.Goals as goal

pub returns-clause-is : goal.returns-clause-is
returns-clause-is c = value-within c.args.kind c.args.quote _ _ _ _ _ c.in-Some.ensures.whole c.split.ensures.whole
    c.in-Some-after_byte.ensures.whole c.split.ensures.cut (rw c.value_stops.ensures at c.split.ensures.lacking)
