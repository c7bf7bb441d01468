use Rattle.std.proofs.Common.{refl}
use Rattle.html_tokens.specs.declared.states.AttrValueKind.TheVariants as value
use Rattle.html_tokenizer.proofs.whole_tags.whole_value.Goals as goal

pub returns-in-Some-value_in-clause-is : goal.returns-in-Some-value_in-clause-is
returns-in-Some-value_in-clause-is c = record {
  kind = value.DoubleQuoted;
  quote = 34;
  quotes = refl;
  inner = c.in-Some.inner.now;
  equals = c.in-Some.ensures.whole;
  within = c.in-Some-value_in.ensures.is;
}

pub returns-clause-is : goal.returns-clause-is
returns-clause-is c = record {
  kind = value.SingleQuoted;
  quote = 39;
  quotes = refl;
  inner = c.in-Some.inner.now;
  equals = c.in-Some.ensures.whole;
  within = c.in_ok-value.ensures.is;
}
