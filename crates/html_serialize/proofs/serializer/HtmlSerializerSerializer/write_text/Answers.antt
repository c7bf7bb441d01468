use Rattle.std.proofs.Common.{refl}
use Rattle.html_serialize.proofs.Steps.{answered, answered-failed}
use Rattle.html_serialize.proofs.serializer.HtmlSerializerSerializer.write_text.Goals as goal

pub returns-then-self-clause-answers : goal.returns-then-self-clause-answers
returns-then-self-clause-answers g c = answered-failed _ _ c.if-self.true

pub returns-clause-answers : goal.returns-clause-answers
returns-clause-answers g c = answered _ _ _ _ _ _ c.if-self.false c.is_fatal-self.ensures (λ is. refl) c.write_text-answer.ensures.does
