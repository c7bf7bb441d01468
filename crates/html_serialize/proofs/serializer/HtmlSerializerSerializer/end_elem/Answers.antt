use Rattle.html_serialize.proofs.Steps.{answered-failed, answered-none}
use Rattle.html_serialize.proofs.serializer.HtmlSerializerSerializer.end_elem.Goals as goal

pub returns-then-self-clause-answers : goal.returns-then-self-clause-answers
returns-then-self-clause-answers g c = answered-failed _ _ c.if-self.true

pub returns-clause-answers : goal.returns-clause-answers
returns-clause-answers g c = answered-none _ _ _ _ _ _ c.if-self.false c.is_fatal-self.ensures
    c.end_elem-answer.ensures.no_memory c.end_elem-answer.ensures.does
