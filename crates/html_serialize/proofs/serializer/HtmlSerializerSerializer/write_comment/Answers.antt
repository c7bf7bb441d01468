use Rattle.std.proofs.Common.{refl}
use Rattle.std.proofs.lemmas.Str.{encodes-chars}
use Rattle.html_serialize.proofs.TagBytes.{comment-bytes}
use Rattle.html_serialize.proofs.Steps.{answered-failed, answered-puts}
use Rattle.html_serialize.proofs.serializer.HtmlSerializerSerializer.write_comment.Goals as goal

pub returns-then-self-clause-answers : goal.returns-then-self-clause-answers
returns-then-self-clause-answers g c = answered-failed _ _ c.if-self.true

pub returns-clause-answers : goal.returns-clause-answers
returns-clause-answers g c = answered-puts _ _ _ _ _ c.if-self.false c.is_fatal-self.ensures refl
    (rw (comment-bytes _ c.args.text.now (encodes-chars c.args.text.now c.utf8.text)) c.put_three-answer.ensures.puts)
