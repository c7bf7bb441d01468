use Rattle.std.proofs.Common.{subst}
use Rattle.memchr.specs.Find.{IsFirstByte, is_byte}
use Rattle.html_faithful_judge.proofs.Lacking.{search-lacks}
use Rattle.html_faithful_judge.proofs.texts.lacks.Goals as goal

pub returns : goal.returns
returns c none =
    search-lacks c.args.byte c.args.text.now c.memchr.result c.requires c.utf8.text
    (subst (λ bs. IsFirstByte (is_byte c.args.byte) bs c.memchr.result) c.as_bytes.ensures.value c.memchr.ensures) c.is_none.result
    c.is_none.ensures none
