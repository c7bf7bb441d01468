use Rattle.std.proofs.Common.{subst}
use Rattle.memchr.specs.Find.{IsFirstByte, is_byte2}
use Rattle.html_plain.proofs.Bytes.{search-plain}
use Rattle.html_plain.proofs.texts.has_plain_characters.Goals as goal

pub returns : goal.returns
returns c =
    search-plain c.args.text.now c.memchr2.result c.is_none.result c.utf8.text
    (subst (λ bs. IsFirstByte (is_byte2 0 13) bs c.memchr2.result) c.as_bytes.ensures.value c.memchr2.ensures) c.is_none.ensures
