use Rattle.std.proofs.Common.{◌≡◌, ◌<◌, get_or, arith}
use Rattle.html_names.proofs.FirstBytes.{BeginsWith-ascii, behind-none, behind-other, behind-some, is-empty, is-nonempty}
use Rattle.html_names.proofs.encodings.behind.Goals as goal

pub returns-then-is_empty : goal.returns-then-is_empty
returns-then-is_empty c = behind-none c.args.character c.args.text.now (is-empty _ _ c.is_empty.ensures c.if-is_empty.true)

pub range_from-requires : goal.range_from-requires
range_from-requires c =
    let first : get_or c.args.text.now 0 0 ≡ c.args.character = rw c.as_bytes.ensures.value at c.if-as_bytes-character.true in
    let low : get_or c.args.text.now 0 0 < 128 = omega arith in
    λ _. (BeginsWith-ascii c.args.text.now c.utf8.text (is-nonempty _ _ c.is_empty.ensures c.if-is_empty.false) low).cut

pub returns-then-as_bytes-character : goal.returns-then-as_bytes-character
returns-then-as_bytes-character c =
    let first : get_or c.args.text.now 0 0 ≡ c.args.character = rw c.as_bytes.ensures.value at c.if-as_bytes-character.true in
    rw c.range_from.ensures.value (behind-some c.args.character c.args.text.now c.utf8.text
    (is-nonempty _ _ c.is_empty.ensures c.if-is_empty.false) c.requires first)

pub returns-else-as_bytes-character : goal.returns-else-as_bytes-character
returns-else-as_bytes-character c =
    behind-other c.args.character c.args.text.now c.utf8.text
    (is-nonempty _ _ c.is_empty.ensures c.if-is_empty.false) c.requires (rw c.as_bytes.ensures.value at c.if-as_bytes-character.false)
