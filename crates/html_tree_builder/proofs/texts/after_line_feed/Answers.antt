use Rattle.std.proofs.Common.{◌≡◌, ◌<◌, get_or, arith}
use Rattle.html_names.proofs.FirstBytes.{BeginsWith-ascii, is-empty, is-nonempty}
use Rattle.html_tree_builder.proofs.FirstCharacters.{line_feed-dropped, line_feed-none, line_feed-other}
use Rattle.html_tree_builder.proofs.texts.after_line_feed.Goals as goal

pub returns-then-is_empty : goal.returns-then-is_empty
returns-then-is_empty c = rw c.if-not-ignore_lf.false (line_feed-none c.args.text.now (is-empty _ _ c.is_empty.ensures c.if-is_empty.true))

pub range_from-requires : goal.range_from-requires
range_from-requires c =
    let first : get_or c.args.text.now 0 0 ≡ 10 = rw c.as_bytes.ensures.value at c.if-as_bytes-eq10.true in
    let low : get_or c.args.text.now 0 0 < 128 = omega arith in
    λ _. (BeginsWith-ascii c.args.text.now c.utf8.text (is-nonempty _ _ c.is_empty.ensures c.if-is_empty.false) low).cut

pub returns-then-as_bytes-eq10 : goal.returns-then-as_bytes-eq10
returns-then-as_bytes-eq10 c =
    let first : get_or c.args.text.now 0 0 ≡ 10 = rw c.as_bytes.ensures.value at c.if-as_bytes-eq10.true in
    rw (c.if-not-ignore_lf.false, c.range_from.ensures.value)
    (line_feed-dropped c.args.text.now c.utf8.text (is-nonempty _ _ c.is_empty.ensures c.if-is_empty.false) first)

pub returns-else-as_bytes-eq10 : goal.returns-else-as_bytes-eq10
returns-else-as_bytes-eq10 c =
    rw c.if-not-ignore_lf.false
    (line_feed-other c.args.text.now c.utf8.text (is-nonempty _ _ c.is_empty.ensures c.if-is_empty.false)
    (rw c.as_bytes.ensures.value at c.if-as_bytes-eq10.false))
