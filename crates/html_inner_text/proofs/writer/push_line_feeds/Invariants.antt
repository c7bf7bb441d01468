use Rattle.std.proofs.Common.{◌≡◌, ◌++◌, replicate}
use Rattle.html_inner_text.proofs.writer.push_line_feeds.Given as goal

abbrev pub invariant-loop-index : goal.invariant-loop-index
invariant-loop-index l = l.text ≡ l.fn.text ++ replicate l._index 10
