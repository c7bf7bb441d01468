use Rattle.std.proofs.Common.{◌≡◌}
use Rattle.html_inner_text.specs.InnerText.{written}
use Rattle.html_inner_text.proofs.writer.Writer.write.Given as goal

abbrev pub invariant-loop-character : goal.invariant-loop-character
invariant-loop-character l = l.self ≡ written l.fn.preserves l.fn.self l.yielded
