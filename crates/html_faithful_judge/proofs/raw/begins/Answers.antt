use Rattle.std.proofs.Common.{◌∙◌, sym, arith}
use Rattle.html_faithful_judge.proofs.Words.{begins-short}
use Rattle.html_faithful_judge.proofs.raw.begins.Goals as goal

pub returns-then-i-bytes : goal.returns-then-i-bytes
returns-then-i-bytes c = sym (c.loop-i.invariant ∙ begins-short c.args.word.now c.args.bytes.now c.loop-i.i (omega arith) (omega arith))
