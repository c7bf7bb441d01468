use Rattle.std.proofs.Common.{◌∙◌, sym, arith}
use Rattle.html_faithful_judge.proofs.RawBytes.{name-short}
use Rattle.html_faithful_judge.proofs.raw.begins_name.Goals as goal

pub returns-then-i-bytes : goal.returns-then-i-bytes
returns-then-i-bytes c = sym (c.loop-i.invariant.1
    ∙ name-short c.args.name.now c.args.bytes.now c.loop-i.i (omega arith) (omega arith))
