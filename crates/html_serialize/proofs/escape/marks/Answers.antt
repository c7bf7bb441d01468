use Rattle.std.proofs.Common.{take, drop, arith}
use Rattle.std.proofs.lemmas.Simd.{length-chunk}
use Rattle.html_serialize.proofs.Marks.{mask_marked}
use Rattle.html_serialize.proofs.escape.marks.Goals as goal

pub returns : goal.returns
returns c = mask_marked 16 c.args.quote (take 16 (drop c.args.at c.args.bytes.now))
    (length-chunk c.args.at 16 c.args.bytes.now c.requires) (omega arith)
