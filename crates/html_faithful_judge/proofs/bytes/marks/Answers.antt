use Rattle.std.proofs.Common.{take, drop, arith}
use Rattle.std.proofs.lemmas.Simd.{length-chunk}
use Rattle.html_faithful_judge.proofs.Marks.{mask_odd}
use Rattle.html_faithful_judge.proofs.bytes.marks.Goals as goal

pub returns : goal.returns
returns c = mask_odd 16 (take 16 (drop c.args.at c.args.bytes.now)) (length-chunk c.args.at 16 c.args.bytes.now c.requires) (omega arith)
