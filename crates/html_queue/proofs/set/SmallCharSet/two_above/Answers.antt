use Rattle.std.proofs.Common.{ℕ, ◌<◌, arith, bit_and}
use lib.Bits.{and_le_r}
use Rattle.html_queue.proofs.Marks.{none_unmarked}
use Rattle.html_queue.proofs.set.SmallCharSet.two_above.Goals as goal

low_bits : (n : ℕ) → bit_and n 63 < 64
low_bits n = omega (arith, and_le_r n 63)

pub returns : goal.returns
returns c = λ k. none_unmarked c.args.self.now.bits _ _ k (low_bits _) (low_bits _) c.if-more-second-ne0.false
