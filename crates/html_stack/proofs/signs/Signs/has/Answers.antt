use Rattle.std.proofs.Common.{refl}
use Rattle.std.proofs.lemmas.Nat.Bits.{shr_and_one}
use Rattle.html_names.proofs.SetNumbers.{number_of-tag}
use Rattle.html_stack.proofs.signs.Signs.has.Goals as goal

pub returns-in-In : goal.returns-in-In
returns-in-In c = rw (c.in-In.is, number_of-tag c.in-In.set, shr_and_one) refl
