use Rattle.std.proofs.lemmas.Nat.Bits.{shr_and_one}
use Rattle.html_names.proofs.SetNumbers.{number_of-tag}
use Rattle.html_names.proofs.element_class.ElementClass.is_in.Goals as goal

pub returns : goal.returns
returns c space name is = rw (number_of-tag c.args.set, shr_and_one) (is.sets.each c.args.set)
