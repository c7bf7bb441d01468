use Rattle.std.proofs.lemmas.Nat.Bits.{shr_and_one}
use Rattle.html_names.proofs.SetNumbers.{number_of-tag}
use Rattle.html_names.proofs.element_name.ElementName.is_in.Goals as goal

pub returns : goal.returns
returns c = rw (number_of-tag c.args.set, shr_and_one, ← c.self.view_is) (c.self.invariant.row.each c.args.set)
