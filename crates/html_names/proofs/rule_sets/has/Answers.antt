use Rattle.std.proofs.Common.{◌∙◌, ap}
use Rattle.std.specs.Prelude.{◌==◌}
use Rattle.std.specs.Int.{bit_at}
use Rattle.std.proofs.lemmas.Nat.Bits.{shr_and_one}
use Rattle.html_names.proofs.SetNumbers.{number_of-tag}
use Rattle.html_names.proofs.rule_sets.has.Goals as goal

pub returns : goal.returns
returns c = ap (λ n. n == 1) (shr_and_one c.args.sets _ ∙ ap (λ k. bit_at c.args.sets k) (number_of-tag c.args.set))
