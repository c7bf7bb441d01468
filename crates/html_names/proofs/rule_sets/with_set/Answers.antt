use Rattle.std.proofs.Common.{◌≡◌, ◌∙◌, ◌*◌, ◌%◌, ◌^◌, ap, bit_and, bit_or, cond, subst, sym}
use Rattle.std.specs.Prelude.{◌==◌}
use Rattle.std.specs.Int.{bit_not, w128}
use Rattle.html_names.specs.SetBits.{has_set, number_of}
use Rattle.html_names.proofs.BitsOfSets.{bit-cleared, bit-set}
use Rattle.html_names.proofs.SetNumbers.{number_of-tag}
use Rattle.html_names.proofs.rule_sets.with_set.Goals as goal

pub returns-then-is_in : goal.returns-then-is_in
returns-then-is_in c = λ s. ap (λ k. has_set (bit_or c.args.sets (1 * 2 ^ k % 2 ^ 128)) s) (number_of-tag c.args.set)
    ∙ bit-set c.args.sets c.args.set s ∙ ap (λ b. cond (number_of s == number_of c.args.set) b (has_set c.args.sets s)) (sym c.if-is_in.true)

pub returns-else-is_in : goal.returns-else-is_in
returns-else-is_in c = λ s. ap (λ k. has_set (bit_and c.args.sets (bit_not w128 (1 * 2 ^ k % 2 ^ 128))) s) (number_of-tag c.args.set)
    ∙ bit-cleared c.args.sets c.args.set s
    ∙ ap (λ b. cond (number_of s == number_of c.args.set) b (has_set c.args.sets s)) (sym c.if-is_in.false)
