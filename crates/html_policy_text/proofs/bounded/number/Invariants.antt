use Rattle.std.proofs.Common.{◌≡◌, true}
use Rattle.std.specs.Char.{is_ascii_digit}
use Rattle.std.specs.List.{fold, list_all}
use Rattle.html_policy_text.specs.Bounded.{with_digit}
use Rattle.html_policy_text.proofs.bounded.number.Given as goal

abbrev pub invariant-loop-c : goal.invariant-loop-c
invariant-loop-c l = record { value : l.n ≡ fold with_digit 0 l.yielded; digits : list_all is_ascii_digit l.yielded ≡ true }
