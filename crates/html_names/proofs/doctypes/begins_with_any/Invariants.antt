use Rattle.std.proofs.Common.{◌≡◌, false, List, ℕ, take}
use Rattle.std.specs.List.{list_any}
use Rattle.std.specs.Str.{chars}
use denote.Bor.{Bor}
use Rattle.html_tokens.specs.Characters.{begins_any_case}
use Rattle.html_names.proofs.doctypes.begins_with_any.Given as goal

abbrev pub invariant-loop-prefix : goal.invariant-loop-prefix
invariant-loop-prefix l = list_any (λ (prefix : Bor (List ℕ)). begins_any_case prefix.now (chars l.text))
    (take l.prefix-index l.prefixes) ≡ false
