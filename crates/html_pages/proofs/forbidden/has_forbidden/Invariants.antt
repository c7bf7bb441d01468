use Rattle.std.proofs.Common.{◌≡◌, length}
use Rattle.std.specs.List.{list_any}
use Rattle.std.specs.Str.{IsUtf8, chars}
use Rattle.html_tokens.specs.Forbidden as forbidden
use Rattle.html_pages.proofs.forbidden.has_forbidden.Given as goal

abbrev pub invariant-loop-c : goal.invariant-loop-c
invariant-loop-c l = IsUtf8 l.characters.rest.now
    × (list_any forbidden.is_forbidden (chars l.characters.rest.now) ≡ list_any forbidden.is_forbidden (chars l.fn.text))

abbrev pub decreases-loop-c : goal.decreases-loop-c
decreases-loop-c l = length l.characters.rest.now
