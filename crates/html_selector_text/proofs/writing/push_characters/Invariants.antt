use Rattle.std.proofs.Common.{◌≡◌, ◌++◌, length}
use Rattle.std.specs.Prelude.{cond, flat_map}
use Rattle.html_selector_text.specs.Written.{later_character, string_character}
use Rattle.html_selector_text.proofs.writing.push_characters.Given as goal

abbrev pub invariant-loop-left : goal.invariant-loop-left
invariant-loop-left l =
    l.text ++ flat_map (cond l.quoted string_character later_character) l.left
    ≡ l.fn.text ++ flat_map (cond l.quoted string_character later_character) l.fn.rest

abbrev pub decreases-loop-left : goal.decreases-loop-left
decreases-loop-left l = length l.left
