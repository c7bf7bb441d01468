-- Each token is settled.
use Rattle.std.specs.Prelude.{◌≡◌, Bool, true, false, ◌&&◌, List, [], ◌∷◌}
use Rattle.html_tokens.specs.declared.token.Token.{Token}
use Rattle.html_rules.specs.Shape.{is_fit}
use Rattle.html_rules.specs.State.{State}
use Rattle.html_rules.specs.Step.{taken}
use Rattle.html_rules.specs.declared.insertion_mode.InsertionMode.{InsertionMode}
use Rattle.html_rules.specs.declared.insertion_mode.InsertionMode.TheVariants.{InBody, InTable, InColumnGroup, InTableBody}
use Rattle.html_rules.specs.declared.insertion_mode.InsertionMode.TheVariants.{InRow, InTemplate}
use Rattle.html_rules_laws.specs.Lawful.{TextSound}

-- the modes that a template may have
abbrev pub is_template_mode : InsertionMode → Bool
is_template_mode InTemplate = true
is_template_mode InTable = true
is_template_mode InColumnGroup = true
is_template_mode InTableBody = true
is_template_mode InRow = true
is_template_mode InBody = true
is_template_mode mode = false

abbrev pub are_template_modes : List InsertionMode → Bool
are_template_modes [] = true
are_template_modes (mode ∷ modes) = is_template_mode mode && are_template_modes modes

-- sixteen turns, and four for each open element, are enough for every token, in each state that has not ended, fits and is sound for
-- text, and whose templates have modes that a template may have
abbrev pub IsEachTokenSettled : Type 0
IsEachTokenSettled = (t : Token) (s : State) → s.has_ended ≡ false → is_fit s ≡ true → TextSound s
    → are_template_modes s.template_modes ≡ true → (taken t s).is_settled ≡ true
