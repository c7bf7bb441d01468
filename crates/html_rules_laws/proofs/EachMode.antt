-- What a test says of each insertion mode, computed for all at once.
use Rattle.std.proofs.Common.{◌≡◌, ℕ, zero, suc, Bool, true, false, List, [], ◌∷◌, refl}
use Rattle.std.specs.Prelude.{◌&&◌}
use Rattle.std.specs.List.{list_all}
use Rattle.std.proofs.lemmas.Bool.{and_parts}
use Rattle.html_rules.specs.declared.insertion_mode.InsertionMode.{InsertionMode}
use Rattle.html_rules.specs.declared.insertion_mode.InsertionMode.TheVariants.{Initial, BeforeHtml, BeforeHead, InHead}
use Rattle.html_rules.specs.declared.insertion_mode.InsertionMode.TheVariants.{InHeadNoscript, AfterHead, InBody, Text, InTable}
use Rattle.html_rules.specs.declared.insertion_mode.InsertionMode.TheVariants.{InTableText, InCaption, InColumnGroup}
use Rattle.html_rules.specs.declared.insertion_mode.InsertionMode.TheVariants.{InTableBody, InRow, InCell, InTemplate}
use Rattle.html_rules.specs.declared.insertion_mode.InsertionMode.TheVariants.{AfterBody, InFrameset, AfterFrameset}
use Rattle.html_rules.specs.declared.insertion_mode.InsertionMode.TheVariants.{AfterAfterBody, AfterAfterFrameset}

-- the modes, in their order
abbrev later_modes : List InsertionMode
later_modes = BeforeHtml ∷ BeforeHead ∷ InHead ∷ InHeadNoscript ∷ AfterHead ∷ InBody ∷ Text ∷ InTable ∷
    InTableText ∷ InCaption ∷ InColumnGroup ∷ InTableBody ∷ InRow ∷ InCell ∷ InTemplate ∷ AfterBody ∷ InFrameset ∷
    AfterFrameset ∷ AfterAfterBody ∷ AfterAfterFrameset ∷ []

abbrev pub all_modes : List InsertionMode
all_modes = Initial ∷ later_modes

abbrev at : List InsertionMode → ℕ → InsertionMode
at [] n = Initial
at (m ∷ ms) zero = m
at (m ∷ ms) (suc n) = at ms n

passes-at : (test : InsertionMode → Bool) (m : InsertionMode) (ms : List InsertionMode)
    → list_all test (m ∷ ms) ≡ true → (n : ℕ) → test Initial ≡ true → test (at (m ∷ ms) n) ≡ true
passes-at test m ms h zero i = (and_parts (test m) (list_all test ms) h).0
passes-at test m [] h (suc n) i = i
passes-at test m (k ∷ ms) h (suc n) i = passes-at test k ms (and_parts (test m) (list_all test (k ∷ ms)) h).1 n i

passes : (test : InsertionMode → Bool) → list_all test all_modes ≡ true → (n : ℕ) → test (at all_modes n) ≡ true
passes test h n = passes-at test Initial later_modes h n (and_parts (test Initial) (list_all test later_modes) h).0

pub each-mode : (test : InsertionMode → Bool) → list_all test all_modes ≡ true → (m : InsertionMode) → test m ≡ true
each-mode test h Initial = passes test h 0
each-mode test h BeforeHtml = passes test h 1
each-mode test h BeforeHead = passes test h 2
each-mode test h InHead = passes test h 3
each-mode test h InHeadNoscript = passes test h 4
each-mode test h AfterHead = passes test h 5
each-mode test h InBody = passes test h 6
each-mode test h Text = passes test h 7
each-mode test h InTable = passes test h 8
each-mode test h InTableText = passes test h 9
each-mode test h InCaption = passes test h 10
each-mode test h InColumnGroup = passes test h 11
each-mode test h InTableBody = passes test h 12
each-mode test h InRow = passes test h 13
each-mode test h InCell = passes test h 14
each-mode test h InTemplate = passes test h 15
each-mode test h AfterBody = passes test h 16
each-mode test h InFrameset = passes test h 17
each-mode test h AfterFrameset = passes test h 18
each-mode test h AfterAfterBody = passes test h 19
each-mode test h AfterAfterFrameset = passes test h 20
