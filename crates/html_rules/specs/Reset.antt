-- "Reset the insertion mode appropriately" (HTML Standard, section 13.2.4.1).
use Rattle.std.specs.Prelude.{ℕ, List, [], ◌∷◌, Option, Some, None}
use Rattle.html_rules.specs.Choice.{choose}
use Rattle.html_rules.specs.State.{Open, State, is_in}
use Rattle.html_rules.specs.declared.insertion_mode.InsertionMode.{InsertionMode}
use Rattle.html_rules.specs.declared.insertion_mode.InsertionMode.TheVariants.{BeforeHead, InHead, AfterHead, InBody, InTable}
use Rattle.html_rules.specs.declared.insertion_mode.InsertionMode.TheVariants.{InCaption, InColumnGroup, InTableBody, InRow}
use Rattle.html_rules.specs.declared.insertion_mode.InsertionMode.TheVariants.{InCell, InFrameset}
use Rattle.html_rules.specs.declared.tag_set.TagSet.TheVariants as set

-- the current template insertion mode
abbrev pub current_template_mode : List InsertionMode → InsertionMode
current_template_mode [] = InBody
current_template_mode (mode ∷ modes) = mode

abbrev pub mode_of_html : Option ℕ → InsertionMode
mode_of_html None = BeforeHead
mode_of_html (Some head) = AfterHead

-- the mode that an element asks for wherever it stands, or what the elements before it ask for
abbrev pub mode_of : State → Open → (Unit {0} → InsertionMode) → InsertionMode
mode_of s x before =
    choose (is_in set.Tr x) (λ _. InRow)
    (λ _. choose (is_in set.TbodyTfootThead x) (λ _. InTableBody)
    (λ _. choose (is_in set.Caption x) (λ _. InCaption)
    (λ _. choose (is_in set.Colgroup x) (λ _. InColumnGroup)
    (λ _. choose (is_in set.Table x) (λ _. InTable)
    (λ _. choose (is_in set.Template x) (λ _. current_template_mode s.template_modes)
    (λ _. choose (is_in set.Body x) (λ _. InBody)
    (λ _. choose (is_in set.Frameset x) (λ _. InFrameset)
    (λ _. choose (is_in set.Html x) (λ _. mode_of_html s.head_elem) before))))))))

abbrev pub mode_of_context : State → Option Open → InsertionMode
mode_of_context s None = mode_of_html s.head_elem
mode_of_context s (Some context) = mode_of s context (λ _. InBody)

-- from the current node back. The root, which is `html`, gives its place to the context of a fragment. A cell and a head ask for their
-- modes, but not as contexts.
abbrev pub mode_of_open : State → List Open → InsertionMode
mode_of_open s [] = InBody
mode_of_open s (x ∷ xs) =
    choose (is_in set.TdTh x) (λ _. InCell)
    (λ _. choose (is_in set.Head x) (λ _. InHead)
    (λ _. choose (is_in set.Html x) (λ _. mode_of_context s s.context_elem)
    (λ _. mode_of s x (λ _. mode_of_open s xs))))

unfoldable pub reset_insertion_mode : State → State
reset_insertion_mode s = record s { mode = mode_of_open s s.open_elems }
