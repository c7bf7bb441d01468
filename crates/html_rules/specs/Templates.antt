-- The start tag of a template (HTML Standard, section 13.2.6.4.4).
use Rattle.std.specs.Prelude.{ℕ, ◌+◌, Bool, ◌&&◌, not, List, [], ◌∷◌, Option, Some, None}
use Rattle.std.specs.List.{list_any}
use Rattle.markup.specs.Forest.{parent_at}
use Rattle.markup.specs.TreeLaws.{with_errors}
use Rattle.html_tokens.specs.declared.tags.Tag.{Tag}
use Rattle.html_rules.specs.Choice.{choose}
use Rattle.html_rules.specs.Conditions.{is_alone}
use Rattle.html_rules.specs.Names.{Html}
use Rattle.html_rules.specs.Places.{insert_element_for, inside, open_element}
use Rattle.html_rules.specs.Stack.{pop, root_number}
use Rattle.html_rules.specs.State.{Open, State, adjusted_current_node, current_node, current_number, is_in}
use Rattle.html_rules.specs.Tokens.{is_shadow_mode}
use Rattle.html_rules.specs.declared.tag_set.TagSet.TheVariants as set

-- the node by whose document foster parenting asks: of a table, the table
abbrev pub foster_intended_parent : ℕ → List Open → ℕ
foster_intended_parent root [] = root
foster_intended_parent root (x ∷ xs) =
    choose (is_in set.Template x) (λ _. x.number + 1)
    (λ _. choose (is_in set.Table x) (λ _. x.number) (λ _. foster_intended_parent root xs))

abbrev pub intended_parent_at : Bool → List Open → Option Open → ℕ
intended_parent_at foster xs None = 0
intended_parent_at foster xs (Some target) = choose (foster && is_in set.FosterTarget target)
    (λ _. foster_intended_parent (root_number xs) xs) (λ _. parent_at (inside target))

-- the node that the template would be put under
abbrev pub intended_parent : State → ℕ
intended_parent s = intended_parent_at s.foster_parenting s.open_elems (current_node s.open_elems)

-- whether a template is to become a shadow root, if its host takes one
abbrev pub may_be_shadow_root : Tag → State → Bool
may_be_shadow_root tag s = list_any is_shadow_mode tag.attrs && s.answers.allows_shadow_roots
    (with_errors 0 s.forest) (intended_parent s) && not (is_alone s.open_elems)

abbrev pub number_of : Option Open → ℕ
number_of None = 0
number_of (Some x) = x.number

-- a template that was opened without being put anywhere; if the host takes no shadow root, a new one is inserted in its place
abbrev pub attach_shadow_root : Tag → ℕ → State → State
attach_shadow_root tag host opened =
    choose (opened.answers.attaches_shadow (with_errors 0 opened.forest) host (current_number opened.open_elems) tag.attrs)
    (λ _. opened)
    (λ _. insert_element_for tag (pop opened))

unfoldable pub insert_template : Tag → State → State
insert_template tag s =
    choose (may_be_shadow_root tag s)
    (λ _. attach_shadow_root tag (number_of (adjusted_current_node s))
    (open_element Html tag.name tag.attrs tag.had_duplicate_attributes s))
    (λ _. insert_element_for tag s)
