-- Where a head may stand among the open elements.
use Rattle.std.specs.Prelude.{Bool, true, false, ◌||◌, ◌&&◌, not, List, [], ◌∷◌}
use Rattle.html_rules.specs.Choice.{choose}
use Rattle.html_rules.specs.Conditions.{is_nonempty}
use Rattle.html_rules.specs.Shape.{is_at_root}
use Rattle.html_rules.specs.Stack.{has_open}
use Rattle.html_rules.specs.State.{Open, is_in}
use Rattle.html_rules.specs.declared.tag_set.TagSet.TheVariants as set

-- whether the current node is a head that stands over the root
abbrev pub is_in_head : List Open → Bool
is_in_head [] = false
is_in_head (x ∷ xs) = is_in set.Head x && has_open set.Html xs

-- whether an element may stand over these: the root over none, a head just over the root, and just over a head a template
abbrev pub may_stand_over : Open → List Open → Bool
may_stand_over x xs =
    choose (is_in set.Html x) (λ _. not (is_nonempty xs))
    (λ _. choose (is_in set.Head x) (λ _. not (has_open set.Html xs) || is_at_root xs)
    (λ _. not (is_in_head xs) || is_in set.Template x))

abbrev pub stand_well : List Open → Bool
stand_well [] = true
stand_well (x ∷ xs) = may_stand_over x xs && stand_well xs

-- where any element may come next
abbrev pub are_general : List Open → Bool
are_general xs = not (is_in_head xs) && stand_well xs
