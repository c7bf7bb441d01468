-- The stack of open elements (HTML Standard, sections 13.2.4.2 and 13.2.6.3). The current node is first.
use Rattle.std.specs.Prelude.{ℕ, suc, Bool, true, false, not, ◌||◌, ◌&&◌, nat_eq, List, [], ◌∷◌, reverse, Option, Some, None}
use Rattle.std.specs.List.{list_any, list_all}
use Rattle.markup.specs.Forest.{add_error, add_attributes, remove}
use Rattle.markup.specs.declared.attributes.Attribute.{Attribute}
use Rattle.html_rules.specs.Choice.{choose}
use Rattle.html_rules.specs.State.{Open, State, is_in, is_named, current_is}
use Rattle.html_rules.specs.declared.tag_set.TagSet.{TagSet}
use Rattle.html_rules.specs.declared.tag_set.TagSet.TheVariants as set

-- a parse error
unfoldable pub parse_error : State → State
parse_error s = record s { forest = add_error s.forest }

-- an element that passes is open, up to and with the first of a scope's bounds ("has an element in the specific scope")
abbrev pub in_scope : TagSet → (Open → Bool) → List Open → Bool
in_scope scope p [] = false
in_scope scope p (x ∷ xs) = choose (p x) (λ _. true) (λ _. choose (is_in scope x) (λ _. false) (λ _. in_scope scope p xs))

-- whether an element of this number is open
abbrev pub is_open : ℕ → List Open → Bool
is_open n xs = list_any (λ x. nat_eq x.number n) xs

-- whether an HTML element of this name is open
abbrev pub has_open : TagSet → List Open → Bool
has_open set xs = list_any (is_in set) xs

-- how many templates are open
abbrev pub open_templates : List Open → ℕ
open_templates [] = 0
open_templates (x ∷ xs) = choose (is_in set.Template x) (λ _. suc (open_templates xs)) (λ _. open_templates xs)

abbrev pub number_from : ℕ → List Open → ℕ
number_from n [] = n
number_from n (x ∷ xs) = number_from x.number xs

-- the number of the root, which was opened first; of the document, where none is open
abbrev pub root_number : List Open → ℕ
root_number xs = number_from 0 xs

abbrev pub second_of : List Open → Option Open
second_of (x ∷ y ∷ ys) = Some y
second_of _ = None

abbrev pub if_body : Option Open → Option ℕ
if_body None = None
if_body (Some x) = choose (is_in set.Body x) (λ _. Some x.number) (λ _. None)

-- the `body`, where it is the second element that was opened
abbrev pub body_elem : List Open → Option ℕ
body_elem xs = if_body (second_of (reverse xs))

-- what is open once some leave

-- all but the current node
abbrev pub without_current : List Open → List Open
without_current [] = []
without_current (x ∷ xs) = xs

-- those below the first that passes
abbrev pub left_below : (Open → Bool) → List Open → List Open
left_below p [] = []
left_below p (x ∷ xs) = choose (p x) (λ _. xs) (λ _. left_below p xs)

-- those from the first that passes on
abbrev pub left_from : (Open → Bool) → List Open → List Open
left_from p [] = []
left_from p (x ∷ xs) = choose (p x) (λ _. x ∷ xs) (λ _. left_from p xs)

-- all but the first of this number
abbrev pub without_number : ℕ → List Open → List Open
without_number n [] = []
without_number n (x ∷ xs) = choose (nat_eq x.number n) (λ _. xs) (λ _. x ∷ without_number n xs)

-- the steps

unfoldable pub pop : State → State
pop s = record s { open_elems = without_current s.open_elems }

abbrev pub without_current_but_root : List Open → List Open
without_current_but_root [] = []
without_current_but_root (x ∷ xs) = choose (is_in set.Html x) (λ _. x ∷ xs) (λ _. xs)

-- a pop that leaves the root, `html`, where it is
unfoldable pub pop_but_root : State → State
pop_but_root s = record s { open_elems = without_current_but_root s.open_elems }

-- elements are popped until one that passes was popped
unfoldable pub pop_until : (Open → Bool) → State → State
pop_until p s = record s { open_elems = left_below p s.open_elems }

-- elements are popped until the current node passes ("clear the stack back to" a context)
unfoldable pub pop_until_current : (Open → Bool) → State → State
pop_until_current p s = record s { open_elems = left_from p s.open_elems }

-- the same, where the current node should have been the one
unfoldable pub expect_to_close : (Open → Bool) → State → State
expect_to_close p s = choose (current_is p s.open_elems) (λ _. pop_until p s) (λ _. pop_until p (parse_error s))

unfoldable pub remove_from_stack : ℕ → State → State
remove_from_stack n s = record s { open_elems = without_number n s.open_elems }

-- those whose end tags are not implied, or that are excepted
abbrev pub left_by_implied : TagSet → (Open → Bool) → List Open → List Open
left_by_implied implied except xs = left_from (λ x. not (is_in implied x) || except x) xs

abbrev pub nothing : Open → Bool
nothing x = false

unfoldable pub generate_implied_end_tags : TagSet → State → State
generate_implied_end_tags implied s = record s { open_elems = left_by_implied implied nothing s.open_elems }

-- the same, for all but elements that pass
unfoldable pub generate_implied_end_except : (Open → Bool) → State → State
generate_implied_end_except except s = record s { open_elems = left_by_implied set.CursoryImpliedEnd except s.open_elems }

-- "close a p element"
unfoldable pub close_p_element : State → State
close_p_element s = expect_to_close (is_in set.P) (generate_implied_end_except (is_in set.P) s)

unfoldable pub close_p_element_in_button_scope : State → State
close_p_element_in_button_scope s = choose (in_scope set.ButtonScope (is_in set.P) s.open_elems) (λ _. close_p_element s) (λ _. s)

-- the name of the first of these elements, up to a special one that does not pass
abbrev pub item_name : TagSet → List Open → Option (List ℕ)
item_name items [] = None
item_name items (x ∷ xs) =
    choose (is_in items x) (λ _. Some x.name)
    (λ _. choose (is_in set.SpecialTag x && not (is_in set.AddressDivP x)) (λ _. None) (λ _. item_name items xs))

abbrev pub close_item_named : Option (List ℕ) → State → State
close_item_named None s = s
close_item_named (Some name) s = expect_to_close (is_named name) (generate_implied_end_except (is_named name) s)

-- an item that a new one ends is closed: the nearest of `li`, or of `dd` and `dt`
unfoldable pub close_item : TagSet → State → State
close_item items s = close_item_named (item_name items s.open_elems) s

-- an element that passes is found before a special one
abbrev pub finds_generic : (Open → Bool) → List Open → Bool
finds_generic p [] = false
finds_generic p (x ∷ xs) = choose (p x) (λ _. true) (λ _. choose (is_in set.SpecialTag x) (λ _. false) (λ _. finds_generic p xs))

-- "any other end tag" (section 13.2.6.4.7)
unfoldable pub process_end_tag_in_body : List ℕ → State → State
process_end_tag_in_body name s =
    choose (finds_generic (is_named name) s.open_elems)
    (λ _. expect_to_close (is_named name) (generate_implied_end_except (is_named name) s))
    (λ _. parse_error s)

-- an error, if something is open that may not be where the body ends
unfoldable pub check_body_end : State → State
check_body_end s = choose (list_all (is_in set.BodyEnd) s.open_elems) (λ _. s) (λ _. parse_error s)

-- attributes that the root lacks are added to it
unfoldable pub add_attributes_to_root : List Attribute → State → State
add_attributes_to_root attributes s = record s { forest = add_attributes s.forest (root_number s.open_elems) attributes }

abbrev pub add_attributes_to : Option ℕ → List Attribute → State → State
add_attributes_to None attributes s = s
add_attributes_to (Some n) attributes s = record s { forest = add_attributes s.forest n attributes }

-- the same of the `body`
unfoldable pub add_attributes_to_body : List Attribute → State → State
add_attributes_to_body attributes s = add_attributes_to (body_elem s.open_elems) attributes s

abbrev pub remove_if : Option ℕ → State → State
remove_if None s = s
remove_if (Some n) s = record s { forest = remove s.forest n }

-- the `body` leaves its parent, and all but the root leave the stack
unfoldable pub remove_body : State → State
remove_body s = pop_until_current (is_in set.Html) (remove_if (body_elem s.open_elems) s)
