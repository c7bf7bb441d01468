-- The list of active formatting elements (HTML Standard, section 13.2.4.3). The newest entry is first.
use Rattle.std.specs.Prelude.{ℕ, suc, Bool, true, false, ◌||◌, ◌&&◌, nat_eq, nat_le, length, List, [], ◌∷◌, Option, Some, None}
use Rattle.std.specs.Str.{bytes_eq}
use Rattle.markup.specs.Attributes.{have_same_counts}
use Rattle.html_tokens.specs.declared.tags.Tag.{Tag}
use Rattle.html_tokens.specs.declared.tags.TagKind.{TagKind}
use Rattle.html_tokens.specs.declared.tags.TagKind.TheVariants.{StartTag, EndTag}
use Rattle.html_rules.specs.Choice.{choose}
use Rattle.html_rules.specs.Places.{insert_element_for}
use Rattle.html_rules.specs.Stack.{is_open}
use Rattle.html_rules.specs.State.{Entry, Element, Marker, State, current_number}

abbrev pub stands_for : ℕ → Entry → Bool
stands_for n (Element m tag) = nat_eq m n
stands_for n Marker = false

-- whether an element is listed
abbrev pub is_listed : ℕ → List Entry → Bool
is_listed n [] = false
is_listed n (entry ∷ entries) = stands_for n entry || is_listed n entries

-- the entries without that of an element
abbrev pub without_entry : ℕ → List Entry → List Entry
without_entry n [] = []
without_entry n (entry ∷ entries) = choose (stands_for n entry) (λ _. entries) (λ _. entry ∷ without_entry n entries)

-- an element's entry gives way to another
abbrev pub with_in_place : ℕ → Entry → List Entry → List Entry
with_in_place n other [] = []
with_in_place n other (entry ∷ entries) = choose (stands_for n entry) (λ _. other ∷ entries) (λ _. entry ∷ with_in_place n other entries)

-- an entry, put just after that of an element
abbrev pub put_after : ℕ → Entry → List Entry → List Entry
put_after n new [] = []
put_after n new (entry ∷ entries) = choose (stands_for n entry) (λ _. new ∷ entry ∷ entries) (λ _. entry ∷ put_after n new entries)

-- the last entry since the last marker whose tag has this name: its element and its tag
pub record Listed : Type 0 where
  pub number : ℕ
  pub tag : Tag

abbrev pub last_named : List ℕ → List Entry → Option Listed
last_named name [] = None
last_named name (Marker ∷ entries) = None
last_named name (Element n tag ∷ entries) = choose (bytes_eq tag.name name)
    (λ _. Some (record { number = n; tag = tag })) (λ _. last_named name entries)

abbrev pub same_kind : TagKind → TagKind → Bool
same_kind StartTag StartTag = true
same_kind EndTag EndTag = true
same_kind _ _ = false

-- one kind, one name, and the same attributes in some order
abbrev pub is_equiv_modulo_attr_order : Tag → Tag → Bool
is_equiv_modulo_attr_order a b = same_kind a.kind b.kind && bytes_eq a.name b.name && nat_eq (length a.attrs)
    (length b.attrs) && have_same_counts a.attrs b.attrs

-- how many entries since the last marker are equal to a tag
abbrev pub count_equal : Tag → List Entry → ℕ
count_equal tag [] = 0
count_equal tag (Marker ∷ entries) = 0
count_equal tag (Element n other ∷ entries) = choose (is_equiv_modulo_attr_order tag other)
    (λ _. suc (count_equal tag entries)) (λ _. count_equal tag entries)

-- the entries without the earliest of these
abbrev pub without_earliest : Tag → List Entry → List Entry
without_earliest tag [] = []
without_earliest tag (Marker ∷ entries) = Marker ∷ entries
without_earliest tag (Element n other ∷ entries) =
    choose (is_equiv_modulo_attr_order tag other && nat_eq (count_equal tag entries) 0) (λ _. entries)
    (λ _. Element n other ∷ without_earliest tag entries)

-- at most three equal entries since a marker ("push onto the list of active formatting elements")
abbrev pub with_room : Tag → List Entry → List Entry
with_room tag entries = choose (nat_le 3 (count_equal tag entries)) (λ _. without_earliest tag entries) (λ _. entries)

-- the current node is listed
abbrev pub list_current : Tag → State → State
list_current tag s = record s { active_formatting = Element (current_number s.open_elems) tag ∷ s.active_formatting }

-- an element is inserted for a tag, and listed
unfoldable pub create_formatting_element_for : Tag → State → State
create_formatting_element_for tag s = list_current tag
    (insert_element_for tag (record s { active_formatting = with_room tag s.active_formatting }))

unfoldable pub push_marker : State → State
push_marker s = record s { active_formatting = Marker ∷ s.active_formatting }

abbrev pub after_marker : List Entry → List Entry
after_marker [] = []
after_marker (Marker ∷ entries) = entries
after_marker (Element n tag ∷ entries) = after_marker entries

-- "clear the list of active formatting elements up to the last marker"
unfoldable pub clear_active_formatting_to_marker : State → State
clear_active_formatting_to_marker s = record s { active_formatting = after_marker s.active_formatting }

-- with these entries at the end of the list: each after the last one that is a marker or open is inserted again, in order
abbrev pub reopen : List Entry → State → State
reopen [] s = record s { active_formatting = [] }
reopen (Marker ∷ entries) s = record s { active_formatting = Marker ∷ entries }
reopen (Element n tag ∷ entries) s =
    choose (is_open n s.open_elems)
    (λ _. record s { active_formatting = Element n tag ∷ entries })
    (λ _. list_current tag (insert_element_for tag (reopen entries s)))

-- "reconstruct the active formatting elements"
unfoldable pub reconstruct_active_formatting_elements : State → State
reconstruct_active_formatting_elements s = reopen s.active_formatting s
