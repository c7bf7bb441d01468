-- Where nodes are put (HTML Standard, section 13.2.6.1).
use Rattle.std.specs.Prelude.{ℕ, ◌+◌, Bool, false, ◌&&◌, codes, List, [], ◌∷◌, Option, Some, None}
use Rattle.markup.specs.Forest.{Forest, Place, Last, place_near, create_element, node_count, parent_of, put, put_text, with_node}
use Rattle.markup.specs.Forest.NodeData.{Comment, Doctype as DoctypeNode}
use Rattle.markup.specs.declared.attributes.Attribute.{Attribute}
use Rattle.html_tokens.specs.declared.tags.Tag.{Tag}
use Rattle.html_tokens.specs.declared.token.Doctype.{Doctype}
use Rattle.html_rules.specs.Choice.{choose}
use Rattle.html_rules.specs.Names.{Namespace, Html, element_name_of, flags_of}
use Rattle.html_rules.specs.Stack.{root_number}
use Rattle.html_rules.specs.State.{Open, State, is_in, current_node, current_number}
use Rattle.html_rules.specs.declared.tag_set.TagSet.TheVariants as set

-- last in an element, or in the contents of a template
abbrev pub inside : Open → Place
inside x = choose (is_in set.Template x) (λ _. Last (x.number + 1)) (λ _. Last x.number)

-- where foster parenting puts: in the nearest template, before the nearest table, or in the root
abbrev pub foster_place : Forest → ℕ → List Open → Place
foster_place f root [] = Last root
foster_place f root (x ∷ xs) =
    choose (is_in set.Template x) (λ _. Last (x.number + 1))
    (λ _. choose (is_in set.Table x) (λ _. place_near x.number (current_number xs) (parent_of f x.number))
    (λ _. foster_place f root xs))

-- "the appropriate place for inserting a node", for a target
abbrev pub place_for : Bool → Forest → List Open → Option Open → Place
place_for foster f xs None = Last 0
place_for foster f xs (Some target) = choose (foster && is_in set.FosterTarget target)
    (λ _. foster_place f (root_number xs) xs) (λ _. inside target)

-- the same, for the current node
abbrev pub appropriate_place : State → Forest → Place
appropriate_place s f = place_for s.foster_parenting f s.open_elems (current_node s.open_elems)

-- a forest with a new element
abbrev pub with_element : Forest → Namespace → List ℕ → List Attribute → Bool → Forest
with_element f namespace name attributes had_duplicate_attributes = create_element f
    (element_name_of namespace name) attributes (flags_of namespace name attributes had_duplicate_attributes)

-- a forest with a node, put at the appropriate place
abbrev pub put_appropriately : State → Forest → ℕ → Forest
put_appropriately s f n = put f (appropriate_place s f) n

-- the element that is created next
abbrev pub next_open : State → Namespace → List ℕ → Open
next_open s namespace name =
    record { number = node_count s.forest; namespace = namespace; name = name; rules = s.opts.rules }

-- an element is created and put at the appropriate place
unfoldable pub put_element : Namespace → List ℕ → List Attribute → Bool → State → State
put_element namespace name attributes had_duplicate_attributes s = record s {
  forest = put_appropriately s (with_element s.forest namespace name attributes had_duplicate_attributes) (node_count s.forest);
}

-- an element is created, put at the appropriate place and opened ("insert a foreign element")
unfoldable pub insert_element : Namespace → List ℕ → List Attribute → Bool → State → State
insert_element namespace name attributes had_duplicate_attributes s = record s {
  forest = put_appropriately s (with_element s.forest namespace name attributes had_duplicate_attributes) (node_count s.forest);
  open_elems = next_open s namespace name ∷ s.open_elems;
}

-- an element is created and opened without being put anywhere
unfoldable pub open_element : Namespace → List ℕ → List Attribute → Bool → State → State
open_element namespace name attributes had_duplicate_attributes s = record s {
  forest = with_element s.forest namespace name attributes had_duplicate_attributes;
  open_elems = next_open s namespace name ∷ s.open_elems;
}

-- "insert an HTML element" for a tag
abbrev pub insert_element_for : Tag → State → State
insert_element_for tag s = insert_element Html tag.name tag.attrs tag.had_duplicate_attributes s

-- the same, not opened ("insert an HTML element" and "immediately pop the current node")
abbrev pub insert_and_pop_element_for : Tag → State → State
insert_and_pop_element_for tag s = put_element Html tag.name tag.attrs tag.had_duplicate_attributes s

-- an HTML element without a tag of its own
abbrev pub insert_phantom : List ℕ → State → State
insert_phantom name s = insert_element Html name [] false s

-- the root, in the document
unfoldable pub create_root : List Attribute → State → State
create_root attributes s = record s {
  forest = put (with_element s.forest Html (codes "html") attributes false) (Last 0) (node_count s.forest);
  open_elems = next_open s Html (codes "html") ∷ s.open_elems;
}

-- "insert a character", of several
unfoldable pub append_text : List ℕ → State → State
append_text text s = record s { forest = put_text s.forest (appropriate_place s s.forest) text }

-- "insert a comment"
unfoldable pub append_comment : List ℕ → State → State
append_comment text s = record s { forest = put_appropriately s (with_node s.forest (Comment text)) (node_count s.forest) }

-- a comment, last in the document
unfoldable pub append_comment_to_doc : List ℕ → State → State
append_comment_to_doc text s = record s { forest = put (with_node s.forest (Comment text)) (Last 0) (node_count s.forest) }

-- a comment, last in the root
unfoldable pub append_comment_to_html : List ℕ → State → State
append_comment_to_html text s =
    record s { forest = put (with_node s.forest (Comment text)) (Last (root_number s.open_elems)) (node_count s.forest) }

abbrev pub or_empty : Option (List ℕ) → List ℕ
or_empty None = []
or_empty (Some text) = text

-- a doctype, last in the document; missing parts are empty
unfoldable pub append_doctype_to_document : Doctype → State → State
append_doctype_to_document d s = record s {
  forest = put (with_node s.forest (DoctypeNode (or_empty d.name) (or_empty d.public_id) (or_empty d.system_id)))
      (Last 0) (node_count s.forest);
}
