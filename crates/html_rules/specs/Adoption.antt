-- The adoption agency (HTML Standard, section 13.2.6.4.7, "the adoption agency algorithm").
use Rattle.std.specs.Prelude.{ℕ, zero, suc, Bool, true, false, ◌&&◌, not, List, [], ◌∷◌, ◌++◌, Option, Some, None, nat_eq, codes}
use Rattle.markup.specs.Forest.{Forest, Last, node_count, put, remove, reparent_children}
use Rattle.html_tokens.specs.declared.tags.Tag.{Tag}
use Rattle.html_rules.specs.Choice.{choose}
use Rattle.html_rules.specs.Formatting.{Listed, is_listed, last_named, put_after, with_in_place, without_entry}
use Rattle.html_rules.specs.Names.{Html}
use Rattle.html_rules.specs.Places.{place_for, with_element}
use Rattle.html_rules.specs.Stack.{in_scope, is_open, parse_error, pop, process_end_tag_in_body, remove_from_stack, left_below}
use Rattle.html_rules.specs.State.{Open, Entry, Element, Marker, State, is_in, is_named, current_is, current_node, current_number}
use Rattle.html_rules.specs.declared.rules.Rules.{Rules}
use Rattle.html_rules.specs.declared.tag_set.TagSet.TheVariants as set

-- whether an element is that of this number
abbrev pub is_number : ℕ → Open → Bool
is_number n x = nat_eq x.number n

-- the elements that were opened before one
abbrev pub opened_before : ℕ → List Open → List Open
opened_before n xs = left_below (is_number n) xs

-- the elements that were opened after one, the newest first
abbrev pub opened_after : ℕ → List Open → List Open
opened_after n [] = []
opened_after n (x ∷ xs) = choose (nat_eq x.number n) (λ _. []) (λ _. x ∷ opened_after n xs)

abbrev pub or_first : Option Open → Open → Option Open
or_first (Some deeper) x = Some deeper
or_first None x = choose (is_in set.SpecialTag x) (λ _. Some x) (λ _. None)

-- of the elements that were opened after the formatting element, the special one that was opened first ("furthest block")
abbrev pub furthest_block : List Open → Option Open
furthest_block [] = None
furthest_block (x ∷ xs) = or_first (furthest_block xs) x

-- The elements between the formatting element and the furthest block are gone through, from the block back.
pub record Walk : Type 0 where
  pub forest : Forest
  pub active_formatting : List Entry
  -- the copies so far, the first one first
  pub copies : List Open
  -- the last copy, or the furthest block
  pub last_node : ℕ
  pub rules : Rules

-- a forest with a new element, made for a tag
abbrev pub with_copy : Forest → Tag → Forest
with_copy f tag = with_element f Html tag.name tag.attrs tag.had_duplicate_attributes

abbrev pub opened_for : Rules → Forest → Tag → Open
opened_for rules f tag = record { number = node_count f; namespace = Html; name = tag.name; rules = rules }

-- an element is replaced by a copy that is made from its tag, and takes the last node as its child
abbrev pub copy_node : Listed → Walk → Walk
copy_node listed w = record {
  forest = put (remove (with_copy w.forest listed.tag) w.last_node) (Last (node_count w.forest)) w.last_node;
  active_formatting = with_in_place listed.number (Element (node_count w.forest) listed.tag) w.active_formatting;
  copies = w.copies ++ opened_for w.rules w.forest listed.tag ∷ [];
  last_node = node_count w.forest;
  rules = w.rules;
}

-- the entry of an element
abbrev pub listed_as : ℕ → List Entry → Option Listed
listed_as n [] = None
listed_as n (Marker ∷ entries) = listed_as n entries
listed_as n (Element m tag ∷ entries) = choose (nat_eq m n) (λ _. Some (record { number = m; tag = tag })) (λ _. listed_as n entries)

-- an unlisted element is left out
abbrev pub copy_if : Option Listed → Walk → Walk
copy_if None w = w
copy_if (Some listed) w = copy_node listed w

-- the first so many elements are copied, where they are listed; the others leave the list
abbrev pub walk : ℕ → List Open → Walk → Walk
walk left [] w = w
walk zero (x ∷ xs) w = walk zero xs (record w { active_formatting = without_entry x.number w.active_formatting })
walk (suc left) (x ∷ xs) w = walk left xs (copy_if (listed_as x.number w.active_formatting) w)

-- the new entry stands just after that of the first copy, and that of the formatting element leaves; without copies the new
-- entry takes its place
abbrev pub relist : ℕ → Entry → List Open → List Entry → List Entry
relist formatting_element new [] entries = with_in_place formatting_element new entries
relist formatting_element new (x ∷ copies) entries = without_entry formatting_element (put_after x.number new entries)

-- what one turn comes to: the state, and whether another turn follows
pub record Turned : Type 0 where
  pub state : State
  pub goes_on : Bool

-- after the walk: the last node is put at the place for the common ancestor, and a new element takes the children of the
-- block and becomes its only child
abbrev pub adopt : Listed → Open → Walk → State → State
adopt formatting_element block w s =
    let removed = remove w.forest w.last_node in
    let placed = put removed (place_for s.foster_parenting removed s.open_elems
    (current_node (opened_before formatting_element.number s.open_elems))) w.last_node in
    let moved = reparent_children (with_copy placed formatting_element.tag) block.number (node_count placed) in
    record s {
      forest = put moved (Last block.number) (node_count placed);
      active_formatting = relist formatting_element.number (Element (node_count placed) formatting_element.tag)
          w.copies w.active_formatting;
      open_elems = opened_after block.number s.open_elems ++ opened_for s.opts.rules placed formatting_element.tag ∷ block ∷
          w.copies ++ opened_before formatting_element.number s.open_elems;
    }

abbrev pub begin_walk : Open → State → Walk
begin_walk block s = record {
  forest = s.forest;
  active_formatting = s.active_formatting;
  copies = [];
  last_node = block.number;
  rules = s.opts.rules;
}

-- the elements between, from the block back
abbrev pub between : Listed → Open → State → List Open
between formatting_element block s = opened_after formatting_element.number (opened_before block.number s.open_elems)

-- the formatting element and all that was opened after it leave the stack, and its entry leaves the list
abbrev pub cut_at : Listed → State → State
cut_at formatting_element s = record s {
  open_elems = opened_before formatting_element.number s.open_elems;
  active_formatting = without_entry formatting_element.number s.active_formatting;
}

abbrev pub adopt_from : Listed → Option Open → State → Turned
adopt_from formatting_element None s = record { state = cut_at formatting_element s; goes_on = false }
adopt_from formatting_element (Some block) s =
    record { state = adopt formatting_element block (walk 3 (between formatting_element block s) (begin_walk block s)) s; goes_on = true }

-- an error, if the formatting element is not the current node
abbrev pub error_if_not_current : Listed → State → State
error_if_not_current formatting_element s = choose (current_is (is_number formatting_element.number) s.open_elems)
    (λ _. s) (λ _. parse_error s)

abbrev pub unlist : Listed → State → State
unlist formatting_element s = record s { active_formatting = without_entry formatting_element.number s.active_formatting }

abbrev pub adopt_open : Listed → State → Turned
adopt_open formatting_element s = adopt_from formatting_element
    (furthest_block (opened_after formatting_element.number s.open_elems)) (error_if_not_current formatting_element s)

abbrev pub adopt_listed : Option Listed → List ℕ → State → Turned
adopt_listed None name s = record { state = process_end_tag_in_body name s; goes_on = false }
adopt_listed (Some formatting_element) name s =
    choose (not (is_open formatting_element.number s.open_elems))
    (λ _. record { state = unlist formatting_element (parse_error s); goes_on = false })
    (λ _. choose (not (in_scope set.DefaultScope (is_number formatting_element.number) s.open_elems))
    (λ _. record { state = parse_error s; goes_on = false })
    (λ _. adopt_open formatting_element s))

-- one turn of the outer loop
unfoldable pub adoption_turn : List ℕ → State → Turned
adoption_turn name s = adopt_listed (last_named name s.active_formatting) name s

abbrev pub go_on : Turned → (State → State) → State
go_on turned go = choose turned.goes_on (λ _. go turned.state) (λ _. turned.state)

-- so many turns at most
unfoldable pub adoption_turns : ℕ → List ℕ → State → State
adoption_turns zero name s = s
adoption_turns (suc n) name s = go_on (adoption_turn name s) (adoption_turns n name)

-- a current node of that name that is not listed is popped; else at most eight turns
unfoldable pub adoption_agency : List ℕ → State → State
adoption_agency name s =
    choose (current_is (is_named name) s.open_elems && not (is_listed (current_number s.open_elems) s.active_formatting))
    (λ _. pop s)
    (λ _. adoption_turns 8 name s)

abbrev pub close_misnested : Option Listed → State → State
close_misnested None s = s
close_misnested (Some a) s = remove_from_stack a.number (unlist a (adoption_agency (codes "a") (parse_error s)))

-- an `a` that is listed since the last marker is closed by the adoption agency, and leaves list and stack
unfoldable pub handle_misnested_a_tags : State → State
handle_misnested_a_tags s = close_misnested (last_named (codes "a") s.active_formatting) s
