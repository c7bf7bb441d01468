-- Steps leave what was allowed.
use Rattle.std.proofs.Common.{ℕ, Bool, true, false, List, [], ◌∷◌, Option, Some, None, codes}
use Rattle.std.specs.Prelude.{◌&&◌, ◌||◌, not, nat_eq, nat_le, IfSome}
use Rattle.std.specs.List.{list_all}
use Rattle.markup.specs.Forest.{Forest, Last, data_of, node_count, with_node}
use Rattle.markup.specs.Forest.NodeData.{Comment, Doctype as DoctypeNode}
use Rattle.markup.specs.TreeLaws.{with_errors}
use Rattle.markup.specs.declared.attributes.Attribute.{Attribute}
use Rattle.markup.specs.declared.quirks.QuirksMode.{QuirksMode}
use Rattle.html_tokens.specs.declared.tags.Tag.{Tag}
use Rattle.html_tokens.specs.declared.token.Doctype.{Doctype}
use Rattle.html_rules.specs.Actions.{append_in_body, frameset_not_ok_unless_white, insert_pending_text, insert_table_text, push_head}
use Rattle.html_rules.specs.Actions.{push_head_elem, remove_from_stack_if, set_foster_parenting, set_quirks_mode}
use Rattle.html_rules.specs.Choice.{choose}
use Rattle.html_rules.specs.ForeignContent.{ForeignEnd, Dropped, AsInMode, Closed, close_foreign, close_foreign_by, ends_foreign_in}
use Rattle.html_rules.specs.ForeignContent.{enter_foreign, foreign_end}
use Rattle.html_rules.specs.ForeignContent.{foreign_end_from, foreign_start, foreign_start_at, is_html_element, is_named_any_case}
use Rattle.html_rules.specs.ForeignContent.{pop_foreign}
use Rattle.html_rules.specs.Formatting.{after_marker, clear_active_formatting_to_marker, count_equal, create_formatting_element_for}
use Rattle.html_rules.specs.Formatting.{is_equiv_modulo_attr_order, list_current, push_marker, reconstruct_active_formatting_elements}
use Rattle.html_rules.specs.Formatting.{reopen}
use Rattle.html_rules.specs.Formatting.{with_room, without_earliest}
use Rattle.html_rules.specs.Names.{Namespace, Html, element_name_of, flags_of}
use Rattle.html_rules.specs.Places.{append_comment, append_comment_to_doc, append_comment_to_html, append_doctype_to_document}
use Rattle.html_rules.specs.Places.{append_text, appropriate_place, create_root, insert_element, insert_element_for, open_element, or_empty}
use Rattle.html_rules.specs.Places.{put_element, with_element}
use Rattle.html_rules.specs.Renames.{adjust_attributes, adjust_tag_name}
use Rattle.html_rules.specs.Stack.{add_attributes_to, add_attributes_to_body, add_attributes_to_root, body_elem, check_body_end, close_item}
use Rattle.html_rules.specs.Stack.{close_item_named, close_p_element, close_p_element_in_button_scope, expect_to_close, finds_generic}
use Rattle.html_rules.specs.Stack.{generate_implied_end_except, generate_implied_end_tags, in_scope, is_open, item_name, left_below}
use Rattle.html_rules.specs.Stack.{left_from}
use Rattle.html_rules.specs.Stack.{nothing, parse_error, pop, pop_but_root, pop_until, pop_until_current, process_end_tag_in_body}
use Rattle.html_rules.specs.Stack.{remove_body, remove_from_stack}
use Rattle.html_rules.specs.Stack.{remove_if, root_number, without_current, without_current_but_root, without_number}
use Rattle.html_rules.specs.State.{Entry, Element, Marker, Open, State, adjusted_by, adjusted_current_node, current_is, current_number}
use Rattle.html_rules.specs.State.{is_in, is_named}
use Rattle.html_rules.specs.Templates.{attach_shadow_root, insert_template, may_be_shadow_root, number_of}
use Rattle.html_rules.specs.Tokens.{is_white}
use Rattle.html_rules.specs.declared.tag_set.TagSet.{TagSet}
use Rattle.html_rules.specs.declared.tag_set.TagSet.TheVariants as set
use Rattle.html_origins.specs.Allowed.{IsStateAllowed, Allowed, AreNodesAllowed, AreEntriesAllowed, AreOpenAllowed, MayCreate}
use Rattle.html_origins.proofs.Trees.{IsAdding, MayAdd, added-from, created-from, put-from, remove-from, text-from, with_node-from}

module _ (a : Allowed) where
  -- a step that leaves what was allowed
  abbrev pub Keeps : (State → State) → Type 0
  Keeps f = (s : State) → IsStateAllowed a s → IsStateAllowed a (f s)

  pub choose-from : (b : Bool) (x y : State) → IsStateAllowed a x → IsStateAllowed a y → IsStateAllowed a (choose b (λ _. x) (λ _. y))
  choose-from true x y h k = h
  choose-from false x y h k = k

  pub grown : (f : Forest) (s : State) → AreNodesAllowed a f → IsStateAllowed a s → IsStateAllowed a (record s { forest = f })
  grown f s h is = record { elements = h; listed = is.listed; opened = is.opened; context = is.context }

  -- of a tree in which nothing but its mode and its errors is other
  pub same-nodes : (f : Forest) → AreNodesAllowed a f → (mode : QuirksMode) (errors : ℕ)
      → AreNodesAllowed a (record f { quirks = mode; errors = errors })
  same-nodes f h mode errors = record { each = h.each; count = h.count }

  pub restacked : (xs : List Open) (s : State) → AreOpenAllowed a xs → IsStateAllowed a s → IsStateAllowed a (record s { open_elems = xs })
  restacked xs s h is = record { elements = is.elements; listed = is.listed; opened = h; context = is.context }

  pub relisted : (es : List Entry) (s : State) → AreEntriesAllowed a es → IsStateAllowed a s
      → IsStateAllowed a (record s { active_formatting = es })
  relisted es s h is = record { elements = is.elements; listed = h; opened = is.opened; context = is.context }

  -- ELEMENTS LEAVE

  choose-opened : (b : Bool) (xs ys : List Open) → AreOpenAllowed a xs → AreOpenAllowed a ys
      → AreOpenAllowed a (choose b (λ _. xs) (λ _. ys))
  choose-opened true xs ys h k = h
  choose-opened false xs ys h k = k

  pub below-opened : (p : Open → Bool) (xs : List Open) → AreOpenAllowed a xs → AreOpenAllowed a (left_below p xs)
  below-opened p [] h = tt
  below-opened p (x ∷ xs) h = choose-opened (p x) xs (left_below p xs) h.1 (below-opened p xs h.1)

  from-opened : (p : Open → Bool) (xs : List Open) → AreOpenAllowed a xs → AreOpenAllowed a (left_from p xs)
  from-opened p [] h = tt
  from-opened p (x ∷ xs) h = choose-opened (p x) (x ∷ xs) (left_from p xs) h (from-opened p xs h.1)

  number-opened : (n : ℕ) (xs : List Open) → AreOpenAllowed a xs → AreOpenAllowed a (without_number n xs)
  number-opened n [] h = tt
  number-opened n (x ∷ xs) h = choose-opened (nat_eq x.number n) xs (x ∷ without_number n xs) h.1 (h.0, number-opened n xs h.1)

  current-opened : (xs : List Open) → AreOpenAllowed a xs → AreOpenAllowed a (without_current xs)
  current-opened [] h = tt
  current-opened (x ∷ xs) h = h.1

  but_root-opened : (xs : List Open) → AreOpenAllowed a xs → AreOpenAllowed a (without_current_but_root xs)
  but_root-opened [] h = tt
  but_root-opened (x ∷ xs) h = choose-opened (is_in set.Html x) (x ∷ xs) xs h h.1

  pub error-from : Keeps parse_error
  unfolding parse_error
  error-from s is = grown _ s (same-nodes s.forest is.elements _ _) is

  pub pop-from : Keeps pop
  unfolding pop
  pop-from s is = restacked _ s (current-opened s.open_elems is.opened) is

  pub pop_but_root-from : Keeps pop_but_root
  unfolding pop_but_root
  pop_but_root-from s is = restacked _ s (but_root-opened s.open_elems is.opened) is

  pub pop_until-from : (p : Open → Bool) → Keeps (pop_until p)
  unfolding pop_until
  pop_until-from p s is = restacked _ s (below-opened p s.open_elems is.opened) is

  pub pop_until_current-from : (p : Open → Bool) → Keeps (pop_until_current p)
  unfolding pop_until_current
  pop_until_current-from p s is = restacked _ s (from-opened p s.open_elems is.opened) is

  pub expect-from : (p : Open → Bool) → Keeps (expect_to_close p)
  unfolding expect_to_close
  expect-from p s is = choose-from (current_is p s.open_elems) (pop_until p s) (pop_until p (parse_error s))
      (pop_until-from p s is) (pop_until-from p (parse_error s) (error-from s is))

  pub unstacked-from : (n : ℕ) → Keeps (remove_from_stack n)
  unfolding remove_from_stack
  unstacked-from n s is = restacked _ s (number-opened n s.open_elems is.opened) is

  pub unstacked_if-from : (o : Option ℕ) → Keeps (remove_from_stack_if o)
  unstacked_if-from None s is = is
  unstacked_if-from (Some n) s is = unstacked-from n s is

  pub implied-from : (implied : TagSet) → Keeps (generate_implied_end_tags implied)
  unfolding generate_implied_end_tags
  implied-from implied s is = restacked _ s (from-opened (λ x. not (is_in implied x) || nothing x) s.open_elems is.opened) is

  pub except-from : (except : Open → Bool) → Keeps (generate_implied_end_except except)
  unfolding generate_implied_end_except
  except-from except s is = restacked _ s (from-opened (λ x. not (is_in set.CursoryImpliedEnd x) || except x) s.open_elems is.opened) is

  close_p_element-from : Keeps close_p_element
  unfolding close_p_element
  close_p_element-from s is = expect-from (is_in set.P) (generate_implied_end_except (is_in set.P) s) (except-from (is_in set.P) s is)

  pub close_p-from : Keeps close_p_element_in_button_scope
  unfolding close_p_element_in_button_scope
  close_p-from s is = choose-from (in_scope set.ButtonScope (is_in set.P) s.open_elems) (close_p_element s) s (close_p_element-from s is) is

  item-from : (o : Option (List ℕ)) → Keeps (close_item_named o)
  item-from None s is = is
  item-from (Some name) s is = expect-from (is_named name) (generate_implied_end_except (is_named name) s)
      (except-from (is_named name) s is)

  pub close_item-from : (items : TagSet) → Keeps (close_item items)
  unfolding close_item
  close_item-from items s is = item-from (item_name items s.open_elems) s is

  pub generic-from : (name : List ℕ) → Keeps (process_end_tag_in_body name)
  unfolding process_end_tag_in_body
  generic-from name s is =
      choose-from (finds_generic (is_named name) s.open_elems)
      (expect_to_close (is_named name) (generate_implied_end_except (is_named name) s))
      (parse_error s)
      (expect-from (is_named name) (generate_implied_end_except (is_named name) s) (except-from (is_named name) s is)) (error-from s is)

  pub body_end-from : Keeps check_body_end
  unfolding check_body_end
  body_end-from s is = choose-from (list_all (is_in set.BodyEnd) s.open_elems) s (parse_error s) is (error-from s is)

  -- TEXTS AND COMMENTS

  pub text_put-from : (text : List ℕ) → Keeps (append_text text)
  unfolding append_text
  text_put-from text s is = grown _ s (text-from a s.forest (appropriate_place s s.forest) text is.elements) is

  pub comment-from : (text : List ℕ) → Keeps (append_comment text)
  unfolding append_comment
  comment-from text s is = grown _ s (put-from a (with_node s.forest (Comment text))
      (appropriate_place s (with_node s.forest (Comment text))) (node_count s.forest)
      (with_node-from a s.forest (Comment text) is.elements tt)) is

  pub comment_to_doc-from : (text : List ℕ) → Keeps (append_comment_to_doc text)
  unfolding append_comment_to_doc
  comment_to_doc-from text s is = grown _ s (put-from a (with_node s.forest (Comment text)) (Last 0) (node_count s.forest)
      (with_node-from a s.forest (Comment text) is.elements tt)) is

  pub comment_to_html-from : (text : List ℕ) → Keeps (append_comment_to_html text)
  unfolding append_comment_to_html
  comment_to_html-from text s is =
      grown _ s (put-from a (with_node s.forest (Comment text)) (Last (root_number s.open_elems)) (node_count s.forest)
      (with_node-from a s.forest (Comment text) is.elements tt)) is

  pub doctype-from : (d : Doctype) → Keeps (append_doctype_to_document d)
  unfolding append_doctype_to_document
  doctype-from d s is = grown _ s (put-from a (with_node s.forest
      (DoctypeNode (or_empty d.name) (or_empty d.public_id) (or_empty d.system_id))) (Last 0) (node_count s.forest)
      (with_node-from a s.forest (DoctypeNode (or_empty d.name) (or_empty d.public_id) (or_empty d.system_id)) is.elements tt)) is

  pub quirks-from : (mode : QuirksMode) → Keeps (set_quirks_mode mode)
  unfolding set_quirks_mode
  quirks-from mode s is = record {
    elements = same-nodes s.forest is.elements _ _;
    listed = is.listed;
    opened = is.opened;
    context =
        is.context;
  }

  -- ELEMENTS COME

  pub element-from : (f : Forest) (namespace : Namespace) (name : List ℕ) (attributes : List Attribute) (dup : Bool)
      → MayCreate a namespace name attributes → AreNodesAllowed a f → AreNodesAllowed a (with_element f namespace name attributes dup)
  element-from f namespace name attributes dup has h =
      created-from a f (element_name_of namespace name) attributes (flags_of namespace name attributes dup) h has

  pub put_element-from : (namespace : Namespace) (name : List ℕ) (attributes : List Attribute) (dup : Bool)
      → MayCreate a namespace name attributes → Keeps (put_element namespace name attributes dup)
  unfolding put_element
  put_element-from namespace name attributes dup has s is =
      grown _ s (put-from a (with_element s.forest namespace name attributes dup)
      (appropriate_place s (with_element s.forest namespace name attributes dup)) (node_count s.forest)
      (element-from s.forest namespace name attributes dup has is.elements)) is

  pub insert_element-from : (namespace : Namespace) (name : List ℕ) (attributes : List Attribute) (dup : Bool)
      → a.namespace namespace → MayCreate a namespace name attributes → Keeps (insert_element namespace name attributes dup)
  unfolding insert_element
  insert_element-from namespace name attributes dup known has s is = record {
    elements = put-from a (with_element s.forest namespace name attributes dup)
        (appropriate_place s (with_element s.forest namespace name attributes dup)) (node_count s.forest)
        (element-from s.forest namespace name attributes dup has is.elements);
    listed = is.listed;
    opened = (known, is.opened);
    context = is.context;
  }

  pub open_element-from : (namespace : Namespace) (name : List ℕ) (attributes : List Attribute) (dup : Bool)
      → a.namespace namespace → MayCreate a namespace name attributes → Keeps (open_element namespace name attributes dup)
  unfolding open_element
  open_element-from namespace name attributes dup known has s is = record {
    elements = element-from s.forest namespace name attributes dup has is.elements;
    listed = is.listed;
    opened = (known, is.opened);
    context = is.context;
  }

  pub create_root-from : (attributes : List Attribute) → a.namespace Html → MayCreate a Html (codes "html") attributes
      → Keeps (create_root attributes)
  unfolding create_root
  create_root-from attributes known has s is = record {
    elements = put-from a (with_element s.forest Html (codes "html") attributes false) (Last 0) (node_count s.forest)
        (element-from s.forest Html (codes "html") attributes false has is.elements);
    listed = is.listed;
    opened = (known, is.opened);
    context = is.context;
  }

  -- FORMATTING ELEMENTS

  pub choose-listed : (b : Bool) (xs ys : List Entry) → AreEntriesAllowed a xs → AreEntriesAllowed a ys
      → AreEntriesAllowed a (choose b (λ _. xs) (λ _. ys))
  choose-listed true xs ys h k = h
  choose-listed false xs ys h k = k

  earliest-listed : (tag : Tag) (es : List Entry) → AreEntriesAllowed a es → AreEntriesAllowed a (without_earliest tag es)
  earliest-listed tag [] h = tt
  earliest-listed tag (Marker ∷ es) h = h
  earliest-listed tag (Element n other ∷ es) h =
      choose-listed (is_equiv_modulo_attr_order tag other && nat_eq (count_equal tag es) 0) es
      (Element n other ∷ without_earliest tag es) h.1 (h.0, earliest-listed tag es h.1)

  room-listed : (tag : Tag) (es : List Entry) → AreEntriesAllowed a es → AreEntriesAllowed a (with_room tag es)
  room-listed tag es h = choose-listed (nat_le 3 (count_equal tag es)) (without_earliest tag es) es (earliest-listed tag es h) h

  pub insert_for-from : (tag : Tag) → a.namespace Html → MayCreate a Html tag.name tag.attrs → Keeps (insert_element_for tag)
  insert_for-from tag known has s is = insert_element-from Html tag.name tag.attrs tag.had_duplicate_attributes known has s is

  listed-from : (tag : Tag) → a.namespace Html → MayCreate a Html tag.name tag.attrs
      → Keeps (λ s. list_current tag (insert_element_for tag s))
  listed-from tag known has s is =
      let r : State = insert_element_for tag s in
      let k : IsStateAllowed a r = insert_for-from tag known has s is in
      relisted (Element (current_number r.open_elems) tag ∷ r.active_formatting) r (has, k.listed) k

  pub formatting-from : (tag : Tag) → a.namespace Html → MayCreate a Html tag.name tag.attrs → Keeps (create_formatting_element_for tag)
  unfolding create_formatting_element_for
  formatting-from tag known has s is = listed-from tag known has (record s { active_formatting = with_room tag s.active_formatting })
      (relisted (with_room tag s.active_formatting) s (room-listed tag s.active_formatting is.listed) is)

  pub marker-from : Keeps push_marker
  unfolding push_marker
  marker-from s is = relisted (Marker ∷ s.active_formatting) s is.listed is

  behind-listed : (es : List Entry) → AreEntriesAllowed a es → AreEntriesAllowed a (after_marker es)
  behind-listed [] h = tt
  behind-listed (Marker ∷ es) h = h
  behind-listed (Element n tag ∷ es) h = behind-listed es h.1

  pub clear-from : Keeps clear_active_formatting_to_marker
  unfolding clear_active_formatting_to_marker
  clear-from s is = relisted (after_marker s.active_formatting) s (behind-listed s.active_formatting is.listed) is

  reopen-from : (es : List Entry) (s : State) → a.namespace Html → AreEntriesAllowed a es → IsStateAllowed a s
      → IsStateAllowed a (reopen es s)
  reopen-from [] s known h is = relisted [] s tt is
  reopen-from (Marker ∷ es) s known h is = relisted (Marker ∷ es) s h is
  reopen-from (Element n tag ∷ es) s known h is =
      choose-from (is_open n s.open_elems) (record s { active_formatting = Element n tag ∷ es })
      (list_current tag (insert_element_for tag (reopen es s)))
      (relisted (Element n tag ∷ es) s h is)
      (listed-from tag known h.0 (reopen es s) (reopen-from es s known h.1 is))

  pub reconstruct-from : a.namespace Html → Keeps reconstruct_active_formatting_elements
  unfolding reconstruct_active_formatting_elements
  reconstruct-from known s is = reopen-from s.active_formatting s known is.listed is

  -- THE REST

  -- the element that was opened first may take the attributes of a tag of that name
  abbrev pub IsRootAdding : List ℕ → State → Type 0
  IsRootAdding tag s = IsAdding a tag (data_of s.forest (root_number s.open_elems))

  -- so may the `body`
  abbrev pub IsBodyAdding : List ℕ → State → Type 0
  IsBodyAdding tag s = IfSome (body_elem s.open_elems) (λ n. IsAdding a tag (data_of s.forest n))

  attributes-from : (o : Option ℕ) (tag : List ℕ) (attributes : List Attribute) → MayAdd a tag attributes → (s : State)
      → IfSome o (λ n. IsAdding a tag (data_of s.forest n)) → IsStateAllowed a s → IsStateAllowed a (add_attributes_to o attributes s)
  attributes-from None tag attributes more s fits is = is
  attributes-from (Some n) tag attributes more s fits is = grown _ s (added-from a s.forest n tag attributes more fits is.elements) is

  pub root_attributes-from : (tag : List ℕ) (attributes : List Attribute) → MayAdd a tag attributes → (s : State) → IsRootAdding tag s
      → IsStateAllowed a s → IsStateAllowed a (add_attributes_to_root attributes s)
  unfolding add_attributes_to_root
  root_attributes-from tag attributes more s fits is =
      grown _ s (added-from a s.forest (root_number s.open_elems) tag attributes more fits is.elements) is

  pub body_attributes-from : (tag : List ℕ) (attributes : List Attribute) → MayAdd a tag attributes → (s : State) → IsBodyAdding tag s
      → IsStateAllowed a s → IsStateAllowed a (add_attributes_to_body attributes s)
  unfolding add_attributes_to_body
  body_attributes-from tag attributes more s fits is = attributes-from (body_elem s.open_elems) tag attributes more s fits is

  removed-from : (o : Option ℕ) → Keeps (remove_if o)
  removed-from None s is = is
  removed-from (Some n) s is = grown _ s (remove-from a s.forest n is.elements) is

  pub remove_body-from : Keeps remove_body
  unfolding remove_body
  remove_body-from s is = pop_until_current-from (is_in set.Html) (remove_if (body_elem s.open_elems) s)
      (removed-from (body_elem s.open_elems) s is)

  head-from : (o : Option ℕ) → a.namespace Html → Keeps (push_head o)
  head-from None known s is = is
  head-from (Some n) known s is = restacked _ s (known, is.opened) is

  pub push_head-from : a.namespace Html → Keeps push_head_elem
  unfolding push_head_elem
  push_head-from known s is = head-from s.head_elem known s is

  shadow-from : (tag : Tag) (host : ℕ) → a.namespace Html → MayCreate a Html tag.name tag.attrs → Keeps (attach_shadow_root tag host)
  shadow-from tag host known has s is =
      choose-from (s.answers.attaches_shadow (with_errors 0 s.forest) host (current_number s.open_elems) tag.attrs) s
      (insert_element_for tag (pop s)) is (insert_for-from tag known has (pop s) (pop-from s is))

  pub template-from : (tag : Tag) → a.namespace Html → MayCreate a Html tag.name tag.attrs → Keeps (insert_template tag)
  unfolding insert_template
  template-from tag known has s is =
      let r : State = open_element Html tag.name tag.attrs tag.had_duplicate_attributes s in
      choose-from (may_be_shadow_root tag s) (attach_shadow_root tag (number_of (adjusted_current_node s)) r) (insert_element_for tag s)
      (shadow-from tag (number_of (adjusted_current_node s)) known has r
      (open_element-from Html tag.name tag.attrs tag.had_duplicate_attributes known has s is))
      (insert_for-from tag known has s is)

  -- FOREIGN CONTENT

  pub enter-from : (namespace : Namespace) (tag : Tag) → a.namespace namespace
      → MayCreate a namespace tag.name (adjust_attributes namespace tag.attrs) → Keeps (enter_foreign namespace tag)
  unfolding enter_foreign
  enter-from namespace tag known has s is =
      choose-from tag.self_closing
      (put_element namespace tag.name (adjust_attributes namespace tag.attrs) tag.had_duplicate_attributes s)
      (insert_element namespace tag.name (adjust_attributes namespace tag.attrs) tag.had_duplicate_attributes s)
      (put_element-from namespace tag.name (adjust_attributes namespace tag.attrs) tag.had_duplicate_attributes has s is)
      (insert_element-from namespace tag.name (adjust_attributes namespace tag.attrs) tag.had_duplicate_attributes known has s is)

  -- a tag is allowed in each namespace that is open
  abbrev pub IsForeignFrom : Tag → Type 0
  IsForeignFrom tag = (namespace : Namespace) → a.namespace namespace
      → MayCreate a namespace (adjust_tag_name namespace tag.name) (adjust_attributes namespace tag.attrs)

  adjusted-known : (context : Option Open) (xs : List Open) → IfSome context (λ x. a.namespace x.namespace) → AreOpenAllowed a xs
      → IfSome (adjusted_by context xs) (λ x. a.namespace x.namespace)
  adjusted-known None [] c h = tt
  adjusted-known (Some context) [] c h = tt
  adjusted-known None (x ∷ xs) c h = h.0
  adjusted-known (Some context) (x ∷ []) c h = c
  adjusted-known (Some context) (x ∷ y ∷ ys) c h = h.0

  foreign_at-from : (o : Option Open) (tag : Tag) → IfSome o (λ x. a.namespace x.namespace) → IsForeignFrom tag
      → Keeps (foreign_start_at o tag)
  foreign_at-from None tag known has s is = is
  foreign_at-from (Some x) tag known has s is =
      enter-from x.namespace (record tag { name = adjust_tag_name x.namespace tag.name }) known (has x.namespace known) s is

  pub foreign-from : (tag : Tag) → IsForeignFrom tag → Keeps (foreign_start tag)
  unfolding foreign_start
  foreign-from tag has s is = foreign_at-from (adjusted_current_node s) tag
      (adjusted-known s.context_elem s.open_elems is.context is.opened) has s is

  pub pop_foreign-from : Keeps pop_foreign
  unfolding pop_foreign
  pop_foreign-from s is = pop_until_current-from (ends_foreign_in s) s is

  abbrev IsLeft : ForeignEnd → Type 0
  IsLeft (Closed left) = AreOpenAllowed a left
  IsLeft Dropped = Unit {0}
  IsLeft AsInMode = Unit {0}

  choose-left : (b : Bool) (x y : ForeignEnd) → IsLeft x → IsLeft y → IsLeft (choose b (λ _. x) (λ _. y))
  choose-left true x y h k = h
  choose-left false x y h k = k

  left-from : (first : Bool) (name : List ℕ) (xs : List Open) → AreOpenAllowed a xs → IsLeft (foreign_end_from first name xs)
  left-from first name [] h = tt
  left-from first name (x ∷ []) h = tt
  left-from first name (x ∷ y ∷ ys) h =
      choose-left (not first && is_html_element x) AsInMode
      (choose (is_named_any_case name x) (λ _. Closed (y ∷ ys)) (λ _. foreign_end_from false name (y ∷ ys))) tt
      (choose-left (is_named_any_case name x) (Closed (y ∷ ys)) (foreign_end_from false name (y ∷ ys)) h.1
      (left-from false name (y ∷ ys) h.1))

  closed-from : (e : ForeignEnd) → IsLeft e → Keeps (close_foreign_by e)
  closed-from (Closed left) h s is = restacked left s h is
  closed-from Dropped h s is = is
  closed-from AsInMode h s is = is

  pub close_foreign-from : (name : List ℕ) → Keeps (close_foreign name)
  unfolding close_foreign foreign_end
  close_foreign-from name s is = closed-from (foreign_end_from true name s.open_elems) (left-from true name s.open_elems is.opened) s is

  -- TEXT IN TABLES

  in_body-from : (text : List ℕ) → a.namespace Html → Keeps (append_in_body text)
  unfolding frameset_not_ok_unless_white
  in_body-from text known s is =
      let r : State = reconstruct_active_formatting_elements s in
      let k : IsStateAllowed a r = reconstruct-from known s is in
      text_put-from text (frameset_not_ok_unless_white text r)
      (record { elements = k.elements; listed = k.listed; opened = k.opened; context = k.context })

  foster-from : (b : Bool) → Keeps (set_foster_parenting b)
  unfolding set_foster_parenting
  foster-from b s is = record { elements = is.elements; listed = is.listed; opened = is.opened; context = is.context }

  table_text-from : (text : List ℕ) → a.namespace Html → Keeps (insert_table_text text)
  table_text-from text known s is =
      choose-from (is_white text) (append_text text s) (set_foster_parenting false
      (append_in_body text (set_foster_parenting true (parse_error s))))
      (text_put-from text s is)
      (foster-from false (append_in_body text (set_foster_parenting true (parse_error s)))
      (in_body-from text known (set_foster_parenting true (parse_error s)) (foster-from true (parse_error s) (error-from s is))))

  pub pending-from : a.namespace Html → Keeps insert_pending_text
  unfolding insert_pending_text
  pending-from known s is =
      let k = table_text-from s.pending_table_text known s is in
      record { elements = k.elements; listed = k.listed; opened = k.opened; context = k.context }
