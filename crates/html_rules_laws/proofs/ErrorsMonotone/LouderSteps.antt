-- Each step leaves the number of errors as it is, but for counting one on, and does not look at it.
use Rattle.std.proofs.Common.{◌≡◌, ◌∙◌, ℕ, Bool, true, false, List, [], ◌∷◌, Option, Some, None, refl, sym, ap, codes}
use Rattle.std.specs.Prelude.{◌&&◌, ◌+◌}
use Rattle.std.specs.List.{list_all}
use Rattle.markup.specs.Forest.NodeData.{Comment}
use Rattle.markup.specs.Forest.{Forest, Last, Place, node_count, parent_of, place_near, put, with_node, put_text, remove}
use Rattle.markup.specs.TreeLaws.{LeavesErrors, with_errors}
use Rattle.markup.specs.declared.attributes.Attribute.{Attribute}
use Rattle.markup.proofs.ErrorsApart.{errors-apart}
use Rattle.html_tokens.specs.declared.tags.Tag.{Tag}
use Rattle.html_tokens.specs.declared.token.Doctype.{Doctype}
use Rattle.html_rules.specs.Choice.{choose}
use Rattle.html_rules.specs.Formatting.{clear_active_formatting_to_marker, create_formatting_element_for, list_current}
use Rattle.html_rules.specs.Formatting.{push_marker, reconstruct_active_formatting_elements, reopen, with_room}
use Rattle.html_rules.specs.Names.{Namespace, Html, element_name_of, flags_of}
use Rattle.html_rules.specs.Places.{append_comment, append_comment_to_doc, append_comment_to_html, append_doctype_to_document}
use Rattle.html_rules.specs.Places.{append_text, appropriate_place, create_root, foster_place, insert_element}
use Rattle.html_rules.specs.Places.{insert_element_for, inside, next_open, open_element, place_for, put_appropriately}
use Rattle.html_rules.specs.Places.{put_element, with_element}
use Rattle.html_rules.specs.Stack.{add_attributes_to, add_attributes_to_body, add_attributes_to_root, body_elem, check_body_end}
use Rattle.html_rules.specs.Stack.{close_item, close_item_named, close_p_element, close_p_element_in_button_scope}
use Rattle.html_rules.specs.Stack.{expect_to_close, finds_generic, generate_implied_end_except, generate_implied_end_tags}
use Rattle.html_rules.specs.Stack.{in_scope, is_open, item_name, parse_error, pop, pop_but_root, pop_until, pop_until_current}
use Rattle.html_rules.specs.Stack.{process_end_tag_in_body, remove_body, remove_from_stack, remove_if, root_number}
use Rattle.html_rules.specs.State.{Open, Entry, Element, Marker, State, current_is, current_node, current_number, is_in, is_named}
use Rattle.html_rules.specs.declared.tag_set.TagSet.{TagSet}
use Rattle.html_rules.specs.declared.tag_set.TagSet.TheVariants as set
use Rattle.html_rules_laws.specs.Errors.{Commutes, louder, louder_forest}

-- a change that leaves errors alone commutes with making them more
pub apart-louder : (g : ℕ → ℕ) (change : Forest → Forest) → LeavesErrors change → (f : Forest)
    → change (louder_forest g f) ≡ louder_forest g (change f)
apart-louder g change is f = (is f).1 (g f.errors) ∙ ap (λ n. with_errors (g n) (change f)) (sym (is f).0)

module _ (g : ℕ → ℕ) (commutes : Commutes g) where
  -- a step that commutes with making errors more
  abbrev pub IsLoud : (State → State) → Type 0
  IsLoud f = (s : State) → f (louder g s) ≡ louder g (f s)

  pub then-louder : (f h : State → State) → IsLoud f → IsLoud h → IsLoud (λ s. h (f s))
  then-louder f h is other s = ap h (is s) ∙ other (f s)

  pub choose-louder : (b : Bool) (f h : State → State) → IsLoud f → IsLoud h → (s : State)
      → choose b (λ _. f (louder g s)) (λ _. h (louder g s)) ≡ louder g (choose b (λ _. f s) (λ _. h s))
  choose-louder true f h is other s = is s
  choose-louder false f h is other s = other s

  pub same-louder : IsLoud (λ s. s)
  same-louder s = refl

  pub parse_error-louder : IsLoud parse_error
  unfolding parse_error
  parse_error-louder s = ap (λ n. record s { forest = record s.forest { errors = n } }) (sym (commutes s.forest.errors))

  pub pop-louder : IsLoud pop
  unfolding pop
  pop-louder s = refl

  pub pop_but_root-louder : IsLoud pop_but_root
  unfolding pop_but_root
  pop_but_root-louder s = refl

  pub pop_until-louder : (p : Open → Bool) → IsLoud (pop_until p)
  unfolding pop_until
  pop_until-louder p s = refl

  pub pop_until_current-louder : (p : Open → Bool) → IsLoud (pop_until_current p)
  unfolding pop_until_current
  pop_until_current-louder p s = refl

  pub expect_to_close-louder : (p : Open → Bool) → IsLoud (expect_to_close p)
  unfolding expect_to_close
  expect_to_close-louder p s = choose-louder (current_is p s.open_elems) (pop_until p)
      (λ s. pop_until p (parse_error s)) (pop_until-louder p)
      (then-louder parse_error (pop_until p) parse_error-louder (pop_until-louder p)) s

  pub remove_from_stack-louder : (n : ℕ) → IsLoud (remove_from_stack n)
  unfolding remove_from_stack
  remove_from_stack-louder n s = refl

  pub generate_implied_end_tags-louder : (implied : TagSet) → IsLoud (generate_implied_end_tags implied)
  unfolding generate_implied_end_tags
  generate_implied_end_tags-louder implied s = refl

  pub generate_implied_end_except-louder : (except : Open → Bool) → IsLoud (generate_implied_end_except except)
  unfolding generate_implied_end_except
  generate_implied_end_except-louder except s = refl

  close_p_element-louder : IsLoud close_p_element
  unfolding close_p_element
  close_p_element-louder s = then-louder (generate_implied_end_except (is_in set.P)) (expect_to_close (is_in set.P))
      (generate_implied_end_except-louder (is_in set.P)) (expect_to_close-louder (is_in set.P)) s

  pub close_p-louder : IsLoud close_p_element_in_button_scope
  unfolding close_p_element_in_button_scope
  close_p-louder s = choose-louder (in_scope set.ButtonScope (is_in set.P) s.open_elems) close_p_element
      (λ s. s) close_p_element-louder same-louder s

  close_item_named-louder : (o : Option (List ℕ)) → IsLoud (close_item_named o)
  close_item_named-louder None s = refl
  close_item_named-louder (Some name) s = then-louder (generate_implied_end_except (is_named name))
      (expect_to_close (is_named name)) (generate_implied_end_except-louder (is_named name)) (expect_to_close-louder (is_named name)) s

  pub close_item-louder : (items : TagSet) → IsLoud (close_item items)
  unfolding close_item
  close_item-louder items s = close_item_named-louder (item_name items s.open_elems) s

  pub process_end_tag_in_body-louder : (name : List ℕ) → IsLoud (process_end_tag_in_body name)
  unfolding process_end_tag_in_body
  process_end_tag_in_body-louder name s =
      choose-louder (finds_generic (is_named name) s.open_elems)
      (λ s. expect_to_close (is_named name) (generate_implied_end_except (is_named name) s)) parse_error
      (then-louder (generate_implied_end_except (is_named name)) (expect_to_close (is_named name))
      (generate_implied_end_except-louder (is_named name)) (expect_to_close-louder (is_named name)))
      parse_error-louder s

  pub check_body_end-louder : IsLoud check_body_end
  unfolding check_body_end
  check_body_end-louder s = choose-louder (list_all (is_in set.BodyEnd) s.open_elems) (λ s. s) parse_error same-louder parse_error-louder s

  pub add_attributes_to_root-louder : (attributes : List Attribute) → IsLoud (add_attributes_to_root attributes)
  unfolding add_attributes_to_root
  add_attributes_to_root-louder attributes s = refl

  add_attributes_to-louder : (o : Option ℕ) (attributes : List Attribute) → IsLoud (add_attributes_to o attributes)
  add_attributes_to-louder None attributes s = refl
  add_attributes_to-louder (Some n) attributes s = refl

  pub add_attributes_to_body-louder : (attributes : List Attribute) → IsLoud (add_attributes_to_body attributes)
  unfolding add_attributes_to_body
  add_attributes_to_body-louder attributes s = add_attributes_to-louder (body_elem s.open_elems) attributes s

  remove_if-louder : (o : Option ℕ) → IsLoud (remove_if o)
  remove_if-louder None s = refl
  remove_if-louder (Some n) s = ap (λ f. record s { forest = f }) (apart-louder g (λ f. remove f n) (errors-apart.removed n) s.forest)

  pub remove_body-louder : IsLoud remove_body
  unfolding remove_body
  remove_body-louder s = ap (pop_until_current (is_in set.Html)) (remove_if-louder (body_elem s.open_elems) s)
      ∙ pop_until_current-louder (is_in set.Html) (remove_if (body_elem s.open_elems) s)

  -- places

  foster_by : (a b : Bool) (template table : Place) (here there : Place) → here ≡ there → choose a (λ _. template)
      (λ _. choose b (λ _. table) (λ _. here)) ≡ choose a (λ _. template) (λ _. choose b (λ _. table) (λ _. there))
  foster_by a b template table here there e = ap (λ place. choose a (λ _. template) (λ _. choose b (λ _. table) (λ _. place))) e

  foster_place-louder : (f : Forest) (root : ℕ) (xs : List Open) → foster_place (louder_forest g f) root xs ≡ foster_place f root xs
  foster_place-louder f root [] = refl
  foster_place-louder f root (x ∷ xs) = foster_by (is_in set.Template x) (is_in set.Table x) (Last (x.number + 1))
      (place_near x.number (current_number xs) (parent_of f x.number)) _ _ (foster_place-louder f root xs)

  pub place_for-louder : (foster : Bool) (f : Forest) (xs : List Open) (o : Option Open)
      → place_for foster (louder_forest g f) xs o ≡ place_for foster f xs o
  place_for-louder foster f xs None = refl
  place_for-louder foster f xs (Some target) =
      ap (λ place. choose (foster && is_in set.FosterTarget target) (λ _. place) (λ _. inside target))
      (foster_place-louder f (root_number xs) xs)

  pub with_element-louder : (namespace : Namespace) (name : List ℕ) (attributes : List Attribute) (dup : Bool)
      (f : Forest) → with_element (louder_forest g f) namespace name attributes dup ≡ louder_forest g
      (with_element f namespace name attributes dup)
  with_element-louder namespace name attributes dup f =
      apart-louder g (λ f. with_element f namespace name attributes dup)
      (errors-apart.created (element_name_of namespace name) attributes (flags_of namespace name attributes dup)) f

  -- a node that is made is put at the place for it
  put_appropriately-louder : (s : State) (made made' : Forest) (n : ℕ) → made' ≡ louder_forest g made
      → put_appropriately s made' n ≡ louder_forest g (put_appropriately s made n)
  put_appropriately-louder s made made' n e = ap (λ f. put_appropriately s f n) e
      ∙ ap (λ place. put (louder_forest g made) place n) (place_for-louder s.foster_parenting made s.open_elems (current_node s.open_elems))

  pub put_element-louder : (namespace : Namespace) (name : List ℕ) (attributes : List Attribute) (dup : Bool)
      → IsLoud (put_element namespace name attributes dup)
  unfolding put_element
  put_element-louder namespace name attributes dup s =
      ap (λ f. record s { forest = f })
      (put_appropriately-louder s (with_element s.forest namespace name attributes dup) _ (node_count s.forest)
      (with_element-louder namespace name attributes dup s.forest))

  pub insert_element-louder : (namespace : Namespace) (name : List ℕ) (attributes : List Attribute) (dup : Bool)
      → IsLoud (insert_element namespace name attributes dup)
  unfolding insert_element
  insert_element-louder namespace name attributes dup s =
      ap (λ f. record s { forest = f; open_elems = next_open s namespace name ∷ s.open_elems })
      (put_appropriately-louder s (with_element s.forest namespace name attributes dup) _ (node_count s.forest)
      (with_element-louder namespace name attributes dup s.forest))

  pub open_element-louder : (namespace : Namespace) (name : List ℕ) (attributes : List Attribute) (dup : Bool)
      → IsLoud (open_element namespace name attributes dup)
  unfolding open_element
  open_element-louder namespace name attributes dup s =
      ap (λ f. record s { forest = f; open_elems = next_open s namespace name ∷ s.open_elems })
      (with_element-louder namespace name attributes dup s.forest)

  pub create_root-louder : (attributes : List Attribute) → IsLoud (create_root attributes)
  unfolding create_root
  create_root-louder attributes s =
      ap (λ f. record s {
        forest = put f (Last 0) (node_count s.forest);
        open_elems = next_open s Html (codes "html") ∷ s.open_elems;
      })
      (with_element-louder Html (codes "html") attributes false s.forest)

  pub append_text-louder : (text : List ℕ) → IsLoud (append_text text)
  unfolding append_text
  append_text-louder text s =
      ap (λ place. record s { forest = put_text (louder_forest g s.forest) place text })
      (place_for-louder s.foster_parenting s.forest s.open_elems (current_node s.open_elems))
      ∙ ap (λ f. record s { forest = f }) (apart-louder g (λ f. put_text f (appropriate_place s s.forest) text)
      (errors-apart.texted (appropriate_place s s.forest) text) s.forest)

  pub append_comment-louder : (text : List ℕ) → IsLoud (append_comment text)
  unfolding append_comment
  append_comment-louder text s = ap (λ f. record s { forest = f })
      (put_appropriately-louder s (with_node s.forest (Comment text)) _ (node_count s.forest) refl)

  pub append_comment_to_doc-louder : (text : List ℕ) → IsLoud (append_comment_to_doc text)
  unfolding append_comment_to_doc
  append_comment_to_doc-louder text s = refl

  pub append_comment_to_html-louder : (text : List ℕ) → IsLoud (append_comment_to_html text)
  unfolding append_comment_to_html
  append_comment_to_html-louder text s = refl

  pub append_doctype_to_document-louder : (d : Doctype) → IsLoud (append_doctype_to_document d)
  unfolding append_doctype_to_document
  append_doctype_to_document-louder d s = refl

  -- formatting elements

  pub insert_element_for-louder : (tag : Tag) → IsLoud (insert_element_for tag)
  insert_element_for-louder tag = insert_element-louder Html tag.name tag.attrs tag.had_duplicate_attributes

  pub create_formatting_element_for-louder : (tag : Tag) → IsLoud (create_formatting_element_for tag)
  unfolding create_formatting_element_for
  create_formatting_element_for-louder tag s = ap (list_current tag)
      (insert_element_for-louder tag (record s { active_formatting = with_room tag s.active_formatting }))

  pub push_marker-louder : IsLoud push_marker
  unfolding push_marker
  push_marker-louder s = refl

  pub clear-louder : IsLoud clear_active_formatting_to_marker
  unfolding clear_active_formatting_to_marker
  clear-louder s = refl

  reopen-louder : (entries : List Entry) → IsLoud (reopen entries)
  reopen-louder [] s = refl
  reopen-louder (Marker ∷ entries) s = refl
  reopen-louder (Element n tag ∷ entries) s =
      choose-louder (is_open n s.open_elems) (λ s. record s { active_formatting = Element n tag ∷ entries })
      (λ s. list_current tag (insert_element_for tag (reopen entries s)))
      (λ s. refl)
      (then-louder (reopen entries) (λ s. list_current tag (insert_element_for tag s)) (reopen-louder entries)
      (λ s. ap (list_current tag) (insert_element_for-louder tag s)))
      s

  pub reconstruct-louder : IsLoud reconstruct_active_formatting_elements
  unfolding reconstruct_active_formatting_elements
  reconstruct-louder s = reopen-louder s.active_formatting s
