-- What every step on the tree, the stack and the list keeps of a state, all that are made of such steps keep.
use Rattle.std.proofs.Common.{ℕ, zero, suc, Bool, true, false, List, [], ◌∷◌, Option, Some, None, codes}
use Rattle.std.specs.Prelude.{◌&&◌, not}
use Rattle.std.specs.List.{list_all}
use Rattle.markup.specs.TreeLaws.{with_errors}
use Rattle.markup.specs.declared.attributes.Attribute.{Attribute}
use Rattle.html_tokens.specs.declared.tags.Tag.{Tag}
use Rattle.html_tokens.specs.declared.token.Token.{Token}
use Rattle.html_tokens.specs.declared.token.Token.TheVariants.{TagToken}
use Rattle.html_rules.specs.Actions.{append_in_body, for_tag, frameset_not_ok_unless_white, push_head, remove_from_stack_if}
use Rattle.html_rules.specs.Actions.{set_foster_parenting, insert_table_text}
use Rattle.html_rules.specs.Adoption.{adopt_from, adopt_listed, adopt_open, adoption_agency, adoption_turn, adoption_turns}
use Rattle.html_rules.specs.Adoption.{close_misnested, error_if_not_current, furthest_block, is_number, opened_after, unlist}
use Rattle.html_rules.specs.Choice.{choose}
use Rattle.html_rules.specs.ForeignContent.{ForeignEnd, Dropped, AsInMode, Closed, close_foreign_by, enter_foreign, foreign_start_at}
use Rattle.html_rules.specs.Formatting.{Listed, is_listed, last_named, list_current, reconstruct_active_formatting_elements, reopen}
use Rattle.html_rules.specs.Names.{Namespace, Html}
use Rattle.html_rules.specs.Places.{append_text, insert_element, insert_element_for, open_element, put_element}
use Rattle.html_rules.specs.Stack.{add_attributes_to, check_body_end, close_item, close_item_named, close_p_element}
use Rattle.html_rules.specs.Stack.{close_p_element_in_button_scope, expect_to_close, finds_generic, generate_implied_end_except}
use Rattle.html_rules.specs.Stack.{in_scope, is_open, item_name, parse_error, pop, pop_until, pop_until_current}
use Rattle.html_rules.specs.Stack.{process_end_tag_in_body, remove_from_stack, remove_if}
use Rattle.html_rules.specs.State.{Open, Entry, Element, Marker, State, current_is, current_number, is_in, is_named}
use Rattle.html_rules.specs.Templates.{attach_shadow_root, insert_template, may_be_shadow_root}
use Rattle.html_rules.specs.Tokens.{is_white}
use Rattle.html_rules.specs.declared.tag_set.TagSet.{TagSet}
use Rattle.html_rules.specs.declared.tag_set.TagSet.TheVariants as set

-- a relation of states, from before a step to after it, that the steps which other steps are made of keep
pub record IsKeptBySteps (R : State → State → Type 0) : Type 1 where
  pub same : (s : State) → R s s
  pub after : (s r q : State) → R s r → R r q → R s q
  -- other open elements, another list, other foster parenting
  pub stacks : (s : State) (xs : List Open) (entries : List Entry) (foster : Bool)
      → R s (record s { open_elems = xs; active_formatting = entries; foster_parenting = foster })
  pub framesets : (text : List ℕ) (s : State) → R s (frameset_not_ok_unless_white text s)
  pub errs : (s : State) → R s (parse_error s)
  -- what is done to the tree
  pub texts : (text : List ℕ) (s : State) → R s (append_text text s)
  pub puts : (namespace : Namespace) (name : List ℕ) (attributes : List Attribute) (dup : Bool) (s : State)
      → R s (put_element namespace name attributes dup s)
  pub inserts : (namespace : Namespace) (name : List ℕ) (attributes : List Attribute) (dup : Bool) (s : State)
      → R s (insert_element namespace name attributes dup s)
  pub opens : (namespace : Namespace) (name : List ℕ) (attributes : List Attribute) (dup : Bool) (s : State)
      → R s (open_element namespace name attributes dup s)
  pub adopts : (fe : Listed) (o : Option Open) (s : State) → R s (adopt_from fe o s).state
  pub adds : (o : Option ℕ) (attributes : List Attribute) (s : State) → R s (add_attributes_to o attributes s)
  pub removes : (o : Option ℕ) (s : State) → R s (remove_if o s)

-- a step keeps it
abbrev pub Keeps : (State → State → Type 0) → (State → State) → Type 0
Keeps R f = (s : State) → R s (f s)

module _ {R : State → State → Type 0} (is : IsKeptBySteps R) where
  pub either-keeps : (b : Bool) (s x y : State) → R s x → R s y → R s (choose b (λ _. x) (λ _. y))
  either-keeps true s x y h k = h
  either-keeps false s x y h k = k

  pub pop-keeps : Keeps R pop
  unfolding pop
  pop-keeps s = is.stacks s _ _ _

  pub pop_until-keeps : (p : Open → Bool) → Keeps R (pop_until p)
  unfolding pop_until
  pop_until-keeps p s = is.stacks s _ _ _

  pub pop_until_current-keeps : (p : Open → Bool) → Keeps R (pop_until_current p)
  unfolding pop_until_current
  pop_until_current-keeps p s = is.stacks s _ _ _

  pub expect_to_close-keeps : (p : Open → Bool) → Keeps R (expect_to_close p)
  unfolding expect_to_close
  expect_to_close-keeps p s = either-keeps (current_is p s.open_elems) s _ _ (pop_until-keeps p s)
      (is.after s _ _ (is.errs s) (pop_until-keeps p (parse_error s)))

  pub except-keeps : (except : Open → Bool) → Keeps R (generate_implied_end_except except)
  unfolding generate_implied_end_except
  except-keeps except s = is.stacks s _ _ _

  pub remove-keeps : (n : ℕ) → Keeps R (remove_from_stack n)
  unfolding remove_from_stack
  remove-keeps n s = is.stacks s _ _ _

  pub close_p-keeps : Keeps R close_p_element_in_button_scope
  unfolding close_p_element_in_button_scope close_p_element
  close_p-keeps s = either-keeps (in_scope set.ButtonScope (is_in set.P) s.open_elems) s _ s
      (is.after s _ _ (except-keeps (is_in set.P) s) (expect_to_close-keeps (is_in set.P) _)) (is.same s)

  pub close_named-keeps : (o : Option (List ℕ)) → Keeps R (close_item_named o)
  close_named-keeps None s = is.same s
  close_named-keeps (Some name) s = is.after s _ _ (except-keeps (is_named name) s) (expect_to_close-keeps (is_named name) _)

  pub close_item-keeps : (items : TagSet) → Keeps R (close_item items)
  unfolding close_item
  close_item-keeps items s = close_named-keeps (item_name items s.open_elems) s

  pub generic-keeps : (name : List ℕ) → Keeps R (process_end_tag_in_body name)
  unfolding process_end_tag_in_body
  generic-keeps name s =
      either-keeps (finds_generic (is_named name) s.open_elems) s _ _
      (is.after s _ _ (except-keeps (is_named name) s) (expect_to_close-keeps (is_named name) _)) (is.errs s)

  pub check-keeps : Keeps R check_body_end
  unfolding check_body_end
  check-keeps s = either-keeps (list_all (is_in set.BodyEnd) s.open_elems) s s _ (is.same s) (is.errs s)

  pub insert-keeps : (tag : Tag) → Keeps R (insert_element_for tag)
  insert-keeps tag s = is.inserts Html tag.name tag.attrs tag.had_duplicate_attributes s

  pub list-keeps : (tag : Tag) → Keeps R (λ s. list_current tag (insert_element_for tag s))
  list-keeps tag s = is.after s (insert_element_for tag s) _ (insert-keeps tag s) (is.stacks (insert_element_for tag s) _ _ _)

  pub reopen-keeps : (entries : List Entry) → Keeps R (reopen entries)
  reopen-keeps [] s = is.stacks s _ _ _
  reopen-keeps (Marker ∷ entries) s = is.stacks s _ _ _
  reopen-keeps (Element n tag ∷ entries) s = either-keeps (is_open n s.open_elems) s _ _ (is.stacks s _ _ _)
      (is.after s _ _ (reopen-keeps entries s) (list-keeps tag (reopen entries s)))

  pub reconstruct-keeps : Keeps R reconstruct_active_formatting_elements
  unfolding reconstruct_active_formatting_elements
  reconstruct-keeps s = reopen-keeps s.active_formatting s

  -- the adoption agency

  pub error-keeps : (fe : Listed) → Keeps R (error_if_not_current fe)
  error-keeps fe s = either-keeps (current_is (is_number fe.number) s.open_elems) s s _ (is.same s) (is.errs s)

  pub listed-keeps : (o : Option Listed) (name : List ℕ) (s : State) → R s (adopt_listed o name s).state
  listed-keeps None name s = generic-keeps name s
  listed-keeps (Some fe) name s = by (is_open fe.number s.open_elems) (in_scope set.DefaultScope (is_number fe.number) s.open_elems) where
    by : (a b : Bool) → R s (choose (not a) (λ _. record { state = unlist fe (parse_error s); goes_on = false })
        (λ _. choose (not b) (λ _. record { state = parse_error s; goes_on = false }) (λ _. adopt_open fe s))).state
    by false b = is.after s _ _ (is.errs s) (is.stacks (parse_error s) _ _ _)
    by true false = is.errs s
    by true true = is.after s _ _ (error-keeps fe s)
        (is.adopts fe (furthest_block (opened_after fe.number s.open_elems)) (error_if_not_current fe s))

  pub turns-keeps : (n : ℕ) (name : List ℕ) → Keeps R (adoption_turns n name)
  unfolding adoption_turns adoption_turn
  turns-keeps zero name s = is.same s
  turns-keeps (suc n) name s =
      let turned = listed-keeps (last_named name s.active_formatting) name s in
      either-keeps (adoption_turn name s).goes_on s _ _ (is.after s _ _ turned (turns-keeps n name (adoption_turn name s).state)) turned

  pub agency-keeps : (name : List ℕ) → Keeps R (adoption_agency name)
  unfolding adoption_agency
  agency-keeps name s = either-keeps (current_is (is_named name) s.open_elems
      && not (is_listed (current_number s.open_elems) s.active_formatting)) s _ _ (pop-keeps s) (turns-keeps 8 name s)

  pub misnested-keeps : (o : Option Listed) → Keeps R (close_misnested o)
  misnested-keeps None s = is.same s
  misnested-keeps (Some a) s =
      let closed : State = adoption_agency (codes "a") (parse_error s) in
      is.after s (unlist a closed) _
      (is.after s closed _ (is.after s (parse_error s) closed (is.errs s)
      (agency-keeps (codes "a") (parse_error s))) (is.stacks closed _ _ _)) (remove-keeps a.number (unlist a closed))

  -- other steps

  pub unopened-keeps : (o : Option ℕ) → Keeps R (remove_from_stack_if o)
  unopened-keeps None s = is.same s
  unopened-keeps (Some n) s = remove-keeps n s

  pub push_head-keeps : (o : Option ℕ) → Keeps R (push_head o)
  push_head-keeps None s = is.same s
  push_head-keeps (Some n) s = is.stacks s _ _ _

  pub enter-keeps : (namespace : Namespace) (tag : Tag) → Keeps R (enter_foreign namespace tag)
  unfolding enter_foreign
  enter-keeps namespace tag s = either-keeps tag.self_closing s _ _
      (is.puts namespace tag.name _ tag.had_duplicate_attributes s) (is.inserts namespace tag.name _ tag.had_duplicate_attributes s)

  pub foreign-keeps : (o : Option Open) (tag : Tag) → Keeps R (foreign_start_at o tag)
  foreign-keeps None tag s = is.same s
  foreign-keeps (Some x) tag s = enter-keeps x.namespace _ s

  pub close_by-keeps : (e : ForeignEnd) → Keeps R (close_foreign_by e)
  close_by-keeps Dropped s = is.same s
  close_by-keeps AsInMode s = is.same s
  close_by-keeps (Closed left) s = is.stacks s _ _ _

  pub attach-keeps : (tag : Tag) (host : ℕ) → Keeps R (attach_shadow_root tag host)
  attach-keeps tag host s =
      either-keeps (s.answers.attaches_shadow (with_errors 0 s.forest) host (current_number s.open_elems) tag.attrs)
      s s _ (is.same s) (is.after s _ _ (pop-keeps s) (insert-keeps tag (pop s)))

  pub template-keeps : (tag : Tag) → Keeps R (insert_template tag)
  unfolding insert_template
  template-keeps tag s = either-keeps (may_be_shadow_root tag s) s _ _
      (is.after s _ _ (is.opens Html tag.name tag.attrs tag.had_duplicate_attributes s) (attach-keeps tag _ _)) (insert-keeps tag s)

  pub in_body-keeps : (text : List ℕ) → Keeps R (append_in_body text)
  in_body-keeps text s =
      let made : State = reconstruct_active_formatting_elements s in
      is.after s (frameset_not_ok_unless_white text made) _
      (is.after s made _ (reconstruct-keeps s) (is.framesets text made)) (is.texts text (frameset_not_ok_unless_white text made))

  pub for_tag-keeps : (step : Tag → State → State) (t : Token) → ((tag : Tag) → Keeps R (step tag)) → Keeps R (for_tag step t)
  for_tag-keeps step (TagToken tag) h s = h tag s
  for_tag-keeps step t h s = is.same s

  pub tell-keeps : (text : List ℕ) → Keeps R (insert_table_text text)
  unfolding set_foster_parenting
  tell-keeps text s =
      let fostered : State = set_foster_parenting true (parse_error s) in
      either-keeps (is_white text) s _ _ (is.texts text s)
      (is.after s (append_in_body text fostered) _
      (is.after s fostered _ (is.after s (parse_error s) _ (is.errs s) (is.stacks (parse_error s) _ _ _))
      (in_body-keeps text fostered)) (is.stacks (append_in_body text fostered) _ _ _))
