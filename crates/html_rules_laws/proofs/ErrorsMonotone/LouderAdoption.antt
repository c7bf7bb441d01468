-- The adoption agency does not look at the number of errors, and only counts it on.
use Rattle.std.proofs.Common.{◌≡◌, ◌∙◌, ℕ, zero, suc, Bool, true, false, List, [], ◌∷◌, Option, Some, None, refl, sym, ap, codes}
use Rattle.std.specs.Prelude.{not, ◌&&◌, ◌++◌}
use Rattle.markup.specs.Forest.{Forest, Last, node_count, put, remove, reparent_children}
use Rattle.markup.proofs.ErrorsApart.{errors-apart}
use Rattle.html_tokens.specs.declared.tags.Tag.{Tag}
use Rattle.html_rules.specs.Adoption.{Turned, Walk, adopt, adopt_from, adopt_listed, adopt_open, adoption_agency, adoption_turn}
use Rattle.html_rules.specs.Adoption.{adoption_turns, begin_walk, between, close_misnested, copy_if, copy_node}
use Rattle.html_rules.specs.Adoption.{error_if_not_current, furthest_block, go_on, handle_misnested_a_tags, is_number}
use Rattle.html_rules.specs.Adoption.{listed_as, opened_after, opened_before, opened_for, relist, unlist, walk, with_copy}
use Rattle.html_rules.specs.Choice.{choose}
use Rattle.html_rules.specs.Formatting.{Listed, is_listed, last_named, with_in_place, without_entry}
use Rattle.html_rules.specs.Names.{Html}
use Rattle.html_rules.specs.Places.{place_for}
use Rattle.html_rules.specs.Stack.{in_scope, is_open, parse_error, pop, remove_from_stack}
use Rattle.html_rules.specs.State.{Open, Element, State, current_is, current_node, current_number, is_named}
use Rattle.html_rules.specs.declared.tag_set.TagSet.TheVariants as set
use Rattle.html_rules_laws.specs.Errors.{Commutes, louder, louder_forest}
use Rattle.html_rules_laws.proofs.ErrorsMonotone.LouderSteps.{IsLoud, apart-louder, choose-louder, parse_error-louder}
use Rattle.html_rules_laws.proofs.ErrorsMonotone.LouderSteps.{place_for-louder, pop-louder, process_end_tag_in_body-louder}
use Rattle.html_rules_laws.proofs.ErrorsMonotone.LouderSteps.{remove_from_stack-louder, same-louder, then-louder}
use Rattle.html_rules_laws.proofs.ErrorsMonotone.LouderSteps.{with_element-louder}

abbrev louder_walk : (ℕ → ℕ) → Walk → Walk
louder_walk g w = record w { forest = louder_forest g w.forest }

abbrev louder_turned : (ℕ → ℕ) → Turned → Turned
louder_turned g turned = record turned { state = louder g turned.state }

module _ (g : ℕ → ℕ) (commutes : Commutes g) where
  with_copy-louder : (tag : Tag) (f : Forest) → with_copy (louder_forest g f) tag ≡ louder_forest g (with_copy f tag)
  with_copy-louder tag f = with_element-louder g commutes Html tag.name tag.attrs tag.had_duplicate_attributes f

  remove-louder : (n : ℕ) (f : Forest) → remove (louder_forest g f) n ≡ louder_forest g (remove f n)
  remove-louder n f = apart-louder g (λ f. remove f n) (errors-apart.removed n) f

  copy_node-louder : (listed : Listed) (w : Walk) → copy_node listed (louder_walk g w) ≡ louder_walk g (copy_node listed w)
  copy_node-louder listed w =
      ap (λ f. record {
        forest = put f (Last (node_count w.forest)) w.last_node;
        active_formatting = with_in_place listed.number (Element (node_count w.forest) listed.tag) w.active_formatting;
        copies = w.copies ++ opened_for w.rules w.forest listed.tag ∷ [];
        last_node = node_count w.forest;
        rules = w.rules;
      }) (ap (λ f. remove f w.last_node) (with_copy-louder listed.tag w.forest) ∙ remove-louder w.last_node (with_copy w.forest listed.tag))

  copy_if-louder : (o : Option Listed) (w : Walk) → copy_if o (louder_walk g w) ≡ louder_walk g (copy_if o w)
  copy_if-louder None w = refl
  copy_if-louder (Some listed) w = copy_node-louder listed w

  walk-louder : (left : ℕ) (xs : List Open) (w : Walk) → walk left xs (louder_walk g w) ≡ louder_walk g (walk left xs w)
  walk-louder left [] w = refl
  walk-louder zero (x ∷ xs) w = walk-louder zero xs (record w { active_formatting = without_entry x.number w.active_formatting })
  walk-louder (suc left) (x ∷ xs) w =
      ap (walk left xs) (copy_if-louder (listed_as x.number w.active_formatting) w)
      ∙ walk-louder left xs (copy_if (listed_as x.number w.active_formatting) w)

  -- the last node is put at its place
  placed : Listed → Walk → State → Forest → Forest
  placed formatting_element w s f =
      put f (place_for s.foster_parenting f s.open_elems (current_node (opened_before formatting_element.number s.open_elems))) w.last_node

  placed-louder : (formatting_element : Listed) (w : Walk) (s : State) (f : Forest) → placed formatting_element w s
      (louder_forest g f) ≡ louder_forest g (placed formatting_element w s f)
  unfolding placed
  placed-louder formatting_element w s f =
      ap (λ place. put (louder_forest g f) place w.last_node)
      (place_for-louder g commutes s.foster_parenting f s.open_elems
      (current_node (opened_before formatting_element.number s.open_elems)))

  -- what follows once it is put
  finished : Listed → Open → Walk → State → Forest → State
  finished formatting_element block w s f = record s {
    forest = put (reparent_children (with_copy f formatting_element.tag) block.number (node_count f)) (Last block.number) (node_count f);
    active_formatting = relist formatting_element.number (Element (node_count f) formatting_element.tag) w.copies w.active_formatting;
    open_elems = opened_after block.number s.open_elems ++ opened_for s.opts.rules f formatting_element.tag ∷ block ∷ w.copies
        ++ opened_before formatting_element.number s.open_elems;
  }

  finished-louder : (formatting_element : Listed) (block : Open) (w : Walk) (s : State) (f : Forest)
      → finished formatting_element block w s (louder_forest g f) ≡ louder g (finished formatting_element block w s f)
  unfolding finished
  finished-louder formatting_element block w s f =
      ap (λ made. record s {
        forest = put (reparent_children made block.number (node_count f)) (Last block.number) (node_count f);
        active_formatting = relist formatting_element.number (Element (node_count f) formatting_element.tag) w.copies w.active_formatting;
        open_elems = opened_after block.number s.open_elems ++ opened_for s.opts.rules f formatting_element.tag ∷ block ∷
            w.copies ++ opened_before formatting_element.number s.open_elems;
      }) (with_copy-louder formatting_element.tag f)

  adopt-is : (formatting_element : Listed) (block : Open) (w : Walk) (s : State)
      → adopt formatting_element block w s ≡ finished formatting_element block w s
      (placed formatting_element w s (remove w.forest w.last_node))
  unfolding finished placed
  adopt-is formatting_element block w s = refl

  adopt-is-louder : (formatting_element : Listed) (block : Open) (w : Walk) (s : State)
      → adopt formatting_element block (louder_walk g w) (louder g s) ≡ finished formatting_element block w s
      (placed formatting_element w s (remove (louder_forest g w.forest) w.last_node))
  unfolding finished placed
  adopt-is-louder formatting_element block w s = refl

  adopt-louder : (formatting_element : Listed) (block : Open) (w : Walk) (s : State)
      → adopt formatting_element block (louder_walk g w) (louder g s) ≡ louder g (adopt formatting_element block w s)
  adopt-louder formatting_element block w s =
      let removed = remove w.forest w.last_node in
      adopt-is-louder formatting_element block w s
      ∙ ap (λ f. finished formatting_element block w s (placed formatting_element w s f)) (remove-louder w.last_node w.forest)
      ∙ ap (finished formatting_element block w s) (placed-louder formatting_element w s removed)
      ∙ finished-louder formatting_element block w s (placed formatting_element w s removed)
      ∙ ap (louder g) (sym (adopt-is formatting_element block w s))

  adopt_from-louder : (formatting_element : Listed) (o : Option Open) (s : State) → adopt_from formatting_element o
      (louder g s) ≡ louder_turned g (adopt_from formatting_element o s)
  adopt_from-louder formatting_element None s = refl
  adopt_from-louder formatting_element (Some block) s =
      let w = begin_walk block s in
      ap (λ s. record { state = s; goes_on = true })
      (ap (λ w. adopt formatting_element block w (louder g s)) (walk-louder 3 (between formatting_element block s) w)
      ∙ adopt-louder formatting_element block (walk 3 (between formatting_element block s) w) s)

  error_if_not_current-louder : (formatting_element : Listed) → IsLoud g commutes (error_if_not_current formatting_element)
  error_if_not_current-louder formatting_element s = choose-louder g commutes
      (current_is (is_number formatting_element.number) s.open_elems) (λ s. s) parse_error (same-louder g commutes)
      (parse_error-louder g commutes) s

  adopt_open-louder : (formatting_element : Listed) (s : State) → adopt_open formatting_element
      (louder g s) ≡ louder_turned g (adopt_open formatting_element s)
  adopt_open-louder formatting_element s =
      let o = furthest_block (opened_after formatting_element.number s.open_elems) in
      ap (adopt_from formatting_element o) (error_if_not_current-louder formatting_element s)
      ∙ adopt_from-louder formatting_element o (error_if_not_current formatting_element s)

  turned-louder : (b : Bool) (x y x' y' : Turned) → x' ≡ louder_turned g x → y' ≡ louder_turned g y
      → choose b (λ _. x') (λ _. y') ≡ louder_turned g (choose b (λ _. x) (λ _. y))
  turned-louder true x y x' y' e e' = e
  turned-louder false x y x' y' e e' = e'

  unlist-louder : (formatting_element : Listed) → IsLoud g commutes (λ s. unlist formatting_element (parse_error s))
  unlist-louder formatting_element s = ap (unlist formatting_element) (parse_error-louder g commutes s)

  adopt_listed-louder : (o : Option Listed) (name : List ℕ) (s : State) → adopt_listed o name
      (louder g s) ≡ louder_turned g (adopt_listed o name s)
  adopt_listed-louder None name s = ap (λ s. record { state = s; goes_on = false }) (process_end_tag_in_body-louder g commutes name s)
  adopt_listed-louder (Some formatting_element) name s =
      turned-louder (not (is_open formatting_element.number s.open_elems)) _ _ _ _
      (ap (λ s. record { state = s; goes_on = false }) (unlist-louder formatting_element s))
      (turned-louder (not (in_scope set.DefaultScope (is_number formatting_element.number) s.open_elems)) _ _ _ _
      (ap (λ s. record { state = s; goes_on = false }) (parse_error-louder g commutes s))
      (adopt_open-louder formatting_element s))

  adoption_turn-louder : (name : List ℕ) (s : State) → adoption_turn name (louder g s) ≡ louder_turned g (adoption_turn name s)
  unfolding adoption_turn
  adoption_turn-louder name s = adopt_listed-louder (last_named name s.active_formatting) name s

  go_on-louder : (turned : Turned) (go : State → State) → IsLoud g commutes go
      → go_on (louder_turned g turned) go ≡ louder g (go_on turned go)
  go_on-louder turned go is = choose-louder g commutes turned.goes_on go (λ s. s) is (same-louder g commutes) turned.state

  adoption_turns-louder : (n : ℕ) (name : List ℕ) → IsLoud g commutes (adoption_turns n name)
  unfolding adoption_turns
  adoption_turns-louder zero name s = refl
  adoption_turns-louder (suc n) name s =
      ap (λ turned. go_on turned (adoption_turns n name)) (adoption_turn-louder name s)
      ∙ go_on-louder (adoption_turn name s) (adoption_turns n name) (adoption_turns-louder n name)

  pub adoption_agency-louder : (name : List ℕ) → IsLoud g commutes (adoption_agency name)
  unfolding adoption_agency
  adoption_agency-louder name s =
      choose-louder g commutes (current_is (is_named name) s.open_elems
      && not (is_listed (current_number s.open_elems) s.active_formatting)) pop (adoption_turns 8 name)
      (pop-louder g commutes) (adoption_turns-louder 8 name) s

  close_misnested-louder : (o : Option Listed) → IsLoud g commutes (close_misnested o)
  close_misnested-louder None s = refl
  close_misnested-louder (Some a) s =
      then-louder g commutes (λ s. unlist a (adoption_agency (codes "a") (parse_error s))) (remove_from_stack a.number)
      (λ s. ap (unlist a) (then-louder g commutes parse_error (adoption_agency (codes "a"))
      (parse_error-louder g commutes) (adoption_agency-louder (codes "a")) s))
      (remove_from_stack-louder g commutes a.number)
      s

  pub misnested-louder : IsLoud g commutes handle_misnested_a_tags
  unfolding handle_misnested_a_tags
  misnested-louder s = close_misnested-louder (last_named (codes "a") s.active_formatting) s
