-- The adoption agency makes elements of listed tags alone.
use Rattle.std.proofs.Common.{ℕ, zero, suc, Bool, true, false, List, [], ◌∷◌, ◌++◌, Option, Some, None, codes}
use Rattle.std.specs.Prelude.{◌&&◌, not, nat_eq, IfSome}
use Rattle.std.specs.Str.{bytes_eq}
use Rattle.markup.specs.Forest.{Forest, Last, Place, node_count, put, remove, reparent_children}
use Rattle.html_tokens.specs.declared.tags.Tag.{Tag}
use Rattle.html_rules.specs.Adoption.{Turned, Walk, adopt, adopt_from, adopt_listed, adopt_open, adoption_agency, adoption_turn}
use Rattle.html_rules.specs.Adoption.{adoption_turns, begin_walk, between, close_misnested, copy_if, copy_node, cut_at}
use Rattle.html_rules.specs.Adoption.{error_if_not_current}
use Rattle.html_rules.specs.Adoption.{furthest_block, handle_misnested_a_tags, is_number, listed_as, opened_after, opened_before}
use Rattle.html_rules.specs.Adoption.{opened_for}
use Rattle.html_rules.specs.Adoption.{or_first, relist, unlist, walk, with_copy}
use Rattle.html_rules.specs.Choice.{choose}
use Rattle.html_rules.specs.Formatting.{Listed, is_listed, last_named, put_after, with_in_place, without_entry}
use Rattle.html_rules.specs.Names.{Html}
use Rattle.html_rules.specs.Places.{place_for}
use Rattle.html_rules.specs.Stack.{in_scope, is_open, parse_error, pop}
use Rattle.html_rules.specs.State.{Entry, Element, Marker, Open, State, current_is, current_node, current_number, is_in, is_named}
use Rattle.html_rules.specs.declared.tag_set.TagSet.TheVariants as set
use Rattle.html_origins.specs.Allowed.{IsStateAllowed, Allowed, AreNodesAllowed, AreEntriesAllowed, AreOpenAllowed, MayCreate}
use Rattle.html_origins.proofs.Steps.{Keeps, below-opened, choose-from, choose-listed, element-from, error-from, generic-from, pop-from}
use Rattle.html_origins.proofs.Steps.{relisted, unstacked-from}
use Rattle.html_origins.proofs.Trees.{put-from, remove-from, reparented-from}

module _ (a : Allowed) (known : a.namespace Html) where
  abbrev IsTagKept : Tag → Type 0
  IsTagKept tag = MayCreate a Html tag.name tag.attrs

  abbrev IsKept : Option Listed → Type 0
  IsKept o = IfSome o (λ listed. IsTagKept listed.tag)

  choose-kept : (b : Bool) (x y : Option Listed) → IsKept x → IsKept y → IsKept (choose b (λ _. x) (λ _. y))
  choose-kept true x y h k = h
  choose-kept false x y h k = k

  named-kept : (name : List ℕ) (es : List Entry) → AreEntriesAllowed a es → IsKept (last_named name es)
  named-kept name [] h = tt
  named-kept name (Marker ∷ es) h = tt
  named-kept name (Element n tag ∷ es) h = choose-kept (bytes_eq tag.name name) (Some (record { number = n; tag = tag }))
      (last_named name es)
      h.0 (named-kept name es h.1)

  listed-kept : (n : ℕ) (es : List Entry) → AreEntriesAllowed a es → IsKept (listed_as n es)
  listed-kept n [] h = tt
  listed-kept n (Marker ∷ es) h = listed-kept n es h
  listed-kept n (Element m tag ∷ es) h = choose-kept (nat_eq m n) (Some (record { number = m; tag = tag })) (listed_as n es)
      h.0 (listed-kept n es h.1)

  -- LISTS

  without-listed : (n : ℕ) (es : List Entry) → AreEntriesAllowed a es → AreEntriesAllowed a (without_entry n es)
  without-listed n [] h = tt
  without-listed n (Marker ∷ es) h = without-listed n es h
  without-listed n (Element m tag ∷ es) h = choose-listed a (nat_eq m n) es (Element m tag ∷ without_entry n es) h.1
      (h.0, without-listed n es h.1)

  in_place-listed : (n m : ℕ) (tag : Tag) (es : List Entry) → IsTagKept tag → AreEntriesAllowed a es
      → AreEntriesAllowed a (with_in_place n (Element m tag) es)
  in_place-listed n m tag [] k h = tt
  in_place-listed n m tag (Marker ∷ es) k h = in_place-listed n m tag es k h
  in_place-listed n m tag (Element o other ∷ es) k h = choose-listed a (nat_eq o n) (Element m tag ∷ es)
      (Element o other ∷ with_in_place n (Element m tag) es) (k, h.1) (h.0, in_place-listed n m tag es k h.1)

  after-listed : (n m : ℕ) (tag : Tag) (es : List Entry) → IsTagKept tag → AreEntriesAllowed a es
      → AreEntriesAllowed a (put_after n (Element m tag) es)
  after-listed n m tag [] k h = tt
  after-listed n m tag (Marker ∷ es) k h = after-listed n m tag es k h
  after-listed n m tag (Element o other ∷ es) k h = choose-listed a (nat_eq o n) (Element m tag ∷ Element o other ∷ es)
      (Element o other ∷ put_after n (Element m tag) es) (k, h) (h.0, after-listed n m tag es k h.1)

  relist-listed : (n m : ℕ) (tag : Tag) (xs : List Open) (es : List Entry) → IsTagKept tag → AreEntriesAllowed a es
      → AreEntriesAllowed a (relist n (Element m tag) xs es)
  relist-listed n m tag [] es k h = in_place-listed n m tag es k h
  relist-listed n m tag (x ∷ xs) es k h = without-listed n (put_after x.number (Element m tag) es) (after-listed x.number m tag es k h)

  -- OPEN ELEMENTS

  append-opened : (xs ys : List Open) → AreOpenAllowed a xs → AreOpenAllowed a ys → AreOpenAllowed a (xs ++ ys)
  append-opened [] ys h k = k
  append-opened (x ∷ xs) ys h k = (h.0, append-opened xs ys h.1 k)

  choose-opened : (b : Bool) (xs ys : List Open) → AreOpenAllowed a xs → AreOpenAllowed a ys
      → AreOpenAllowed a (choose b (λ _. xs) (λ _. ys))
  choose-opened true xs ys h k = h
  choose-opened false xs ys h k = k

  later-opened : (n : ℕ) (xs : List Open) → AreOpenAllowed a xs → AreOpenAllowed a (opened_after n xs)
  later-opened n [] h = tt
  later-opened n (x ∷ xs) h = choose-opened (nat_eq x.number n) [] (x ∷ opened_after n xs) tt (h.0, later-opened n xs h.1)

  earlier-opened : (n : ℕ) (xs : List Open) → AreOpenAllowed a xs → AreOpenAllowed a (opened_before n xs)
  earlier-opened n xs h = below-opened a (is_number n) xs h

  abbrev IsKnown : Option Open → Type 0
  IsKnown o = IfSome o (λ x. a.namespace x.namespace)

  first-known : (o : Option Open) (x : Open) → IsKnown o → a.namespace x.namespace → IsKnown (or_first o x)
  first-known (Some deeper) x h k = h
  first-known None x h k = by (is_in set.SpecialTag x) where
    by : (b : Bool) → IsKnown (choose b (λ _. Some x) (λ _. None))
    by true = k
    by false = tt

  block-known : (xs : List Open) → AreOpenAllowed a xs → IsKnown (furthest_block xs)
  block-known [] h = tt
  block-known (x ∷ xs) h = first-known (furthest_block xs) x (block-known xs h.1) h.0

  -- THE WALK

  record IsWalked (w : Walk) : Type 0 where
    elements : AreNodesAllowed a w.forest
    listed : AreEntriesAllowed a w.active_formatting
    copies : AreOpenAllowed a w.copies

  copied-from : (f : Forest) (tag : Tag) → IsTagKept tag → AreNodesAllowed a f → AreNodesAllowed a (with_copy f tag)
  copied-from f tag k h = element-from a f Html tag.name tag.attrs tag.had_duplicate_attributes k h

  copy-walked : (listed : Listed) (w : Walk) → IsTagKept listed.tag → IsWalked w → IsWalked (copy_node listed w)
  copy-walked listed w k h = record {
    elements = put-from a (remove (with_copy w.forest listed.tag) w.last_node) (Last (node_count w.forest)) w.last_node
        (remove-from a (with_copy w.forest listed.tag) w.last_node (copied-from w.forest listed.tag k h.elements));
    listed = in_place-listed listed.number (node_count w.forest) listed.tag w.active_formatting k h.listed;
    copies = append-opened w.copies (opened_for w.rules w.forest listed.tag ∷ []) h.copies (known, tt);
  }

  copied-walked : (o : Option Listed) (w : Walk) → IsKept o → IsWalked w → IsWalked (copy_if o w)
  copied-walked None w k h = h
  copied-walked (Some listed) w k h = copy-walked listed w k h

  walked : (left : ℕ) (xs : List Open) (w : Walk) → IsWalked w → IsWalked (walk left xs w)
  walked left [] w h = h
  walked zero (x ∷ xs) w h = walked zero xs (record w { active_formatting = without_entry x.number w.active_formatting })
      (record { elements = h.elements; listed = without-listed x.number w.active_formatting h.listed; copies = h.copies })
  walked (suc left) (x ∷ xs) w h = walked left xs (copy_if (listed_as x.number w.active_formatting) w)
      (copied-walked (listed_as x.number w.active_formatting) w (listed-kept x.number w.active_formatting h.listed) h)

  adopted : (fe : Listed) (block : Open) (w : Walk) (s : State) → IsTagKept fe.tag → a.namespace block.namespace → IsWalked w
      → IsStateAllowed a s → IsStateAllowed a (adopt fe block w s)
  adopted fe block w s k b h is =
      let removed : Forest = remove w.forest w.last_node in
      let place : Place = place_for s.foster_parenting removed s.open_elems (current_node (opened_before fe.number s.open_elems)) in
      let placed : Forest = put removed place w.last_node in
      let at : AreNodesAllowed a placed = put-from a removed place w.last_node (remove-from a w.forest w.last_node h.elements) in
      let copied : AreNodesAllowed a (with_copy placed fe.tag) = copied-from placed fe.tag k at in
      let moved : Forest = reparent_children (with_copy placed fe.tag) block.number (node_count placed) in
      record {
        elements = put-from a moved (Last block.number) (node_count placed)
            (reparented-from a (with_copy placed fe.tag) block.number (node_count placed) copied);
        listed = relist-listed fe.number (node_count placed) fe.tag w.copies w.active_formatting k h.listed;
        opened = append-opened (opened_after block.number s.open_elems ++ opened_for s.opts.rules placed fe.tag ∷ block ∷ w.copies)
            (opened_before fe.number s.open_elems)
            (append-opened (opened_after block.number s.open_elems) (opened_for s.opts.rules placed fe.tag ∷ block ∷ w.copies)
            (later-opened block.number s.open_elems is.opened) (known, (b, h.copies)))
            (earlier-opened fe.number s.open_elems is.opened);
        context = is.context;
      }

  cut-from : (fe : Listed) → Keeps a (cut_at fe)
  cut-from fe s is = record {
    elements = is.elements;
    listed = without-listed fe.number s.active_formatting is.listed;
    opened = earlier-opened fe.number s.open_elems is.opened;
    context = is.context;
  }

  from-adopted : (fe : Listed) (o : Option Open) (s : State) → IsTagKept fe.tag → IsKnown o → IsStateAllowed a s
      → IsStateAllowed a (adopt_from fe o s).state
  from-adopted fe None s k b is = cut-from fe s is
  from-adopted fe (Some block) s k b is =
      adopted fe block (walk 3 (between fe block s) (begin_walk block s)) s k b
      (walked 3 (between fe block s) (begin_walk block s) (record { elements = is.elements; listed = is.listed; copies = tt })) is

  open-adopted : (fe : Listed) (s : State) → IsTagKept fe.tag → IsStateAllowed a s → IsStateAllowed a (adopt_open fe s).state
  open-adopted fe s k is =
      from-adopted fe (furthest_block (opened_after fe.number s.open_elems)) (error_if_not_current fe s) k
      (block-known (opened_after fe.number s.open_elems) (later-opened fe.number s.open_elems is.opened))
      (choose-from a (current_is (is_number fe.number) s.open_elems) s (parse_error s) is (error-from a s is))

  unlisted-from : (fe : Listed) → Keeps a (unlist fe)
  unlisted-from fe s is = relisted a (without_entry fe.number s.active_formatting) s
      (without-listed fe.number s.active_formatting is.listed) is

  choose-turned : (b : Bool) (x y : Turned) → IsStateAllowed a x.state → IsStateAllowed a y.state
      → IsStateAllowed a (choose b (λ _. x) (λ _. y)).state
  choose-turned true x y h k = h
  choose-turned false x y h k = k

  listed-adopted : (o : Option Listed) (name : List ℕ) (s : State) → IsKept o → IsStateAllowed a s
      → IsStateAllowed a (adopt_listed o name s).state
  listed-adopted None name s k is = generic-from a name s is
  listed-adopted (Some fe) name s k is =
      choose-turned (not (is_open fe.number s.open_elems)) (record { state = unlist fe (parse_error s); goes_on = false })
      (choose (not (in_scope set.DefaultScope (is_number fe.number) s.open_elems))
      (λ _. record { state = parse_error s; goes_on = false }) (λ _. adopt_open fe s))
      (unlisted-from fe (parse_error s) (error-from a s is))
      (choose-turned (not (in_scope set.DefaultScope (is_number fe.number) s.open_elems))
      (record { state = parse_error s; goes_on = false })
      (adopt_open fe s) (error-from a s is) (open-adopted fe s k is))

  turn-adopted : (name : List ℕ) (s : State) → IsStateAllowed a s → IsStateAllowed a (adoption_turn name s).state
  unfolding adoption_turn
  turn-adopted name s is = listed-adopted (last_named name s.active_formatting) name s (named-kept name s.active_formatting is.listed) is

  turns-adopted : (n : ℕ) (name : List ℕ) → Keeps a (adoption_turns n name)
  unfolding adoption_turns
  turns-adopted zero name s is = is
  turns-adopted (suc n) name s is =
      let turned : Turned = adoption_turn name s in
      let h : IsStateAllowed a turned.state = turn-adopted name s is in
      choose-from a turned.goes_on (adoption_turns n name turned.state) turned.state (turns-adopted n name turned.state h) h

  pub agency-from : (name : List ℕ) → Keeps a (adoption_agency name)
  unfolding adoption_agency
  agency-from name s is = choose-from a
      (current_is (is_named name) s.open_elems && not (is_listed (current_number s.open_elems) s.active_formatting))
      (pop s) (adoption_turns 8 name s) (pop-from a s is) (turns-adopted 8 name s is)

  misnested-from : (o : Option Listed) → Keeps a (close_misnested o)
  misnested-from None s is = is
  misnested-from (Some fe) s is =
      let closed : State = adoption_agency (codes "a") (parse_error s) in
      let h : IsStateAllowed a closed = agency-from (codes "a") (parse_error s) (error-from a s is) in
      unstacked-from a fe.number (unlist fe closed) (unlisted-from fe closed h)

  pub misnested_a-from : Keeps a handle_misnested_a_tags
  unfolding handle_misnested_a_tags
  misnested_a-from s is = misnested-from (last_named (codes "a") s.active_formatting) s is
