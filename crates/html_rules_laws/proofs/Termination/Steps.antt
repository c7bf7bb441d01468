-- What actions of rows that take a token again leave of the open elements that pay, and of the template modes.
use Rattle.std.proofs.Common.{◌≡◌, ◌∙◌, ℕ, suc, ◌+◌, ◌<◌, ◌≤◌, Bool, true, false, List, [], ◌∷◌, Option, Some, None, refl, sym}
use Rattle.std.proofs.Common.{true≢false, arith, codes, inl, inr}
use Rattle.std.specs.Prelude.{◌||◌, ◌&&◌, nat_eq, not}
use Rattle.std.specs.List.{list_all}
use Rattle.std.proofs.lemmas.Bool.{and_parts, cases_lt, eqb-true}
use Rattle.markup.specs.Forest.{node_count}
use Rattle.html_tokens.specs.declared.tags.Tag.{Tag}
use Rattle.html_tokens.specs.declared.token.Token.{Token}
use Rattle.html_rules.specs.Actions.{act, frameset_not_ok_unless_white, save_mode, pop_template_mode, push_head, push_head_elem}
use Rattle.html_rules.specs.Actions.{remove_from_stack_if, remove_head_elem, set_foster_parenting, set_head_elem}
use Rattle.html_rules.specs.Actions.{set_quirks_mode, set_template_mode, insert_pending_text, insert_table_text}
use Rattle.html_rules.specs.Choice.{choose}
use Rattle.html_rules.specs.ForeignContent.{ends_foreign, ends_foreign_in, pop_foreign}
use Rattle.html_rules.specs.Formatting.{clear_active_formatting_to_marker, reconstruct_active_formatting_elements, reopen}
use Rattle.html_rules.specs.Names.{Html}
use Rattle.html_rules.specs.Places.{append_text, create_root, insert_element}
use Rattle.html_rules.specs.Reset.{reset_insertion_mode}
use Rattle.html_rules.specs.Sets.{is_among, names_of}
use Rattle.html_rules.specs.Stack.{check_body_end, expect_to_close, generate_implied_end_tags, is_open, nothing, parse_error}
use Rattle.html_rules.specs.Stack.{pop_but_root, pop_until, pop_until_current, remove_from_stack}
use Rattle.html_rules.specs.State.{Open, Entry, Element, Marker, State, current_is, is_in}
use Rattle.html_rules.specs.Table.{Action, Nothing, Then, ParseError, InsertNew, CreateNewRoot, Pop, PopUntil, ClearBackTo}
use Rattle.html_rules.specs.Table.{Close, ImpliedEndTags, CheckBodyEnd, SetHeadElem, PushHeadElem, RemoveHeadElem}
use Rattle.html_rules.specs.Table.{ClearToMarker, SaveMode, ResetMode, SetTemplateMode, PopTemplateMode, SetQuirks}
use Rattle.html_rules.specs.Table.{EnableFosterParenting, DisableFosterParenting, PopForeign}
use Rattle.html_rules.specs.Tokens.{is_white}
use Rattle.html_rules.specs.declared.rules.Rules.{Rules}
use Rattle.html_rules.specs.declared.tag_set.TagSet.TheVariants as set
use Rattle.html_rules_laws.specs.Ready.{are_formatting}
use Rattle.html_rules_laws.specs.Settled.{are_template_modes, is_template_mode}
use Rattle.html_rules_laws.proofs.Names.{disjoint}
use Rattle.html_rules_laws.proofs.Termination.Matters.{all_pay, below-less, payers, payers-part, paying_names, pays, pays-in}
use Rattle.html_rules_laws.proofs.TreePreserved.Standing.{IsPart, part-below, part-but_root, part-from, part-number}
use Rattle.html_rules_laws.proofs.Frames.Aside.{first-modes}

-- how many elements that pay come with an action, at most; of those that are known
abbrev pub one_if_pays : List ℕ → ℕ
one_if_pays name = choose (is_among name paying_names) (λ _. 1) (λ _. 0)

abbrev pub brought : Action → ℕ
brought (Then a b) = brought a + brought b
brought (InsertNew name) = one_if_pays name
brought a = 0

abbrev pub is_known : Action → Bool
is_known (Then a b) = is_known a && is_known b
is_known Nothing = true
is_known ParseError = true
is_known (InsertNew name) = true
is_known CreateNewRoot = true
is_known Pop = true
is_known (PopUntil names) = true
is_known (ClearBackTo names) = true
is_known (Close names) = true
is_known ImpliedEndTags = true
is_known CheckBodyEnd = true
is_known SetHeadElem = true
is_known ClearToMarker = true
is_known SaveMode = true
is_known ResetMode = true
is_known (SetTemplateMode mode) = is_template_mode mode
is_known PopTemplateMode = true
is_known SetQuirks = true
is_known a = false

-- a step, with which so many elements that pay come at most
pub record Brings (k : ℕ) (s r : State) : Type 0 where
  pub payers : payers r.open_elems ≤ payers s.open_elems + k
  pub modes : are_template_modes s.template_modes ≡ true → are_template_modes r.template_modes ≡ true

brings-none : (s r : State) → payers r.open_elems ≤ payers s.open_elems → r.template_modes ≡ s.template_modes → Brings 0 s r
brings-none s r h e = record { payers = omega arith; modes = λ k. rw e k }

-- elements leave
brings-part : (s r : State) → IsPart r.open_elems s.open_elems → r.template_modes ≡ s.template_modes → Brings 0 s r
brings-part s r part e = brings-none s r (payers-part s.open_elems r.open_elems part) e

brings-choose : (b : Bool) (k : ℕ) (s x y : State) → Brings k s x → Brings k s y → Brings k s (choose b (λ _. x) (λ _. y))
brings-choose true k s x y h g = h
brings-choose false k s x y h g = g

close-brings : (p : Open → Bool) (s : State) → Brings 0 s (expect_to_close p s)
unfolding expect_to_close pop_until parse_error
close-brings p s = brings-choose (current_is p s.open_elems) 0 s _ _
    (brings-part s _ (part-below p s.open_elems) refl) (brings-part s _ (part-below p s.open_elems) refl)

new-brings : (name : List ℕ) (xs : List Open) (n : ℕ) (rules : Rules)
    → payers (record { number = n; namespace = Html; name = name; rules = rules } ∷ xs) ≤ payers xs + one_if_pays name
new-brings name xs n rules = by (is_among name paying_names) where
  by : (b : Bool) → choose b (λ _. suc (payers xs)) (λ _. payers xs) ≤ payers xs + choose b (λ _. 1) (λ _. 0)
  by true = omega arith
  by false = omega arith

pub known-brings : (a : Action) → is_known a ≡ true → (t : Token) (s : State) → Brings (brought a) s (act a t s)
unfolding parse_error insert_element create_root pop_but_root pop_until pop_until_current generate_implied_end_tags
    check_body_end set_head_elem clear_active_formatting_to_marker save_mode reset_insertion_mode set_template_mode
    pop_template_mode set_quirks_mode
known-brings (Then a b) k t s =
    let parts = and_parts (is_known a) (is_known b) k in
    let one = known-brings a parts.0 t s in
    let two = known-brings b parts.1 t (act a t s) in
    record { payers = let p = one.payers in let q = two.payers in omega arith; modes = λ h. two.modes (one.modes h) }
known-brings Nothing k t s = brings-none s s (omega arith) refl
known-brings ParseError k t s = brings-none s (parse_error s) (omega arith) refl
known-brings (InsertNew name) k t s = record { payers = new-brings name s.open_elems (node_count s.forest) s.opts.rules; modes = λ h. h }
known-brings CreateNewRoot k t s = record { payers = new-brings (codes "html") s.open_elems (node_count s.forest) s.opts.rules; modes = λ h. h }
known-brings Pop k t s = brings-part s _ (part-but_root s.open_elems) refl
known-brings (PopUntil names) k t s = brings-part s _ (part-below (is_in names) s.open_elems) refl
known-brings (ClearBackTo names) k t s = brings-part s _ (part-from (is_in names) s.open_elems) refl
known-brings (Close names) k t s = close-brings (is_in names) s
known-brings ImpliedEndTags k t s = brings-part s _ (part-from (λ x. not (is_in set.CursoryImpliedEnd x) || nothing x) s.open_elems) refl
known-brings CheckBodyEnd k t s = brings-choose (list_all (is_in set.BodyEnd) s.open_elems) 0 s s (parse_error s)
    (brings-none s s (omega arith) refl) (brings-none s (parse_error s) (omega arith) refl)
known-brings SetHeadElem k t s = brings-none s _ (omega arith) refl
known-brings ClearToMarker k t s = brings-none s _ (omega arith) refl
known-brings SaveMode k t s = brings-none s _ (omega arith) refl
known-brings ResetMode k t s = brings-none s _ (omega arith) refl
known-brings (SetTemplateMode mode) k t s = record { payers = omega arith; modes = λ h. rw k (first-modes s.template_modes h) }
known-brings PopTemplateMode k t s = record { payers = omega arith; modes = first-modes s.template_modes }
known-brings SetQuirks k t s = brings-none s _ (omega arith) refl
known-brings a k t s = absurd (true≢false (sym k))

-- an action that brings none, and pops up to an element that pays
abbrev pub closes : Action → Bool
closes (Then a b) = (is_known a && is_known b) && (nat_eq (brought a + brought b) 0 && (closes a || closes b))
closes (PopUntil names) = all_pay names
closes (Close names) = all_pay names
closes a = false

close-less : (p : Open → Bool) → ((x : Open) → p x ≡ true → pays x ≡ true) → (s : State) → 0 < payers s.open_elems
    → payers (expect_to_close p s).open_elems < payers s.open_elems
unfolding expect_to_close pop_until parse_error
close-less p h s some = by (current_is p s.open_elems) where
  by : (b : Bool) → payers (choose b (λ _. pop_until p s) (λ _. pop_until p (parse_error s))).open_elems < payers s.open_elems
  by true = below-less p h s.open_elems some
  by false = below-less p h s.open_elems some

pub closes-less : (a : Action) → closes a ≡ true → (t : Token) (s : State) → 0 < payers s.open_elems
    → payers (act a t s).open_elems < payers s.open_elems
unfolding pop_until
closes-less (Then a b) h t s some = by (closes a) refl (and_parts (nat_eq (brought a + brought b) 0) _ parts.1).1
    (closes-less a) (closes-less b) where
      parts : ((is_known a && is_known b) ≡ true) × ((nat_eq (brought a + brought b) 0 && (closes a || closes b)) ≡ true)
      parts = and_parts (is_known a && is_known b) _ h

      known : (is_known a ≡ true) × (is_known b ≡ true)
      known = and_parts (is_known a) (is_known b) parts.0

      none : brought a + brought b ≡ 0
      none = eqb-true (brought a + brought b) 0 (and_parts (nat_eq (brought a + brought b) 0) _ parts.1).0

      first : payers (act a t s).open_elems ≤ payers s.open_elems
      first = let p = (known-brings a known.0 t s).payers in let z = none in omega arith

      second : payers (act b t (act a t s)).open_elems ≤ payers (act a t s).open_elems
      second = let p = (known-brings b known.1 t (act a t s)).payers in let z = none in omega arith

      by : (c : Bool) → closes a ≡ c → (c || closes b) ≡ true
          → (closes a ≡ true → (t : Token) (s : State) → 0 < payers s.open_elems → payers (act a t s).open_elems < payers s.open_elems)
          → (closes b ≡ true → (t : Token) (s : State) → 0 < payers s.open_elems → payers (act b t s).open_elems < payers s.open_elems)
          → payers (act b t (act a t s)).open_elems < payers s.open_elems
      by true e h go_a go_b = let less = go_a e t s some in let more = second in omega arith
      by false e h go_a go_b =
          elim (cases_lt 0 (payers (act a t s).open_elems)) [
            | inl left ↦ let less = go_b h t (act a t s) left in let more = first in omega arith
            | inr gone ↦ let more = second in omega arith
          ]
closes-less (PopUntil names) h t s some = below-less (is_in names) (pays-in names h) s.open_elems some
closes-less (Close names) h t s some = close-less (is_in names) (pays-in names h) s some
closes-less a h t s some = absurd (true≢false (sym h))

-- an action that ends in a reset of the mode, where that is what it comes to
abbrev pub resets : Action → Bool
resets (Then a b) = resets b
resets ResetMode = true
resets a = false

-- steps that leave the modes and the list of formatting elements as they are, and bring no element that pays
pub record IsMild (s r : State) : Type 0 where
  pub payers : payers r.open_elems ≤ payers s.open_elems
  pub mode : r.mode ≡ s.mode
  pub original : r.orig_mode ≡ s.orig_mode
  pub entries : r.active_formatting ≡ s.active_formatting
  pub modes : r.template_modes ≡ s.template_modes

abbrev pub is_mild : Action → Bool
is_mild (Then a b) = is_mild a && is_mild b
is_mild Nothing = true
is_mild ParseError = true
is_mild EnableFosterParenting = true
is_mild DisableFosterParenting = true
is_mild PushHeadElem = true
is_mild RemoveHeadElem = true
is_mild PopForeign = true
is_mild Pop = true
is_mild a = false

mild-elements : (s : State) (xs : List Open) → payers xs ≤ payers s.open_elems → IsMild s (record s { open_elems = xs })
mild-elements s xs h = record { payers = h; mode = refl; original = refl; entries = refl; modes = refl }

head-mild : (o : Option ℕ) (s : State) → IsMild s (push_head o s)
head-mild None s = mild-elements s s.open_elems (omega arith)
head-mild (Some n) s = mild-elements s _ (let new = new-brings (codes "head") s.open_elems n s.opts.rules in omega arith)

removed-mild : (o : Option ℕ) (s : State) → IsMild s (remove_from_stack_if o s)
unfolding remove_from_stack
removed-mild None s = mild-elements s s.open_elems (omega arith)
removed-mild (Some n) s = mild-elements s _ (payers-part s.open_elems _ (part-number n s.open_elems))

pub mild-is : (a : Action) → is_mild a ≡ true → (t : Token) (s : State) → IsMild s (act a t s)
unfolding parse_error set_foster_parenting push_head_elem remove_head_elem pop_foreign pop_until_current pop_but_root
mild-is (Then a b) h t s =
    let parts = and_parts (is_mild a) (is_mild b) h in
    let one = mild-is a parts.0 t s in
    let two = mild-is b parts.1 t (act a t s) in
    record {
      payers = let p = one.payers in let q = two.payers in omega arith;
      mode = two.mode ∙ one.mode;
      original = two.original ∙ one.original;
      entries = two.entries ∙ one.entries;
      modes = two.modes ∙ one.modes;
    }
mild-is Nothing h t s = record { payers = omega arith; mode = refl; original = refl; entries = refl; modes = refl }
mild-is ParseError h t s = record { payers = omega arith; mode = refl; original = refl; entries = refl; modes = refl }
mild-is EnableFosterParenting h t s = record { payers = omega arith; mode = refl; original = refl; entries = refl; modes = refl }
mild-is DisableFosterParenting h t s = record { payers = omega arith; mode = refl; original = refl; entries = refl; modes = refl }
mild-is PushHeadElem h t s = head-mild s.head_elem s
mild-is RemoveHeadElem h t s = removed-mild s.head_elem s
mild-is PopForeign h t s = mild-elements s _ (payers-part s.open_elems _ (part-from (ends_foreign_in s) s.open_elems))
mild-is Pop h t s = mild-elements s _ (payers-part s.open_elems _ (part-but_root s.open_elems))
mild-is a h t s = absurd (true≢false (sym h))

-- the text of a table that waited is told

pub record IsTold (s r : State) : Type 0 where
  pub payers : payers r.open_elems ≤ payers s.open_elems
  pub mode : r.mode ≡ s.mode
  pub original : r.orig_mode ≡ s.orig_mode
  pub modes : r.template_modes ≡ s.template_modes

told-choose : (b : Bool) (s x y : State) → IsTold s x → IsTold s y → IsTold s (choose b (λ _. x) (λ _. y))
told-choose true s x y h k = h
told-choose false s x y h k = k

-- formatting elements pay nothing
formatting-free : (tag : Tag) → is_among tag.name (names_of set.FormattingEnd) ≡ true → is_among tag.name paying_names ≡ false
unfolding names_of
formatting-free tag h = disjoint tag.name (names_of set.FormattingEnd) paying_names refl h

reopened-told : (entries : List Entry) → are_formatting entries ≡ true → (s : State) → IsTold s (reopen entries s)
unfolding insert_element
reopened-told [] h s = record { payers = omega arith; mode = refl; original = refl; modes = refl }
reopened-told (Marker ∷ entries) h s = record { payers = omega arith; mode = refl; original = refl; modes = refl }
reopened-told (Element n tag ∷ entries) h s =
    let parts = and_parts (is_among tag.name (names_of set.FormattingEnd)) (are_formatting entries) h in
    let before = reopened-told entries parts.1 s in
    told-choose (is_open n s.open_elems) s _ _ (record { payers = omega arith; mode = refl; original = refl; modes = refl })
    (record {
      payers = free tag parts.0 (node_count (reopen entries s).forest) (reopen entries s).opts.rules (reopen entries s).open_elems
          s.open_elems before.payers;
      mode = before.mode;
      original = before.original;
      modes = before.modes;
    })
  where
    free : (tag : Tag) → is_among tag.name (names_of set.FormattingEnd) ≡ true → (n : ℕ) (rules : Rules) (xs ys : List Open)
        → payers xs ≤ payers ys → payers (record { number = n; namespace = Html; name = tag.name; rules = rules } ∷ xs) ≤ payers ys
    free tag h n rules xs ys less = rw (formatting-free tag h) less

reconstructed-told : (s : State) → are_formatting s.active_formatting ≡ true → IsTold s (reconstruct_active_formatting_elements s)
unfolding reconstruct_active_formatting_elements
reconstructed-told s h = reopened-told s.active_formatting h s

pub pending-told : (s : State) → are_formatting s.active_formatting ≡ true → IsTold s (insert_pending_text s)
unfolding insert_pending_text append_text set_foster_parenting frameset_not_ok_unless_white parse_error
pending-told s h =
    let made = reconstructed-told (set_foster_parenting true (parse_error s)) h in
    let told : IsTold s (insert_table_text s.pending_table_text s) =
    told-choose (is_white s.pending_table_text) s _ _ (record { payers = omega arith; mode = refl; original = refl; modes = refl })
    (record { payers = made.payers; mode = made.mode; original = made.original; modes = made.modes }) in
    record { payers = told.payers; mode = told.mode; original = told.original; modes = told.modes }
