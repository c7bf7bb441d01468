-- What actions of rows make of the parts: computed for each part, and true of the stack.
use Rattle.std.proofs.Common.{◌≡◌, ◌∙◌, ℕ, suc, ◌≤◌, Bool, true, false, List, [], ◌∷◌, length, Option, Some, None, refl, sym}
use Rattle.std.proofs.Common.{ap, subst, true≢false, codes, arith}
use Rattle.std.specs.Prelude.{◌||◌, ◌&&◌, not, IfSome}
use Rattle.std.specs.Str.{bytes_eq}
use Rattle.std.proofs.lemmas.Bool.{and_parts}
use Rattle.std.proofs.lemmas.Slice.Eq.{bytes_eq-Decides}
use Rattle.markup.specs.Forest.{data_of, element_name, node_count}
use Rattle.html_tokens.specs.declared.tags.Tag.{Tag}
use Rattle.html_tokens.specs.declared.token.Token.{Token}
use Rattle.html_tokens.specs.declared.token.Token.TheVariants.{TagToken}
use Rattle.html_rules.specs.Actions.{act, for_tag, forget_form_elem, insert_form_void, set_form_elem, set_template_mode, without_first}
use Rattle.html_rules.specs.Choice.{choose}
use Rattle.html_rules.specs.Conditions.{context_is, holds}
use Rattle.html_rules.specs.ForeignContent.{is_start_tag}
use Rattle.html_rules.specs.Formatting.{push_marker}
use Rattle.html_rules.specs.Names.{Html, element_name_of}
use Rattle.html_rules.specs.Places.{insert_and_pop_element_for, insert_element, insert_element_for, put_element}
use Rattle.html_rules.specs.Sets.{is_among, mathml_names_of, names_of, svg_names_of}
use Rattle.html_rules.specs.Shape.{one_if}
use Rattle.html_rules.specs.Stack.{left_from, open_templates, parse_error, pop_but_root, pop_until_current, without_current_but_root}
use Rattle.html_rules.specs.State.{Open, State, current_is, current_number, is_in, is_named}
use Rattle.html_rules.specs.Table.{Condition, Action, Then, When, ParseError, InsertElement, InsertVoid, InsertNew}
use Rattle.html_rules.specs.Table.{InsertFormVoid, Pop, Close, CloseToken, ClearBackTo, InsertMarker, SetFormElem}
use Rattle.html_rules.specs.Table.{ForgetFormElem, SwitchTo, SetTemplateMode}
use Rattle.html_rules.specs.Tokens.{name_of}
use Rattle.html_rules.specs.declared.insertion_mode.InsertionMode.{InsertionMode}
use Rattle.html_rules.specs.declared.insertion_mode.InsertionMode.TheVariants as mode
use Rattle.html_rules.specs.declared.rules.Rules.{Rules}
use Rattle.html_rules.specs.declared.tag_set.TagSet.{TagSet}
use Rattle.html_rules.specs.declared.tag_set.TagSet.TheVariants as set
use Rattle.html_rules_laws.specs.Nesting.{Part, Root, HeadPart, BodyPart, Frames, Contents, TablePart, Section, RowPart, Cell}
use Rattle.html_rules_laws.specs.Nesting.{CaptionPart, Columns, Loose, Nothing, Ground, Flow, base, is_loose, is_in_template}
use Rattle.html_rules_laws.specs.Nesting.{may_stand, nested, part_of, parts, set_of, takes, top}
use Rattle.html_rules_laws.specs.Soundness.{Standing, is_plain_action}
use Rattle.html_rules_laws.specs.Upright.{is_first}
use Rattle.html_rules_laws.proofs.SetFacts.{all_among, among-all, within}
use Rattle.html_rules_laws.proofs.Termination.Kinds.{Kind, Starts, is_of}
use Rattle.html_rules_laws.proofs.Soundness.Acts.{act-aside, tame_in}
use Rattle.html_rules_laws.proofs.Soundness.Specials.{close-elements}
use Rattle.html_rules_laws.proofs.TreePreserved.StandingSteps.{insert_element_for-Standing}
use Rattle.html_rules_laws.proofs.TreePreserved.StandingTrees.{inserted-Made}
use Rattle.html_rules_laws.proofs.TreePreserved.Acts.{act-eased}
use Rattle.html_rules_laws.proofs.TreePreserved.Poised.{act-poised, tame-poised}
use Rattle.html_rules_laws.proofs.ModesPreserved.Flows.{flows}
use Rattle.html_rules_laws.proofs.ModesPreserved.Fluid.{At, Fluid, are_parts, base-based, base-solid, based-below, below-is}
use Rattle.html_rules_laws.proofs.ModesPreserved.Fluid.{below_base, fluid-changed, fluid-flow, fluid-moved, from-base, from-top}
use Rattle.html_rules_laws.proofs.ModesPreserved.Fluid.{is_inner, is_nothing, loosened, parts-out}
use Rattle.html_rules_laws.proofs.Frames.Framed as framed
use Rattle.html_rules_laws.proofs.Frames.Framed.{IsFramed}
use Rattle.html_rules_laws.proofs.ModesPreserved.Parts.{part-set, set-part}
use Rattle.html_rules_laws.proofs.ModesPreserved.Smooth.{Guard, NoGuard, Current, TokenBased, Holds, cell-part, guard-holds}
use Rattle.html_rules_laws.proofs.ModesPreserved.Smooth.{guard_of, is_cell_kind, keeps, keeps-holds}
use Rattle.html_rules_laws.proofs.ModesPreserved.Stacks.{IsLoose, freed-base, freed-nested, freed-templates, takes-top}
use Rattle.html_rules_laws.proofs.Bools.{both, no, not_true, or_by}
use Rattle.html_rules_laws.proofs.Frames.KeptBySteps.{expect_to_close-keeps, insert-keeps, pop_until_current-keeps}

abbrev pub may_insert : Part → At → Bool
may_insert TablePart v = true
may_insert p v = is_inner p && (v.exact && may_stand Flow p v.base)

-- whatever an inner part stands on
abbrev pub pops_to : Part → (Part → Bool) → Bool
pops_to p ok =
    is_inner p
    && ((not (may_stand Flow p TablePart) || ok TablePart)
    && ((not (may_stand Flow p Section) || ok Section)
    && ((not (may_stand Flow p RowPart) || ok RowPart)
    && ((not (may_stand Flow p Contents) || ok Contents) && (not (may_stand Flow p Root) || ok Root)))))

-- the part that all these names are of
abbrev first_part : (Part → Bool) → List Part → Part
first_part ok [] = Nothing
first_part ok (p ∷ ps) = choose (ok p) (λ _. p) (λ _. first_part ok ps)

abbrev inserted : Part → List (List ℕ) → Bool
inserted p names = all_among names (names_of (set_of p))

abbrev pub part_in : Kind → Part
part_in (Starts names) = first_part (λ p. inserted p names) parts
part_in kind = Nothing

abbrev pub part_named : List ℕ → Part
part_named name = first_part (λ p. is_among name (names_of (set_of p))) parts

abbrev is_form_kind : Kind → Bool
is_form_kind (Starts names) = all_among names (names_of set.Form)
is_form_kind kind = false

abbrev pub at_exact : Part → At → At
at_exact p v = record v { base = p; exact = true }

abbrev kept_guard : Kind → Guard → Action → Guard
kept_guard kind gd a = choose (keeps kind gd a) (λ _. gd) (λ _. NoGuard)

abbrev smooth : Kind → Guard → Part → Action → Bool
smooth kind gd b a = flows kind gd b a && (tame_in kind a && is_plain_action a)

abbrev pops : Guard → At → Bool
pops (Current set.Colgroup) v = true
pops gd v = v.exact

abbrev pub is_template_base : Part → Bool
is_template_base Contents = true
is_template_base Root = true
is_template_base p = false

abbrev pub runs : Kind → Guard → Action → At → (At → Bool) → Bool
runs kind gd (Then InsertElement (When c SetFormElem)) v post = is_form_kind kind
    && (smooth kind gd v.base InsertElement && post (loosened v))
runs kind gd (Then a b) v post = runs kind gd a v (λ w. runs kind (kept_guard kind gd a) b w post)
runs kind gd (When c a) v post = runs kind (guard_of kind v.base c) a v post && post v
runs kind gd InsertMarker v post = post v
runs kind gd ParseError v post = post v
runs kind gd (ClearBackTo names) v post = (within (set_of v.base) names && are_parts names)
    && (not (is_nothing v.base) && post (record v { exact = true }))
runs kind gd (SwitchTo m) v post = (not (is_first m) && not (is_in_template m)) && post (record v { mode = m })
runs kind gd (SetTemplateMode m) v post = (not (is_first m) && (is_in_template v.mode && is_template_base v.base)) && post v
runs kind gd InsertFormVoid v post = is_form_kind kind && post v
runs kind gd ForgetFormElem v post = post v
runs kind gd InsertElement v post = (smooth kind gd v.base InsertElement && post (loosened v))
    || (may_insert (part_in kind) v && (tame_in kind InsertElement && post (at_exact (part_in kind) v)))
runs kind gd (InsertNew name) v post = (smooth kind gd v.base (InsertNew name) && post (loosened v))
    || (may_insert (part_named name) v && (tame_in kind (InsertNew name) && post (at_exact (part_named name) v)))
runs kind gd Pop v post = (smooth kind gd v.base Pop && post (loosened v))
    || (pops gd v && (not (is_in_template v.mode) && pops_to v.base (λ q. post (at_exact q v))))
runs kind gd (Close names) v post = (within (set_of v.base) names && are_parts names)
    && (not (is_in_template v.mode) && pops_to v.base (λ q. post (at_exact q v)))
runs kind TokenBased CloseToken v post = is_cell_kind kind && (not (is_in_template v.mode) && pops_to v.base (λ q. post (at_exact q v)))
runs kind gd a v post = smooth kind gd v.base a && post (loosened v)

-- what an inner part stands on
record IsUnder (g : Ground) (q : Part) (ok : Part → Bool) : Type 0 where
  takes : takes g q ≡ true
  fits : ok q ≡ true
  solid : is_loose q ≡ false

pops-under : (g : Ground) (p q : Part) (ok : Part → Bool) → pops_to p ok ≡ true → may_stand g p q ≡ true → IsUnder g q ok
pops-under g p q ok h m = by p q inner each.0 each.1.0 each.1.1.0 each.1.1.1.0 each.1.1.1.1 m where
  inner : is_inner p ≡ true
  inner = (and_parts (is_inner p) _ h).0

  each : ((not (may_stand Flow p TablePart) || ok TablePart) ≡ true)
      × (((not (may_stand Flow p Section) || ok Section) ≡ true)
      × (((not (may_stand Flow p RowPart) || ok RowPart) ≡ true)
      × (((not (may_stand Flow p Contents) || ok Contents) ≡ true) × ((not (may_stand Flow p Root) || ok Root) ≡ true))))
  each =
      let one = and_parts (not (may_stand Flow p TablePart) || ok TablePart) _ (and_parts (is_inner p) _ h).1 in
      let two = and_parts (not (may_stand Flow p Section) || ok Section) _ one.1 in
      let three = and_parts (not (may_stand Flow p RowPart) || ok RowPart) _ two.1 in
      let four = and_parts (not (may_stand Flow p Contents) || ok Contents) _ three.1 in
      (one.0, (two.0, (three.0, (four.0, four.1))))

  by : (p q : Part) → is_inner p ≡ true → (not (may_stand Flow p TablePart) || ok TablePart) ≡ true
      → (not (may_stand Flow p Section) || ok Section) ≡ true → (not (may_stand Flow p RowPart) || ok RowPart) ≡
      true → (not (may_stand Flow p Contents) || ok Contents) ≡ true
      → (not (may_stand Flow p Root) || ok Root) ≡ true → may_stand g p q ≡ true → IsUnder g q ok
  by Section TablePart i a b c d e m = record { takes = refl; fits = a; solid = refl }
  by Section Contents i a b c d e m = record { takes = refl; fits = d; solid = refl }
  by Section Root i a b c d e m = record { takes = m; fits = e; solid = refl }
  by RowPart Section i a b c d e m = record { takes = refl; fits = b; solid = refl }
  by RowPart Contents i a b c d e m = record { takes = refl; fits = d; solid = refl }
  by RowPart Root i a b c d e m = record { takes = m; fits = e; solid = refl }
  by Cell RowPart i a b c d e m = record { takes = refl; fits = c; solid = refl }
  by Cell Contents i a b c d e m = record { takes = refl; fits = d; solid = refl }
  by Cell Root i a b c d e m = record { takes = m; fits = e; solid = refl }
  by CaptionPart TablePart i a b c d e m = record { takes = refl; fits = a; solid = refl }
  by CaptionPart Contents i a b c d e m = record { takes = refl; fits = d; solid = refl }
  by CaptionPart Root i a b c d e m = record { takes = m; fits = e; solid = refl }
  by Columns TablePart i a b c d e m = record { takes = refl; fits = a; solid = refl }
  by Columns Contents i a b c d e m = record { takes = refl; fits = d; solid = refl }
  by Columns Root i a b c d e m = record { takes = m; fits = e; solid = refl }
  by Section q i a b c d e m = no m
  by RowPart q i a b c d e m = no m
  by Cell q i a b c d e m = no m
  by CaptionPart q i a b c d e m = no m
  by Columns q i a b c d e m = no m
  by p q i a b c d e m = no i

pub top-base : (xs : List Open) → is_loose (top xs) ≡ false → base xs ≡ top xs
top-base [] h = refl
top-base (x ∷ xs) h = rw h refl

-- where an inner part is the current node, a pop leaves what is below it
popped-below : (p : Part) (xs : List Open) → is_inner p ≡ true → top xs ≡ p → without_current_but_root xs ≡ below_base xs
unfolding names_of mathml_names_of svg_names_of
popped-below p [] i e = refl
popped-below p (x ∷ xs) i e = by (is_in set.Html x) (is_loose (part_of x)) refl refl where
  by : (a b : Bool) → is_in set.Html x ≡ a → is_loose (part_of x) ≡ b → choose a (λ _. x ∷ xs) (λ _. xs) ≡ choose b
      (λ _. below_base xs) (λ _. xs)
  by true b h l = absurd (true≢false (sym i ∙ ap is_inner (sym e ∙ set-part set.Html Root refl x h)))
  by false true h l = absurd (true≢false (not-inner p (ap is_loose (sym e) ∙ l) i)) where
    not-inner : (p : Part) → is_loose p ≡ true → is_inner p ≡ true → true ≡ false
    not-inner Loose l i = sym i
    not-inner p l i = sym l
  by false false h l = refl

columns-top : (xs : List Open) → current_is (is_in set.Colgroup) xs ≡ true → top xs ≡ Columns
unfolding names_of mathml_names_of svg_names_of
columns-top [] h = no h
columns-top (x ∷ xs) h = set-part set.Colgroup Columns refl x h

columns-base : (xs : List Open) → top xs ≡ Columns → base xs ≡ Columns
columns-base [] e = e
columns-base (x ∷ xs) e = rw e refl

-- what comes on top

first-is : (ok : Part → Bool) (ps : List Part) (p : Part) → first_part ok ps ≡ p → is_nothing p ≡ false → ok p ≡ true
first-is ok [] p e n = absurd (true≢false (ap is_nothing e ∙ n))
first-is ok (q ∷ ps) p e n = by (ok q) refl e (first-is ok ps p) where
  by : (b : Bool) → ok q ≡ b → choose b (λ _. q) (λ _. first_part ok ps) ≡ p
      → (first_part ok ps ≡ p → is_nothing p ≡ false → ok p ≡ true) → ok p ≡ true
  by true o e rest = rw (← e) o
  by false o e rest = rest e n

abbrev is_table_part : Part → Bool
is_table_part TablePart = true
is_table_part p = is_inner p

table-set : (p : Part) → is_table_part p ≡ true → (name : List ℕ) → is_among name (names_of (set_of p)) ≡ true
    → (n : ℕ) (rules : Rules) → part_of (record { number = n; namespace = Html; name = name; rules = rules }) ≡ p
unfolding names_of mathml_names_of svg_names_of
table-set TablePart i name h n rules = set-part set.Table TablePart refl (record { number = n; namespace = Html; name = name; rules = rules }) h
table-set Section i name h n rules = set-part set.TbodyTfootThead Section refl (record { number = n; namespace = Html; name = name; rules = rules }) h
table-set RowPart i name h n rules = set-part set.Tr RowPart refl (record { number = n; namespace = Html; name = name; rules = rules }) h
table-set Cell i name h n rules = set-part set.TdTh Cell refl (record { number = n; namespace = Html; name = name; rules = rules }) h
table-set CaptionPart i name h n rules = set-part set.Caption CaptionPart refl (record { number = n; namespace = Html; name = name; rules = rules }) h
table-set Columns i name h n rules = set-part set.Colgroup Columns refl (record { number = n; namespace = Html; name = name; rules = rules }) h
table-set p i name h n rules = no i

table-some : (p : Part) → is_table_part p ≡ true → is_nothing p ≡ false
table-some Nothing i = no i
table-some p i = refl

table-solid : (p : Part) → is_table_part p ≡ true → is_loose p ≡ false
table-solid Loose i = no i
table-solid p i = refl

table-takes : (g : Ground) (p : Part) → is_table_part p ≡ true → takes g p ≡ true
table-takes g TablePart i = refl
table-takes g Section i = refl
table-takes g RowPart i = refl
table-takes g Cell i = refl
table-takes g CaptionPart i = refl
table-takes g Columns i = refl
table-takes g p i = no i

table-root : (p : Part) → is_table_part p ≡ true → p ≡ Root → ⊥
table-root Root i e = no i
table-root TablePart i e = absurd (cc)
table-root Section i e = absurd (cc)
table-root RowPart i e = absurd (cc)
table-root Cell i e = absurd (cc)
table-root CaptionPart i e = absurd (cc)
table-root Columns i e = absurd (cc)
table-root p i e = no i

table-template : (x : Open) (p : Part) → is_table_part p ≡ true → part_of x ≡ p → is_in set.Template x ≡ false
unfolding names_of mathml_names_of svg_names_of
table-template x p i e = by (is_in set.Template x) refl where
  by : (b : Bool) → is_in set.Template x ≡ b → is_in set.Template x ≡ false
  by true h = absurd (true≢false (sym i ∙ ap is_table_part (sym e ∙ set-part set.Template Contents refl x h)))
  by false h = h

-- on the current node
stands-on : (g : Ground) (p q : Part) → is_inner p ≡ true → takes g q ≡ true → may_stand Flow p q ≡ true → may_stand g p q ≡ true
stands-on g Section Root i t m = t
stands-on g RowPart Root i t m = t
stands-on g Cell Root i t m = t
stands-on g CaptionPart Root i t m = t
stands-on g Columns Root i t m = t
stands-on g Section q i t m = m
stands-on g RowPart q i t m = m
stands-on g Cell q i t m = m
stands-on g CaptionPart q i t m = m
stands-on g Columns q i t m = m
stands-on g p q i t m = no i

insert-stands : (g : Ground) (p : Part) (v : At) (xs : List Open) → may_insert p v ≡ true → takes g v.base ≡ true
    → base xs ≡ v.base → (v.exact ≡ true → top xs ≡ v.base) → may_stand g p (top xs) ≡ true
insert-stands g TablePart v xs h t b e = takes-top g xs (rw b t)
insert-stands g Root v xs h t b e = no h
insert-stands g HeadPart v xs h t b e = no h
insert-stands g BodyPart v xs h t b e = no h
insert-stands g Frames v xs h t b e = no h
insert-stands g Contents v xs h t b e = no h
insert-stands g Loose v xs h t b e = no h
insert-stands g Nothing v xs h t b e = no h
insert-stands g Section v xs h t b e = let tests = and_parts v.exact _ h in rw (e tests.0) (stands-on g Section v.base refl t tests.1)
insert-stands g RowPart v xs h t b e = let tests = and_parts v.exact _ h in rw (e tests.0) (stands-on g RowPart v.base refl t tests.1)
insert-stands g Cell v xs h t b e = let tests = and_parts v.exact _ h in rw (e tests.0) (stands-on g Cell v.base refl t tests.1)
insert-stands g CaptionPart v xs h t b e = let tests = and_parts v.exact _ h in
    rw (e tests.0) (stands-on g CaptionPart v.base refl t tests.1)
insert-stands g Columns v xs h t b e = let tests = and_parts v.exact _ h in rw (e tests.0) (stands-on g Columns v.base refl t tests.1)

may-table : (p : Part) (v : At) → may_insert p v ≡ true → is_table_part p ≡ true
may-table TablePart v h = refl
may-table Section v h = refl
may-table RowPart v h = refl
may-table Cell v h = refl
may-table CaptionPart v h = refl
may-table Columns v h = refl
may-table p v h = no h

part-base : (x : Open) (xs : List Open) (p : Part) → part_of x ≡ p → is_loose p ≡ false → base (x ∷ xs) ≡ p
part-base x xs p e l = rw (e, l) refl

part-templates : (x : Open) (xs : List Open) → is_in set.Template x ≡ false → open_templates (x ∷ xs) ≡ open_templates xs
part-templates x xs h = rw h refl

clear-same : (names : TagSet) (s : State) → (pop_until_current (is_in names) s).open_elems ≡ left_from (is_in names) s.open_elems
unfolding pop_until_current
clear-same names s = refl

pop-framed : (s : State) → IsFramed s (pop_but_root s)
unfolding pop_but_root
pop-framed s = framed.other s _ _ _ _

pop-same : (s : State) → (pop_but_root s).open_elems ≡ without_current_but_root s.open_elems
unfolding pop_but_root
pop-same s = refl

new-same : (name : List ℕ) (s : State) → (insert_element Html name [] false s).open_elems ≡
    record { number = node_count s.forest; namespace = Html; name = name; rules = s.opts.rules } ∷ s.open_elems
unfolding insert_element
new-same name s = refl

tag-same : (tag : Tag) (s : State) → (insert_element_for tag s).open_elems ≡ record {
  number = node_count s.forest;
  namespace = Html;
  name = tag.name;
  rules = s.opts.rules;
} ∷ s.open_elems
unfolding insert_element
tag-same tag s = refl

element-framed : (t : Token) (s : State) → IsFramed s (for_tag insert_element_for t s)
element-framed (TagToken tag) s = insert-keeps framed.framed_kept tag s
element-framed t s = framed.same s

element-same : (t : Token) (tag : Tag) → t ≡ TagToken tag → (s : State)
    → (for_tag insert_element_for t s).open_elems ≡ record {
      number = node_count s.forest;
      namespace = Html;
      name = tag.name;
      rules = s.opts.rules;
    } ∷ s.open_elems
element-same t tag e s = subst
    (λ t. (for_tag insert_element_for t s).open_elems ≡ record {
      number = node_count s.forest;
      namespace = Html;
      name = tag.name;
      rules = s.opts.rules;
    } ∷ s.open_elems) (sym e) (tag-same tag s)

inner-some : (p : Part) → is_inner p ≡ true → is_nothing p ≡ false
inner-some Nothing i = no i
inner-some p i = refl

template-is : (m : InsertionMode) → is_in_template m ≡ true → m ≡ mode.InTemplate
template-is mode.InTemplate h = refl
template-is m h = no h

-- where a template was opened last, one is open
pub contents-count : (xs : List Open) → base xs ≡ Contents → 1 ≤ open_templates xs
unfolding names_of mathml_names_of svg_names_of
contents-count [] e = absurd (cc)
contents-count (x ∷ xs) e = by (is_loose (part_of x)) (is_in set.Template x) refl refl e (contents-count xs) where
  by : (b c : Bool) → is_loose (part_of x) ≡ b → is_in set.Template x ≡ c → choose b (λ _. base xs)
      (λ _. part_of x) ≡ Contents → (base xs ≡ Contents → 1 ≤ open_templates xs)
      → 1 ≤ choose c (λ _. suc (open_templates xs)) (λ _. open_templates xs)
  by b true l i e rest = omega arith
  by true false l i e rest = rest e
  by false false l i e rest = absurd (true≢false (sym (part-set x Contents e refl) ∙ i))

first-length : (m : InsertionMode) (modes : List InsertionMode) → 1 ≤ length modes → length (m ∷ without_first modes) ≡ length modes
first-length m [] h = absurd (omega arith)
first-length m (x ∷ modes) h = refl

-- what comes of an action
abbrev pub Run : Ground → Bool → Token → Action → State → (At → Bool) → Type 0
Run g template t a s post = (w : At) × ((post w ≡ true) × Fluid g template w (act a t s))

module _ (g : Ground) (template : Bool) (t : Token) where
  smooth-run : (kind : Kind) (gd : Guard) (a : Action) (v : At) (post : At → Bool)
      → (smooth kind gd v.base a && post (loosened v)) ≡ true → is_of kind t ≡ true → (s : State) → Holds gd t s
      → Fluid g template v s → Run g template t a s post
  smooth-run kind gd a v post h k s known fluid =
      let tests = and_parts (smooth kind gd v.base a) _ h in
      let more = and_parts (flows kind gd v.base a) _ tests.0 in
      let last = and_parts (tame_in kind a) _ more.1 in
      (loosened v, (tests.1, fluid-flow g template v kind gd a more.0 last.0 last.1 t k s known fluid))

  -- an inner part leaves with all above it
  below-run : (kind : Kind) (a : Action) (v : At) (post : At → Bool) → tame_in kind a ≡ true
      → is_plain_action a ≡ true → (not (is_in_template v.mode) && pops_to v.base (λ q. post (at_exact q v))) ≡ true → is_of kind t ≡ true
      → (s : State) → IsFramed s (act a t s) → (act a t s).open_elems ≡ below_base s.open_elems
      → Fluid g template v s → Run g template t a s post
  below-run kind a v post tame plain h k s fr same fluid =
      let tests = and_parts (not (is_in_template v.mode)) _ h in
      let inner = (and_parts (is_inner v.base) _ tests.1).0 in
      let below = below-is g v.base s.open_elems fluid.nested fluid.base inner in
      let q : Part = top (below_base s.open_elems) in
      let under = pops-under g v.base q (λ q. post (at_exact q v)) tests.1 below.under in (
        at_exact q v,
        (
          under.fits,
          fluid-changed g template v (at_exact q v) s (act a t s) fluid
              (tame-poised kind a tame plain t k s fluid.poised) (act-aside kind a tame t s) fr
              (act-eased kind a tame plain t k s fluid.poised.listed fluid.poised.upright.standing).names
              (rw same below.nested) (rw same (top-base (below_base s.open_elems) under.solid)) (λ _. rw same refl) under.takes refl
              (λ e b. absurd (true≢false (sym (ap is_in_template e) ∙ not_true _ tests.0))) (rw same below.templates),
        ),
      )

  -- a part comes on top
  insert-run : (kind : Kind) (a : Action) (p : Part) (v : At) (post : At → Bool) → tame_in kind a ≡ true
      → is_plain_action a ≡ true → may_insert p v ≡ true → post (at_exact p v) ≡ true → is_of kind t ≡ true
      → (s : State) → IsFramed s (act a t s) → (x : Open) → part_of x ≡ p → (act a t s).open_elems ≡ x ∷
      s.open_elems → Fluid g template v s → Run g template t a s post
  insert-run kind a p v post tame plain may ok k s fr x part same fluid =
      let table = may-table p v may in
      let stands : may_stand g (part_of x) (top s.open_elems) ≡ true =
      rw part (insert-stands g p v s.open_elems may fluid.takes fluid.base fluid.exact) in
      let nest : nested g (x ∷ s.open_elems) ≡ true = both (may_stand g (part_of x) (top s.open_elems))
      (nested g s.open_elems) stands fluid.nested in (
        at_exact p v,
        (
          ok,
          fluid-changed g template v (at_exact p v) s (act a t s) fluid
              (tame-poised kind a tame plain t k s fluid.poised) (act-aside kind a tame t s) fr
              (act-eased kind a tame plain t k s fluid.poised.listed fluid.poised.upright.standing).names
              (rw same nest) (rw same (part-base x s.open_elems p part (table-solid p table))) (λ _. rw same part)
              (table-takes g p table) refl
              (λ e b. absurd (table-root p table b)) (rw same (part-templates x s.open_elems (table-template x p table part))),
        ),
      )

  exacted : (v : At) (r : State) → Fluid g template (loosened v) r → (v.exact ≡ true → top r.open_elems ≡ v.base) → Fluid g template v r
  exacted v r h e = record {
    poised = h.poised;
    nested = h.nested;
    base = h.base;
    exact = e;
    takes = h.takes;
    at_mode = h.at_mode;
    in_template = h.in_template;
    ground = h.ground;
    of_template = h.of_template;
    count = h.count;
    framed = h.framed;
    form = h.form;
  }

  error-run : (kind : Kind) (v : At) → is_of kind t ≡ true → (s : State) → Fluid g template v s → Fluid g template v (act ParseError t s)
  unfolding parse_error
  error-run kind v k s h = exacted v (act ParseError t s)
      (fluid-flow g template v kind NoGuard ParseError refl refl refl t k s tt h) h.exact

  marker-run : (kind : Kind) (v : At) → is_of kind t ≡ true → (s : State) → Fluid g template v s → Fluid g template v (act InsertMarker t s)
  unfolding push_marker
  marker-run kind v k s h = exacted v (act InsertMarker t s)
      (fluid-flow g template v kind NoGuard InsertMarker refl refl refl t k s tt h) h.exact

  clear-run : (kind : Kind) (names : TagSet) (v : At) → within (set_of v.base) names ≡ true → are_parts names ≡ true
      → is_nothing v.base ≡ false → is_of kind t ≡ true → (s : State) → Fluid g template v s
      → Fluid g template (record v { exact = true }) (act (ClearBackTo names) t s)
  clear-run kind names v w p n k s h =
      let solid = subst (λ b. is_loose b ≡ false) h.base (base-solid s.open_elems) in
      let based = base-based names v.base solid w s.open_elems h.base n in
      let f = from-base (is_in names) s.open_elems based in
      let same = clear-same names s in
      fluid-changed g template v (record v { exact = true }) s (act (ClearBackTo names) t s) h
      (tame-poised kind (ClearBackTo names) refl refl t k s h.poised)
      (act-aside kind (ClearBackTo names) refl t s) ((pop_until_current-keeps framed.framed_kept) (is_in names) s)
      (act-eased kind (ClearBackTo names) refl refl t k s h.poised.listed h.poised.upright.standing).names
      (rw same (freed-nested g s.open_elems _ f h.nested)) (rw same (freed-base s.open_elems _ f ∙ h.base))
      (λ _. rw same (from-top (is_in names) (parts-out names p) s.open_elems based ∙ h.base)) h.takes refl
      h.in_template (rw same (freed-templates s.open_elems _ f))

  at-top : (gd : Guard) (v : At) (s : State) → pops gd v ≡ true → Holds gd t s → Fluid g template v s → top s.open_elems ≡ v.base
  at-top (Current set.Colgroup) v s p known fluid = let columns = columns-top s.open_elems known in columns
      ∙ sym (columns-base s.open_elems columns) ∙ fluid.base
  at-top gd v s p known fluid = fluid.exact p

  pop-run : (kind : Kind) (gd : Guard) (v : At) (post : At → Bool)
      → (pops gd v && (not (is_in_template v.mode) && pops_to v.base (λ q. post (at_exact q v)))) ≡ true
      → is_of kind t ≡ true → (s : State) → Holds gd t s → Fluid g template v s → Run g template t Pop s post
  pop-run kind gd v post h k s known fluid =
      let tests = and_parts (pops gd v) _ h in
      let inner = (and_parts (is_inner v.base) _ (and_parts (not (is_in_template v.mode)) _ tests.1).1).0 in
      below-run kind Pop v post refl refl tests.1 k s (pop-framed s)
      (pop-same s ∙ popped-below v.base s.open_elems inner (at-top gd v s tests.0 known fluid)) fluid

  close-run : (kind : Kind) (names : TagSet) (v : At) (post : At → Bool)
      → ((within (set_of v.base) names && are_parts names)
      && (not (is_in_template v.mode) && pops_to v.base (λ q. post (at_exact q v)))) ≡ true → is_of kind t ≡ true
      → (s : State) → Fluid g template v s → Run g template t (Close names) s post
  close-run kind names v post h k s fluid =
      let tests = and_parts (within (set_of v.base) names && are_parts names) _ h in
      let sets = and_parts (within (set_of v.base) names) (are_parts names) tests.0 in
      let inner = (and_parts (is_inner v.base) _ (and_parts (not (is_in_template v.mode)) _ tests.1).1).0 in
      let solid = subst (λ b. is_loose b ≡ false) fluid.base (base-solid s.open_elems) in
      below-run kind (Close names) v post refl refl tests.1 k s ((expect_to_close-keeps framed.framed_kept) (is_in names) s)
      (close-elements (is_in names) s ∙ based-below (is_in names) (parts-out names sets.1) s.open_elems
      (base-based names v.base solid sets.0 s.open_elems fluid.base (inner-some v.base inner))) fluid

  cell-out : (kind : Kind) → is_cell_kind kind ≡ true → is_of kind t ≡ true → (x : Open) → IsLoose x → is_named (name_of t) x ≡ false
  cell-out kind c k x l = by (is_named (name_of t) x) refl where
    by : (b : Bool) → is_named (name_of t) x ≡ b → is_named (name_of t) x ≡ false
    by true e = absurd (let other = cell-part kind c t k x e in cc)
    by false e = e

  token-run : (kind : Kind) (v : At) (post : At → Bool)
      → (is_cell_kind kind && (not (is_in_template v.mode) && pops_to v.base (λ q. post (at_exact q v)))) ≡ true
      → is_of kind t ≡ true → (s : State) → Holds TokenBased t s → Fluid g template v s → Run g template t CloseToken s post
  token-run kind v post h k s known fluid =
      let tests = and_parts (is_cell_kind kind) _ h in
      below-run kind CloseToken v post refl refl tests.1 k s ((expect_to_close-keeps framed.framed_kept) (is_named (name_of t)) s)
      (close-elements (is_named (name_of t)) s ∙ based-below (is_named (name_of t))
      (λ x l. cell-out kind tests.0 k x l) s.open_elems known) fluid

  tagged : (tag : Tag) → t ≡ TagToken tag → (names : List (List ℕ)) (v : At) (post : At → Bool)
      → (may_insert (part_in (Starts names)) v
      && (tame_in (Starts names) InsertElement && post (at_exact (part_in (Starts names)) v))) ≡ true
      → is_of (Starts names) (TagToken tag) ≡ true
      → (s : State) → Fluid g template v s → Run g template t InsertElement s post
  tagged tag same names v post h k s fluid =
      let tests = and_parts (may_insert (part_in (Starts names)) v) _ h in
      let more = and_parts (tame_in (Starts names) InsertElement) _ tests.1 in
      let p : Part = part_in (Starts names) in
      let table = may-table p v tests.0 in
      let all = first-is (λ p. inserted p names) parts p refl (table-some p table) in
      insert-run (Starts names) InsertElement p v post more.0 refl tests.0 more.1
      (subst (λ t. is_of (Starts names) t ≡ true) (sym same) k) s (element-framed t s)
      (record { number = node_count s.forest; namespace = Html; name = tag.name; rules = s.opts.rules })
      (table-set p table tag.name
      (among-all tag.name names (names_of (set_of p)) all (and_parts (is_start_tag tag.kind) _ k).1)
      (node_count s.forest) s.opts.rules) (element-same t tag same s) fluid

  element-run : (kind : Kind) (v : At) (post : At → Bool)
      → (may_insert (part_in kind) v && (tame_in kind InsertElement && post (at_exact (part_in kind) v))) ≡ true
      → is_of kind t ≡ true → (s : State) → Fluid g template v s → Run g template t InsertElement s post
  element-run kind v post h k s fluid = by kind t refl h k where
    by : (kind : Kind) (u : Token) → t ≡ u
        → (may_insert (part_in kind) v && (tame_in kind InsertElement && post (at_exact (part_in kind) v))) ≡ true
        → is_of kind u ≡ true → Run g template t InsertElement s post
    by (Starts names) (TagToken tag) e h k = tagged tag e names v post h k s fluid
    by (Starts names) u e h k = no k
    by kind u e h k = no h

  new-run : (kind : Kind) (name : List ℕ) (v : At) (post : At → Bool)
      → (may_insert (part_named name) v && (tame_in kind (InsertNew name) && post (at_exact (part_named name) v))) ≡
      true → is_of kind t ≡ true → (s : State) → Fluid g template v s → Run g template t (InsertNew name) s post
  new-run kind name v post h k s fluid =
      let tests = and_parts (may_insert (part_named name) v) _ h in
      let more = and_parts (tame_in kind (InsertNew name)) _ tests.1 in
      let p : Part = part_named name in
      let table = may-table p v tests.0 in
      insert-run kind (InsertNew name) p v post more.0 refl tests.0 more.1 k s
      (framed.framed_kept.inserts Html name [] false s) (record { number = node_count s.forest; namespace = Html; name = name; rules = s.opts.rules })
      (table-set p table name (first-is (λ p. is_among name (names_of (set_of p))) parts p refl
      (table-some p table)) (node_count s.forest) s.opts.rules) (new-same name s) fluid

  switch-run : (m : InsertionMode) (v : At) (post : At → Bool)
      → ((not (is_first m) && not (is_in_template m)) && post (record v { mode = m })) ≡ true → (s : State)
      → Fluid g template v s → Run g template t (SwitchTo m) s post
  switch-run m v post h s fluid =
      let tests = and_parts (not (is_first m) && not (is_in_template m)) _ h in
      let modes = and_parts (not (is_first m)) _ tests.0 in
      (record v { mode = m }, (tests.1, fluid-moved g template v m s (not_true _ modes.0) (not_true _ modes.1) fluid))

  other-pointer : (v : At) (s : State) (o : Option ℕ)
      → IfSome o (λ n. element_name (data_of s.forest n) ≡ Some (element_name_of Html (codes "form")))
      → Fluid g template v s → Fluid g template v (record s { form_elem = o })
  other-pointer v s o e h = record {
    poised = record {
      upright = record {
        standing = h.poised.upright.standing;
        rooted = h.poised.upright.rooted;
        head = h.poised.upright.head;
        context = h.poised.upright.context;
      };
      listed = h.poised.listed;
      mode = h.poised.mode;
      original = h.poised.original;
      modes = h.poised.modes;
    };
    nested = h.nested;
    base = h.base;
    exact = h.exact;
    takes = h.takes;
    at_mode = h.at_mode;
    in_template = h.in_template;
    ground = h.ground;
    of_template = h.of_template;
    count = h.count;
    framed = h.framed;
    form = e;
  }

  forget-run : (v : At) (s : State) → Fluid g template v s → Fluid g template v (act ForgetFormElem t s)
  unfolding forget_form_elem
  forget-run v s h = other-pointer v s None tt h

  form-tag : (kind : Kind) → is_form_kind kind ≡ true → is_of kind t ≡ true → (tag : Tag) × ((t ≡ TagToken tag) × (tag.name ≡ codes "form"))
  unfolding names_of
  form-tag kind h k = by kind t refl h k where
    or_false : (b : Bool) → (b || false) ≡ true → b ≡ true
    or_false true h = refl
    or_false false h = h

    by : (kind : Kind) (u : Token) → t ≡ u → is_form_kind kind ≡ true → is_of kind u ≡ true → (tag : Tag)
        × ((t ≡ TagToken tag) × (tag.name ≡ codes "form"))
    by (Starts names) (TagToken tag) e h k = (
      tag,
      (
        e,
        (bytes_eq-Decides tag.name (codes "form")).0
            (or_false (bytes_eq tag.name (codes "form"))
            (among-all tag.name names (names_of set.Form) h (and_parts (is_start_tag tag.kind) _ k).1)),
      ),
    )
    by (Starts names) u e h k = no k
    by kind u e h k = no h

  set-form : (v : At) (r : State) → element_name (data_of r.forest (current_number r.open_elems)) ≡ Some
      (element_name_of Html (codes "form")) → (c : Condition) → Fluid g template v r → Fluid g template v (act (When c SetFormElem) t r)
  unfolding set_form_elem
  set-form v r e c h = by (holds c t r) where
    by : (b : Bool) → Fluid g template v (choose b (λ _. record r { form_elem = Some (current_number r.open_elems) }) (λ _. r))
    by true = other-pointer v r (Some (current_number r.open_elems)) e h
    by false = h

  template-run : (kind : Kind) (m : InsertionMode) (v : At) → is_first m ≡ false → is_in_template v.mode ≡ true
      → is_template_base v.base ≡ true → is_of kind t ≡ true → (s : State) → Fluid g template v s
      → Fluid g template v (set_template_mode m s)
  unfolding set_template_mode
  template-run kind m v f in_mode in_base k s h =
      let poised = act-poised kind (SetTemplateMode m) (ap not f) t k s h.poised in
      record {
        poised = record {
          upright = record {
            standing = poised.upright.standing;
            rooted = poised.upright.rooted;
            head = poised.upright.head;
            context = poised.upright.context;
          };
          listed = poised.listed;
          mode = poised.mode;
          original = poised.original;
          modes = poised.modes;
        };
        nested = h.nested;
        base = h.base;
        exact = h.exact;
        takes = h.takes;
        at_mode = h.at_mode;
        in_template = h.in_template;
        ground = h.ground;
        of_template = h.of_template;
        count = h.count ∙ sym (first-length m s.template_modes (some-modes v.base in_base refl));
        framed = h.framed;
        form = h.form;
      }
    where
      some-modes : (b : Part) → is_template_base b ≡ true → v.base ≡ b → 1 ≤ length s.template_modes
      some-modes Contents i e = let many = contents-count s.open_elems (h.base ∙ e) in let count = h.count in omega arith
      some-modes Root i e = let one : one_if (context_is set.Template s.context_elem) ≡ 1 =
          ap one_if (h.of_template ∙ h.in_template (template-is v.mode in_mode) e) in let count = h.count in omega arith
      some-modes b i e = no i

-- a form is the current node
form-current : (tag : Tag) (s : State) → tag.name ≡ codes "form" → Standing s
    → element_name (data_of (insert_element_for tag s).forest
    (current_number (insert_element_for tag s).open_elems)) ≡ Some (element_name_of Html (codes "form"))
unfolding insert_element
form-current tag s e is = (insert_element_for-Standing tag s is).opened.0.named ∙ ap (λ name. Some (element_name_of Html name)) e

module _ (g : Ground) (template : Bool) (t : Token) where
  form-run : (kind : Kind) (gd : Guard) (c : Condition) (v : At) (post : At → Bool)
      → (is_form_kind kind && (smooth kind gd v.base InsertElement && post (loosened v))) ≡ true
      → is_of kind t ≡ true → (s : State) → Holds gd t s → Fluid g template v s
      → Run g template t (Then InsertElement (When c SetFormElem)) s post
  form-run kind gd c v post h k s known fluid =
      let tests = and_parts (is_form_kind kind) _ h in
      let made = smooth-run g template t kind gd InsertElement v post tests.1 k s known fluid in
      let tag = form-tag g template t kind tests.0 k in
      let named = subst (λ u. element_name
      (data_of (for_tag insert_element_for u s).forest
      (current_number (for_tag insert_element_for u s).open_elems)) ≡ Some
      (element_name_of Html (codes "form"))) (sym tag.1.0) (form-current tag.0 s tag.1.1 fluid.poised.upright.standing) in
      (made.0, (made.1.0, set-form g template t made.0 (act InsertElement t s) named c made.1.1))

  form_void : (kind : Kind) (v : At) (post : At → Bool) → (is_form_kind kind && post v) ≡ true → is_of kind t ≡ true
      → (s : State) → Fluid g template v s → Run g template t InsertFormVoid s post
  unfolding put_element
  form_void kind v post h k s fluid =
      let tests = and_parts (is_form_kind kind) (post v) h in
      let tag = form-tag g template t kind tests.0 k in
      (v, (tests.1, subst (λ u. Fluid g template v (for_tag insert_form_void u s)) (sym tag.1.0) (voided tag.0 tag.1.0 tag.1.1)))
    where
      voided : (tag : Tag) → t ≡ TagToken tag → tag.name ≡ codes "form" → Fluid g template v (insert_form_void tag s)
      voided tag same e =
          let made = fluid-flow g template v kind NoGuard InsertVoid refl refl refl t k s tt fluid in
          let named = (inserted-Made s.opts.rules s.foster_parenting s.forest Html tag.name tag.attrs
          tag.had_duplicate_attributes s.open_elems fluid.poised.upright.standing.tree tt
          fluid.poised.upright.standing.opened).opened.named in
          let made' : Fluid g template (loosened v) (for_tag insert_and_pop_element_for (TagToken tag) s) =
          subst (λ u. Fluid g template (loosened v) (for_tag insert_and_pop_element_for u s)) same made in
          other-pointer g template t v (insert_and_pop_element_for tag s) (Some (node_count s.forest))
          (named ∙ ap (λ name. Some (element_name_of Html name)) e)
          (exacted g template t v (insert_and_pop_element_for tag s) made' fluid.exact)

  kept-holds : (kind : Kind) (gd : Guard) (a : Action) → is_of kind t ≡ true → (s : State) → Holds gd t s
      → Holds (kept_guard kind gd a) t (act a t s)
  kept-holds kind gd a k s h = by (keeps kind gd a) refl where
    by : (b : Bool) → keeps kind gd a ≡ b → Holds (choose b (λ _. gd) (λ _. NoGuard)) t (act a t s)
    by true e = keeps-holds kind gd a e t k s h
    by false e = tt

  when-run : (kind : Kind) (c : Condition) (a : Action) (v : At) (post : At → Bool) → post v ≡ true
      → is_of kind t ≡ true → (s : State) → Fluid g template v s
      → (Holds (guard_of kind v.base c) t s → Run g template t a s post) → Run g template t (When c a) s post
  when-run kind c a v post ok k s fluid go = by (holds c t s) refl where
    by : (b : Bool) → holds c t s ≡ b → (w : At) × ((post w ≡ true) × Fluid g template w (choose b (λ _. act a t s) (λ _. s)))
    by true e = go (guard-holds g kind v.base c t s fluid.nested fluid.base k e)
    by false e = (v, (ok, fluid))

  pub runs-sound : (kind : Kind) (gd : Guard) (a : Action) (v : At) (post : At → Bool)
      → runs kind gd a v post ≡ true → is_of kind t ≡ true → (s : State) → Holds gd t s → Fluid g template v s → Run g template t a s post
  unfolding forget_form_elem
  runs-sound kind gd (Then InsertElement (When c SetFormElem)) v post h k s known fluid = form-run kind gd c v post h k s known fluid
  runs-sound kind gd (Then a b) v post h k s known fluid =
      let one = runs-sound kind gd a v (λ w. runs kind (kept_guard kind gd a) b w post) h k s known fluid in
      runs-sound kind (kept_guard kind gd a) b one.0 post one.1.0 k (act a t s) (kept-holds kind gd a k s known) one.1.1
  runs-sound kind gd (When c a) v post h k s known fluid =
      let tests = and_parts (runs kind (guard_of kind v.base c) a v post) (post v) h in
      when-run kind c a v post tests.1 k s fluid (λ known. runs-sound kind (guard_of kind v.base c) a v post tests.0 k s known fluid)
  runs-sound kind gd InsertMarker v post h k s known fluid = (v, (h, marker-run g template t kind v k s fluid))
  runs-sound kind gd ParseError v post h k s known fluid = (v, (h, error-run g template t kind v k s fluid))
  runs-sound kind gd (ClearBackTo names) v post h k s known fluid =
      let tests = and_parts (within (set_of v.base) names && are_parts names) _ h in
      let sets = and_parts (within (set_of v.base) names) (are_parts names) tests.0 in
      let more = and_parts (not (is_nothing v.base)) _ tests.1 in
      (record v { exact = true }, (more.1, clear-run g template t kind names v sets.0 sets.1 (not_true _ more.0) k s fluid))
  runs-sound kind gd (SwitchTo m) v post h k s known fluid = switch-run g template t m v post h s fluid
  runs-sound kind gd (SetTemplateMode m) v post h k s known fluid =
      let tests = and_parts (not (is_first m) && (is_in_template v.mode && is_template_base v.base)) (post v) h in
      let one = and_parts (not (is_first m)) _ tests.0 in
      let two = and_parts (is_in_template v.mode) _ one.1 in
      (v, (tests.1, template-run g template t kind m v (not_true _ one.0) two.0 two.1 k s fluid))
  runs-sound kind gd InsertFormVoid v post h k s known fluid = form_void kind v post h k s fluid
  runs-sound kind gd ForgetFormElem v post h k s known fluid = (v, (h, forget-run g template t v s fluid))
  runs-sound kind gd InsertElement v post h k s known fluid =
      or_by (smooth kind gd v.base InsertElement && post (loosened v)) _ h
      (λ h. smooth-run g template t kind gd InsertElement v post h k s known fluid)
      (λ h. element-run g template t kind v post h k s fluid)
  runs-sound kind gd (InsertNew name) v post h k s known fluid =
      or_by (smooth kind gd v.base (InsertNew name) && post (loosened v)) _ h
      (λ h. smooth-run g template t kind gd (InsertNew name) v post h k s known fluid)
      (λ h. new-run g template t kind name v post h k s fluid)
  runs-sound kind gd Pop v post h k s known fluid =
      or_by (smooth kind gd v.base Pop && post (loosened v)) _ h
      (λ h. smooth-run g template t kind gd Pop v post h k s known fluid) (λ h. pop-run g template t kind gd v post h k s known fluid)
  runs-sound kind gd (Close names) v post h k s known fluid = close-run g template t kind names v post h k s fluid
  runs-sound kind TokenBased CloseToken v post h k s known fluid = token-run g template t kind v post h k s known fluid
  runs-sound kind gd a v post h k s known fluid = smooth-run g template t kind gd a v post h k s known fluid
