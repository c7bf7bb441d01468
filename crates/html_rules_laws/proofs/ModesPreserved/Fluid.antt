-- States in the modes in which elements come one in another, within a row.
use Rattle.std.proofs.Common.{◌≡◌, ◌∙◌, ℕ, ◌+◌, Bool, true, false, List, [], ◌∷◌, length, Option, Some, None, refl, sym, ap}
use Rattle.std.proofs.Common.{subst, true≢false, codes}
use Rattle.std.specs.Prelude.{◌||◌, ◌&&◌, not, IfSome}
use Rattle.std.specs.Str.{bytes_eq}
use Rattle.std.proofs.lemmas.Bool.{and_parts}
use Rattle.std.proofs.lemmas.Slice.Eq.{bytes_eq-Decides}
use Rattle.markup.specs.Forest.{Forest, data_of, element_name}
use Rattle.markup.specs.declared.names.QualName.{QualName}
use Rattle.html_tokens.specs.declared.token.Token.{Token}
use Rattle.html_rules.specs.Actions.{act, set_mode}
use Rattle.html_rules.specs.Choice.{choose}
use Rattle.html_rules.specs.Conditions.{context_is}
use Rattle.html_rules.specs.Names.{Namespace, Html, MathMl, Svg, Other, element_name_of}
use Rattle.html_rules.specs.Sets.{is_among, mathml_names_of, names_in, names_of, set_by, svg_names_of}
use Rattle.html_rules.specs.Shape.{one_if}
use Rattle.html_rules.specs.Stack.{left_below, left_from, open_templates}
use Rattle.html_rules.specs.State.{Open, State, is_in, is_named, named_in}
use Rattle.html_rules.specs.Table.{Action}
use Rattle.html_rules.specs.declared.insertion_mode.InsertionMode.{InsertionMode}
use Rattle.html_rules.specs.declared.insertion_mode.InsertionMode.TheVariants as mode
use Rattle.html_rules.specs.declared.rules.Rules.{Rules}
use Rattle.html_rules.specs.declared.rules.Rules.TheVariants.{Html5ever, Standard}
use Rattle.html_rules.specs.declared.tag_set.TagSet.{TagSet}
use Rattle.html_rules.specs.declared.tag_set.TagSet.TheVariants as set
use Rattle.html_rules_laws.specs.Held.{wanted}
use Rattle.html_rules_laws.specs.Nesting.{Part, Root, Contents, Section, RowPart, Cell, CaptionPart, Columns, Loose, Nothing}
use Rattle.html_rules_laws.specs.Nesting.{Ground, base, ground_of, is_loose, is_in_template, may_stand, nested, part_among}
use Rattle.html_rules_laws.specs.Nesting.{part_of, parts, set_of, takes, top}
use Rattle.html_rules_laws.specs.Soundness.{is_plain_action}
use Rattle.html_rules_laws.specs.Upright.{is_first}
use Rattle.html_rules_laws.proofs.Frames.Aside.{IsAside}
use Rattle.html_rules_laws.proofs.SetFacts.{within}
use Rattle.html_rules_laws.proofs.Termination.Kinds.{Kind, is_of}
use Rattle.html_rules_laws.proofs.Soundness.Acts.{act-aside, tame_in}
use Rattle.html_rules_laws.proofs.TreePreserved.Acts.{act-eased}
use Rattle.html_rules_laws.proofs.TreePreserved.Poised.{Poised, moved-poised, tame-poised}
use Rattle.html_rules_laws.proofs.ModesPreserved.Flows.{act-flow, act-framed, flows}
use Rattle.html_rules_laws.proofs.Frames.Framed.{IsFramed}
use Rattle.html_rules_laws.proofs.ModesPreserved.Parts.{is_loose_name, part-within, set-part, set_of-by}
use Rattle.html_rules_laws.proofs.ModesPreserved.Smooth.{Guard, Holds, based}
use Rattle.html_rules_laws.proofs.ModesPreserved.Stacks.{Frees, IsLoose, drop, frees-same, keep, loose-template, nil}
use Rattle.html_rules_laws.proofs.Bools.{no, not_true}

-- the part that was opened last, whether it is the current node, and the mode
pub record At : Type 0 where
  pub base : Part
  pub exact : Bool
  pub mode : InsertionMode

abbrev pub loosened : At → At
loosened v = record v { exact = false }

pub record Fluid (g : Ground) (template : Bool) (v : At) (s : State) : Type 0 where
  pub poised : Poised s
  pub nested : nested g s.open_elems ≡ true
  pub base : base s.open_elems ≡ v.base
  pub exact : v.exact ≡ true → top s.open_elems ≡ v.base
  pub takes : takes g v.base ≡ true
  pub at_mode : s.mode ≡ v.mode
  pub in_template : v.mode ≡ mode.InTemplate → v.base ≡ Root → template ≡ true
  pub ground : ground_of s.context_elem ≡ g
  pub of_template : context_is set.Template s.context_elem ≡ template
  pub count : wanted s ≡ length s.template_modes
  pub framed : s.frameset_ok ≡ true → open_templates s.open_elems ≡ 0
  pub form : IfSome s.form_elem (λ n. element_name (data_of s.forest n) ≡ Some (element_name_of Html (codes "form")))

-- the part that was opened last is none of the others
pub base-solid : (xs : List Open) → is_loose (base xs) ≡ false
base-solid [] = refl
base-solid (x ∷ xs) = by (is_loose (part_of x)) refl (base-solid xs) where
  by : (b : Bool) → is_loose (part_of x) ≡ b → is_loose (base xs) ≡ false → is_loose (choose b (λ _. base xs) (λ _. part_of x)) ≡ false
  by true e rest = rest
  by false e rest = e

pub form-kept : (o : Option ℕ) (f g : Forest) → ((n : ℕ) (name : QualName) → element_name (data_of f n) ≡ Some name
    → element_name (data_of g n) ≡ Some name)
    → IfSome o (λ n. element_name (data_of f n) ≡ Some (element_name_of Html (codes "form")))
    → IfSome o (λ n. element_name (data_of g n) ≡ Some (element_name_of Html (codes "form")))
form-kept None f g names h = tt
form-kept (Some n) f g names h = names n (element_name_of Html (codes "form")) h

-- what is open changes, and so does the part that was opened last
pub fluid-changed : (g : Ground) (template : Bool) (v w : At) (s r : State) → Fluid g template v s → Poised r
    → IsAside s r → IsFramed s r → ((n : ℕ) (name : QualName) → element_name (data_of s.forest n) ≡ Some name
    → element_name (data_of r.forest n) ≡ Some name)
    → nested g r.open_elems ≡ true → base r.open_elems ≡ w.base → (w.exact ≡ true → top r.open_elems ≡ w.base)
    → takes g w.base ≡ true → w.mode ≡ v.mode → (w.mode ≡ mode.InTemplate → w.base ≡ Root → template ≡ true)
    → open_templates r.open_elems ≡ open_templates s.open_elems → Fluid g template w r
fluid-changed g template v w s r h poised aside framed names nest based exact take at root same = record {
  poised = poised;
  nested = nest;
  base = based;
  exact = exact;
  takes = take;
  at_mode = aside.mode ∙ h.at_mode ∙ sym at;
  in_template = root;
  ground = ap ground_of aside.context ∙ h.ground;
  of_template = ap (context_is set.Template) aside.context ∙ h.of_template;
  count = counted;
  framed = λ e. same ∙ h.framed (framed.framed e);
  form = rw framed.form (form-kept s.form_elem s.forest r.forest names h.form);
}
  where
    counted : wanted r ≡ length r.template_modes
    counted = ap (λ n. n + one_if (context_is set.Template r.context_elem)) same
        ∙ ap (λ c. open_templates s.open_elems + one_if (context_is set.Template c)) aside.context ∙ h.count ∙ ap length (sym aside.modes)

-- loose elements come and go
pub fluid-flow : (g : Ground) (template : Bool) (v : At) (kind : Kind) (gd : Guard) (a : Action)
    → flows kind gd v.base a ≡ true → tame_in kind a ≡ true → is_plain_action a ≡ true → (t : Token)
    → is_of kind t ≡ true → (s : State) → Holds gd t s → Fluid g template v s → Fluid g template (loosened v) (act a t s)
fluid-flow g template v kind gd a f tame plain t k s holds h =
    let flow = act-flow g kind gd v.base a f (subst (λ b. is_loose b ≡ false) h.base (base-solid s.open_elems)) t k
    s h.base holds h.form h.poised.listed h.poised.upright.standing in
    let after = flow.flow h.nested (rw h.base h.takes) in
    fluid-changed g template v (loosened v) s (act a t s) h (tame-poised kind a tame plain t k s h.poised)
    (act-aside kind a tame t s) (act-framed kind gd v.base a f t s)
    (act-eased kind a tame plain t k s h.poised.listed h.poised.upright.standing).names after.0 (after.1.0 ∙ h.base)
    (λ e. no e) h.takes refl h.in_template after.1.1

-- another mode
pub fluid-moved : (g : Ground) (template : Bool) (v : At) (m : InsertionMode) (s : State) → is_first m ≡ false
    → is_in_template m ≡ false → Fluid g template v s → Fluid g template (record v { mode = m }) (set_mode m s)
unfolding set_mode
fluid-moved g template v m s f n h = record {
  poised = moved-poised m s f h.poised;
  nested = h.nested;
  base = h.base;
  exact = h.exact;
  takes = h.takes;
  at_mode = refl;
  in_template = λ e b. absurd (true≢false (sym (ap is_in_template e) ∙ n));
  ground = h.ground;
  of_template = h.of_template;
  count = h.count;
  framed = h.framed;
  form = h.form;
}

-- what is left below the part that was opened last, and from it on

abbrev pub below_base : List Open → List Open
below_base [] = []
below_base (x ∷ xs) = choose (is_loose (part_of x)) (λ _. below_base xs) (λ _. xs)

-- parts of tables but the table
abbrev pub is_inner : Part → Bool
is_inner Section = true
is_inner RowPart = true
is_inner Cell = true
is_inner CaptionPart = true
is_inner Columns = true
is_inner p = false

pub loose-is : (p : Part) → is_loose p ≡ true → p ≡ Loose
loose-is Loose h = refl
loose-is p h = no h

pub part-template : (x : Open) (p : Part) → part_of x ≡ p → is_inner p ≡ true → is_in set.Template x ≡ false
unfolding names_of mathml_names_of svg_names_of
part-template x p e h = by (is_in set.Template x) refl where
  by : (b : Bool) → is_in set.Template x ≡ b → is_in set.Template x ≡ false
  by true i = absurd (true≢false (sym h ∙ ap is_inner (sym e ∙ set-part set.Template Contents refl x i)))
  by false i = i

pub record IsBelow (g : Ground) (p : Part) (xs : List Open) : Type 0 where
  pub nested : nested g (below_base xs) ≡ true
  pub under : may_stand g p (top (below_base xs)) ≡ true
  pub templates : open_templates (below_base xs) ≡ open_templates xs

pub below-is : (g : Ground) (p : Part) (xs : List Open) → nested g xs ≡ true → base xs ≡ p → is_inner p ≡ true → IsBelow g p xs
below-is g p [] n e i = absurd (true≢false (sym i ∙ ap is_inner (sym e)))
below-is g p (x ∷ xs) n e i = by (is_loose (part_of x)) refl e (below-is g p xs tests.1) where
  tests : (may_stand g (part_of x) (top xs) ≡ true) × (nested g xs ≡ true)
  tests = and_parts (may_stand g (part_of x) (top xs)) _ n

  by : (b : Bool) → is_loose (part_of x) ≡ b → choose b (λ _. base xs) (λ _. part_of x) ≡ p
      → (base xs ≡ p → is_inner p ≡ true → IsBelow g p xs) → IsBelow g p (x ∷ xs)
  by true l e rest =
      let is = rest e i in
      record { nested = rw l is.nested; under = rw l is.under; templates = rw (l, loose-template x (loose-is (part_of x) l)) is.templates }
  by false l e rest = record { nested = rw l tests.1; under = rw l (rw e at tests.0); templates = rw (l, part-template x p e i) refl }

-- the element that passes is that part
pub based-below : (p : Open → Bool) → ((x : Open) → IsLoose x → p x ≡ false) → (xs : List Open) → based p xs ≡ true
    → left_below p xs ≡ below_base xs
based-below p out [] b = refl
based-below p out (x ∷ xs) b = by (is_loose (part_of x)) refl b (based-below p out xs) where
  by : (c : Bool) → is_loose (part_of x) ≡ c → choose c (λ _. based p xs) (λ _. p x) ≡ true
      → (based p xs ≡ true → left_below p xs ≡ below_base xs) → choose (p x) (λ _. xs)
      (λ _. left_below p xs) ≡ choose c (λ _. below_base xs) (λ _. xs)
  by true l b rest = rw (out x (loose-is (part_of x) l)) (rest b)
  by false l b rest = rw b refl

abbrev pub is_nothing : Part → Bool
is_nothing Nothing = true
is_nothing p = false

pub base-based : (names : TagSet) (p : Part) → is_loose p ≡ false → within (set_of p) names ≡ true
    → (xs : List Open) → base xs ≡ p → is_nothing p ≡ false → based (is_in names) xs ≡ true
base-based names p l w [] e n = absurd (true≢false (ap is_nothing e ∙ n))
base-based names p l w (x ∷ xs) e n = by (is_loose (part_of x)) refl e (λ e. base-based names p l w xs e n) where
  by : (c : Bool) → is_loose (part_of x) ≡ c → choose c (λ _. base xs) (λ _. part_of x) ≡ p
      → (base xs ≡ p → based (is_in names) xs ≡ true) → choose c (λ _. based (is_in names) xs) (λ _. is_in names x) ≡ true
  by true l' e rest = rest e
  by false l' e rest = part-within x p names l w e

-- elements leave up to that part
pub from-base : (stop : Open → Bool) (xs : List Open) → based stop xs ≡ true → Frees xs (left_from stop xs)
from-base stop [] b = nil
from-base stop (x ∷ xs) b = by (is_loose (part_of x)) (stop x) refl b (from-base stop xs) where
  by : (c d : Bool) → is_loose (part_of x) ≡ c → choose c (λ _. based stop xs) (λ _. d) ≡ true
      → (based stop xs ≡ true → Frees xs (left_from stop xs)) → Frees (x ∷ xs) (choose d (λ _. x ∷ xs) (λ _. left_from stop xs))
  by c true l b rest = keep x xs xs (frees-same xs)
  by true false l b rest = drop x xs (left_from stop xs) (loose-is (part_of x) l) (rest b)
  by false false l b rest = no b

pub from-top : (stop : Open → Bool) → ((x : Open) → IsLoose x → stop x ≡ false) → (xs : List Open)
    → based stop xs ≡ true → top (left_from stop xs) ≡ base xs
from-top stop out [] b = no b
from-top stop out (x ∷ xs) b = by (is_loose (part_of x)) refl b (from-top stop out xs) where
  by : (c : Bool) → is_loose (part_of x) ≡ c → choose c (λ _. based stop xs) (λ _. stop x) ≡ true
      → (based stop xs ≡ true → top (left_from stop xs) ≡ base xs)
      → top (choose (stop x) (λ _. x ∷ xs) (λ _. left_from stop xs)) ≡ choose c (λ _. base xs) (λ _. part_of x)
  by true l b rest = rw (out x (loose-is (part_of x) l)) (rest b)
  by false l b rest = rw b refl

-- a set of names that parts have
abbrev pub have_parts : List (List ℕ) → Bool
have_parts [] = true
have_parts (name ∷ names) = not (is_loose_name name parts) && have_parts names

abbrev no_names : List (List ℕ) → Bool
no_names [] = true
no_names (name ∷ names) = false

abbrev are_names_of_parts : TagSet → Bool
are_names_of_parts names = have_parts (names_of names) && (no_names (mathml_names_of names) && no_names (svg_names_of names))

-- whatever the rules
abbrev pub are_parts : TagSet → Bool
are_parts names = are_names_of_parts (set_by Html5ever names) && are_names_of_parts (set_by Standard names)

has-part : (name : List ℕ) (names : List (List ℕ)) → have_parts names ≡ true → is_among name names ≡ true → is_loose_name name parts ≡ false
has-part name [] h k = no k
has-part name (x ∷ names) h k =
    let tests = and_parts (not (is_loose_name x parts)) _ h in
    by (bytes_eq name x) refl k (has-part name names tests.1)
  where
    by : (b : Bool) → bytes_eq name x ≡ b → (b || is_among name names) ≡ true
        → (is_among name names ≡ true → is_loose_name name parts ≡ false) → is_loose_name name parts ≡ false
    by true e k rest = rw ((bytes_eq-Decides name x).0 e) (not_true _ (and_parts (not (is_loose_name x parts)) _ h).0)
    by false e k rest = rest k

abbrev has_no_loose : List Part → Bool
has_no_loose [] = true
has_no_loose (p ∷ ps) = not (is_loose p) && has_no_loose ps

unnamed : (n : ℕ) (rules : Rules) (name : List ℕ) (ps : List Part) → has_no_loose ps ≡ true
    → part_among ps (record { number = n; namespace = Html; name = name; rules = rules }) ≡ Loose → is_loose_name name ps ≡ true
unnamed n rules name [] a e = refl
unnamed n rules name (p ∷ ps) a e = by (is_among name (names_of (set_of p))) refl
    (subst (λ these. choose (is_among name (names_of these)) (λ _. p)
    (λ _. part_among ps (record { number = n; namespace = Html; name = name; rules = rules })) ≡ Loose) (set_of-by rules p) e)
    (unnamed n rules name ps tests.1) where
      tests : (not (is_loose p) ≡ true) × (has_no_loose ps ≡ true)
      tests = and_parts (not (is_loose p)) _ a

      by : (b : Bool) → is_among name (names_of (set_of p)) ≡ b
          → choose b (λ _. p) (λ _. part_among ps (record { number = n; namespace = Html; name = name; rules = rules })) ≡ Loose
          → (part_among ps (record { number = n; namespace = Html; name = name; rules = rules }) ≡ Loose → is_loose_name name ps ≡ true)
          → (not b && is_loose_name name ps) ≡ true
      by true i e rest = absurd (true≢false (sym (ap is_loose e) ∙ not_true _ tests.0))
      by false i e rest = rest e

empty-names : (names : List (List ℕ)) (name : List ℕ) → no_names names ≡ true → is_among name names ≡ false
empty-names [] name h = refl
empty-names (x ∷ names) name h = no h

out_by : (names : TagSet) → are_names_of_parts names ≡ true → (x : Open) → IsLoose x → is_among x.name (names_in x.namespace names) ≡ false
unfolding part_of
out_by names h x l = by x.number x.rules x.namespace x.name l where
  tests : (have_parts (names_of names) ≡ true) × ((no_names (mathml_names_of names) ≡ true) × (no_names (svg_names_of names) ≡ true))
  tests = let one = and_parts (have_parts (names_of names)) _ h in (one.0, and_parts (no_names (mathml_names_of names)) _ one.1)

  html : (n : ℕ) (rules : Rules) (name : List ℕ) (b : Bool) → is_among name (names_of names) ≡ b
      → part_among parts (record { number = n; namespace = Html; name = name; rules = rules }) ≡ Loose → b ≡ false
  html n rules name true e l = absurd (true≢false (sym (unnamed n rules name parts refl l) ∙ has-part name (names_of names) tests.0 e))
  html n rules name false e l = refl

  by : (n : ℕ) (rules : Rules) (namespace : Namespace) (name : List ℕ)
      → part_among parts (record { number = n; namespace = namespace; name = name; rules = rules }) ≡ Loose
      → is_among name (names_in namespace names) ≡ false
  by n rules Html name l = html n rules name (is_among name (names_of names)) refl l
  by n rules MathMl name l = empty-names (mathml_names_of names) name tests.1.0
  by n rules Svg name l = empty-names (svg_names_of names) name tests.1.1
  by n rules (Other uri) name l = refl

pub parts-out : (names : TagSet) → are_parts names ≡ true → (x : Open) → IsLoose x → is_in names x ≡ false
parts-out names h x l = by x.rules where
  tests : (are_names_of_parts (set_by Html5ever names) ≡ true) × (are_names_of_parts (set_by Standard names) ≡ true)
  tests = and_parts (are_names_of_parts (set_by Html5ever names)) _ h

  by : (rules : Rules) → is_among x.name (names_in x.namespace (set_by rules names)) ≡ false
  by Html5ever = out_by (set_by Html5ever names) tests.0 x l
  by Standard = out_by (set_by Standard names) tests.1 x l

-- a name of a part names nothing loose
pub named-loose : (names : List (List ℕ)) → have_parts names ≡ true → (name : List ℕ) → is_among name names ≡ true
    → (x : Open) → IsLoose x → is_named name x ≡ false
unfolding part_of
named-loose names h name k x l = by x.number x.rules x.namespace x.name l where
  html : (n : ℕ) (rules : Rules) (own : List ℕ) (b : Bool) → bytes_eq own name ≡ b
      → part_among parts (record { number = n; namespace = Html; name = own; rules = rules }) ≡ Loose → b ≡ false
  html n rules own true e l = absurd
      (true≢false (sym (unnamed n rules own parts refl l) ∙ rw ((bytes_eq-Decides own name).0 e) (has-part name names h k)))
  html n rules own false e l = refl

  by : (n : ℕ) (rules : Rules) (namespace : Namespace) (own : List ℕ)
      → part_among parts (record { number = n; namespace = namespace; name = own; rules = rules }) ≡ Loose → named_in namespace own name ≡ false
  by n rules Html own l = html n rules own (bytes_eq own name) refl l
  by n rules MathMl own l = refl
  by n rules Svg own l = refl
  by n rules (Other uri) own l = refl
