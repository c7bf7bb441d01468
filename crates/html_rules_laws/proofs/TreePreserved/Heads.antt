-- The head is made, and opened again; the root is made.
use Rattle.std.proofs.Common.{◌≡◌, ◌∙◌, ℕ, Bool, true, false, List, [], ◌∷◌, Option, Some, None, refl, sym, ap, subst}
use Rattle.std.proofs.Common.{true≢false, codes, inl, inr}
use Rattle.std.specs.Prelude.{◌||◌, IfSome}
use Rattle.std.specs.Str.{bytes_eq}
use Rattle.std.proofs.lemmas.Bool.{and_parts}
use Rattle.std.proofs.lemmas.Slice.Eq.{bytes_eq-Decides}
use Rattle.markup.specs.Forest.{Forest, data_of, element_name}
use Rattle.markup.specs.Named.{IsTree}
use Rattle.markup.specs.declared.attributes.Attribute.{Attribute}
use Rattle.markup.specs.declared.names.QualName.{QualName}
use Rattle.html_tokens.specs.declared.token.Token.{Token}
use Rattle.html_tokens.specs.declared.token.Token.TheVariants.{TagToken}
use Rattle.html_rules.specs.Actions.{act, push_head, push_head_elem, set_head_elem}
use Rattle.html_rules.specs.ForeignContent.{is_start_tag}
use Rattle.html_rules.specs.Names.{Namespace, Html, MathMl, Svg, Other, element_name_of}
use Rattle.html_rules.specs.Places.{insert_element}
use Rattle.html_rules.specs.Sets.{is_among, mathml_names_of, names_in, names_of, svg_names_of}
use Rattle.html_rules.specs.Shape.{is_at_root}
use Rattle.html_rules.specs.State.{Open, State, is_in}
use Rattle.html_rules.specs.Table.{Action, Then, InsertElement, InsertNew, SetHeadElem, SwitchTo}
use Rattle.html_rules.specs.declared.insertion_mode.InsertionMode.TheVariants as mode
use Rattle.html_rules.specs.declared.rules.Rules.{Rules}
use Rattle.html_rules.specs.declared.tag_set.TagSet.TheVariants as set
use Rattle.html_rules_laws.specs.Soundness.{AreOpened, IsClear, IsOpened}
use Rattle.html_rules_laws.specs.Upright.{AreRooted, Upright}
use Rattle.html_rules_laws.proofs.SetFacts.{among-all, in-apart}
use Rattle.html_rules_laws.proofs.Termination.Kinds.{Kind, Starts, is_of}
use Rattle.html_rules_laws.proofs.Soundness.Specials.{starts_head}
use Rattle.html_rules_laws.proofs.TreePreserved.StandingActions.{push_head-Standing}
use Rattle.html_rules_laws.proofs.TreePreserved.StandingSteps.{insert_element-Standing}
use Rattle.html_rules_laws.proofs.TreePreserved.Poised.{Poised, moved-poised}
use Rattle.html_rules_laws.proofs.TreePreserved.Steps.{insert_element-eased}
use Rattle.html_rules_laws.proofs.Bools.{no}

-- a head is made, and its pointer names it

head-rootless : (name : List ℕ) → is_among name (names_of set.Head) ≡ true → (n : ℕ) (rules : Rules)
    → is_in set.Html (record { number = n; namespace = Html; name = name; rules = rules }) ≡ false
unfolding names_of mathml_names_of svg_names_of
head-rootless name h n rules = in-apart set.Head set.Html refl (record { number = n; namespace = Html; name = name; rules = rules }) h

or_false : (b : Bool) → (b || false) ≡ true → b ≡ true
or_false true h = refl
or_false false h = h

head-name : (name : List ℕ) → is_among name (names_of set.Head) ≡ true → name ≡ codes "head"
unfolding names_of
head-name name h = (bytes_eq-Decides name (codes "head")).0 (or_false (bytes_eq name (codes "head")) h)

headed-poised : (name : List ℕ) (attributes : List Attribute) (dup : Bool)
    → is_among name (names_of set.Head) ≡ true → (s : State) → Poised s → Poised (set_head_elem (insert_element Html name attributes dup s))
unfolding set_head_elem insert_element
headed-poised name attributes dup e s h =
    let standing = insert_element-Standing Html name attributes dup tt s h.upright.standing in
    let eased = insert_element-eased Html name attributes dup tt (head-rootless name e) s h.upright.standing in
    record {
      upright = record {
        standing = record {
          tree = standing.tree;
          opened = standing.opened;
          apart = standing.apart;
          listed = standing.listed;
          top = standing.top;
        };
        rooted = eased.rooted h.upright.rooted;
        head = standing.opened.0.named ∙ ap (λ name. Some (element_name_of Html name)) (head-name name e);
        context = h.upright.context;
      };
      listed = h.listed;
      mode = h.mode;
      original = h.original;
      modes = h.modes;
    }

abbrev pub makes_head : Kind → Action → Bool
makes_head kind (Then InsertElement (Then SetHeadElem (SwitchTo mode.InHead))) = starts_head kind
makes_head kind (Then (InsertNew name) SetHeadElem) = is_among name (names_of set.Head)
makes_head kind a = false

inserted-head : (kind : Kind) → starts_head kind ≡ true → (t : Token) → is_of kind t ≡ true → (s : State) → Poised s
    → Poised (act (Then InsertElement (Then SetHeadElem (SwitchTo mode.InHead))) t s)
inserted-head (Starts names) h (TagToken tag) f s is = moved-poised mode.InHead _ refl
    (headed-poised tag.name tag.attrs tag.had_duplicate_attributes
    (among-all tag.name names (names_of set.Head) h (and_parts (is_start_tag tag.kind) _ f).1) s is)
inserted-head (Starts names) h t f s is = no f
inserted-head kind h t f s is = no h

pub makes_head-poised : (kind : Kind) (a : Action) → makes_head kind a ≡ true → (t : Token) → is_of kind t ≡ true
    → (s : State) → Poised s → Poised (act a t s)
makes_head-poised kind (Then InsertElement (Then SetHeadElem (SwitchTo mode.InHead))) h t f s is = inserted-head kind h t f s is
makes_head-poised kind (Then (InsertNew name) SetHeadElem) h t f s is = headed-poised name [] false h s is
makes_head-poised kind a h t f s is = no h

-- the head is opened again where the root alone is open

no-head : (x : Open) → is_in set.Html x ≡ true → codes "head" ≡ x.name → ⊥
unfolding names_of mathml_names_of svg_names_of
no-head x h e = by x.namespace x.name h e where
  by : (namespace : Namespace) (name : List ℕ) → is_among name (names_in namespace set.Html) ≡ true → codes "head" ≡ name → ⊥
  by Html name h e = true≢false (sym (subst (λ name. is_among name (names_in Html set.Html) ≡ true) (sym e) h))
  by MathMl name h e = no h
  by Svg name h e = no h
  by (Other uri) name h e = no h

local-of : (o : Option QualName) → List ℕ
local-of None = []
local-of (Some name) = name.local

root-no_head : (f : Forest) (n : ℕ) (x : Open) → element_name (data_of f n) ≡ Some
    (element_name_of Html (codes "head")) → IsOpened f x → is_in set.Html x ≡ true → n ≡ x.number → ⊥
unfolding local-of
root-no_head f n x named is html e = no-head x html (ap local-of (sym named ∙ ap (λ n. element_name (data_of f n)) e ∙ is.named))

head-no_document : (f : Forest) (n : ℕ) → IsTree f → element_name (data_of f n) ≡ Some (element_name_of Html (codes "head")) → n ≡ 0 → ⊥
head-no_document f n tree named e =
    let named' : element_name (data_of f 0) ≡ Some (element_name_of Html (codes "head")) =
    subst (λ n. element_name (data_of f n) ≡ Some (element_name_of Html (codes "head"))) e named in
    let document = tree.forest.document_first in
    cc

pub root-clear : (s : State) (n : ℕ) → Upright s → is_at_root s.open_elems ≡ true
    → element_name (data_of s.forest n) ≡ Some (element_name_of Html (codes "head")) → IsClear s.forest n s.open_elems
root-clear s n h root named = by s.open_elems h.standing.opened h.rooted root where
  by : (xs : List Open) → AreOpened s.forest xs → AreRooted s.forest xs → is_at_root xs ≡ true → IsClear s.forest n xs
  by [] o r e = tt
  by (x ∷ xs) o r e =
      let own = r.0 e in (
        λ up. elim (own.1 n up) [
          | inl same ↦ root-no_head s.forest n x named o.0 e same
          | inr document ↦
              head-no_document s.forest n h.standing.tree named document
        ],
        subst (λ xs. IsClear s.forest n xs) (sym own.0) tt,
      )

pub pushed : (o : Option ℕ) (s : State)
    → IfSome o (λ n. element_name (data_of s.forest n) ≡ Some (element_name_of Html (codes "head")))
    → is_at_root s.open_elems ≡ true → Poised s → Poised (push_head o s)
unfolding names_of
pushed None s named root h = h
pushed (Some n) s named root h =
    let standing = push_head-Standing s n h.upright.standing named (root-clear s n h.upright root named) in
    record {
      upright = record {
        standing = standing;
        rooted = (λ html. absurd (true≢false (sym html)), h.upright.rooted);
        head = h.upright.head;
        context = h.upright.context;
      };
      listed = h.listed;
      mode = h.mode;
      original = h.original;
      modes = h.modes;
    }

pub push_head-poised : (s : State) → is_at_root s.open_elems ≡ true → Poised s → Poised (push_head_elem s)
unfolding push_head_elem
push_head-poised s root h = pushed s.head_elem s h.upright.head root h
