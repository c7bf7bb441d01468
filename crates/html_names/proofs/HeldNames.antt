-- How the name of an element is held.
use Rattle.std.proofs.Common.{◌≡◌, ℕ, ◌<◌, false, List, [], length, get_or, refl, sym, ap, subst, Option, Some, None, Result}
use Rattle.std.proofs.Common.{Ok, Err, inl, inr}
use Rattle.std.specs.Prelude.{IfOk, ◌⊎◌, nat_eq}
use Rattle.std.specs.List.{list_any}
use Rattle.std.specs.Str.{bytes_eq}
use Rattle.markup.specs.KnownNames.{IsNameAt, names}
use Rattle.markup.specs.declared.known_names.KnownName.{KnownName}
use Rattle.html_rules.specs.Names.{Namespace, namespace_of}
use Rattle.html_rules.specs.State.{named_in}
use Rattle.html_rules.specs.declared.rules.Rules.{Rules}
use Rattle.html_names.specs.Classes.{IsClassOf, IsKnownAs, kind_of}
use Rattle.html_names.specs.ElementNames.{FitsForm, Holds, IsRareForm, named_by, space_of}
use Rattle.html_names.specs.declared.element_class.ElementClass.{ElementClass}
use Rattle.html_names.specs.declared.element_class.ElementNamespace.{ElementNamespace}
use Rattle.html_names.specs.declared.element_class.ElementNamespace.TheVariants.{Html, MathMl, Svg, Other}
use Rattle.html_names.specs.declared.element_name.NameForm.{NameForm}
use Rattle.html_names.specs.declared.element_name.NameForm.TheVariants.{Known, Rare}
use Rattle.html_names.proofs.SameNames.{known-same, known-unknown}

pub ok-map : {T E : Type 0} (P Q : T → Type 0) (r : Result T E) → ((x : T) → P x → Q x) → IfOk r P → IfOk r Q
ok-map P Q (Ok x) f h = f x h
ok-map P Q (Err e) f h = tt

-- a name that is held whole
rare-fits : (kind : ElementNamespace) (known : Option KnownName) (form : NameForm) (uri name : List ℕ)
    → IsKnownAs known name → (kind ≡ Other) ⊎ (known ≡ None) → IsRareForm form uri name → FitsForm kind form
rare-fits kind known (Known k) uri name is which form = absurd form
rare-fits Html known (Rare rare) uri name is (inl other) form = absurd cc
rare-fits Html known (Rare rare) uri name is (inr none) form =
    let unknown : list_any (bytes_eq name) names ≡ false = subst (λ (k : Option KnownName). IsKnownAs k name) none is in
    rw form.1 unknown
rare-fits MathMl known (Rare rare) uri name is which form = tt
rare-fits Svg known (Rare rare) uri name is which form = tt
rare-fits Other known (Rare rare) uri name is which form = tt

rare-same : (rules : Rules) (kind : ElementNamespace) (form : NameForm) (uri name : List ℕ) → IsRareForm form uri name
    → named_by rules kind form ≡ record { namespace = namespace_of uri; name = name; rules = rules }
rare-same rules kind (Known k) uri name form = absurd form
rare-same rules kind (Rare rare) uri name form = rw (form.0, form.1) refl

pub rare-holds : (rules : Rules) (class : ElementClass) (form : NameForm) (uri name : List ℕ)
    → IsClassOf (namespace_of uri) name class → (class.namespace ≡ Other) ⊎ (class.known ≡ None)
    → IsRareForm form uri name → Holds rules class.namespace form (namespace_of uri) name
rare-holds rules class form uri name is which held = record {
  same = rare-same rules class.namespace form uri name held;
  fits = rare-fits class.namespace class.known form uri name is.known which held;
}

space-back : (space : Namespace) (kind : ElementNamespace) → kind_of space ≡ kind → (kind ≡ Other → ⊥) → space_of kind ≡ space
space-back Namespace.Html kind e h = ap space_of (sym e)
space-back Namespace.MathMl kind e h = ap space_of (sym e)
space-back Namespace.Svg kind e h = ap space_of (sym e)
space-back (Namespace.Other uri) kind e h = absurd (h (sym e))

-- a known name of HTML, MathML or SVG
pub known-holds : (rules : Rules) (class : ElementClass) (known : KnownName) (space : Namespace) (name : List ℕ)
    → IsClassOf space name class → class.known ≡ Some known → (class.namespace ≡ Other → ⊥) → Holds rules class.namespace (Known known) space name
known-holds rules class known space name is some own =
    let at : IsNameAt known.place name = subst (λ (k : Option KnownName). IsKnownAs k name) some is.known in
    record {
      same = rw (space-back space class.namespace is.kind own, at.there) refl;
      fits = at.within;
    }

-- a known name of HTML, compared
pub named-known : (place other : ℕ) (name : List ℕ) → place < length names → IsNameAt other name
    → nat_eq place other ≡ named_in Namespace.Html (get_or names place []) name
named-known place other name l is = known-same place other (get_or names place []) name (record { within = l; there = refl }) is

pub named-unknown : (place : ℕ) (name : List ℕ) → place < length names → list_any (bytes_eq name) names ≡ false
    → false ≡ named_in Namespace.Html (get_or names place []) name
named-unknown place name l none = sym (known-unknown place (get_or names place []) name (record { within = l; there = refl }) none)
