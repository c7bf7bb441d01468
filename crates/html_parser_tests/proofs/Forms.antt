-- A new form.
use Rattle.std.proofs.Common.{◌≡◌, ◌∙◌, ℕ, List, None, Some, Result, Ok, Err, ap, ap₂, refl}
use Rattle.std.specs.Prelude.{IfOk, OnOk, codes}
use Rattle.std.specs.Str.{chars}
use Rattle.markup.specs.Forest.{Forest, IsForest, above_of, create_element, data_of, element_name, node_count}
use Rattle.markup.specs.Namespaces.{name_of}
use Rattle.markup.specs.declared.attributes.Attribute.{Attribute}
use Rattle.markup.specs.declared.fault.ParseFault.{ParseFault}
use Rattle.markup.specs.declared.flags.ElementFlags.{ElementFlags}
use Rattle.markup.specs.declared.names.QualName.{QualName}
use Rattle.markup.specs.declared.namespaces.KnownNamespace.TheVariants as known
use Rattle.markup.proofs.Forests.{IsMade-create_element}
use Rattle.markup.proofs.NamespaceNames.{html-name_of}
use Rattle.markup.proofs.Plain.{chars-plain}
use Rattle.html_rules.specs.Names.{Html, element_name_of}

abbrev named_by : List ℕ → List ℕ → QualName
named_by ns local = record { prefix = None; ns = ns; local = local }

pub form-name : (ns local : List ℕ) (name : QualName) → name ≡ record { prefix = None; ns = ns; local = local }
    → ns ≡ name_of known.Html → local ≡ chars (codes "form") → name ≡ element_name_of Html (codes "form")
form-name ns local name e is_ns is_local = e ∙ ap₂ named_by (is_ns ∙ html-name_of) (is_local ∙ chars-plain (codes "form") refl)

module _ {H : Type 0} (name : QualName) (attributes : List Attribute) (flags : ElementFlags) where
  pub top-behind : (r : Result H ParseFault) (f g h : Forest) → g ≡ f → IsForest g → above_of f 0 ≡ None
      → OnOk r (h ≡ create_element g name attributes flags) → OnOk r (above_of h 0 ≡ None)
  top-behind (Ok x) f g h e is top made = ap (λ y. above_of y 0) made
      ∙ ((IsMade-create_element g name attributes flags is).grown.olds 0 is.document ∙ (ap (λ y. above_of y 0) e ∙ top))
  top-behind (Err fault) f g h e is top made = tt

  pub named-behind : (node : H → ℕ) (r : Result H ParseFault) (g h : Forest) → IsForest g
      → IfOk r (λ x. node x ≡ node_count g) → OnOk r (h ≡ create_element g name attributes flags)
      → name ≡ element_name_of Html (codes "form")
      → IfOk r (λ x. element_name (data_of h (node x)) ≡ Some (element_name_of Html (codes "form")))
  named-behind node (Ok x) g h is n made e =
      ap (λ k. element_name (data_of h k)) n
      ∙ (ap (λ y. element_name (data_of y (node_count g))) made
      ∙ (ap element_name (IsMade-create_element g name attributes flags is).made ∙ ap (λ y. Some y) e))
  named-behind node (Err fault) g h is n made e = tt
