-- A context that is a form is HTML's, without a prefix.
use Rattle.std.proofs.Common.{◌≡◌, ℕ, Bool, true, false, List, [], ◌∷◌, None, Some, ap, codes, refl, true≢false, sym}
use Rattle.std.specs.Prelude.{◌||◌, IfSome}
use Rattle.std.specs.Str.{bytes_eq}
use Rattle.std.proofs.lemmas.Slice.Eq.{bytes_eq-Decides}
use Rattle.markup.specs.Forest.{Forest, node_count}
use Rattle.markup.specs.Names.{html_namespace}
use Rattle.markup.specs.Namespaces.{name_of}
use Rattle.html_parser.specs.Documents.{new_context}
use Rattle.html_rules.specs.Choice.{choose}
use Rattle.html_rules.specs.Documents.{form_of_context}
use Rattle.html_rules.specs.Names.{Html, element_name_of}
use Rattle.html_rules.specs.Sets.{names_of}
use Rattle.html_rules.specs.State.{is_in}
use Rattle.html_rules.specs.declared.rules.Rules.{Rules}
use Rattle.html_rules.specs.declared.rules.Rules.TheVariants.{Html5ever, Standard}
use Rattle.html_rules.specs.declared.tag_set.TagSet.TheVariants as set
use Rattle.html_pages.specs.Pages.{html_name}

one-of : (b : Bool) → (b || false) ≡ true → b ≡ true
one-of true h = refl
one-of false h = absurd (true≢false (sym h))

pub form-named : (rules : Rules) (local : List ℕ) (f : Forest)
    → IfSome (form_of_context rules (new_context rules (html_name local) f) None)
    (λ n. html_name local ≡ element_name_of Html (codes "form"))
unfolding names_of html_namespace name_of
form-named Html5ever local f = tt
form-named Standard local f = by (bytes_eq local (codes "form")) refl where
  by : (b : Bool) → bytes_eq local (codes "form") ≡ b
      → IfSome (choose (b || false) (λ _. Some (node_count f)) (λ _. None)) (λ n. html_name local ≡ element_name_of Html (codes "form"))
  by true e = ap html_name ((bytes_eq-Decides local (codes "form")).0 e)
  by false e = tt
