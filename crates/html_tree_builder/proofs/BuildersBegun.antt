-- The states in which builders begin.
use Rattle.std.proofs.Common.{◌≡◌, ◌∙◌, ℕ, Bool, true, false, true≢false, List, Option, Some, None, refl, sym, ap, subst}
use Rattle.std.specs.Prelude.{IfSome, IsSome, cond, codes}
use Rattle.std.specs.Str.{bytes_eq}
use Rattle.markup.specs.Forest.{Forest, IsForest, IsNode, above_of, data_of, element_name}
use Rattle.markup.specs.Named.{HasContents, IsTree}
use Rattle.markup.specs.Names.{html_namespace}
use Rattle.markup.specs.declared.names.QualName.{QualName}
use Rattle.markup.proofs.PutTexts.{element-IsNode}
use Rattle.html_rules.specs.Documents.{Setting, before_document, before_fragment, form_of_context}
use Rattle.html_rules.specs.Names.{Html, MathMl, Svg, Other, element_name_of, mathml_namespace, namespace_of, svg_namespace}
use Rattle.html_rules.specs.State.{State, hushed}
use Rattle.html_rules.specs.declared.rules.Rules.{Rules}
use Rattle.html_rules_laws.specs.Soundness.{IsOwn}
use Rattle.html_rules_laws.specs.Usable.{Usable}
use Rattle.html_rules_laws.proofs.Progress.UsableTokens.{states-usable}
use Rattle.html_tree_builder.specs.States.{context_in, named_open}

-- the tree that the sink has
record IsTopped (f : Forest) : Type 0 where
  tree : IsTree f
  top : above_of f 0 ≡ None

topped : (f g : Forest) → g ≡ f → IsForest g → HasContents g → above_of f 0 ≡ None → IsTopped g
topped f g e forest contents top = record { tree = record { forest = forest; contents = contents }; top = ap (λ x. above_of x 0) e ∙ top }

pub document-usable : (setting : Setting) (f g : Forest) (s : State) → g ≡ f → IsForest g → HasContents g
    → above_of f 0 ≡ None → s ≡ before_document setting g → Usable (hushed s)
document-usable setting f g s e forest contents top is =
    let at = topped f g e forest contents top in
    subst (λ x. Usable (hushed x)) (sym is) (states-usable.document setting g at.tree at.top)

-- the namespace that a name spells is its own

own-namespace : (uri : List ℕ) → IsOwn (namespace_of uri)
own-namespace uri = by (bytes_eq uri html_namespace) (bytes_eq uri mathml_namespace) (bytes_eq uri svg_namespace) refl where
  by : (a b c : Bool) → bytes_eq uri html_namespace ≡ a → IsOwn (cond a Html (cond b MathMl (cond c Svg (Other uri))))
  by true b c e = tt
  by false true c e = tt
  by false false true e = tt
  by false false false e = e

pub named-own : (rules : Rules) (n : ℕ) (o : Option QualName) → IsOwn (named_open rules n o).namespace
unfolding html_namespace
named-own rules n None = refl
named-own rules n (Some name) = own-namespace name.ns

some-node : (rules : Rules) (f : Forest) (n : ℕ) (o : Option QualName) → element_name (data_of f n) ≡ o → IsSome o
    → IsNode f (named_open rules n o).number
some-node rules f n None e h = absurd (true≢false (sym h))
some-node rules f n (Some name) e h = element-IsNode f n name e

named-same : (f g : Forest) (o : Option ℕ) → g ≡ f
    → IfSome o (λ n. element_name (data_of f n) ≡ Some (element_name_of Html (codes "form")))
    → IfSome o (λ n. element_name (data_of g n) ≡ Some (element_name_of Html (codes "form")))
named-same f g o e h = subst (λ x. IfSome o (λ n. element_name (data_of x n) ≡ Some (element_name_of Html (codes "form")))) (sym e) h

form-there : (f : Forest) (o : Option ℕ)
    → IfSome o (λ n. element_name (data_of f n) ≡ Some (element_name_of Html (codes "form"))) → IfSome o (IsNode f)
form-there f None h = tt
form-there f (Some n) h = element-IsNode f n (element_name_of Html (codes "form")) h

-- a form is a node
pub form-node : (f g : Forest) (o : Option ℕ) → g ≡ f
    → IfSome o (λ n. element_name (data_of f n) ≡ Some (element_name_of Html (codes "form"))) → IfSome o (IsNode g)
form-node f g o e h = form-there g o (named-same f g o e h)

pub fragment-usable : (setting : Setting) (n : ℕ) (form : Option ℕ) (f g : Forest) (s : State) → g ≡ f → IsForest g
    → HasContents g → above_of f 0 ≡ None → IsSome (element_name (data_of f n))
    → IfSome (form_of_context setting.opts.rules (context_in setting.opts.rules f n) form)
    (λ n. element_name (data_of f n) ≡ Some (element_name_of Html (codes "form")))
    → s ≡ before_fragment setting (context_in setting.opts.rules g n) form g → Usable (hushed s)
fragment-usable setting n form f g s e forest contents top context named is =
    let at = topped f g e forest contents top in
    let there = subst (λ x. IsSome (element_name (data_of x n))) (sym e) context in
    subst (λ x. Usable (hushed x)) (sym is)
    (states-usable.fragment setting (context_in setting.opts.rules g n) form g at.tree at.top
    (named-own setting.opts.rules n (element_name (data_of g n)))
    (some-node setting.opts.rules g n (element_name (data_of g n)) refl there)
    (subst (λ x. IfSome (form_of_context setting.opts.rules (context_in setting.opts.rules x n) form)
    (λ n. element_name (data_of x n) ≡ Some (element_name_of Html (codes "form")))) (sym e) named))
