-- Where nodes are put, and elements that are to be made.
use Rattle.std.specs.Prelude.{◌≡◌, ℕ, Bool, false, IfOk, List, Option, Some, None, IsSome, Result}
use Rattle.markup.specs.Forest.{Forest, IsNode, IsParent, Last, Place, node_count, parent_of, place_before, place_near, put}
use Rattle.markup.specs.Namespaces.{name_of}
use Rattle.markup.specs.declared.attributes.Attribute.{Attribute}
use Rattle.markup.specs.declared.namespaces.KnownNamespace.TheVariants as KnownNamespace
use Rattle.html_tokens.specs.declared.tags.Tag.{Tag}
use Rattle.html_names.specs.Classes.{IsClassOf}
use Rattle.html_names.specs.declared.element_class.ElementClass.{ElementClass}
use Rattle.html_rules.specs.Names.{Namespace, namespace_of}
use Rattle.html_rules.specs.Places.{insert_element, put_element, with_element}
use Rattle.html_rules.specs.State.{Entry, Open, State, current_node}
use Rattle.html_rules.specs.declared.rules.Rules.{Rules}
use Rattle.html_rules_laws.specs.Soundness.{IsOpened, IsStanding}
use Rattle.html_stack.specs.Stacks.{open_of}
use Rattle.html_stack.specs.declared.entries.InsertionPoint.{InsertionPoint}
use Rattle.html_stack.specs.declared.entries.InsertionPoint.TheVariants.{LastChild, BeforeSibling, TableFosterParenting}
use Rattle.html_stack.specs.declared.entries.OpenElement.{OpenElement}
use Rattle.html_stack.specs.declared.entries.PushFlag.{PushFlag}
use Rattle.html_stack.specs.declared.entries.PushFlag.TheVariants.{Push, NoPush}
use Rattle.html_stack.specs.declared.inserting.new_element.NewElement.{NewElement}
use denote.Bor.{Bor}

-- the place that handles name
abbrev pub place_at : {H : Type 0} → (H → ℕ) → Forest → InsertionPoint H → Place
place_at node f (LastChild parent) = Last (node parent)
place_at node f (BeforeSibling sibling) = place_before (node sibling) (parent_of f (node sibling))
place_at node f (TableFosterParenting element previous) = place_near (node element) (node previous) (parent_of f (node element))

-- the handles name a place
abbrev pub IsPoint : {H : Type 0} → (H → ℕ) → Forest → InsertionPoint H → Type 0
IsPoint node f (LastChild parent) = IsParent f (node parent)
IsPoint node f (BeforeSibling sibling) = IsSome (parent_of f (node sibling))
IsPoint node f (TableFosterParenting element previous) = IsNode f (node element) × IsParent f (node previous)

-- the node by whose document a place is asked
abbrev pub asked_at : {H : Type 0} → (H → ℕ) → InsertionPoint H → ℕ
asked_at node (LastChild parent) = node parent
asked_at node (BeforeSibling sibling) = node sibling
asked_at node (TableFosterParenting element previous) = node element

-- the element in which something is put: another than the current node, where it is given
abbrev pub target_of : {H : Type 0} → (H → ℕ) → Option (Bor (OpenElement H)) → List Open → Option Open
target_of node None xs = current_node xs
target_of node (Some target) xs = Some (open_of node target.now)

-- the context of a fragment, if there is one
abbrev pub context_of : {H : Type 0} → (H → ℕ) → Option (Bor (OpenElement H)) → Option Open
context_of node None = None
context_of node (Some context) = Some (open_of node context.now)

-- an element that is given is one
abbrev pub IsTarget : {H : Type 0} → (H → ℕ) → Forest → Option (Bor (OpenElement H)) → Type 0
IsTarget node f None = Unit {0}
IsTarget node f (Some target) = IsOpened f (open_of node target.now)

-- the class of an element that is to be made is its own
abbrev pub IsNew : NewElement → Type 0
IsNew e = IsClassOf (namespace_of e.namespace) e.name e.class

-- an element that is to be made is this one
pub record IsFor (space : Namespace) (name : List ℕ) (attributes : List Attribute) (twice : Bool) (e : NewElement) : Type 0 where
  pub in_namespace : namespace_of e.namespace ≡ space
  pub named : e.name ≡ name
  pub with_attributes : e.attrs ≡ attributes
  pub had_duplicate_attributes : e.had_duplicate_attributes ≡ twice

-- the HTML element that a tag makes
abbrev pub element_for : ElementClass → Tag → NewElement
element_for class tag = record {
  namespace = name_of KnownNamespace.Html;
  name = tag.name;
  class = class;
  attrs = tag.attrs;
  had_duplicate_attributes = tag.had_duplicate_attributes;
  already_started = false;
}

-- a tree with the element
abbrev pub with_made : Forest → NewElement → Forest
with_made f e = with_element f (namespace_of e.namespace) e.name e.attrs e.had_duplicate_attributes

-- a tree with the element at a place
abbrev pub with_put : {H : Type 0} → (H → ℕ) → InsertionPoint H → Forest → NewElement → Forest
with_put node point f e = put (with_made f e) (place_at node (with_made f e) point) (node_count f)

-- the element, once it is open
abbrev pub opened_as : Rules → Forest → NewElement → Open
opened_as rules f e = record { number = node_count f; namespace = namespace_of e.namespace; name = e.name; rules = rules }

-- the step that inserts an element, and opens it or not
abbrev pub inserted : PushFlag → NewElement → State → State
inserted Push e s = insert_element (namespace_of e.namespace) e.name e.attrs e.had_duplicate_attributes s
inserted NoPush e s = put_element (namespace_of e.namespace) e.name e.attrs e.had_duplicate_attributes s

-- what stands in the one tree stands in the other
abbrev pub LeavesStanding : Forest → Forest → Type 0
LeavesStanding f g = (xs : List Open) (entries : List Entry) → IsStanding f xs entries → IsStanding g xs entries

-- what a call made, if it could, is the next node after those of a tree
abbrev pub MakesNext : {H E : Type 0} → (H → ℕ) → Forest → Result H E → Type 0
MakesNext node f result = IfOk result (λ made. node made ≡ node_count f)
