-- Templates that may become shadow roots.
use Rattle.std.proofs.Common.{◌≡◌, ℕ, Bool, List, ◌∷◌, Option, Some, None, refl, ap, subst}
use Rattle.std.specs.Prelude.{IsSome}
use Rattle.markup.specs.Forest.{Forest, IsNode, node_count, parent_of}
use Rattle.markup.specs.Named.{IsTree}
use Rattle.markup.specs.TreeLaws.{with_errors}
use Rattle.markup.specs.declared.attributes.Attribute.{Attribute}
use Rattle.markup.proofs.Parents.{is_among-parent}
use Rattle.html_tokens.specs.declared.tags.Tag.{Tag}
use Rattle.html_rules.specs.Choice.{choose}
use Rattle.html_rules.specs.Names.{Html, Namespace, namespace_of}
use Rattle.html_rules.specs.Places.{insert_element_for, next_open, open_element}
use Rattle.html_rules.specs.Stack.{pop, without_current}
use Rattle.html_rules.specs.State.{State, adjusted_current_node, current_number}
use Rattle.html_rules.specs.Templates.{attach_shadow_root, insert_template, may_be_shadow_root, number_of}
use Rattle.html_rules_laws.specs.Soundness.{AreOpened}
use Rattle.html_stack.specs.Inserting.{IsFor, IsPoint, asked_at}
use Rattle.html_stack.specs.Stacks.{Stacked, joined}
use Rattle.html_stack.specs.declared.entries.InsertionPoint.{InsertionPoint}
use Rattle.html_stack.specs.declared.entries.InsertionPoint.TheVariants.{LastChild, BeforeSibling, TableFosterParenting}
use Rattle.html_stack.specs.declared.inserting.new_element.NewElement.{NewElement}
use Rattle.html_stack.proofs.Points.{opened-IsNode}

-- what has a parent is a node
child-IsNode : (f : Forest) (n : ℕ) (o : Option ℕ) → IsTree f → parent_of f n ≡ o → IsSome o → IsNode f n
child-IsNode f n None tree e is = absurd cc
child-IsNode f n (Some p) tree e is = tree.forest.in_range p n (is_among-parent f n p e)

-- a place is asked of by a node
pub asked-IsNode : {H : Type 0} (node : H → ℕ) (f : Forest) (point : InsertionPoint H) → IsTree f
    → IsPoint node f point → IsNode f (asked_at node point)
asked-IsNode node f (LastChild parent) tree is = is.there
asked-IsNode node f (BeforeSibling sibling) tree is = child-IsNode f (node sibling) (parent_of f (node sibling)) tree refl is
asked-IsNode node f (TableFosterParenting element previous) tree is = is.0

-- an element that is made of parts
pub opened-for : (space : Namespace) (name : List ℕ) (attributes : List Attribute) (twice : Bool) (e : NewElement)
    (s : State) → IsFor space name attributes twice e
    → open_element (namespace_of e.namespace) e.name e.attrs e.had_duplicate_attributes s ≡ open_element space name attributes twice s
opened-for space name attributes twice e s of = rw (of.in_namespace, of.named, of.with_attributes, of.had_duplicate_attributes) refl

-- the element that was opened is the current node
opened-first : (space : Namespace) (name : List ℕ) (attributes : List Attribute) (twice : Bool) (s : State)
    (old mid : Stacked) (f g : Forest)
    → joined s mid g ≡ open_element space name attributes twice (joined s old f) → mid.open_elems ≡ next_open
    (joined s old f) space name ∷ old.open_elems
unfolding open_element
opened-first space name attributes twice s old mid f g step = ap (λ (t : State). t.open_elems) step

-- it is a node
pub opened-there : (space : Namespace) (name : List ℕ) (attributes : List Attribute) (twice : Bool) (s : State)
    (old mid : Stacked) (f g : Forest)
    → joined s mid g ≡ open_element space name attributes twice (joined s old f) → AreOpened g mid.open_elems → IsNode g (node_count f)
opened-there space name attributes twice s old mid f g step h =
    let opened : AreOpened g (next_open (joined s old f) space name ∷ old.open_elems) = subst (λ xs. AreOpened g xs)
    (opened-first space name attributes twice s old mid f g step) h in
    opened-IsNode g (next_open (joined s old f) space name) opened.0

-- a template that was opened becomes a shadow root, by what the sink answers
pub attached-by : (b : Bool) (tag : Tag) (host : ℕ) (s : State) (old mid : Stacked) (f g : Forest)
    → joined s mid g ≡ open_element Html tag.name tag.attrs tag.had_duplicate_attributes (joined s old f)
    → b ≡ s.answers.attaches_shadow (with_errors 0 g) host (node_count f) tag.attrs
    → choose b (λ _. joined s mid g) (λ _. insert_element_for tag (pop (joined s mid g))) ≡ attach_shadow_root tag
    host (open_element Html tag.name tag.attrs tag.had_duplicate_attributes (joined s old f))
attached-by b tag host s old mid f g step e =
    let number : current_number mid.open_elems ≡ node_count f = ap current_number
    (opened-first Html tag.name tag.attrs tag.had_duplicate_attributes s old mid f g step) in
    subst (λ (t : State). choose b (λ _. joined s mid g) (λ _. insert_element_for tag (pop (joined s mid g))) ≡
    attach_shadow_root tag host t) step (rw (number, ← e) refl)

-- a popped stack
pub popped-step : (s : State) (old new : Stacked) (f : Forest)
    → new ≡ record old { open_elems = without_current old.open_elems } → joined s new f ≡ pop (joined s old f)
unfolding pop
popped-step s old new f e = ap (λ v. joined s v f) e

-- a template is inserted, or may become a shadow root
pub template-by : (b : Bool) (tag : Tag) (s : State) → b ≡ may_be_shadow_root tag s
    → choose b (λ _. attach_shadow_root tag (number_of (adjusted_current_node s))
    (open_element Html tag.name tag.attrs tag.had_duplicate_attributes s)) (λ _. insert_element_for tag s) ≡ insert_template tag s
unfolding insert_template
template-by b tag s e = rw (← e) refl
