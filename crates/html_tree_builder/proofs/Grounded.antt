-- Actions that may be taken leave a state grounded.
use Rattle.std.proofs.Common.{◌≡◌, ℕ, ◌<◌, ◌≤◌, Bool, true, false, List, [], ◌∷◌, Option, Some, None, refl, arith}
use Rattle.std.specs.Prelude.{IfSome, codes}
use Rattle.markup.specs.Forest.{Forest, IsNode, data_of, element_name, node_count}
use Rattle.markup.specs.declared.attributes.Attribute.{Attribute}
use Rattle.markup.proofs.PutTexts.{element-IsNode}
use Rattle.html_tokens.specs.declared.token.Token.{Token}
use Rattle.html_tokens.specs.declared.token.Token.TheVariants.{TagToken, CommentToken}
use Rattle.html_rules.specs.Actions.{act, for_tag, forget_form_elem, insert_form_void, push_head_elem, set_form_elem, set_head_elem}
use Rattle.html_rules.specs.Choice.{choose}
use Rattle.html_rules.specs.Conditions.{holds}
use Rattle.html_rules.specs.ForeignContent.{foreign_start}
use Rattle.html_rules.specs.Names.{Namespace, Html, MathMl, Svg, Other, element_name_of}
use Rattle.html_rules.specs.Places.{appropriate_place, insert_and_pop_element_for, put_element, with_element}
use Rattle.html_rules.specs.State.{Open, State, current_number}
use Rattle.html_rules.specs.Table.{Action, Then, When, SetHeadElem, SetFormElem, ForgetFormElem, InsertFormVoid, InsertVoid}
use Rattle.html_rules.specs.Table.{PushHeadElem, InsertForeign, EnterForeign}
use Rattle.html_rules_laws.specs.Soundness.{AreOpened, IsClear, IsOwn, Standing, is_plain_action}
use Rattle.html_rules_laws.proofs.TreePreserved.ActionsStanding.{actions-Standing}
use Rattle.html_tree_builder.specs.Acting.{Grounded, MayAct}
use Rattle.html_rules_laws.proofs.Frames.Grown.{IsKept, act-grows, count-put, grown-more, sets_pointer}

node-grown : (f g : Forest) (o : Option ℕ) → node_count f ≤ node_count g → IfSome o (IsNode f) → IfSome o (IsNode g)
node-grown f g None less h = tt
node-grown f g (Some n) less h = omega arith

context-grown : (f g : Forest) (o : Option Open) → node_count f ≤ node_count g → IfSome o (λ c. IsNode f c.number)
    → IfSome o (λ c. IsNode g c.number)
context-grown f g None less h = tt
context-grown f g (Some c) less h = omega arith

-- a step that keeps the pointers
pub kept-grounded : (s r : State) → Grounded s → Standing r → IsKept s r → Grounded r
kept-grounded s r h standing kept = record {
  standing = standing;
  head = rw kept.head (node-grown s.forest r.forest s.head_elem kept.grown.nodes h.head);
  form = rw kept.form (node-grown s.forest r.forest s.form_elem kept.grown.nodes h.form);
  context = rw kept.context (context-grown s.forest r.forest s.context_elem kept.grown.nodes h.context);
}

by-law : (a : Action) → is_plain_action a ≡ true → sets_pointer a ≡ false → (t : Token) (s : State) → Grounded s → Grounded (act a t s)
by-law a plain same t s h = kept-grounded s (act a t s) h (actions-Standing.plain a plain t s h.standing) (act-grows a same t s)

choose-grounded : (b : Bool) (x y : State) → Grounded x → Grounded y → Grounded (choose b (λ _. x) (λ _. y))
choose-grounded true x y h k = h
choose-grounded false x y h k = k

current-node : (s : State) → Standing s → current_number s.open_elems < node_count s.forest
current-node s h = current-at s.open_elems h.opened where
  current-at : (xs : List Open) → AreOpened s.forest xs → current_number xs < node_count s.forest
  current-at [] opened = h.tree.forest.document
  current-at (x ∷ xs) opened = element-IsNode s.forest x.number (element_name_of x.namespace x.name) opened.0.named

-- the element that was put last is a node
put-more : (namespace : Namespace) (name : List ℕ) (attributes : List Attribute) (dup : Bool) (s : State)
    → node_count s.forest < node_count (put_element namespace name attributes dup s).forest
unfolding put_element
put-more namespace name attributes dup s = omega (
  arith,
  (grown-more s.forest namespace name attributes dup),
  (count-put (with_element s.forest namespace name attributes dup)
      (appropriate_place s (with_element s.forest namespace name attributes dup)) (node_count s.forest)),
)

form-void-grounded : (t : Token) (s : State) → Grounded s → Grounded (for_tag insert_form_void t s)
form-void-grounded (TagToken tag) s h =
    let put : State = insert_and_pop_element_for tag s in
    let is = kept-grounded s put h (actions-Standing.plain InsertVoid refl (TagToken tag) s h.standing)
    (act-grows InsertVoid refl (TagToken tag) s) in
    record {
      standing = is.standing;
      head = is.head;
      form = put-more Html tag.name tag.attrs tag.had_duplicate_attributes s;
      context = is.context;
    }
form-void-grounded _ s h = h

foreign-grounded : (t : Token) (s : State) → IfSome s.context_elem (λ c. IsOwn c.namespace) → Grounded s
    → Grounded (for_tag foreign_start t s)
foreign-grounded (TagToken tag) s own h = kept-grounded s (foreign_start tag s) h
    (actions-Standing.foreign tag s own h.standing) (act-grows InsertForeign refl (TagToken tag) s)
foreign-grounded _ s own h = h

head-set : (s : State) → Grounded s → Grounded (set_head_elem s)
unfolding set_head_elem
head-set s h = record { standing = h.standing; head = current-node s h.standing; form = h.form; context = h.context }

form-set : (s : State) → Grounded s → Grounded (set_form_elem s)
unfolding set_form_elem
form-set s h = record { standing = h.standing; head = h.head; form = current-node s h.standing; context = h.context }

form-forgotten : (s : State) → Grounded s → Grounded (forget_form_elem s)
unfolding forget_form_elem
form-forgotten s h = record { standing = h.standing; head = h.head; form = tt; context = h.context }

by-law-head : (s : State) → Grounded s → Standing (push_head_elem s) → Grounded (push_head_elem s)
by-law-head s h standing = kept-grounded s (push_head_elem s) h standing (act-grows PushHeadElem refl (CommentToken []) s)

head-none : (s : State) → s.head_elem ≡ None → Standing s → Standing (push_head_elem s)
unfolding push_head_elem
head-none s e h = rw e h

head-grounded : (o : Option ℕ) (s : State) → s.head_elem ≡ o
    → IfSome o (λ n. (element_name (data_of s.forest n) ≡ Some (element_name_of Html (codes "head")))
    × IsClear s.forest n s.open_elems) → Grounded s → Grounded (push_head_elem s)
head-grounded None s e is h = by-law-head s h (head-none s e h.standing)
head-grounded (Some n) s e is h = by-law-head s h (actions-Standing.head n s e is.0 is.1 h.standing)

-- what may be done to a grounded state leaves one
pub act-grounded : (a : Action) (t : Token) (s : State) → MayAct a t s → Grounded s → Grounded (act a t s)
act-grounded (Then a b) t s may h = act-grounded b t (act a t s) may.1 (act-grounded a t s may.0 h)
act-grounded (When c a) t s may h = choose-grounded (holds c t s) (act a t s) s (act-grounded a t s may h) h
act-grounded PushHeadElem t s may h = head-grounded s.head_elem s refl may h
act-grounded InsertForeign t s may h = foreign-grounded t s may h
act-grounded (EnterForeign Html) t s may h = by-law (EnterForeign Html) refl refl t s h
act-grounded (EnterForeign MathMl) t s may h = by-law (EnterForeign MathMl) refl refl t s h
act-grounded (EnterForeign Svg) t s may h = by-law (EnterForeign Svg) refl refl t s h
act-grounded (EnterForeign (Other uri)) t s may h = absurd may
act-grounded SetHeadElem t s may h = head-set s h
act-grounded SetFormElem t s may h = form-set s h
act-grounded ForgetFormElem t s may h = form-forgotten s h
act-grounded InsertFormVoid t s may h = form-void-grounded t s h
act-grounded a t s may h = by-law a refl refl t s h
