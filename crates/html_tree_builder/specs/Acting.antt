-- What the actions of rows ask of a state.
use Rattle.std.specs.Prelude.{◌≡◌, ℕ, Bool, List, true, false, Some, IfSome, codes}
use Rattle.markup.specs.Forest.{IsNode, data_of, element_name}
use Rattle.html_tokens.specs.declared.token.Token.{Token}
use Rattle.html_rules.specs.Actions.{act, append_in_body, set_foster_parenting}
use Rattle.html_rules.specs.Stack.{parse_error}
use Rattle.html_rules.specs.Names.{Namespace, Html, Other, element_name_of}
use Rattle.html_rules.specs.State.{State}
use Rattle.html_rules.specs.Table.{Action, Then, When, CloseItem, EnterForeign, InsertForeign, PushHeadElem}
use Rattle.html_rules_laws.specs.Soundness.{IsClear, IsOwn, Standing}
use Rattle.html_stack.specs.Wanted.{IsOfHtml}

-- the tree and the open elements stand, and the pointers name nodes
pub record Grounded (s : State) : Type 0 where
  pub standing : Standing s
  pub head : IfSome s.head_elem (IsNode s.forest)
  pub form : IfSome s.form_elem (IsNode s.forest)
  pub context : IfSome s.context_elem (λ c. IsNode s.forest c.number)

-- a namespace of foreign content
abbrev pub IsForeign : Namespace → Type 0
IsForeign (Other uri) = ⊥
IsForeign namespace = Unit {0}

-- an action may be taken: a head that is opened again is a `head` and stands above nothing that is open, and a context has a namespace of
-- its own
abbrev pub MayAct : Action → Token → State → Type 0
MayAct (Then a b) t s = MayAct a t s × MayAct b t (act a t s)
MayAct (When c a) t s = MayAct a t s
MayAct PushHeadElem t s = IfSome s.head_elem
    (λ n. (element_name (data_of s.forest n) ≡ Some (element_name_of Html (codes "head"))) × IsClear s.forest n s.open_elems)
MayAct InsertForeign t s = IfSome s.context_elem (λ c. IsOwn c.namespace)
MayAct (EnterForeign namespace) t s = IsForeign namespace
MayAct (CloseItem items) t s = IsOfHtml items
MayAct _ t s = Unit {0}

-- characters that are fostered
abbrev pub foster_text : List ℕ → State → State
foster_text text s = set_foster_parenting false (append_in_body text (set_foster_parenting true (parse_error s)))

-- an action that has no others in it
abbrev pub is_alone : Action → Bool
is_alone (Then a b) = false
is_alone (When c a) = false
is_alone a = true
