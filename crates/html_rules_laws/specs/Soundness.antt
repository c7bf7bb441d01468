-- What the rules keep of the tree and of the open elements.
use Rattle.std.specs.Prelude.{◌≡◌, ℕ, Bool, false, ◌&&◌, List, [], ◌∷◌, Some, None, IfSome, codes}
use Rattle.std.specs.Str.{bytes_eq}
use Rattle.markup.specs.Forest.{Above, Forest, above_of, data_of, element_name}
use Rattle.markup.specs.Named.{IsTree}
use Rattle.markup.specs.Names.{html_namespace}
use Rattle.html_rules.specs.Names.{Namespace, Html, Other, element_name_of}
use Rattle.html_tokens.specs.declared.tags.Tag.{Tag}
use Rattle.html_tokens.specs.declared.token.Token.{Token}
use Rattle.html_rules.specs.Actions.{act, push_head_elem}
use Rattle.html_rules.specs.ForeignContent.{foreign_start}
use Rattle.html_rules.specs.State.{Open, Entry, Element, Marker, State}
use Rattle.html_rules.specs.Table.{Action, EnterForeign, InsertForeign, PushHeadElem, Then, When}

-- a namespace that is not one of the three is not HTML's either
abbrev pub IsOwn : Namespace → Type 0
IsOwn (Other uri) = bytes_eq uri html_namespace ≡ false
IsOwn _ = Unit {0}

-- an element has the name that it was opened with
pub record IsOpened (f : Forest) (x : Open) : Type 0 where
  pub named : element_name (data_of f x.number) ≡ Some (element_name_of x.namespace x.name)
  pub own : IsOwn x.namespace

abbrev pub AreOpened : Forest → List Open → Type 0
AreOpened f [] = Unit {0}
AreOpened f (x ∷ xs) = IsOpened f x × AreOpened f xs

-- a node is none of these, and stands above none
abbrev pub IsClear : Forest → ℕ → List Open → Type 0
IsClear f n [] = Unit {0}
IsClear f n (x ∷ xs) = (Above f n x.number → ⊥) × IsClear f n xs

-- no later element is an earlier one, or stands above one
abbrev pub IsApart : Forest → List Open → Type 0
IsApart f [] = Unit {0}
IsApart f (x ∷ xs) = IsClear f x.number xs × IsApart f xs

-- listed elements are HTML's, named as their tags
abbrev pub AreListed : Forest → List Entry → Type 0
AreListed f [] = Unit {0}
AreListed f (Marker ∷ entries) = AreListed f entries
AreListed f (Element n tag ∷ entries) = (element_name (data_of f n) ≡ Some (element_name_of Html tag.name)) × AreListed f entries

pub record IsStanding (f : Forest) (xs : List Open) (entries : List Entry) : Type 0 where
  pub tree : IsTree f
  pub opened : AreOpened f xs
  pub apart : IsApart f xs
  pub listed : AreListed f entries
  -- the document is never moved
  pub top : above_of f 0 ≡ None

-- the tree is one, with the document on top, the open elements are elements of it, and no later one is an earlier one or above one
abbrev pub Standing : State → Type 0
Standing s = IsStanding s.forest s.open_elems s.active_formatting

-- whether an action neither opens the head again nor asks for the namespace of a fragment's context
abbrev pub is_plain_action : Action → Bool
is_plain_action (Then a b) = is_plain_action a && is_plain_action b
is_plain_action (When c a) = is_plain_action a
is_plain_action PushHeadElem = false
is_plain_action InsertForeign = false
is_plain_action (EnterForeign (Other uri)) = false
is_plain_action _ = Bool.true

-- what keeps the tree a tree and the open elements in order
pub record AreActionsStanding : Type 0 where
  pub plain : (a : Action) → is_plain_action a ≡ Bool.true → (t : Token) (s : State) → Standing s → Standing (act a t s)
  -- a start tag in foreign content, where a context has a namespace of its own
  pub foreign : (tag : Tag) (s : State) → IfSome s.context_elem (λ c. IsOwn c.namespace) → Standing s → Standing (foreign_start tag s)
  -- a head that is opened again, which stands above nothing that is open
  pub head : (n : ℕ) (s : State) → s.head_elem ≡ Some n → element_name (data_of s.forest n) ≡ Some
      (element_name_of Html (codes "head")) → IsClear s.forest n s.open_elems → Standing s → Standing (push_head_elem s)
