-- What tokens keep of the tree and of the open elements.
use Rattle.std.specs.Prelude.{◌≡◌, ℕ, Bool, true, false, ◌&&◌, ◌⊎◌, List, [], ◌∷◌, Option, Some, None, IfOk, IfSome, codes}
use Rattle.markup.specs.Forest.{Above, Forest, above_of, data_of, element_name}
use Rattle.markup.specs.Named.{IsTree}
use Rattle.html_tokens.specs.declared.token.Token.{Token}
use Rattle.html_tokens.specs.declared.token.Token.TheVariants.{TagToken}
use Rattle.html_rules.specs.Documents.{Setting, before_document, before_fragment}
use Rattle.html_rules.specs.ForeignContent.{is_start_tag}
use Rattle.html_rules.specs.Names.{Html, element_name_of}
use Rattle.html_rules.specs.Rules.{Again, turn}
use Rattle.html_rules.specs.Sets.{is_among, names_of}
use Rattle.html_rules.specs.Shape.{is_at_root, is_fit}
use Rattle.html_rules.specs.State.{Open, State, is_in}
use Rattle.html_rules.specs.Step.{ended, step}
use Rattle.html_rules.specs.declared.insertion_mode.InsertionMode.{InsertionMode}
use Rattle.html_rules.specs.declared.insertion_mode.InsertionMode.TheVariants.{Initial, BeforeHtml, AfterHead, InTableText}
use Rattle.html_rules.specs.declared.tag_set.TagSet.TheVariants as set
use Rattle.html_rules_laws.specs.Held.{Held}
use Rattle.html_rules_laws.specs.Sound.{Sound}
use Rattle.html_rules_laws.specs.Soundness.{IsClear, IsOwn, Standing}

-- nothing but the document stands above a node
abbrev pub IsRooted : Forest → ℕ → Type 0
IsRooted f n = (a : ℕ) → Above f a n → (a ≡ n) ⊎ (a ≡ 0)

-- an `html` that is open was opened first, and nothing but the document stands above it
abbrev pub AreRooted : Forest → List Open → Type 0
AreRooted f [] = Unit {0}
AreRooted f (x ∷ xs) = (is_in set.Html x ≡ true → (xs ≡ []) × IsRooted f x.number) × AreRooted f xs

pub record Upright (s : State) : Type 0 where
  -- the tree is one, and the open elements stand in order
  pub standing : Standing s
  pub rooted : AreRooted s.forest s.open_elems
  -- the head element pointer names a `head`
  pub head : IfSome s.head_elem (λ n. element_name (data_of s.forest n) ≡ Some (element_name_of Html (codes "head")))
  pub context : IfSome s.context_elem (λ c. IsOwn c.namespace)

-- modes in which there is no root yet
abbrev pub is_first : InsertionMode → Bool
is_first Initial = true
is_first BeforeHtml = true
is_first mode = false

-- a start tag of what belongs into a head
abbrev pub is_head_start : Token → Bool
is_head_start (TagToken tag) = is_start_tag tag.kind && is_among tag.name (names_of set.HeadContent)
is_head_start t = false

-- A token may come to a state: before it, and where it is taken again. No root is open before it is made, and a start tag of what
-- belongs into a head finds the root alone where it opens the head again.
pub record MayCome (t : Token) (s : State) : Type 0 where
  pub held : Held s
  pub upright : Upright s
  pub empty : is_first s.mode ≡ true → s.open_elems ≡ []
  pub head : is_head_start t ≡ true → s.mode ≡ AfterHead → is_at_root s.open_elems ≡ true
  pub original : is_head_start t ≡ true → s.mode ≡ InTableText → s.orig_mode ≡ Some AfterHead → ⊥

-- a state between tokens
pub record Steady (s : State) : Type 0 where
  pub sound : Sound s
  pub upright : Upright s

pub record AreStatesSteady : Type 0 where
  -- so are the states before the first token, over a tree with the document on top
  pub document : (setting : Setting) (f : Forest) → IsTree f → above_of f 0 ≡ None → Steady (before_document setting f)
  pub fragment : (setting : Setting) (context : Open) (form : Option ℕ) (f : Forest) → IsTree f
      → above_of f 0 ≡ None → IsOwn context.namespace → Steady (before_fragment setting context form f)
  -- every token and the end lead to such states
  pub step : (s : State) → Steady s → (t : Token) (line : ℕ) → IfOk (step s t line) (λ p. Steady p.0)
  pub ended : (s : State) → Steady s → Steady (ended s)
  -- within a token: it may come to such a state, and again to where a turn leads that takes it again
  pub begins : (s : State) → Steady s → s.has_ended ≡ false → is_fit s ≡ true → (t : Token) → MayCome t s
  pub turn : (t : Token) (s : State) → MayCome t s → Held (turn t s).state
      × (Upright (turn t s).state × ((turn t s).ends ≡ Again → MayCome t (turn t s).state))
  -- a head that is opened again is a `head`, and stands above nothing that is open
  pub head : (t : Token) (s : State) → MayCome t s → is_head_start t ≡ true → s.mode ≡ AfterHead
      → IfSome s.head_elem (λ n. (element_name (data_of s.forest n) ≡ Some (element_name_of Html (codes "head")))
      × IsClear s.forest n s.open_elems)
