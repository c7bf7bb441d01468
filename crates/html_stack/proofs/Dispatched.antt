-- Which rules take a token, by its shape.
use Rattle.std.proofs.Common.{◌≡◌, ◌∙◌, ℕ, Bool, true, false, List, [], ◌∷◌, Option, Some, None, refl, sym, ap, codes, not}
use Rattle.std.specs.Prelude.{◌||◌, ◌&&◌, IfSome}
use Rattle.std.specs.Str.{bytes_eq}
use Rattle.markup.specs.Forest.{Forest, IsNode}
use Rattle.markup.specs.TreeLaws.{with_errors}
use Rattle.html_tokens.specs.declared.token.Token.{Token}
use Rattle.html_tokens.specs.declared.token.Token.TheVariants.{DoctypeToken, TagToken, CommentToken, CharacterTokens}
use Rattle.html_tokens.specs.declared.token.Token.TheVariants.{NullCharacterToken, EOFToken, ParseError}
use Rattle.html_rules.specs.ForeignContent.{is_foreign, is_foreign_at, is_html_element, is_html_there}
use Rattle.html_rules.specs.Sets.{is_among, names_of}
use Rattle.html_rules.specs.State.{Open, State, adjusted_by, adjusted_current_node, is_in}
use Rattle.html_rules.specs.declared.tag_set.TagSet.TheVariants as set
use Rattle.html_rules_laws.specs.Soundness.{AreOpened}
use Rattle.html_stack.specs.Dispatching.{HasShape, is_foreign_for, is_html_for}
use Rattle.html_stack.specs.declared.dispatching.TokenShape.{TokenShape}
use Rattle.html_stack.specs.declared.dispatching.TokenShape.TheVariants.{Text, StartTag, EndOfFile, Other}
use Rattle.html_stack.proofs.Points.{opened-IsNode}

and-true : (b : Bool) → (b && true) ≡ b
and-true true = refl
and-true false = refl

and-false : (b : Bool) → (b && false) ≡ false
and-false true = refl
and-false false = refl

or-false : (b : Bool) → (b || false) ≡ b
or-false true = refl
or-false false = refl

-- whether the sink says that HTML may stand in an element
abbrev point_at : State → ℕ → Bool
point_at s n = s.answers.integration_point (with_errors 0 s.forest) n

svg-name : (name : List ℕ) → is_among name (names_of set.Svg) ≡ bytes_eq name (codes "svg")
unfolding names_of
svg-name name = or-false (bytes_eq name (codes "svg"))

nowhere : (m v a : Bool) → ((m && false) || (v && false) || (a && false)) ≡ false
nowhere m v a = rw (and-false m, and-false v, and-false a) refl

-- whether HTML's rules hold for a token in an element, by the token's shape
there-by-shape : (s : State) (x : Open) (t : Token) (shape : TokenShape) → HasShape t shape → (t ≡ EOFToken → ⊥)
    → is_html_there s x t ≡ is_html_for (point_at s x.number) x shape
there-by-shape s x (CharacterTokens text) Text h e = rw (
  and-true (is_in set.MathmlTextIntegrationPoint x),
  and-true (is_in set.SvgHtmlIntegrationPoint x),
) refl
there-by-shape s x NullCharacterToken Text h e = rw (
  and-true (is_in set.MathmlTextIntegrationPoint x),
  and-true (is_in set.SvgHtmlIntegrationPoint x),
) refl
there-by-shape s x (TagToken tag) (StartTag class name) h e =
    rw (h.0, h.1, svg-name name.now, and-true (is_in set.SvgHtmlIntegrationPoint x)) refl
there-by-shape s x (TagToken tag) Other h e =
    rw h (nowhere (is_in set.MathmlTextIntegrationPoint x) (is_in set.SvgHtmlIntegrationPoint x) (is_in set.AnnotationXml x))
there-by-shape s x (CommentToken text) Other h e = nowhere (is_in set.MathmlTextIntegrationPoint x)
    (is_in set.SvgHtmlIntegrationPoint x) (is_in set.AnnotationXml x)
there-by-shape s x (DoctypeToken doctype) Other h e = nowhere (is_in set.MathmlTextIntegrationPoint x)
    (is_in set.SvgHtmlIntegrationPoint x) (is_in set.AnnotationXml x)
there-by-shape s x (ParseError message) Other h e = nowhere (is_in set.MathmlTextIntegrationPoint x)
    (is_in set.SvgHtmlIntegrationPoint x) (is_in set.AnnotationXml x)
there-by-shape s x EOFToken EndOfFile h e = absurd (e refl)
there-by-shape s x t shape h e = absurd h

before-end : (s : State) (t : Token) → (t ≡ EOFToken → ⊥) → is_foreign s t ≡ is_foreign_at s (adjusted_current_node s) t
unfolding is_foreign
before-end s (DoctypeToken doctype) e = refl
before-end s (TagToken tag) e = refl
before-end s (CommentToken text) e = refl
before-end s (CharacterTokens text) e = refl
before-end s NullCharacterToken e = refl
before-end s (ParseError message) e = refl
before-end s EOFToken e = absurd (e refl)

at-node : (s : State) (o : Option Open) (t : Token) (shape : TokenShape) → HasShape t shape → (t ≡ EOFToken → ⊥)
    → is_foreign_at s o t ≡ is_foreign_for (point_at s) o shape
at-node s None t shape h e = refl
at-node s (Some x) t shape h e = ap (λ b. not (is_html_element x) && not b) (there-by-shape s x t shape h e)

token-by-shape : (s : State) (o : Option Open) (t : Token) (shape : TokenShape) → adjusted_current_node s ≡ o
    → HasShape t shape → (t ≡ EOFToken → ⊥) → is_foreign s t ≡ is_foreign_for (point_at s) o shape
token-by-shape s o t shape at h e = before-end s t e ∙ (ap (λ p. is_foreign_at s p t) at ∙ at-node s o t shape h e)

at-end : (s : State) (o : Option Open) → is_foreign s EOFToken ≡ is_foreign_for (point_at s) o EndOfFile
unfolding is_foreign
at-end s None = refl
at-end s (Some x) = sym (and-false (not (is_html_element x)))

-- whether the rules of foreign content hold for a token, by its shape and by the adjusted current node
pub foreign-by-shape : (s : State) (o : Option Open) (t : Token) (shape : TokenShape) → adjusted_current_node s ≡ o
    → HasShape t shape → is_foreign s t ≡ is_foreign_for (point_at s) o shape
foreign-by-shape s o EOFToken EndOfFile at h = at-end s o
foreign-by-shape s o (CharacterTokens text) Text at h = token-by-shape s o (CharacterTokens text) Text at h (λ e. absurd cc)
foreign-by-shape s o NullCharacterToken Text at h = token-by-shape s o NullCharacterToken Text at h (λ e. absurd cc)
foreign-by-shape s o (TagToken tag) (StartTag class name) at h = token-by-shape s o (TagToken tag)
    (StartTag class name) at h (λ e. absurd cc)
foreign-by-shape s o (TagToken tag) Other at h = token-by-shape s o (TagToken tag) Other at h (λ e. absurd cc)
foreign-by-shape s o (CommentToken text) Other at h = token-by-shape s o (CommentToken text) Other at h (λ e. absurd cc)
foreign-by-shape s o (DoctypeToken doctype) Other at h = token-by-shape s o (DoctypeToken doctype) Other at h (λ e. absurd cc)
foreign-by-shape s o (ParseError message) Other at h = token-by-shape s o (ParseError message) Other at h (λ e. absurd cc)
foreign-by-shape s o t shape at h = absurd h

-- the adjusted current node is a node
pub adjusted-IsNode : (f : Forest) (context : Option Open) (xs : List Open) (y : Open) → AreOpened f xs
    → IfSome context (λ c. IsNode f c.number) → adjusted_by context xs ≡ Some y → IsNode f y.number
adjusted-IsNode f None [] y opened node e = absurd cc
adjusted-IsNode f (Some c) [] y opened node e = absurd cc
adjusted-IsNode f None (x ∷ xs) y opened node e = let same : x ≡ y = cc in rw (← same) (opened-IsNode f x opened.0)
adjusted-IsNode f (Some c) (x ∷ []) y opened node e = let same : c ≡ y = cc in rw (← same) node
adjusted-IsNode f (Some c) (x ∷ z ∷ xs) y opened node e = let same : x ≡ y = cc in rw (← same) (opened-IsNode f x opened.0)
