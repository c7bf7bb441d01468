-- Rows ask a state that stands at a spot the same as the spot.
use Rattle.std.proofs.Common.{◌≡◌, ◌∙◌, ℕ, Bool, true, false, not, List, [], ◌∷◌, Option, Some, None, refl, sym, ap, ap₂}
use Rattle.std.specs.Prelude.{◌&&◌, ◌||◌, map, reverse, is_some}
use mathlib.Core.List.{reverse_aux}
use Rattle.std.specs.List.{list_all, list_any}
use Rattle.html_tokens.specs.declared.token.Token.{Token}
use Rattle.html_tokens.specs.declared.token.Token.TheVariants.{EOFToken}
use Rattle.html_rules.specs.Choice.{choose}
use Rattle.html_rules.specs.Conditions.{context_is, holds, is_alone, is_nonempty, is_quirks}
use Rattle.html_rules.specs.ForeignContent.{ForeignEnd, AsInMode, Closed, foreign_end, foreign_end_from, is_as_in_mode, is_foreign}
use Rattle.html_rules.specs.ForeignContent.{is_foreign_at, is_foreign_end_error, is_html_element, is_html_there, is_named_any_case}
use Rattle.html_rules.specs.Names.{Html}
use Rattle.html_rules.specs.Rules.{first_fit, fits}
use Rattle.html_rules.specs.Sets.{by_rules}
use Rattle.html_rules.specs.Stack.{body_elem, has_open, if_body, in_scope, second_of}
use Rattle.html_rules.specs.State.{Open, State, adjusted_by, current_is, is_fragment_by, is_in, is_named}
use Rattle.html_rules.specs.Table.{Condition, Row}
use Rattle.html_rules.specs.Table as table
use Rattle.html_rules.specs.Tokens.{class_fits, name_of}
use Rattle.html_rules.specs.declared.rules.Rules.TheVariants.{Html5ever}
use Rattle.html_rules.specs.declared.tag_set.TagSet.{TagSet}
use Rattle.html_rules.specs.declared.tag_set.TagSet.TheVariants as set
use Rattle.html_faithful.specs.Faces.{Face, Looks, Points, bare}
use Rattle.html_faithful.specs.Harmless.{asks_pointers}
use Rattle.html_faithful.specs.Spots.{Spot, hollow}

-- WHAT LOOKS AT NAMES ALONE

-- what does not look at numbers is the same of elements with the same names
pub same : {A : Type 0} (F : List Open → A) → ((xs : List Open) → F (map bare xs) ≡ F xs) → (xs ys : List Open)
    → map bare xs ≡ map bare ys → F xs ≡ F ys
same F blind xs ys e = sym (blind xs) ∙ (ap F e ∙ blind ys)

module _ (p : Open → Bool) (blind : (x : Open) → p (bare x) ≡ p x) where
  pub current-blind : (xs : List Open) → current_is p (map bare xs) ≡ current_is p xs
  current-blind [] = refl
  current-blind (x ∷ xs) = blind x

  pub any-blind : (xs : List Open) → list_any p (map bare xs) ≡ list_any p xs
  any-blind [] = refl
  any-blind (x ∷ xs) = rw (blind x, any-blind xs) refl

  pub all-blind : (xs : List Open) → list_all p (map bare xs) ≡ list_all p xs
  all-blind [] = refl
  all-blind (x ∷ xs) = rw (blind x, all-blind xs) refl

  pub scope-blind : (scope : TagSet) (xs : List Open) → in_scope scope p (map bare xs) ≡ in_scope scope p xs
  scope-blind scope [] = refl
  scope-blind scope (x ∷ xs) = rw (blind x, scope-blind scope xs) refl

pub alone-blind : (xs : List Open) → is_alone (map bare xs) ≡ is_alone xs
alone-blind [] = refl
alone-blind (x ∷ []) = refl
alone-blind (x ∷ y ∷ ys) = refl

-- whether the second element that was opened is a body
abbrev second_is_body : List Open → Bool
second_is_body xs = is_some (body_elem xs)

map-onto : (xs ys : List Open) → map bare (reverse_aux xs ys) ≡ reverse_aux (map bare xs) (map bare ys)
map-onto [] ys = refl
map-onto (x ∷ xs) ys = map-onto xs (x ∷ ys)

map-reverse : (xs : List Open) → map bare (reverse xs) ≡ reverse (map bare xs)
map-reverse xs = map-onto xs []

either : (b : Bool) (x : Open) → is_some {T = ℕ} (choose b (λ _. Some 0) (λ _. None)) ≡ is_some {T = ℕ}
    (choose b (λ _. Some x.number) (λ _. None))
either true x = refl
either false x = refl

body-if : (x : Open) → is_some (if_body (Some (bare x))) ≡ is_some (if_body (Some x))
body-if x = either (is_in set.Body x) x

second-blind : (zs : List Open) → is_some (if_body (second_of (map bare zs))) ≡ is_some (if_body (second_of zs))
second-blind [] = refl
second-blind (x ∷ []) = refl
second-blind (x ∷ y ∷ ys) = body-if y

pub body-blind : (xs : List Open) → second_is_body (map bare xs) ≡ second_is_body xs
body-blind xs = ap (λ zs. is_some (if_body (second_of zs))) (sym (map-reverse xs)) ∙ second-blind (reverse xs)

pick : (b c : Bool) (l m : List Open) (r q : ForeignEnd) → is_as_in_mode r ≡ is_as_in_mode q
    → is_as_in_mode (choose b (λ _. AsInMode) (λ _. choose c (λ _. Closed l) (λ _. r)))
    ≡ is_as_in_mode (choose b (λ _. AsInMode) (λ _. choose c (λ _. Closed m) (λ _. q)))
pick true c l m r q h = refl
pick false true l m r q h = refl
pick false false l m r q h = h

pub ends-blind : (first : Bool) (name : List ℕ) (xs : List Open) → is_as_in_mode (foreign_end_from first name (map bare xs))
    ≡ is_as_in_mode (foreign_end_from first name xs)
ends-blind first name [] = refl
ends-blind first name (x ∷ []) = refl
ends-blind first name (x ∷ y ∷ ys) =
    pick (not first && is_html_element x) (is_named_any_case name x) (bare y ∷ map bare ys) (y ∷ ys)
    (foreign_end_from false name (bare y ∷ map bare ys)) (foreign_end_from false name (y ∷ ys)) (ends-blind false name (y ∷ ys))

pub error-blind : (name : List ℕ) (xs : List Open) → is_foreign_end_error name (map bare xs) ≡ is_foreign_end_error name xs
error-blind name [] = refl
error-blind name (x ∷ []) = refl
error-blind name (x ∷ y ∷ ys) = refl

-- CONDITIONS

module _ (t : Token) (s : State) (p : Spot) (looks : Looks s p) where
  pub names : map bare s.open_elems ≡ map bare p.path
  names = ap (λ (f : Face). f.names) looks

  pub in-scope_seen : (scope set : TagSet) → in_scope scope (is_in set) s.open_elems ≡ in_scope scope (is_in set) p.path
  in-scope_seen scope set = same (in_scope scope (is_in set)) (scope-blind (is_in set) (λ x. refl) scope) s.open_elems p.path names

  pub current-seen : (q : Open → Bool) → ((x : Open) → q (bare x) ≡ q x) → current_is q s.open_elems ≡ current_is q p.path
  current-seen q blind = same (current_is q) (current-blind q blind) s.open_elems p.path names

  ends-seen : is_as_in_mode (foreign_end (name_of t) s) ≡ is_as_in_mode (foreign_end (name_of t) (hollow p))
  unfolding foreign_end
  ends-seen = same (λ xs. is_as_in_mode (foreign_end_from true (name_of t) xs)) (ends-blind true (name_of t)) s.open_elems p.path names

  or-left : (a b : Bool) → a ≡ true → (a || b) ≡ true
  or-left true b h = refl
  or-left false b h = absurd (cc)

  or-right : (a b : Bool) → b ≡ true → (a || b) ≡ true
  or-right true b h = refl
  or-right false b h = h

  pub seen : (c : Condition) → (asks_pointers c ≡ true → Points s p) → holds c t s ≡ holds c t (hollow p)
  seen table.Always points = refl
  seen (table.Not c) points = ap not (seen c points)
  seen (table.Both c d) points = ap₂ (λ a b. a && b) (seen c (λ h. points (or-left (asks_pointers c) (asks_pointers d) h)))
      (seen d (λ h. points (or-right (asks_pointers c) (asks_pointers d) h)))
  seen table.ScriptingEnabled points = ap (λ (f : Face). f.scripting) looks
  seen table.IframeSrcdoc points = ap (λ (f : Face). f.srcdoc) looks
  seen table.ByStandard points = ap (λ (f : Face). by_rules f.rules false true) looks
  seen table.InFragment points = ap (λ (f : Face). is_fragment_by f.context) looks
  seen (table.ContextIs names) points = ap (λ (f : Face). context_is names f.context) looks
  seen table.InQuirksMode points = ap (λ (f : Face). is_quirks f.quirks_mode) looks
  seen table.FramesetOk points = ap (λ (f : Face). f.frameset_ok) looks
  seen (table.CurrentIs set) points = current-seen (is_in set) (λ x. refl)
  seen table.CurrentIsToken points = current-seen (is_named (name_of t)) (λ x. refl)
  seen table.RootAlone points = same is_alone alone-blind s.open_elems p.path names
  seen table.SecondIsBody points = same second_is_body body-blind s.open_elems p.path names
  seen table.TemplateOpen points = same (has_open set.Template) (any-blind (is_in set.Template) (λ x. refl)) s.open_elems p.path names
  seen table.HasTemplateModes points = ap (λ (f : Face). is_nonempty f.template_modes) looks
  seen (table.InScope scope set) points = in-scope_seen scope set
  seen (table.TokenInScope scope) points = same (in_scope scope (is_named (name_of t)))
      (scope-blind (is_named (name_of t)) (λ x. refl) scope) s.open_elems p.path names
  seen table.HasFormElem points = (points refl).0
  seen table.FormElemInScope points = (points refl).1
  seen table.FormElemIsCurrent points = (points refl).2
  seen table.AListed points = (points refl).3
  seen table.TypeHidden points = refl
  seen table.FontAttributes points = refl
  seen table.EndsInHtml points = ends-seen
  seen table.ForeignEndError points = same (is_foreign_end_error (name_of t)) (error-blind (name_of t)) s.open_elems p.path names

  module _ (points : Points s p) where
    fit-seen : (r : Row) → fits r t s ≡ fits r t (hollow p)
    fit-seen r = ap (λ b. choose (class_fits r.on t) (λ _. b) (λ _. false)) (seen r.when (λ h. points))

    pub rows-seen : (rs : List Row) → first_fit rs t s ≡ first_fit rs t (hollow p)
    rows-seen [] = refl
    rows-seen (r ∷ rs) = rw (fit-seen r, rows-seen rs) refl

-- FOREIGN CONTENT

-- an element of which no sink is asked
there : (t : Token) (s q : State) (x y : Open) → bare x ≡ bare y → is_in set.AnnotationXml y ≡ false
    → is_html_there s x t ≡ is_html_there q y t
there t s q x y e none =
    let same_in : (set : TagSet) → is_in set x ≡ is_in set y = λ set. ap (is_in set) e in
    let no : is_in set.AnnotationXml x ≡ false = same_in set.AnnotationXml ∙ none in
    rw (same_in set.MathmlTextIntegrationPoint, same_in set.SvgHtmlIntegrationPoint, no, none) refl

at : (t : Token) (s q : State) (x y : Open) → bare x ≡ bare y → is_in set.AnnotationXml y ≡ false
    → is_foreign_at s (Some x) t ≡ is_foreign_at q (Some y) t
at t s q x y e none = ap₂ (λ a b. not a && not b) (ap is_html_element e) (there t s q x y e none)

or-no : (a b : Bool) → (a || b) ≡ false → a ≡ false
or-no true b h = h
or-no false b h = refl

default : Open
default = record { number = 0; namespace = Html; name = []; rules = Html5ever }

head_or : List Open → Open
head_or [] = default
head_or (x ∷ xs) = x

from : (t : Token) (s q : State) (c : Option Open) → c ≡ None → (xs ys : List Open) → map bare xs ≡ map bare ys
    → has_open set.AnnotationXml ys ≡ false → is_foreign_at s (adjusted_by c xs) t ≡ is_foreign_at q (adjusted_by None ys) t
unfolding default head_or
from t s q c none [] [] e h = refl
from t s q c none [] (y ∷ ys) e h = absurd (cc)
from t s q c none (x ∷ xs) [] e h = absurd (cc)
from t s q c none (x ∷ xs) (y ∷ ys) e h = rw none (at t s q x y (ap head_or e)
    (or-no (is_in set.AnnotationXml y) (has_open set.AnnotationXml ys) h))

pub foreign-seen : (t : Token) (s : State) (p : Spot) → Looks s p → has_open set.AnnotationXml p.path ≡ false
    → is_foreign s t ≡ is_foreign (hollow p) t
unfolding is_foreign
foreign-seen EOFToken s p looks none = refl
foreign-seen t s p looks none =
    from t s (hollow p) s.context_elem (ap (λ (f : Face). f.context) looks) s.open_elems p.path (ap (λ (f : Face). f.names) looks) none
