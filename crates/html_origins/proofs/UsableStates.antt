-- In states that the rules lead to, attributes of tags `html` and `body` come only to elements of these names.
use Rattle.std.proofs.Common.{◌≡◌, ◌∙◌, ℕ, Bool, true, false, List, [], ◌∷◌, ◌++◌, Option, Some, None, refl, sym, ap, subst, codes}
use Rattle.std.proofs.Common.{true≢false, reverse}
use Rattle.std.proofs.lemmas.Bool.{and_parts}
use Rattle.std.proofs.lemmas.Grind.{reverse_onto}
use Rattle.std.proofs.lemmas.Slice.Eq.{bytes_eq-Decides}
use Rattle.std.specs.Prelude.{◌&&◌, ◌||◌, not, is_some, IfSome}
use Rattle.std.specs.Str.{bytes_eq}
use Rattle.markup.specs.Forest.{Forest, NodeData, data_of, element_name}
use Rattle.markup.specs.Forest.NodeData.{Document, Contents, ProcessingInstruction, Doctype, Text, Comment, Element}
use Rattle.markup.specs.declared.names.QualName.{QualName}
use Rattle.html_tokens.specs.Sink.{AfterEnd, InText, Refusal, Unfit}
use Rattle.html_tokens.specs.declared.tags.Tag.{Tag}
use Rattle.html_tokens.specs.declared.token.Token.{Token}
use Rattle.html_tokens.specs.declared.token.Token.TheVariants.{TagToken, DoctypeToken, CommentToken, CharacterTokens, NullCharacterToken}
use Rattle.html_tokens.specs.declared.token.Token.TheVariants.{EOFToken, ParseError as ErrorToken}
use Rattle.html_rules.specs.Actions.{set_ignore_lf}
use Rattle.html_rules.specs.Choice.{choose}
use Rattle.html_rules.specs.Conditions.{is_nonempty}
use Rattle.html_rules.specs.Names.{Html, MathMl, Namespace, Other, Svg, element_name_of}
use Rattle.html_rules.specs.Sets.{is_among, mathml_names_of, names_in, names_of, svg_names_of}
use Rattle.html_rules.specs.Shape.{fits_in, fits_in_original, fits_mode, has_root, has_template_modes, is_at_root, is_fit}
use Rattle.html_rules.specs.Stack.{body_elem, if_body, number_from, root_number, second_of, without_current}
use Rattle.html_rules.specs.State.{Open, State, hushed, is_in}
use Rattle.html_rules.specs.Step.{is_barred, is_idle, refusal_of}
use Rattle.html_rules.specs.declared.insertion_mode.InsertionMode.{InsertionMode}
use Rattle.html_rules.specs.declared.insertion_mode.InsertionMode.TheVariants as mode
use Rattle.html_rules.specs.declared.tag_set.TagSet.TheVariants as set
use Rattle.html_rules_laws.specs.Nesting.{IsNested}
use Rattle.html_rules_laws.specs.Soundness.{AreOpened, IsOpened}
use Rattle.html_rules_laws.specs.Upright.{MayCome}
use Rattle.html_rules_laws.specs.Usable.{Usable}
use Rattle.html_rules_laws.proofs.ModesPreserved.Fits.{nested-fits}
use Rattle.html_rules_laws.proofs.ModesPreserved.Begins.{nested-states}
use Rattle.html_rules_laws.proofs.ModesPreserved.Tokens.{hushed-nested, unlined-nested}
use Rattle.html_rules_laws.proofs.TreePreserved.Tokens.{begins, hushed-come, states-steady, unlined}
use Rattle.html_origins.specs.Allowed.{Allowed, AreRootsAllowed}
use Rattle.html_origins.proofs.Acts.{Fits}
use Rattle.html_origins.proofs.Trees.{IsAdding}
use Rattle.html_origins.proofs.Turns.{Fitting, HoldsBefore}

no : {P : Type 0} → false ≡ true → P
no h = absurd (true≢false (sym h))

only : (name other : List ℕ) → is_among name (other ∷ []) ≡ true → name ≡ other
only name other h = (bytes_eq-Decides name other).0 (one (bytes_eq name other) h) where
  one : (b : Bool) → (b || false) ≡ true → b ≡ true
  one true h = refl
  one false h = h

-- THE ROOT

-- a state that fits its mode has a root, where anything is open
fits-root : (m : InsertionMode) (xs : List Open) (head : Option ℕ) (modes : List InsertionMode) → fits_in m xs head modes ≡ true
    → is_nonempty xs ≡ true → has_root xs ≡ true
fits-root m [] head modes h s = no s
fits-root mode.Initial (x ∷ xs) head modes h s = no h
fits-root mode.BeforeHtml (x ∷ xs) head modes h s = no h
fits-root mode.Text (x ∷ xs) head modes h s = no h
fits-root mode.InTableText (x ∷ xs) head modes h s = no h
fits-root mode.InHead (x ∷ xs) head modes h s =
    (and_parts (has_root (x ∷ xs)) (is_some head) (and_parts (has_root (x ∷ xs) && is_some head) (not (is_at_root (x ∷ xs))) h).0).0
fits-root mode.InHeadNoscript (x ∷ xs) head modes h s =
    (and_parts (has_root (x ∷ xs)) (is_some head) (and_parts (has_root (x ∷ xs) && is_some head) (not (is_at_root (x ∷ xs))) h).0).0
fits-root mode.AfterHead (x ∷ xs) head modes h s =
    (and_parts (has_root (x ∷ xs)) (is_some head) (and_parts (has_root (x ∷ xs) && is_some head) (is_at_root (x ∷ xs)) h).0).0
fits-root mode.InTemplate (x ∷ xs) head modes h s = (and_parts (has_root (x ∷ xs)) _ h).0
fits-root mode.InCell (x ∷ xs) head modes h s = (and_parts (has_root (x ∷ xs)) _ h).0
fits-root mode.BeforeHead (x ∷ xs) head modes h s = h
fits-root mode.InBody (x ∷ xs) head modes h s = h
fits-root mode.InTable (x ∷ xs) head modes h s = h
fits-root mode.InCaption (x ∷ xs) head modes h s = h
fits-root mode.InColumnGroup (x ∷ xs) head modes h s = h
fits-root mode.InTableBody (x ∷ xs) head modes h s = h
fits-root mode.InRow (x ∷ xs) head modes h s = h
fits-root mode.AfterBody (x ∷ xs) head modes h s = h
fits-root mode.InFrameset (x ∷ xs) head modes h s = h
fits-root mode.AfterFrameset (x ∷ xs) head modes h s = h
fits-root mode.AfterAfterBody (x ∷ xs) head modes h s = h
fits-root mode.AfterAfterFrameset (x ∷ xs) head modes h s = h

original-root : (o : Option InsertionMode) (xs : List Open) (head : Option ℕ) (modes : List InsertionMode)
    → fits_in_original o xs head modes ≡ true → is_nonempty xs ≡ true → has_root xs ≡ true
original-root None xs head modes h s = no h
original-root (Some m) xs head modes h s = fits-root m xs head modes h s

mode-root : (m : InsertionMode) (o : Option InsertionMode) (xs : List Open) (head : Option ℕ) (modes : List InsertionMode)
    → fits_mode m o xs head modes ≡ true → is_nonempty xs ≡ true → has_root xs ≡ true
mode-root mode.Text o xs head modes h s = (and_parts (has_root xs) (not (is_at_root xs))
    (and_parts (has_root xs && not (is_at_root xs)) (fits_in_original o (without_current xs) head modes) h).0).0
mode-root mode.InTableText o xs head modes h s = original-root o xs head modes h s
mode-root mode.Initial o xs head modes h s = fits-root mode.Initial xs head modes h s
mode-root mode.BeforeHtml o xs head modes h s = fits-root mode.BeforeHtml xs head modes h s
mode-root mode.BeforeHead o xs head modes h s = fits-root mode.BeforeHead xs head modes h s
mode-root mode.InHead o xs head modes h s = fits-root mode.InHead xs head modes h s
mode-root mode.InHeadNoscript o xs head modes h s = fits-root mode.InHeadNoscript xs head modes h s
mode-root mode.AfterHead o xs head modes h s = fits-root mode.AfterHead xs head modes h s
mode-root mode.InBody o xs head modes h s = fits-root mode.InBody xs head modes h s
mode-root mode.InTable o xs head modes h s = fits-root mode.InTable xs head modes h s
mode-root mode.InCaption o xs head modes h s = fits-root mode.InCaption xs head modes h s
mode-root mode.InColumnGroup o xs head modes h s = fits-root mode.InColumnGroup xs head modes h s
mode-root mode.InTableBody o xs head modes h s = fits-root mode.InTableBody xs head modes h s
mode-root mode.InRow o xs head modes h s = fits-root mode.InRow xs head modes h s
mode-root mode.InCell o xs head modes h s = fits-root mode.InCell xs head modes h s
mode-root mode.InTemplate o xs head modes h s = fits-root mode.InTemplate xs head modes h s
mode-root mode.AfterBody o xs head modes h s = fits-root mode.AfterBody xs head modes h s
mode-root mode.InFrameset o xs head modes h s = fits-root mode.InFrameset xs head modes h s
mode-root mode.AfterFrameset o xs head modes h s = fits-root mode.AfterFrameset xs head modes h s
mode-root mode.AfterAfterBody o xs head modes h s = fits-root mode.AfterAfterBody xs head modes h s
mode-root mode.AfterAfterFrameset o xs head modes h s = fits-root mode.AfterAfterFrameset xs head modes h s

state-root : (s : State) → is_fit s ≡ true → is_nonempty s.open_elems ≡ true → has_root s.open_elems ≡ true
unfolding is_fit
state-root s h n = mode-root s.mode s.orig_mode s.open_elems s.head_elem s.template_modes
    (and_parts (fits_mode s.mode s.orig_mode s.open_elems s.head_elem s.template_modes)
    (has_template_modes s.template_modes s.open_elems s.context_elem) h).0 n

-- NAMES

-- an open element of the set `html` is HTML's `html`
html-named : (namespace : Namespace) (name : List ℕ) → is_among name (names_in namespace set.Html) ≡ true
    → element_name_of namespace name ≡ element_name_of Html (codes "html")
unfolding names_of mathml_names_of svg_names_of
html-named Html name h = ap (element_name_of Html) (only name (codes "html") h)
html-named MathMl name h = no h
html-named Svg name h = no h
html-named (Other uri) name h = no h

body-named : (namespace : Namespace) (name : List ℕ) → is_among name (names_in namespace set.Body) ≡ true
    → element_name_of namespace name ≡ element_name_of Html (codes "body")
unfolding names_of mathml_names_of svg_names_of
body-named Html name h = ap (element_name_of Html) (only name (codes "body") h)
body-named MathMl name h = no h
body-named Svg name h = no h
body-named (Other uri) name h = no h

-- if a node is an element, it has this name
abbrev IsNamed : QualName → NodeData → Type 0
IsNamed name (Element other attributes template integration_point) = other ≡ name
IsNamed name about = Unit {0}

some-name : (name : QualName) (about : NodeData) → element_name about ≡ Some name → IsNamed name about
some-name name (Element other attributes template integration_point) h = same h where
  same : {x y : QualName} → Some x ≡ Some y → x ≡ y
  same h = cc
some-name name Document h = tt
some-name name Contents h = tt
some-name name (Doctype d p q) h = tt
some-name name (Text text) h = tt
some-name name (Comment text) h = tt
some-name name (ProcessingInstruction target text) h = tt

alone : (f : Forest) (x : Open) (b : Bool) → is_in set.Html x ≡ b → IsOpened f x → choose b (λ _. true) (λ _. false) ≡ true
    → IsNamed (element_name_of Html (codes "html")) (data_of f x.number)
alone f x true e h k = some-name _ (data_of f x.number) (h.named ∙ ap Some (html-named x.namespace x.name e))
alone f x false e h k = no k

later : (b c : Bool) → choose b (λ _. false) (λ _. c) ≡ true → c ≡ true
later true c k = no k
later false c k = k

rooted : (f : Forest) (x : Open) (xs : List Open) → AreOpened f (x ∷ xs) → has_root (x ∷ xs) ≡ true
    → IsNamed (element_name_of Html (codes "html")) (data_of f (number_from x.number xs))
rooted f x [] h r = alone f x (is_in set.Html x) refl h.0 r
rooted f x (y ∷ ys) h r = rooted f y ys h.1 (later (is_in set.Html x) (has_root (y ∷ ys)) r)

-- the element that was opened first is an `html`; where none is open it is the document
root-named : (f : Forest) (xs : List Open) → data_of f 0 ≡ Document → AreOpened f xs → (is_nonempty xs ≡ true → has_root xs ≡ true)
    → IsNamed (element_name_of Html (codes "html")) (data_of f (root_number xs))
root-named f [] document h root = subst (IsNamed (element_name_of Html (codes "html"))) (sym document) tt
root-named f (x ∷ xs) document h root = rooted f x xs h (root refl)

append-opened : (f : Forest) (xs ys : List Open) → AreOpened f xs → AreOpened f ys → AreOpened f (xs ++ ys)
append-opened f [] ys h k = k
append-opened f (x ∷ xs) ys h k = (h.0, append-opened f xs ys h.1 k)

reverse-opened : (f : Forest) (xs : List Open) → AreOpened f xs → AreOpened f (reverse xs)
reverse-opened f [] h = tt
reverse-opened f (x ∷ xs) h = subst (AreOpened f) (sym (reverse_onto xs x []))
    (append-opened f (reverse xs) (x ∷ []) (reverse-opened f xs h.1) (h.0, tt))

second-named : (f : Forest) (xs : List Open) → AreOpened f xs
    → IfSome (if_body (second_of xs)) (λ n. IsNamed (element_name_of Html (codes "body")) (data_of f n))
second-named f [] h = tt
second-named f (x ∷ []) h = tt
second-named f (x ∷ y ∷ ys) h = by (is_in set.Body y) refl where
  by : (b : Bool) → is_in set.Body y ≡ b
      → IfSome (choose b (λ _. Some y.number) (λ _. None)) (λ n. IsNamed (element_name_of Html (codes "body")) (data_of f n))
  by true e = some-name _ (data_of f y.number) (h.1.0.named ∙ ap Some (body-named y.namespace y.name e))
  by false e = tt

body-opened : (f : Forest) (xs : List Open) → AreOpened f xs
    → IfSome (body_elem xs) (λ n. IsNamed (element_name_of Html (codes "body")) (data_of f n))
body-opened f xs h = second-named f (reverse xs) (reverse-opened f xs h)

-- WHAT HOLDS BETWEEN TURNS

module _ (a : Allowed) (may : (name : QualName) (tag : List ℕ) → name ≡ element_name_of Html tag → a.adds name tag) where
  adding-named : (tag : List ℕ) (about : NodeData) → IsNamed (element_name_of Html tag) about → IsAdding a tag about
  adding-named tag (Element other attributes template integration_point) h = may other tag h
  adding-named tag Document h = tt
  adding-named tag Contents h = tt
  adding-named tag (Doctype d p q) h = tt
  adding-named tag (Text text) h = tt
  adding-named tag (Comment text) h = tt
  adding-named tag (ProcessingInstruction target text) h = tt

  some-adding : (o : Option ℕ) (tag : List ℕ) (f : Forest) → IfSome o (λ n. IsNamed (element_name_of Html tag) (data_of f n))
      → IfSome o (λ n. IsAdding a tag (data_of f n))
  some-adding None tag f h = tt
  some-adding (Some n) tag f h = adding-named tag (data_of f n) h

  pub record Between (tag : Tag) (s : State) : Type 0 where
    pub may_come : MayCome (TagToken tag) s
    pub nested : IsNested s

  between-fits : (t : Token) (s : State) → MayCome t s → IsNested s → Fits a t s
  between-fits t s come nested = record {
    root = λ tag e n. adding-named tag.name (data_of s.forest (root_number s.open_elems))
        (subst (λ x. IsNamed (element_name_of Html x) (data_of s.forest (root_number s.open_elems))) (sym (only tag.name (codes "html") n))
        (root-named s.forest s.open_elems come.upright.standing.tree.forest.document_first come.upright.standing.opened
        (state-root s (nested-fits s come.held.head nested))));
    body = λ tag e n. some-adding (body_elem s.open_elems) tag.name s.forest
        (subst (λ x. IfSome (body_elem s.open_elems) (λ k. IsNamed (element_name_of Html x) (data_of s.forest k)))
        (sym (only tag.name (codes "body") n)) (body-opened s.forest s.open_elems come.upright.standing.opened));
    document = λ tag e n. subst (IsAdding a tag.name) (sym come.upright.standing.tree.forest.document_first) tt;
  }

  pub fitting-usable : Fitting a
  fitting-usable = record {
    Holds = Between;
    fits = λ tag s h. between-fits (TagToken tag) s h.may_come h.nested;
    again = λ tag s h e. record {
      may_come = (states-steady.turn (TagToken tag) s h.may_come).1.1 e;
      nested = nested-states.turn (TagToken tag) s h.may_come h.nested;
    };
  }

  -- a token that is not refused
  taken-going : (ended idle fit barred : Bool) → choose ended (λ _. Some AfterEnd) (λ _. choose idle (λ _. None)
      (λ _. choose fit (λ _. choose barred (λ _. Some InText) (λ _. None)) (λ _. Some Unfit))) ≡ None → idle ≡ false
      → (ended ≡ false) × (fit ≡ true)
  taken-going true idle fit barred h i = absurd (some-none h) where
    some-none : {x : Refusal} → Some x ≡ None → ⊥
    some-none h = cc
  taken-going false true fit barred h i = no (sym i)
  taken-going false false true barred h i = (refl, refl)
  taken-going false false false barred h i = absurd (some-none h) where
    some-none : {x : Refusal} → Some x ≡ None → ⊥
    some-none h = cc

  tag-holds : (tag : Tag) (s : State) → Usable s → refusal_of (TagToken tag) s ≡ None → is_idle (TagToken tag) ≡ false
      → Between tag (set_ignore_lf false (hushed s))
  tag-holds tag s usable r i =
      let t : Token = TagToken tag in
      let going = taken-going s.has_ended (is_idle t) (is_fit s) (is_barred s.mode t) r i in
      record {
        may_come = unlined t (hushed s) (hushed-come t s (begins s usable.steady going.0 going.1 t));
        nested = unlined-nested (hushed s) (hushed-nested s usable.steady.upright.standing (usable.nested going.0));
      }

  pub holds-usable : (roots : AreRootsAllowed a) (t : Token) (s : State) → Usable s → HoldsBefore a roots fitting-usable t s
  unfolding fitting-usable
  holds-usable roots (TagToken tag) s usable r i = tag-holds tag s usable r i
  holds-usable roots (DoctypeToken d) s usable r i = tt
  holds-usable roots (CommentToken text) s usable r i = tt
  holds-usable roots (CharacterTokens text) s usable r i = tt
  holds-usable roots NullCharacterToken s usable r i = tt
  holds-usable roots EOFToken s usable r i = tt
  holds-usable roots (ErrorToken message) s usable r i = tt
