-- Elements that pay for turns: tables, their parts and templates.
use Rattle.std.proofs.Common.{◌≡◌, ◌∙◌, ℕ, suc, ◌<◌, ◌≤◌, Bool, true, false, List, [], ◌∷◌, refl, sym, codes, length, true≢false, arith}
use Rattle.std.specs.Prelude.{◌||◌, ◌&&◌}
use Rattle.std.specs.List.{list_any}
use Rattle.std.specs.Str.{bytes_eq}
use Rattle.std.proofs.lemmas.Bool.{and_parts}
use Rattle.std.proofs.lemmas.Slice.Eq.{bytes_eq-Decides}
use Rattle.html_tokens.specs.declared.token.Token.{Token}
use Rattle.html_tokens.specs.declared.token.Token.TheVariants.{TagToken}
use Rattle.html_rules.specs.Choice.{choose}
use Rattle.html_rules.specs.Conditions.{holds}
use Rattle.html_rules.specs.ForeignContent.{is_end_tag}
use Rattle.html_rules.specs.Names.{Namespace, Html, MathMl, Svg, Other}
use Rattle.html_rules.specs.Sets.{is_among, mathml_names_of, names_in, names_of, set_by, svg_names_of}
use Rattle.html_rules.specs.Stack.{in_scope, left_below, left_from, without_current_but_root}
use Rattle.html_rules.specs.State.{Open, State, current_is, is_in, is_named, named_in}
use Rattle.html_rules.specs.Table.{Class, EndTags, Condition, InScope, TemplateOpen, TokenInScope}
use Rattle.html_rules.specs.Tokens.{class_fits, name_of}
use Rattle.html_rules.specs.declared.rules.Rules.{Rules}
use Rattle.html_rules.specs.declared.rules.Rules.TheVariants.{Html5ever, Standard}
use Rattle.html_rules.specs.declared.tag_set.TagSet.{TagSet}
use Rattle.html_rules.specs.declared.tag_set.TagSet.TheVariants as set
use Rattle.html_rules_laws.proofs.SetFacts.{all_among, among-all, apart, in-apart, in-within, within}
use Rattle.html_rules_laws.proofs.TreePreserved.Standing.{IsPart, gone, kept, none, part-below, part-but_root, part-from}

abbrev pub paying_names : List (List ℕ)
paying_names = codes "table" ∷ codes "caption" ∷ codes "colgroup" ∷ codes "tbody" ∷ codes "tfoot" ∷ codes "thead" ∷
    codes "tr" ∷ codes "td" ∷ codes "th" ∷ codes "template" ∷ []

abbrev pub paying_names_in : Namespace → List (List ℕ)
paying_names_in Html = paying_names
paying_names_in _ = []

abbrev pub pays : Open → Bool
pays x = is_among x.name (paying_names_in x.namespace)

-- how many of these elements pay
abbrev pub payers : List Open → ℕ
payers [] = 0
payers (x ∷ xs) = choose (pays x) (λ _. suc (payers xs)) (λ _. payers xs)

pub payers-part : (xs ys : List Open) → IsPart ys xs → payers ys ≤ payers xs
payers-part xs ys none = omega arith
payers-part xs ys (kept x xs' ys' part) = by (pays x) (payers-part xs' ys' part) where
  by : (b : Bool) → payers ys' ≤ payers xs' → choose b (λ _. suc (payers ys')) (λ _. payers ys') ≤ choose b
      (λ _. suc (payers xs')) (λ _. payers xs')
  by true h = omega arith
  by false h = h
payers-part xs ys (gone x xs' ys' part) = by (pays x) (payers-part xs' ys' part) where
  by : (b : Bool) → payers ys' ≤ payers xs' → payers ys' ≤ choose b (λ _. suc (payers xs')) (λ _. payers xs')
  by true h = omega arith
  by false h = h

pub payers-length : (xs : List Open) → payers xs ≤ length xs
payers-length [] = omega arith
payers-length (x ∷ xs) = by (pays x) (payers-length xs) where
  by : (b : Bool) → payers xs ≤ length xs → choose b (λ _. suc (payers xs)) (λ _. payers xs) ≤ suc (length xs)
  by true h = omega arith
  by false h = omega arith

-- sets whose elements pay

abbrev pub is_empty : List (List ℕ) → Bool
is_empty [] = true
is_empty names = false

abbrev pub all_names_pay : TagSet → Bool
all_names_pay these = all_among (names_of these) paying_names && (is_empty (mathml_names_of these) && is_empty (svg_names_of these))

nothing-among : (name : List ℕ) (xs : List (List ℕ)) → is_empty xs ≡ true → is_among name xs ≡ true → ⊥
nothing-among name [] e h = true≢false (sym h)
nothing-among name (x ∷ xs) e h = true≢false (sym e)

-- whatever the rules
abbrev pub all_pay : TagSet → Bool
all_pay these = all_names_pay (set_by Html5ever these) && all_names_pay (set_by Standard these)

pay_by : (these : TagSet) → all_names_pay these ≡ true → (namespace : Namespace) (name : List ℕ)
    → is_among name (names_in namespace these) ≡ true → is_among name (paying_names_in namespace) ≡ true
pay_by these h namespace name = by namespace where
  html : (all_among (names_of these) paying_names ≡ true) × ((is_empty (mathml_names_of these) && is_empty (svg_names_of these)) ≡ true)
  html = and_parts (all_among (names_of these) paying_names) _ h

  others : (is_empty (mathml_names_of these) ≡ true) × (is_empty (svg_names_of these) ≡ true)
  others = and_parts (is_empty (mathml_names_of these)) _ html.1

  by : (namespace : Namespace) → is_among name (names_in namespace these) ≡ true → is_among name (paying_names_in namespace) ≡ true
  by Html k = among-all name (names_of these) paying_names html.0 k
  by MathMl k = absurd (nothing-among name (mathml_names_of these) others.0 k)
  by Svg k = absurd (nothing-among name (svg_names_of these) others.1 k)
  by (Other uri) k = k

pub pays-in : (these : TagSet) → all_pay these ≡ true → (x : Open) → is_in these x ≡ true → pays x ≡ true
pays-in these h x k = by x.rules k where
  parts : (all_names_pay (set_by Html5ever these) ≡ true) × (all_names_pay (set_by Standard these) ≡ true)
  parts = and_parts (all_names_pay (set_by Html5ever these)) _ h

  by : (rules : Rules) → is_among x.name (names_in x.namespace (set_by rules these)) ≡ true → pays x ≡ true
  by Html5ever k = pay_by (set_by Html5ever these) parts.0 x.namespace x.name k
  by Standard k = pay_by (set_by Standard these) parts.1 x.namespace x.name k

-- sets whose elements pay, or are the root
abbrev pub all_names_pay_or_root : TagSet → Bool
all_names_pay_or_root these = all_among (names_of these) (codes "html" ∷ paying_names)
    && (is_empty (mathml_names_of these) && is_empty (svg_names_of these))

-- whatever the rules
abbrev pub all_pay_or_root : TagSet → Bool
all_pay_or_root these = all_names_pay_or_root (set_by Html5ever these) && all_names_pay_or_root (set_by Standard these)

or_false : (a b : Bool) → (a || b) ≡ true → (a || false) ≡ false → b ≡ true
or_false true b h e = absurd (true≢false e)
or_false false b h e = h

root_by : (these : TagSet) → all_names_pay_or_root these ≡ true → (namespace : Namespace) (name : List ℕ)
    → is_among name (names_in namespace these) ≡ true → is_among name (names_in namespace set.Html) ≡ false
    → is_among name (paying_names_in namespace) ≡ true
unfolding names_of
root_by these h namespace name = by namespace where
  html : (all_among (names_of these) (codes "html" ∷ paying_names) ≡ true)
      × ((is_empty (mathml_names_of these) && is_empty (svg_names_of these)) ≡ true)
  html = and_parts (all_among (names_of these) (codes "html" ∷ paying_names)) _ h

  others : (is_empty (mathml_names_of these) ≡ true) × (is_empty (svg_names_of these) ≡ true)
  others = and_parts (is_empty (mathml_names_of these)) _ html.1

  by : (namespace : Namespace) → is_among name (names_in namespace these) ≡ true
      → is_among name (names_in namespace set.Html) ≡ false → is_among name (paying_names_in namespace) ≡ true
  by Html k e = or_false (bytes_eq name (codes "html")) (is_among name paying_names)
      (among-all name (names_of these) (codes "html" ∷ paying_names) html.0 k) e
  by MathMl k e = absurd (nothing-among name (mathml_names_of these) others.0 k)
  by Svg k e = absurd (nothing-among name (svg_names_of these) others.1 k)
  by (Other uri) k e = k

pub pays-but_root : (these : TagSet) → all_pay_or_root these ≡ true → (x : Open) → is_in these x ≡ true
    → is_in set.Html x ≡ false → pays x ≡ true
pays-but_root these h x k e = by x.rules k where
  parts : (all_names_pay_or_root (set_by Html5ever these) ≡ true) × (all_names_pay_or_root (set_by Standard these) ≡ true)
  parts = and_parts (all_names_pay_or_root (set_by Html5ever these)) _ h

  by : (rules : Rules) → is_among x.name (names_in x.namespace (set_by rules these)) ≡ true → pays x ≡ true
  by Html5ever k = root_by (set_by Html5ever these) parts.0 x.namespace x.name k e
  by Standard k = root_by (set_by Standard these) parts.1 x.namespace x.name k e

-- an element that pays is popped

paid : (b : Bool) (n : ℕ) → b ≡ true → n < choose b (λ _. suc n) (λ _. n)
paid true n h = omega arith
paid false n h = absurd (true≢false (sym h))

at-least : (b : Bool) (n : ℕ) → n ≤ choose b (λ _. suc n) (λ _. n)
at-least true n = omega arith
at-least false n = omega arith

pub below-less : (p : Open → Bool) → ((x : Open) → p x ≡ true → pays x ≡ true) → (xs : List Open) → 0 < payers xs
    → payers (left_below p xs) < payers xs
below-less p h [] some = absurd (omega arith)
below-less p h (x ∷ xs) some = by (p x) (pays x) refl refl some (below-less p h xs) where
  rest : payers (left_below p xs) ≤ payers xs
  rest = payers-part xs _ (part-below p xs)

  by : (a b : Bool) → p x ≡ a → pays x ≡ b → 0 < choose b (λ _. suc (payers xs)) (λ _. payers xs)
      → (0 < payers xs → payers (left_below p xs) < payers xs)
      → payers (choose a (λ _. xs) (λ _. left_below p xs)) < choose b (λ _. suc (payers xs)) (λ _. payers xs)
  by true true e f some go = omega arith
  by true false e f some go = absurd (true≢false (sym (h x e) ∙ f))
  by false true e f some go = let r = rest in omega arith
  by false false e f some go = go some

pub scope-some : (scope : TagSet) (p : Open → Bool) → ((x : Open) → p x ≡ true → pays x ≡ true) → (xs : List Open)
    → in_scope scope p xs ≡ true → 0 < payers xs
scope-some scope p h [] k = absurd (true≢false (sym k))
scope-some scope p h (x ∷ xs) k = by (p x) (is_in scope x) refl k (scope-some scope p h xs) where
  by : (a b : Bool) → p x ≡ a → choose a (λ _. true) (λ _. choose b (λ _. false) (λ _. in_scope scope p xs)) ≡ true
      → (in_scope scope p xs ≡ true → 0 < payers xs) → 0 < choose (pays x) (λ _. suc (payers xs)) (λ _. payers xs)
  by true b e k go = let more = paid (pays x) (payers xs) (h x e) in omega arith
  by false true e k go = absurd (true≢false (sym k))
  by false false e k go = let more = at-least (pays x) (payers xs) in let some = go k in omega arith

pub any-some : (p : Open → Bool) → ((x : Open) → p x ≡ true → pays x ≡ true) → (xs : List Open) → list_any p xs ≡ true → 0 < payers xs
any-some p h [] k = absurd (true≢false (sym k))
any-some p h (x ∷ xs) k = by (p x) refl k (any-some p h xs) where
  by : (a : Bool) → p x ≡ a → (a || list_any p xs) ≡ true → (list_any p xs ≡ true → 0 < payers xs)
      → 0 < choose (pays x) (λ _. suc (payers xs)) (λ _. payers xs)
  by true e k go = let more = paid (pays x) (payers xs) (h x e) in omega arith
  by false e k go = let more = at-least (pays x) (payers xs) in let some = go k in omega arith

-- the current node, which pays, is popped
pub current-less : (these : TagSet) → all_pay these ≡ true → apart these set.Html ≡ true → (xs : List Open)
    → current_is (is_in these) xs ≡ true → payers (without_current_but_root xs) < payers xs
current-less these h a [] k = absurd (true≢false (sym k))
current-less these h a (x ∷ xs) k = rw (in-apart these set.Html a x k) (paid (pays x) (payers xs) (pays-in these h x k))

-- elements are popped up to a context, and then one more
pub cleared-less : (scope context these : TagSet) → all_pay_or_root context ≡ true → all_pay these ≡ true
    → apart set.Html these ≡ true → within set.Html scope ≡ true
    → (xs : List Open) → in_scope scope (is_in these) xs ≡ true
    → payers (without_current_but_root (left_from (is_in context) xs)) < payers xs
cleared-less scope context these c h a w [] k = absurd (true≢false (sym k))
cleared-less scope context these c h a w (x ∷ xs) k = by (is_in context x) (is_in set.Html x) (is_in these x)
    (is_in scope x) refl refl refl refl k (cleared-less scope context these c h a w xs) where
      rest : payers (without_current_but_root (left_from (is_in context) xs)) ≤ payers xs
      rest = let one = payers-part xs _ (part-from (is_in context) xs) in let two =
          payers-part (left_from (is_in context) xs) _ (part-but_root (left_from (is_in context) xs)) in omega arith

      by : (i r p b : Bool) → is_in context x ≡ i → is_in set.Html x ≡ r → is_in these x ≡ p → is_in scope x ≡ b
          → choose p (λ _. true) (λ _. choose b (λ _. false) (λ _. in_scope scope (is_in these) xs)) ≡ true
          → (in_scope scope (is_in these) xs ≡ true → payers (without_current_but_root (left_from (is_in context) xs)) < payers xs)
          → payers (without_current_but_root (choose i (λ _. x ∷ xs) (λ _. left_from (is_in context) xs))) < payers (x ∷ xs)
      by true true true b ei er ep eb k go = absurd (true≢false (sym ep ∙ in-apart set.Html these a x er))
      by true true false true ei er ep eb k go = absurd (true≢false (sym k))
      by true true false false ei er ep eb k go = absurd (true≢false (sym (in-within set.Html scope w x er) ∙ eb))
      by true false p b ei er ep eb k go = rw er (paid (pays x) (payers xs) (pays-but_root context c x ei er))
      by false r true b ei er ep eb k go = let more = paid (pays x) (payers xs) (pays-in these h x ep) in let less = rest in omega arith
      by false r false true ei er ep eb k go = absurd (true≢false (sym k))
      by false r false false ei er ep eb k go = let less = go k in let more = at-least (pays x) (payers xs) in omega arith

-- conditions that tell of an element that pays

abbrev pub tells : Class → Condition → Bool
tells c (InScope scope set) = all_pay set
tells (EndTags set) (TokenInScope scope) = all_among (names_of set) paying_names
tells c TemplateOpen = true
tells c condition = false

named-pays : (names : List (List ℕ)) → all_among names paying_names ≡ true → (name : List ℕ)
    → is_among name names ≡ true → (x : Open) → is_named name x ≡ true → pays x ≡ true
named-pays names h name k x e = by x.namespace x.name e where
  by : (namespace : Namespace) (own : List ℕ) → named_in namespace own name ≡ true → is_among own (paying_names_in namespace) ≡ true
  by Html own e = rw ((bytes_eq-Decides own name).0 e) (among-all name names paying_names h k)
  by MathMl own e = absurd (true≢false (sym e))
  by Svg own e = absurd (true≢false (sym e))
  by (Other uri) own e = absurd (true≢false (sym e))

token-some : (c : Class) (scope : TagSet) → tells c (TokenInScope scope) ≡ true → (t : Token) (s : State)
    → class_fits c t ≡ true → in_scope scope (is_named (name_of t)) s.open_elems ≡ true → 0 < payers s.open_elems
token-some (EndTags set) scope h (TagToken tag) s k e = scope-some scope (is_named tag.name)
    (named-pays (names_of set) h tag.name (and_parts (is_end_tag tag.kind) (is_among tag.name (names_of set)) k).1) s.open_elems e
token-some (EndTags set) scope h t s k e = absurd (true≢false (sym k))
token-some c scope h t s k e = absurd (true≢false (sym h))

pub tells-some : (c : Class) (condition : Condition) → tells c condition ≡ true → (t : Token) (s : State)
    → class_fits c t ≡ true → holds condition t s ≡ true → 0 < payers s.open_elems
unfolding names_of mathml_names_of svg_names_of
tells-some c (InScope scope these) h t s k e = scope-some scope (is_in these) (pays-in these h) s.open_elems e
tells-some c (TokenInScope scope) h t s k e = token-some c scope h t s k e
tells-some c TemplateOpen h t s k e = any-some (is_in set.Template) (pays-in set.Template refl) s.open_elems e
tells-some c condition h t s k e = absurd (true≢false (sym h))
