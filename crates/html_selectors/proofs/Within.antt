-- Selectors select elements only, so a column may be looked for among some elements.
use Rattle.std.proofs.Common.{◌≡◌, ◌∙◌, ℕ, Bool, true, false, refl, ap}
use Rattle.std.specs.Prelude.{◌&&◌, ◌||◌, cond, not}
use Rattle.std.specs.List.{list_all, list_any}
use Rattle.markup.specs.Forest.{Forest, IsForest, is_among}
use Rattle.html_nodes.specs.Below.{below}
use Rattle.html_selector_matching.specs.Around.{is_element}
use Rattle.html_selector_matching.specs.Selects.{goes_on, has, is_any, is_complex, left_of, passes, right_of}
use Rattle.html_selector_matching.specs.Simples.{is_simple}
use Rattle.selectors.specs.declared.selector.Combinator.{Combinator}
use Rattle.selectors.specs.declared.selector.Combinator.TheVariants.{Child, Descendant}
use Rattle.selectors.specs.declared.selector.Complex.{Complex, Alone', Beside'}
use Rattle.selectors.specs.declared.selector.Relative.{Relative, To', Then'}
use Rattle.selectors.specs.declared.selector.Selectors as selectors
use Rattle.selectors.specs.declared.selector.Selectors.{Selectors, Or'}
use Rattle.html_selectors.specs.Relatives.{first_of}
use Rattle.html_selectors.proofs.Lists.{any-alike}
use Rattle.html_selectors.proofs.Steps.{over-above, over-parent}
use Rattle.html_selectors.proofs.Marks.{and-false}

absorb : (e a b : Bool) → (e && ((e && a) && b)) ≡ ((e && a) && b)
absorb true a b = refl
absorb false a b = refl

absorb-more : (e a b c : Bool) → (e && (((e && a) && b) && c)) ≡ (((e && a) && b) && c)
absorb-more true a b c = refl
absorb-more false a b c = refl

pub complex-element : (c : Complex) (f : Forest) (scope n : ℕ) → (is_element f n && is_complex c f scope n) ≡ is_complex c f scope n
complex-element (Alone' simples tests) f scope n =
    absorb (is_element f n) (list_all (is_simple f scope n) simples.items) (passes tests f scope n)
complex-element (Beside' p left combinator simples tests) f scope n =
    absorb-more (is_element f n) (list_all (is_simple f scope n) simples.items) (passes tests f scope n)
    (list_any (λ m. is_complex left f scope m) (left_of combinator f n))

pub complex-is-element : (c : Complex) (f : Forest) (scope n : ℕ) → is_complex c f scope n ≡ true → is_element f n ≡ true
complex-is-element c f scope n h = first (is_element f n) (is_complex c f scope n) (complex-element c f scope n) h
  where
    first : (e b : Bool) → (e && b) ≡ b → b ≡ true → e ≡ true
    first true b h k = refl
    first false b h k = absurd (cc)

-- what goes on is an element
pub goes-element : (r : Relative) (f : Forest) (scope n : ℕ) → goes_on r f scope n ≡ true → is_element f n ≡ true
goes-element (To' combinator simples tests) f scope n h =
    first (is_element f n) (list_all (is_simple f scope n) simples.items) (passes tests f scope n) h
  where
    first : (e a b : Bool) → ((e && a) && b) ≡ true → e ≡ true
    first true a b h = refl
    first false a b h = absurd (cc)
goes-element (Then' combinator simples tests p rest) f scope n h =
    first (is_element f n) (list_all (is_simple f scope n) simples.items) (passes tests f scope n) _ h
  where
    first : (e a b c : Bool) → (((e && a) && b) && c) ≡ true → e ≡ true
    first true a b c h = refl
    first false a b c h = absurd (cc)

either-absorbs : (e a b : Bool) → (e && a) ≡ a → (e && b) ≡ b → (e && (a || b)) ≡ (a || b)
either-absorbs true a b h k = refl
either-absorbs false a b h k = ap (λ x. x || false) h ∙ ap (λ y. a || y) k

pub any-element : (s : Selectors) (f : Forest) (scope n : ℕ) → (is_element f n && is_any s f scope n) ≡ is_any s f scope n
any-element selectors.Nothing f scope n = and-false (is_element f n)
any-element (Or' p one q others) f scope n =
    either-absorbs (is_element f n) (is_complex one f scope n) (is_any others f scope n)
    (complex-element one f scope n) (any-element others f scope n)

-- what selectors select is an element
pub selected-element : (s : Selectors) (f : Forest) (scope n : ℕ) → is_any s f scope n ≡ true → is_element f n ≡ true
selected-element s f scope n h = first (is_element f n) (is_any s f scope n) (any-element s f scope n) h
  where
    first : (e b : Bool) → (e && b) ≡ b → b ≡ true → e ≡ true
    first true b h k = refl
    first false b h k = absurd (cc)

-- `w`: within; `e`: an element; `a` and `b`: what a compound selector asks
pub within-plain : (w e a b : Bool) → (w ≡ true → e ≡ true) → ((w && a) && b) ≡ (w && ((e && a) && b))
within-plain true e a b h = ap (λ x. (x && a) && b) (sym-true (h refl))
  where
    sym-true : {e : Bool} → e ≡ true → true ≡ e
    sym-true h = cc
within-plain false e a b h = refl

pub elements-plain : (e a b : Bool) → (e && ((e && a) && b)) ≡ ((e && a) && b)
elements-plain e a b = absorb e a b

pub elements-more : (e h a b : Bool) → ((e && h) && ((e && a) && b)) ≡ (((e && a) && b) && h)
elements-more true true a b = and-true (a && b)
  where
    and-true : (x : Bool) → x ≡ (x && true)
    and-true true = refl
    and-true false = refl
elements-more true false a b = and-none (a && b)
  where
    and-none : (x : Bool) → false ≡ (x && false)
    and-none true = refl
    and-none false = refl
elements-more false h a b = refl

pub left-out : (o x y : Bool) → ((o && not (o && x)) && y) ≡ (o && (not x && y))
left-out true x y = refl
left-out false x y = refl

pub agree : (c x y : Bool) → (c ≡ true → x ≡ y) → (c && x) ≡ (c && y)
agree true x y h = h refl
agree false x y h = refl

-- what stands on the left was looked for only where it may stand
pub joined : (left : Complex) (combinator : Combinator) (f : Forest) (scope n : ℕ) (old : Bool) (those wanted : ℕ → Bool)
    → ((m : ℕ) → those m ≡ ((is_element f m && wanted m) && is_complex left f scope m))
    → (old ≡ true → (m : ℕ) → is_among m (left_of combinator f n) ≡ true → wanted m ≡ true)
    → (old && list_any those (left_of combinator f n)) ≡ (old && list_any (λ m. is_complex left f scope m) (left_of combinator f n))
joined left combinator f scope n old those wanted is all =
    agree old (list_any those (left_of combinator f n)) (list_any (λ m. is_complex left f scope m) (left_of combinator f n))
    (λ there. any-alike those (λ m. is_complex left f scope m) (left_of combinator f n)
    (λ m among. is m ∙ (two (is_element f m) (wanted m) (is_complex left f scope m) (all there m among) ∙ complex-element left f scope m)))
  where
    two : (e v x : Bool) → v ≡ true → ((e && v) && x) ≡ (e && x)
    two true v x h = ap (λ b. b && x) h
    two false v x h = refl

-- whatever stands over one of a column is over it
pub over-left : (deep : Bool) (f : Forest) → IsForest f → (t : ℕ → Bool) (n m : ℕ) → t n ≡ true
    → is_among m (left_of (cond deep Descendant Child) f n) ≡ true → list_any t (below f m) ≡ true
over-left true f is t n m h among = over-above f is t n m h among
over-left false f is t n m h among = over-parent f is t n m h among

-- what is asked from an element on
pub has-on : (r : Relative) (f : Forest) (scope n : ℕ)
    → list_any (λ m. goes_on r f scope m) (right_of (first_of r) f n) ≡ has r f scope n
has-on (To' combinator simples tests) f scope n = refl
has-on (Then' combinator simples tests p rest) f scope n = refl
