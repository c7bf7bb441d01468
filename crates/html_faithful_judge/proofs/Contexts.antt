-- What open elements are asked together is what the definitions ask one by one.
use Rattle.std.proofs.Common.{◌≡◌, ◌∙◌, ◌++◌, ◌<◌, ◌-◌, ℕ, Bool, true, false, List, [], ◌∷◌, refl, sym, ap, ap₂, is_some, codes}
use Rattle.std.proofs.Common.{length, take, get_or, arith, length-append}
use Rattle.std.proofs.Math.Seq.{get_or-append_seam, take-append_seam}
use Rattle.std.proofs.lemmas.Bool.{and_parts}
use Rattle.std.proofs.lemmas.Grind.{reverse_onto}
use Rattle.std.proofs.Math.Seq.{take-length}
use Rattle.std.proofs.lemmas.List.{length-map, length-reverse, reverse-reverse}
use Rattle.std.proofs.lemmas.Option.{get_or_from_slice_get, slice_get-get_or, slice_get_within}
use Rattle.std.specs.List.{slice_get}
use Rattle.html_stack.specs.Stacks.{open_of, opens_of}
use Rattle.html_stack.specs.declared.entries.OpenElement.{OpenElement}
use Rattle.html_stack.proofs.WalksBack.{at}
use Rattle.std.specs.Prelude.{◌&&◌, ◌||◌, not, map, reverse, Option, None, Some}
use Rattle.std.specs.List.{list_all}
use Rattle.std.specs.Str.{bytes_eq}
use Rattle.html_tokens.specs.Tags.{named}
use Rattle.html_tokens.specs.declared.tags.TagKind.TheVariants.{StartTag}
use Rattle.html_rules.specs.Choice.{choose}
use Rattle.html_rules.specs.Names as names
use Rattle.html_rules.specs.Sets.{mathml_names_of, names_of, svg_names_of}
use Rattle.html_rules.specs.Formatting.{last_named}
use Rattle.html_rules.specs.Stack.{has_open, item_name, without_current}
use Rattle.html_rules.specs.State.{Element, Entry, Marker, Open, is_in}
use Rattle.html_rules.specs.declared.rules.Rules.{Rules}
use Rattle.html_rules.specs.declared.tag_set.TagSet.{TagSet}
use Rattle.html_rules.specs.declared.tag_set.TagSet.TheVariants as set
use Rattle.html_faithful.specs.Listing.{link_open}
use Rattle.html_faithful.specs.Spots.{entries_of, form_of, is_marked}
use Rattle.html_faithful_judge.specs.Contexts.{bars_items, closes_with, context_of, is_listed_a, is_usual, kept_of, with_element}
use Rattle.html_faithful_judge.specs.declared.context.Context.{Context}
use Rattle.html_faithful_judge.specs.declared.open.Kept.{Kept}

pub template-context : (xs : List Open) → (context_of xs).in_template ≡ has_open set.Template xs
template-context [] = refl
template-context (x ∷ xs) = ap (λ b. is_in set.Template x || b) (template-context xs)

pub form-context : (xs : List Open) → (context_of xs).form ≡ form_of xs
form-context [] = refl
form-context (x ∷ xs) = ap₂ (λ t o. choose (is_in set.Form x && not t) (λ _. Some x.number)
    (λ _. o)) (template-context xs) (form-context xs)

lists-by : (m f a old : Bool) (n : ℕ) (name : List ℕ) (es : List Entry) → old ≡ is_some (last_named (codes "a") es)
    → bytes_eq name (codes "a") ≡ a → choose m (λ _. false) (λ _. choose (f && a) (λ _. true) (λ _. old)) ≡ is_some (last_named (codes "a")
    (choose m (λ _. Marker ∷ es) (λ _. choose f (λ _. Element n (named StartTag name) ∷ es) (λ _. es))))
lists-by true f a old n name es h e = refl
lists-by false true true old n name es h e = rw e refl
lists-by false true false old n name es h e = rw e h
lists-by false false a old n name es h e = h

pub lists-context : (xs : List Open) → (context_of xs).lists_a ≡ is_some (last_named (codes "a") (entries_of xs))
lists-context [] = refl
lists-context (x ∷ xs) =
    lists-by (is_marked x) (is_in set.FormattingEnd x) (bytes_eq x.name (codes "a")) _ x.number x.name (entries_of xs)
    (lists-context xs) refl

pub link-context : (xs : List Open) → (context_of xs).link_open ≡ link_open xs
link-context [] = refl
link-context (x ∷ xs) = ap (λ b. choose (is_marked x) (λ _. false) (λ _. choose (is_in set.A x) (λ _. true) (λ _. b))) (link-context xs)

pub body-context : (xs : List Open) → (context_of xs).ends_with_body ≡ list_all (is_in set.BodyEnd) xs
body-context [] = refl
body-context (x ∷ xs) = ap (λ b. is_in set.BodyEnd x && b) (body-context xs)

some-item : (a b : Bool) (name : List ℕ) (o : Option (List ℕ))
    → choose a (λ _. true) (λ _. choose b (λ _. false) (λ _. is_some o))
    ≡ is_some (choose a (λ _. Some name) (λ _. choose b (λ _. None) (λ _. o)))
some-item true b name o = refl
some-item false true name o = refl
some-item false false name o = refl

item-with : (items : TagSet) (x : Open) (xs : List Open) (below : Bool) → below ≡ is_some (item_name items xs)
    → closes_with items x below ≡ is_some (item_name items (x ∷ xs))
item-with items x xs below e =
    ap (closes_with items x) e ∙ some-item (is_in items x) (bars_items x) x.name (item_name items xs)

pub li-context : (xs : List Open) → (context_of xs).closes_li ≡ is_some (item_name set.Li xs)
li-context [] = refl
li-context (x ∷ xs) = item-with set.Li x xs _ (li-context xs)

pub dd-context : (xs : List Open) → (context_of xs).closes_dd ≡ is_some (item_name set.DdDt xs)
dd-context [] = refl
dd-context (x ∷ xs) = item-with set.DdDt x xs _ (dd-context xs)

-- AN ELEMENT THAT CHANGES NOTHING

none-of : (f m a l d b : Bool) → (not (f || m || a) && not (l || d || b)) ≡ true
    → (f ≡ false) × (m ≡ false) × (a ≡ false) × (l ≡ false) × (d ≡ false) × (b ≡ false)
none-of false false false false false false h = (refl, refl, refl, refl, refl, refl)
none-of true m a l d b h = absurd cc
none-of false true a l d b h = absurd cc
none-of false false true l d b h = absurd cc
none-of false false false true d b h = absurd cc
none-of false false false false true b h = absurd cc
none-of false false false false false true h = absurd cc

last-of : (a b c d : Bool) → (a || b || c || d) ≡ false → d ≡ false
last-of false false false false h = refl
last-of true b c d h = absurd cc
last-of false true c d h = absurd cc
last-of false false true d h = absurd cc
last-of false false false true h = absurd cc

-- what is listed as an `a` is an `a`
unlisted : (rules : Rules) (space : names.Namespace) (name : List ℕ) (n : ℕ) → is_in set.A (record { number = n; namespace = space; name = name; rules = rules }) ≡ false
    → is_listed_a (record { number = n; namespace = space; name = name; rules = rules }) ≡ false
unfolding names_of mathml_names_of svg_names_of
unlisted rules space name n h = by space (bytes_eq name (codes "a")) refl h
  where
    and-false : (b : Bool) → (b && false) ≡ false
    and-false true = refl
    and-false false = refl

    by : (space : names.Namespace) (b : Bool) → bytes_eq name (codes "a") ≡ b
        → is_in set.A (record { number = n; namespace = space; name = name; rules = rules }) ≡ false
        → is_listed_a (record { number = n; namespace = space; name = name; rules = rules }) ≡ false
    by space false e h = rw e (and-false (is_in set.FormattingEnd (record { number = n; namespace = space; name = name; rules = rules })))
    by names.Html true e h =
        let is : is_in set.A (record { number = n; namespace = names.Html; name = name; rules = rules }) ≡ true = rw e refl in
        absurd cc
    by names.MathMl true e h = refl
    by names.Svg true e h = refl
    by (names.Other uri) true e h = refl

body-by : (b ends : Bool) → ends ≡ false → (b && ends) ≡ ends
body-by true ends h = refl
body-by false ends h = sym h

usual-same : (x : Open) (c : Context) → is_usual x ≡ true → c.ends_with_body ≡ false → with_element x c ≡ c
usual-same x c usual ends =
    let none = none-of (is_in set.Form x) (is_marked x) (is_in set.A x) (is_in set.Li x) (is_in set.DdDt x) (bars_items x) usual in
    let template = last-of (is_in set.AppletMarqueeObject x) (is_in set.TdTh x) (is_in set.Caption x) (is_in set.Template x) none.1 in
    rw (none.0, none.1, template, unlisted x.rules x.namespace x.name x.number none.2, none.2, none.3, none.4, none.5)
    (ap (λ ends. record c { ends_with_body = ends }) (body-by (is_in set.BodyEnd x) c.ends_with_body ends))

-- WHAT IS KEPT

abbrev skips : Open → List Open → Bool
skips x xs = not (context_of xs).ends_with_body && is_usual x

abbrev kept_at : Open → List Open → Kept
kept_at x xs = record { below = length xs; context = context_of (x ∷ xs) }

pub kept-same : (x : Open) (xs : List Open) → skips x xs ≡ true → (kept_of (x ∷ xs) ≡ kept_of xs) × (context_of (x ∷ xs) ≡ context_of xs)
kept-same x xs h =
    let parts = and_parts (not (context_of xs).ends_with_body) (is_usual x) h in
    (rw h refl, usual-same x (context_of xs) parts.1 (is-not (context_of xs).ends_with_body parts.0))
  where
    is-not : (b : Bool) → not b ≡ true → b ≡ false
    is-not false h = refl
    is-not true h = absurd cc

pub kept-more : (x : Open) (xs : List Open) → skips x xs ≡ false → kept_of (x ∷ xs) ≡ kept_of xs ++ kept_at x xs ∷ []
kept-more x xs h = rw h refl

last-append : {A : Type 0} (ys : List A) (z k : A) → slice_get (ys ++ z ∷ []) (length (ys ++ z ∷ []) - 1) ≡ Some k → k ≡ z
last-append ys z k h =
    let at : length (ys ++ z ∷ []) - 1 ≡ length ys = omega (arith, length-append ys (z ∷ [])) in
    sym (get_or_from_slice_get (ys ++ z ∷ []) (length (ys ++ z ∷ []) - 1) k k h)
    ∙ (ap (λ n. get_or (ys ++ z ∷ []) n k) at ∙ get_or-append_seam ys z [] k)

none-append : {A : Type 0} (ys : List A) (z : A) → slice_get (ys ++ z ∷ []) (length (ys ++ z ∷ []) - 1) ≡ None → ⊥
none-append ys z h =
    let there = slice_get-get_or (ys ++ z ∷ []) (length (ys ++ z ∷ []) - 1) z (omega (arith, length-append ys (z ∷ []))) in
    cc

-- the last is of all open elements, and of fewer than there are
pub record LastIs (k : Kept) (xs : List Open) : Type 0 where
  pub context : k.context ≡ context_of xs
  pub below : k.below < length xs

abbrev last_of : List Kept → Option Kept
last_of cs = slice_get cs (length cs - 1)

last-is : (xs : List Open) (k : Kept) → last_of (kept_of xs) ≡ Some k → LastIs k xs
last-is [] k h = absurd cc
last-is (x ∷ xs) k h = by (skips x xs) refl (last-is xs k)
  where
    by : (b : Bool) → skips x xs ≡ b → (last_of (kept_of xs) ≡ Some k → LastIs k xs) → LastIs k (x ∷ xs)
    by true e below =
        let same = kept-same x xs e in
        let rest = below (ap last_of (sym same.0) ∙ h) in
        record { context = rest.context ∙ sym same.1; below = omega (arith, rest.below) }
    by false e below =
        let is : k ≡ kept_at x xs = last-append (kept_of xs) (kept_at x xs) k (ap last_of (sym (kept-more x xs e)) ∙ h) in
        record { context = ap (λ (k : Kept). k.context) is; below = omega (arith, ap (λ (k : Kept). k.below) is) }

last-none : (xs : List Open) → last_of (kept_of xs) ≡ None → context_of [] ≡ context_of xs
last-none [] h = refl
last-none (x ∷ xs) h = by (skips x xs) refl (last-none xs)
  where
    by : (b : Bool) → skips x xs ≡ b → (last_of (kept_of xs) ≡ None → context_of [] ≡ context_of xs) → context_of [] ≡ context_of (x ∷ xs)
    by true e below =
        let same = kept-same x xs e in
        below (ap last_of (sym same.0) ∙ h) ∙ sym same.1
    by false e below = absurd (none-append (kept_of xs) (kept_at x xs) (ap last_of (sym (kept-more x xs e)) ∙ h))

-- read as an option
pub last-read : (xs : List Open) (cs : List Kept) (o : Option Kept) → cs ≡ kept_of xs → o ≡ last_of cs
    → (k : Kept) → o ≡ Some k → LastIs k xs
last-read xs cs o e h k there = last-is xs k (ap last_of (sym e) ∙ (sym h ∙ there))

pub none-read : (xs : List Open) (cs : List Kept) (o : Option Kept) → cs ≡ kept_of xs → o ≡ last_of cs
    → o ≡ None → context_of [] ≡ context_of xs
none-read xs cs o e h none = last-none xs (ap last_of (sym e) ∙ (sym h ∙ none))

-- what is kept of those below the current node
front-append : {A : Type 0} (ys : List A) (z : A) (n : ℕ) → n ≡ length (ys ++ z ∷ []) - 1 → take n (ys ++ z ∷ []) ≡ ys
front-append ys z n e =
    let at : n ≡ length ys = omega (arith, e, length-append ys (z ∷ [])) in
    ap (λ n. take n (ys ++ z ∷ [])) at ∙ take-append_seam ys (z ∷ [])

pub below-fewer : (xs : List Open) (cs : List Kept) (k : Kept) (n : ℕ) → cs ≡ kept_of xs → last_of cs ≡ Some k
    → k.below ≡ length (without_current xs) → n ≡ length cs - 1 → take n cs ≡ kept_of (without_current xs)
below-fewer [] cs k n e h at is =
    let none : last_of [] ≡ Some k = ap last_of (sym e) ∙ h in absurd cc
below-fewer (x ∷ xs) cs k n e h at is = by (skips x xs) refl
  where
    by : (b : Bool) → skips x xs ≡ b → take n cs ≡ kept_of xs
    by true s =
        let last = last-is xs k (ap last_of (sym (e ∙ (kept-same x xs s).0)) ∙ h) in
        absurd (omega (arith, last.below, at))
    by false s =
        let all : cs ≡ kept_of xs ++ kept_at x xs ∷ [] = e ∙ kept-more x xs s in
        ap (take n) all ∙ front-append (kept_of xs) (kept_at x xs) n (is ∙ ap (λ (cs : List Kept). length cs - 1) all)

pub below-same : (xs : List Open) (cs : List Kept) (k : Kept) (n : ℕ) → cs ≡ kept_of xs → last_of cs ≡ Some k
    → (k.below ≡ length (without_current xs) → ⊥) → n ≡ length cs → take n cs ≡ kept_of (without_current xs)
below-same [] cs k n e h other is =
    let none : last_of [] ≡ Some k = ap last_of (sym e) ∙ h in absurd cc
below-same (x ∷ xs) cs k n e h other is = by (skips x xs) refl
  where
    by : (b : Bool) → skips x xs ≡ b → take n cs ≡ kept_of xs
    by true s = ap (λ n. take n cs) is ∙ (take-length cs ∙ (e ∙ (kept-same x xs s).0))
    by false s =
        let last : k ≡ kept_at x xs = last-append (kept_of xs) (kept_at x xs) k (ap last_of (sym (e ∙ kept-more x xs s)) ∙ h) in
        absurd (other (ap (λ (k : Kept). k.below) last))

pub below-none : (xs : List Open) (cs : List Kept) → cs ≡ kept_of xs → last_of cs ≡ None → [] ≡ kept_of (without_current xs)
below-none [] cs e h = refl
below-none (x ∷ xs) cs e h = by (skips x xs) refl
  where
    empty : (ks : List Kept) → last_of ks ≡ None → [] ≡ ks
    empty [] h = refl
    empty (k ∷ ks) h =
        let there = slice_get-get_or (k ∷ ks) (length (k ∷ ks) - 1) k (omega arith) in absurd cc

    by : (b : Bool) → skips x xs ≡ b → [] ≡ kept_of xs
    by true s = empty (kept_of xs) (ap last_of (sym (e ∙ (kept-same x xs s).0)) ∙ h)
    by false s = absurd (none-append (kept_of xs) (kept_at x xs) (ap last_of (sym (e ∙ kept-more x xs s)) ∙ h))

-- and with one more element open
pub keep-same : (x : Open) (xs : List Open) (cs : List Kept) → cs ≡ kept_of xs → skips x xs ≡ true → cs ≡ kept_of (x ∷ xs)
keep-same x xs cs e h = e ∙ sym (kept-same x xs h).0

pub keep-more : (x : Open) (xs : List Open) (cs : List Kept) (n : ℕ) (c : Context) → cs ≡ kept_of xs → n ≡ length xs → c ≡ context_of xs
    → skips x xs ≡ false → cs ++ record { below = n; context = with_element x c } ∷ [] ≡ kept_of (x ∷ xs)
keep-more x xs cs n c e at is h =
    ap₂ (λ (cs : List Kept) (k : Kept). cs ++ k ∷ []) e
    (ap₂ (λ n (c : Context). record { below = n; context = with_element x c }) at is) ∙ sym (kept-more x xs h)

pub count-opens : {H : Type 0} (node : H → ℕ) (es : List (OpenElement H)) → length (opens_of node es) ≡ length es
count-opens node es = length-reverse (map (open_of node) es) ∙ length-map es (open_of node)

pub count-below : (xs : List Open) → length (without_current xs) ≡ length xs - 1
count-below [] = refl
count-below (x ∷ xs) = omega arith

-- the open elements once so many are left
pub opens-below : (xs : List Open) (k : ℕ) → k ≡ length xs - 1 → reverse (take k (reverse xs)) ≡ without_current xs
opens-below [] k e = rw e refl
opens-below (x ∷ xs) k e =
    let at : k ≡ length (reverse xs) = omega (arith, e, length-reverse xs) in
    ap reverse (ap₂ take at (reverse_onto xs x []) ∙ take-append_seam (reverse xs) (x ∷ [])) ∙ reverse-reverse xs

-- the current node, read so
pub top-read : {H : Type 0} (node : H → ℕ) (es : List (OpenElement H)) (e : OpenElement H) (o : Option (OpenElement H)) (x : Open)
    (xs : List Open)
    → o ≡ slice_get es (length es - 1) → o ≡ Some e → opens_of node es ≡ x ∷ xs → open_of node e ≡ x
top-read node es e o x xs h k all =
    let read : slice_get es (length es - 1) ≡ Some e = sym h ∙ k in
    let within = slice_get_within es (length es - 1) e read in
    let here : e ≡ get_or es (length es - 1) e = sym (get_or_from_slice_get es (length es - 1) e e read) in
    let whole : opens_of node es ≡ open_of node e ∷ reverse (map (open_of node) (take (length es - 1) es)) =
    ap (λ es. opens_of node es) (sym (take-length es))
    ∙ at (open_of node) es (length es) (length es - 1) e (omega (arith, within)) within here in
    cc
