-- The pointers are asked the same at a spot.
use Rattle.std.proofs.Common.{◌≡◌, ◌∙◌, ℕ, Bool, true, false, not, List, [], ◌∷◌, Option, Some, None, refl, sym, ap, ap₂, arith, true≢false}
use Rattle.std.proofs.lemmas.Bool.Decides.{nat_tests}
use Rattle.std.specs.Option.{unwrap_or}
use Rattle.std.specs.Prelude.{◌&&◌, ◌||◌, codes, is_some, map, nat_eq}
use Rattle.std.specs.Str.{bytes_eq}
use Rattle.html_tokens.specs.Tags.{named}
use Rattle.html_tokens.specs.declared.tags.TagKind.TheVariants.{StartTag}
use Rattle.html_rules.specs.Choice.{choose}
use Rattle.html_rules.specs.Conditions.{form_in_scope, form_is_current}
use Rattle.html_rules.specs.Formatting.{last_named}
use Rattle.html_rules.specs.Stack.{has_open, is_open}
use Rattle.html_rules.specs.State.{Element, Marker, Open, State, is_in}
use Rattle.html_rules.specs.declared.tag_set.TagSet.TheVariants as set
use Rattle.html_faithful.specs.Faces.{Face, Looks, Points, bare}
use Rattle.html_faithful.specs.Listing.{AreApart, ListsLinks, link_open}
use Rattle.html_faithful.specs.Spots.{Spot, entries_of, form_of, is_marked}
use Rattle.html_faithful.proofs.Faces.{any-blind, same}
use Rattle.html_faithful.proofs.Listing.{formatting-link, no-link}

alike : (n : ℕ) → nat_eq n n ≡ true
alike n = grind (arith, nat_tests)

or-second : (a b : Bool) → b ≡ true → (a || b) ≡ true
or-second true b h = refl
or-second false b h = h

-- a form that stands in no template
abbrev pub is_form_here : Open → List Open → Bool
is_form_here x xs = is_in set.Form x && not (has_open set.Template xs)

abbrev form_top : List Open → Bool
form_top [] = false
form_top (x ∷ xs) = is_form_here x xs

abbrev form_scope : List Open → Bool
form_scope [] = false
form_scope (x ∷ xs) = choose (is_form_here x xs) (λ _. true) (λ _. choose (is_in set.DefaultScope x) (λ _. false) (λ _. form_scope xs))

-- THE FORM

here-open : (b : Bool) (x : Open) (xs : List Open) (o : Option ℕ) (n : ℕ) → (o ≡ Some n → is_open n xs ≡ true)
    → choose b (λ _. Some x.number) (λ _. o) ≡ Some n → is_open n (x ∷ xs) ≡ true
here-open true x xs o n more h =
    let e : x.number ≡ n = ap (λ o. unwrap_or o 0) h in
    rw (sym e, alike x.number) refl
here-open false x xs o n more h = or-second (nat_eq x.number n) (is_open n xs) (more h)

form-open : (xs : List Open) (n : ℕ) → form_of xs ≡ Some n → is_open n xs ≡ true
form-open [] n h = absurd (true≢false (sym (ap is_some h)))
form-open (x ∷ xs) n h = here-open (is_form_here x xs) x xs (form_of xs) n (form-open xs n) h

not-it : (m n : ℕ) → nat_eq m n ≡ true → m ≡ n
not-it m n h = grind (arith, nat_tests)

clash : (b : Bool) (m n : ℕ) (xs : List Open) → nat_eq m n ≡ b → is_open m xs ≡ false → is_open n xs ≡ true → b ≡ false
clash true m n xs e h g = absurd (true≢false (sym g ∙ (ap (λ k. is_open k xs) (sym (not-it m n e)) ∙ h)))
clash false m n xs e h g = refl

-- the number of an element below is not this one's
other-number : (x : Open) (xs : List Open) → is_open x.number xs ≡ false → (n : ℕ) → form_of xs ≡ Some n → nat_eq x.number n ≡ false
other-number x xs apart n h = clash (nat_eq x.number n) x.number n xs refl apart (form-open xs n h)

current-by : (b : Bool) (x : Open) (xs : List Open) (o : Option ℕ) → ((n : ℕ) → o ≡ Some n → nat_eq x.number n ≡ false)
    → form_is_current (choose b (λ _. Some x.number) (λ _. o)) (x ∷ xs) ≡ b
current-by true x xs o h = alike x.number
current-by false x xs None h = refl
current-by false x xs (Some n) h = h n refl

current-form : (xs : List Open) → AreApart xs → form_is_current (form_of xs) xs ≡ form_top xs
current-form [] apart = refl
current-form (x ∷ xs) apart = current-by (is_form_here x xs) x xs (form_of xs) (other-number x xs apart.0)

no-scope : (d : Bool) → false ≡ choose d (λ _. false) (λ _. false)
no-scope true = refl
no-scope false = refl

scope-by : (b : Bool) (x : Open) (xs : List Open) (o : Option ℕ) (rest : Bool) → ((n : ℕ) → o ≡ Some n → nat_eq x.number n ≡ false)
    → form_in_scope o xs ≡ rest → form_in_scope (choose b (λ _. Some x.number) (λ _. o)) (x ∷ xs)
    ≡ choose b (λ _. true) (λ _. choose (is_in set.DefaultScope x) (λ _. false) (λ _. rest))
scope-by true x xs o rest h e = rw (alike x.number) refl
scope-by false x xs None rest h e =
    no-scope (is_in set.DefaultScope x) ∙ ap (λ r. choose (is_in set.DefaultScope x) (λ _. false) (λ _. r)) e
scope-by false x xs (Some n) rest h e = rw (h n refl) (ap (λ r. choose (is_in set.DefaultScope x) (λ _. false) (λ _. r)) e)

scope-form : (xs : List Open) → AreApart xs → form_in_scope (form_of xs) xs ≡ form_scope xs
scope-form [] apart = refl
scope-form (x ∷ xs) apart =
    scope-by (is_form_here x xs) x xs (form_of xs) (form_scope xs) (other-number x xs apart.0) (scope-form xs apart.1)

pub template-blind : (xs : List Open) → has_open set.Template (map bare xs) ≡ has_open set.Template xs
template-blind xs = any-blind (is_in set.Template) (λ x. refl) xs

pub top-blind : (xs : List Open) → form_top (map bare xs) ≡ form_top xs
top-blind [] = refl
top-blind (x ∷ xs) = ap (λ b. is_in set.Form x && not b) (template-blind xs)

form_scope-blind : (xs : List Open) → form_scope (map bare xs) ≡ form_scope xs
form_scope-blind [] = refl
form_scope-blind (x ∷ xs) =
    ap₂ (λ b r. choose (is_in set.Form x && not b) (λ _. true) (λ _. choose (is_in set.DefaultScope x) (λ _. false) (λ _. r)))
    (template-blind xs) (form_scope-blind xs)

some-by : (b : Bool) (m n : ℕ) (o q : Option ℕ) → is_some o ≡ is_some q
    → is_some (choose b (λ _. Some m) (λ _. o)) ≡ is_some (choose b (λ _. Some n) (λ _. q))
some-by true m n o q h = refl
some-by false m n o q h = h

pub form-blind : (xs : List Open) → is_some (form_of (map bare xs)) ≡ is_some (form_of xs)
form-blind [] = refl
form-blind (x ∷ xs) =
    ap (λ b. is_some (choose (is_in set.Form x && not b) (λ _. Some 0) (λ _. form_of (map bare xs)))) (template-blind xs)
    ∙ some-by (is_form_here x xs) 0 x.number (form_of (map bare xs)) (form_of xs) (form-blind xs)

-- LINKS

pub link-blind : (xs : List Open) → link_open (map bare xs) ≡ link_open xs
link-blind [] = refl
link-blind (x ∷ xs) = ap (λ r. choose (is_marked x) (λ _. false) (λ _. choose (is_in set.A x) (λ _. true) (λ _. r))) (link-blind xs)

by-name : (b : Bool) (x : Open) (xs : List Open) → is_some (last_named (codes "a") (entries_of xs)) ≡ link_open xs
    → is_some (choose b (λ _. Some (record { number = x.number; tag = named StartTag x.name }))
    (λ _. last_named (codes "a") (entries_of xs)))
    ≡ choose b (λ _. true) (λ _. link_open xs)
by-name true x xs h = refl
by-name false x xs h = h

listed-link : (m f : Bool) (x : Open) (xs : List Open) → (f ≡ true → is_in set.A x ≡ bytes_eq x.name (codes "a")) → (f ≡ false
    → is_in set.A x ≡ false)
    → is_some (last_named (codes "a") (entries_of xs)) ≡ link_open xs
    → is_some (last_named (codes "a") (choose m (λ _. Marker ∷ entries_of xs)
    (λ _. choose f (λ _. Element x.number (named StartTag x.name) ∷ entries_of xs) (λ _. entries_of xs))))
    ≡ choose m (λ _. false) (λ _. choose (is_in set.A x) (λ _. true) (λ _. link_open xs))
listed-link true f x xs a b h = refl
listed-link false true x xs a b h = rw (a refl) (by-name (bytes_eq x.name (codes "a")) x xs h)
listed-link false false x xs a b h = rw (b refl) h

entries-link : (xs : List Open) → is_some (last_named (codes "a") (entries_of xs)) ≡ link_open xs
entries-link [] = refl
entries-link (x ∷ xs) =
    listed-link (is_marked x) (is_in set.FormattingEnd x) x xs (formatting-link x.namespace x.name) (no-link x.namespace x.name)
    (entries-link xs)

-- BOTH

pub points-given : (s : State) (p : Spot) → Looks s p → s.form_elem ≡ form_of s.open_elems → AreApart s.open_elems → AreApart p.path
    → ListsLinks s.open_elems s.active_formatting → Points s p
points-given s p looks form apart apart₂ links =
    let same_names = ap (λ (f : Face). f.names) looks in (
      ap is_some form ∙ same (λ xs. is_some (form_of xs)) form-blind s.open_elems p.path same_names,
      ap (λ o. form_in_scope o s.open_elems) form ∙ (scope-form s.open_elems apart
          ∙ (same form_scope form_scope-blind s.open_elems p.path same_names ∙ sym (scope-form p.path apart₂))),
      ap (λ o. form_is_current o s.open_elems) form ∙ (current-form s.open_elems apart
          ∙ (same form_top top-blind s.open_elems p.path same_names ∙ sym (current-form p.path apart₂))),
      links ∙ (same link_open link-blind s.open_elems p.path same_names ∙ sym (entries-link p.path)),
    )
