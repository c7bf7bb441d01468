-- Changes of the stack under which its parts nest as before.
use Rattle.std.proofs.Common.{◌≡◌, ◌∙◌, ℕ, suc, Bool, true, false, List, [], ◌∷◌, Option, Some, None, refl, sym, ap, true≢false}
use Rattle.std.proofs.Common.{inl, inr, ◌⊎◌}
use Rattle.std.specs.Prelude.{◌||◌, ◌&&◌, nat_eq}
use Rattle.std.proofs.lemmas.Bool.{and_parts, eq-eqb}
use Rattle.html_rules.specs.Adoption.{furthest_block, is_number, opened_after, or_first}
use Rattle.html_rules.specs.Choice.{choose}
use Rattle.html_rules.specs.Sets.{mathml_names_of, names_of, svg_names_of}
use Rattle.html_rules.specs.Stack.{finds_generic, in_scope, left_below, left_from, open_templates, without_number}
use Rattle.html_rules.specs.State.{Open, is_in}
use Rattle.html_rules.specs.declared.tag_set.TagSet.{TagSet}
use Rattle.html_rules.specs.declared.tag_set.TagSet.TheVariants as set
use Rattle.html_rules_laws.specs.Nesting.{Part, Root, HeadPart, BodyPart, Frames, Contents, TablePart, Section, RowPart, Cell}
use Rattle.html_rules_laws.specs.Nesting.{CaptionPart, Columns, Loose, Nothing, Ground, base, is_loose, may_stand, nested}
use Rattle.html_rules_laws.specs.Nesting.{part_of, set_of, takes, top}
use Rattle.html_rules_laws.proofs.TreePreserved.AdoptionPlace.{none-some, special-is}
use Rattle.html_rules_laws.proofs.SetFacts.{within}
use Rattle.html_rules_laws.proofs.ModesPreserved.Parts.{part-within, set-part}
use Rattle.html_rules_laws.proofs.Bools.{both, no}

-- a loose element
abbrev pub IsLoose : Open → Type 0
IsLoose x = part_of x ≡ Loose

abbrev pub AreLoose : List Open → Type 0
AreLoose [] = Unit {0}
AreLoose (x ∷ xs) = IsLoose x × AreLoose xs

loose-is : (p : Part) → is_loose p ≡ true → p ≡ Loose
loose-is Loose h = refl
loose-is p h = no h

-- loose elements leave
pub data Frees : List Open → List Open → Type 0 where
  nil : Frees [] []
  keep : (x : Open) (xs ys : List Open) → Frees xs ys → Frees (x ∷ xs) (x ∷ ys)
  drop : (x : Open) (xs ys : List Open) → IsLoose x → Frees xs ys → Frees (x ∷ xs) ys

pub frees-same : (xs : List Open) → Frees xs xs
frees-same [] = nil
frees-same (x ∷ xs) = keep x xs xs (frees-same xs)

-- what a loose element stands on takes others
over-takes : (g : Ground) (p q : Part) → may_stand g p Loose ≡ true → takes g q ≡ true → may_stand g p q ≡ true
over-takes g Contents Root h k = refl
over-takes g Contents HeadPart h k = refl
over-takes g Contents BodyPart h k = refl
over-takes g Contents Frames h k = no k
over-takes g Contents Contents h k = refl
over-takes g Contents TablePart h k = refl
over-takes g Contents Section h k = refl
over-takes g Contents RowPart h k = refl
over-takes g Contents Cell h k = refl
over-takes g Contents CaptionPart h k = refl
over-takes g Contents Columns h k = refl
over-takes g Contents Loose h k = refl
over-takes g Contents Nothing h k = no k
over-takes g TablePart q h k = k
over-takes g Loose q h k = k
over-takes g Root q h k = no h
over-takes g HeadPart q h k = no h
over-takes g BodyPart q h k = no h
over-takes g Frames q h k = no h
over-takes g Section q h k = no h
over-takes g RowPart q h k = no h
over-takes g Cell q h k = no h
over-takes g CaptionPart q h k = no h
over-takes g Columns q h k = no h
over-takes g Nothing q h k = no h

pub loose-takes : (g : Ground) (p q : Part) → p ≡ Loose → may_stand g p q ≡ true → takes g q ≡ true
loose-takes g Loose q e h = h
loose-takes g Root q e h = absurd (cc)
loose-takes g HeadPart q e h = absurd (cc)
loose-takes g BodyPart q e h = absurd (cc)
loose-takes g Frames q e h = absurd (cc)
loose-takes g Contents q e h = absurd (cc)
loose-takes g TablePart q e h = absurd (cc)
loose-takes g Section q e h = absurd (cc)
loose-takes g RowPart q e h = absurd (cc)
loose-takes g Cell q e h = absurd (cc)
loose-takes g CaptionPart q e h = absurd (cc)
loose-takes g Columns q e h = absurd (cc)
loose-takes g Nothing q e h = absurd (cc)

-- what is on top then
freed-top : (g : Ground) (xs ys : List Open) → Frees xs ys → nested g xs ≡ true → (top ys ≡ top xs)
    ⊎ ((top xs ≡ Loose) × (takes g (top ys) ≡ true))
freed-top g xs ys nil h = inl refl
freed-top g xs ys (keep x xs' ys' f) h = inl refl
freed-top g xs ys (drop x xs' ys' l f) h =
    let parts = and_parts (may_stand g (part_of x) (top xs')) _ h in
    elim (freed-top g xs' ys' f parts.1) [
      | inl same ↦ inr (l, rw same (loose-takes g (part_of x) (top xs') l parts.0))
      | inr under ↦ inr (l, under.1)
    ]

pub freed-nested : (g : Ground) (xs ys : List Open) → Frees xs ys → nested g xs ≡ true → nested g ys ≡ true
freed-nested g xs ys nil h = h
freed-nested g xs ys (keep x xs' ys' f) h =
    let parts = and_parts (may_stand g (part_of x) (top xs')) _ h in
    both _ _ (elim (freed-top g xs' ys' f parts.1) [
      | inl same ↦ rw same parts.0
      | inr under ↦ over-takes g (part_of x) (top ys') (rw under.0 at parts.0)
          under.1
    ]) (freed-nested g xs' ys' f parts.1)
freed-nested g xs ys (drop x xs' ys' l f) h = freed-nested g xs' ys' f (and_parts (may_stand g (part_of x) (top xs')) _ h).1

pub freed-base : (xs ys : List Open) → Frees xs ys → base ys ≡ base xs
freed-base xs ys nil = refl
freed-base xs ys (keep x xs' ys' f) = ap (λ p. choose (is_loose (part_of x)) (λ _. p) (λ _. part_of x)) (freed-base xs' ys' f)
freed-base xs ys (drop x xs' ys' l f) = rw l (freed-base xs' ys' f)

pub loose-template : (x : Open) → IsLoose x → is_in set.Template x ≡ false
unfolding names_of mathml_names_of svg_names_of
loose-template x l = by (is_in set.Template x) refl where
  by : (b : Bool) → is_in set.Template x ≡ b → is_in set.Template x ≡ false
  by true e = absurd (let other = set-part set.Template Contents refl x e in cc)
  by false e = e

pub freed-templates : (xs ys : List Open) → Frees xs ys → open_templates ys ≡ open_templates xs
freed-templates xs ys nil = refl
freed-templates xs ys (keep x xs' ys' f) = ap (λ n. choose (is_in set.Template x) (λ _. suc n) (λ _. n)) (freed-templates xs' ys' f)
freed-templates xs ys (drop x xs' ys' l f) = rw (loose-template x l) (freed-templates xs' ys' f)

-- where a loose element may come

pub takes-top : (g : Ground) (xs : List Open) → takes g (base xs) ≡ true → takes g (top xs) ≡ true
takes-top g [] h = h
takes-top g (x ∷ xs) h = by (is_loose (part_of x)) refl h where
  by : (b : Bool) → is_loose (part_of x) ≡ b → takes g (choose b (λ _. base xs) (λ _. part_of x)) ≡ true → takes g (part_of x) ≡ true
  by true e h = rw (loose-is (part_of x) e) refl
  by false e h = h

pub pushed-nested : (g : Ground) (x : Open) (xs : List Open) → IsLoose x → takes g (base xs) ≡ true
    → nested g xs ≡ true → nested g (x ∷ xs) ≡ true
pushed-nested g x xs l t h = both _ _ (rw l (takes-top g xs t)) h

pub pushed-base : (x : Open) (xs : List Open) → IsLoose x → base (x ∷ xs) ≡ base xs
pushed-base x xs l = rw l refl

pub pushed-templates : (x : Open) (xs : List Open) → IsLoose x → open_templates (x ∷ xs) ≡ open_templates xs
pushed-templates x xs l = rw (loose-template x l) refl

-- an element that passes comes first among loose ones
abbrev pub reach : (Open → Bool) → List Open → Bool
reach p [] = false
reach p (x ∷ xs) = is_loose (part_of x) && (p x || reach p xs)

pub reach-frees : (p : Open → Bool) (xs : List Open) → reach p xs ≡ true → Frees xs (left_below p xs)
reach-frees p [] h = no h
reach-frees p (x ∷ xs) h =
    let parts = and_parts (is_loose (part_of x)) _ h in
    let l = loose-is (part_of x) parts.0 in
    by l (p x) parts.1 (reach-frees p xs)
  where
    by : IsLoose x → (b : Bool) → (b || reach p xs) ≡ true → (reach p xs ≡ true → Frees xs (left_below p xs))
        → Frees (x ∷ xs) (choose b (λ _. xs) (λ _. left_below p xs))
    by l true h rest = drop x xs xs l (frees-same xs)
    by l false h rest = drop x xs (left_below p xs) l (rest h)

-- elements leave up to one that stays, as long as they are loose
pub from-frees : (stop : Open → Bool) → ((x : Open) → stop x ≡ false → IsLoose x) → (xs : List Open) → Frees xs (left_from stop xs)
from-frees stop h [] = nil
from-frees stop h (x ∷ xs) = by (stop x) refl (from-frees stop h xs) where
  by : (b : Bool) → stop x ≡ b → Frees xs (left_from stop xs) → Frees (x ∷ xs) (choose b (λ _. x ∷ xs) (λ _. left_from stop xs))
  by true e rest = keep x xs xs (frees-same xs)
  by false e rest = drop x xs (left_from stop xs) (h x e) rest

-- and one that passes is still reached
pub from-reach : (p stop : Open → Bool) → ((x : Open) → p x ≡ true → stop x ≡ true) → (xs : List Open)
    → reach p xs ≡ true → reach p (left_from stop xs) ≡ true
from-reach p stop h [] r = r
from-reach p stop h (x ∷ xs) r = by (stop x) (p x) refl refl r (from-reach p stop h xs) where
  by : (a b : Bool) → stop x ≡ a → p x ≡ b → (is_loose (part_of x) && (b || reach p xs)) ≡ true
      → (reach p xs ≡ true → reach p (left_from stop xs) ≡ true) → reach p (choose a (λ _. x ∷ xs) (λ _. left_from stop xs)) ≡ true
  by true b ea eb r rest = rw eb r
  by false true ea eb r rest = absurd (true≢false (sym (h x eb) ∙ ea))
  by false false ea eb r rest = rest (and_parts (is_loose (part_of x)) _ r).1

pub reach-more : (p q : Open → Bool) → ((x : Open) → p x ≡ true → q x ≡ true) → (xs : List Open) → reach p xs ≡ true → reach q xs ≡ true
reach-more p q h [] r = r
reach-more p q h (x ∷ xs) r =
    let parts = and_parts (is_loose (part_of x)) _ r in
    both _ _ parts.0 (by (p x) (q x) refl refl parts.1 (reach-more p q h xs))
  where
    by : (a b : Bool) → p x ≡ a → q x ≡ b → (a || reach p xs) ≡ true → (reach p xs ≡ true → reach q xs ≡ true) → (b || reach q xs) ≡ true
    by a true ea eb r rest = refl
    by true false ea eb r rest = absurd (true≢false (sym (h x ea) ∙ eb))
    by false false ea eb r rest = rest r

-- in scope

abbrev pub is_bounded : TagSet → Bool
is_bounded scope = within set.Html scope && (within set.Template scope && within set.Table scope)

abbrev pub AllOpen : (Open → Type 0) → List Open → Type 0
AllOpen P [] = Unit {0}
AllOpen P (x ∷ xs) = P x × AllOpen P xs

pub all-open : (P : Open → Type 0) → ((x : Open) → P x) → (xs : List Open) → AllOpen P xs
all-open P h [] = tt
all-open P h (x ∷ xs) = (h x, all-open P h xs)

-- parts that bound a scope, and the others, which stand on parts alone
abbrev pub bounds : Part → Bool
bounds Root = true
bounds Contents = true
bounds TablePart = true
bounds p = false

solid : (g : Ground) (p q : Part) → is_loose p ≡ false → bounds p ≡ false → may_stand g p q ≡ true → is_loose q ≡ false
solid g p Loose l b h = by g p l b h where
  by : (g : Ground) (p : Part) → is_loose p ≡ false → bounds p ≡ false → may_stand g p Loose ≡ true → is_loose Loose ≡ false
  by g Root l b h = absurd (true≢false b)
  by g Contents l b h = absurd (true≢false b)
  by g TablePart l b h = absurd (true≢false b)
  by g Loose l b h = l
  by g HeadPart l b h = no h
  by g BodyPart l b h = no h
  by g Frames l b h = no h
  by g Section l b h = no h
  by g RowPart l b h = no h
  by g Cell l b h = no h
  by g CaptionPart l b h = no h
  by g Columns l b h = no h
  by g Nothing l b h = no h
solid g p q l b h = refl

pub bounding : (scope : TagSet) → is_bounded scope ≡ true → (x : Open) → bounds (part_of x) ≡ true → is_in scope x ≡ true
bounding scope h x b = by (part_of x) refl b where
  sets : (within set.Html scope ≡ true) × ((within set.Template scope ≡ true) × (within set.Table scope ≡ true))
  sets = let one = and_parts (within set.Html scope) _ h in (one.0, and_parts (within set.Template scope) _ one.1)

  by : (p : Part) → part_of x ≡ p → bounds p ≡ true → is_in scope x ≡ true
  by Root e b = part-within x Root scope refl sets.0 e
  by Contents e b = part-within x Contents scope refl sets.1.0 e
  by TablePart e b = part-within x TablePart scope refl sets.1.1 e
  by p e b = no b

-- nothing loose is in scope after a part
pub blocked : (g : Ground) (scope : TagSet) → is_bounded scope ≡ true → (p : Open → Bool) (xs : List Open)
    → nested g xs ≡ true → AllOpen (λ x. p x ≡ true → IsLoose x) xs → is_loose (top xs) ≡ false → in_scope scope p xs ≡ false
blocked g scope s p [] h all l = refl
blocked g scope s p (x ∷ xs) h all l =
    let parts = and_parts (may_stand g (part_of x) (top xs)) _ h in
    by (p x) (is_in scope x) (bounds (part_of x)) refl refl refl
    (λ b. blocked g scope s p xs parts.1 all.1 (solid g (part_of x) (top xs) l b parts.0))
  where
    by : (a b c : Bool) → p x ≡ a → is_in scope x ≡ b → bounds (part_of x) ≡ c
        → (bounds (part_of x) ≡ false → in_scope scope p xs ≡ false) → choose a (λ _. true)
        (λ _. choose b (λ _. false) (λ _. in_scope scope p xs)) ≡ false
    by true b c ea eb ec rest = absurd (true≢false (sym (ap is_loose (all.0 ea)) ∙ l))
    by false true c ea eb ec rest = refl
    by false false true ea eb ec rest = absurd (true≢false (sym (bounding scope s x ec) ∙ eb))
    by false false false ea eb ec rest = rest ec

pub scope-reach : (g : Ground) (scope : TagSet) → is_bounded scope ≡ true → (p : Open → Bool) (xs : List Open)
    → nested g xs ≡ true → AllOpen (λ x. p x ≡ true → IsLoose x) xs → in_scope scope p xs ≡ true → reach p xs ≡ true
scope-reach g scope s p [] h all i = i
scope-reach g scope s p (x ∷ xs) h all i =
    by (is_loose (part_of x)) (p x) (is_in scope x) refl refl i
    (scope-reach g scope s p xs (and_parts (may_stand g (part_of x) (top xs)) _ h).1 all.1)
  where
    by : (b c d : Bool) → is_loose (part_of x) ≡ b → p x ≡ c → choose c (λ _. true)
        (λ _. choose d (λ _. false) (λ _. in_scope scope p xs)) ≡ true
        → (in_scope scope p xs ≡ true → reach p xs ≡ true) → (b && (c || reach p xs)) ≡ true
    by false c d eb ec i' rest = absurd (true≢false (sym i ∙ blocked g scope s p (x ∷ xs) h all eb))
    by true true d eb ec i' rest = refl
    by true false true eb ec i' rest = no i'
    by true false false eb ec i' rest = rest i'

-- before a special element

pub special-loose : (x : Open) → is_in set.SpecialTag x ≡ false → is_loose (part_of x) ≡ true
unfolding names_of mathml_names_of svg_names_of
special-loose x h = by (part_of x) refl where
  special : (p : Part) → is_loose p ≡ false → within (set_of p) set.SpecialTag ≡ true → part_of x ≡ p → is_loose p ≡ true
  special p l w e = absurd (true≢false (sym (part-within x p set.SpecialTag l w e) ∙ h))

  by : (p : Part) → part_of x ≡ p → is_loose p ≡ true
  by Loose e = refl
  by Root e = special Root refl refl e
  by HeadPart e = special HeadPart refl refl e
  by BodyPart e = special BodyPart refl refl e
  by Frames e = special Frames refl refl e
  by Contents e = special Contents refl refl e
  by TablePart e = special TablePart refl refl e
  by Section e = special Section refl refl e
  by RowPart e = special RowPart refl refl e
  by Cell e = special Cell refl refl e
  by CaptionPart e = special CaptionPart refl refl e
  by Columns e = special Columns refl refl e
  by Nothing e = special Nothing refl refl e

-- where no part that was opened last passes
pub generic-reach : (p : Open → Bool) (xs : List Open) → ((x : Open) → p x ≡ true → is_loose (part_of x) ≡ false
    → part_of x ≡ base xs → ⊥) → finds_generic p xs ≡ true → reach p xs ≡ true
generic-reach p [] h f = f
generic-reach p (x ∷ xs) h f =
    by (is_loose (part_of x)) (p x) (is_in set.SpecialTag x) refl refl refl h f (generic-reach p xs)
  where
    by : (b c d : Bool) → is_loose (part_of x) ≡ b → p x ≡ c → is_in set.SpecialTag x ≡ d
        → ((y : Open) → p y ≡ true → is_loose (part_of y) ≡ false → part_of y ≡ choose b (λ _. base xs) (λ _. part_of x) → ⊥)
        → choose c (λ _. true) (λ _. choose d (λ _. false) (λ _. finds_generic p xs)) ≡ true
        → (((y : Open) → p y ≡ true → is_loose (part_of y) ≡ false → part_of y ≡ base xs → ⊥)
        → finds_generic p xs ≡ true → reach p xs ≡ true) → (b && (c || reach p xs)) ≡ true
    by true true d eb ec ed h f rest = refl
    by true false true eb ec ed h f rest = no f
    by true false false eb ec ed h f rest = rest h f
    by false true d eb ec ed h f rest = absurd (h x ec eb refl)
    by false false true eb ec ed h f rest = no f
    by false false false eb ec ed h f rest = absurd (true≢false (sym (special-loose x ed) ∙ eb))

-- adoption

pub after-loose : (n : ℕ) (xs : List Open) → reach (is_number n) xs ≡ true → AreLoose (opened_after n xs)
after-loose n [] h = tt
after-loose n (x ∷ xs) h =
    let parts = and_parts (is_loose (part_of x)) _ h in
    by (loose-is (part_of x) parts.0) (nat_eq x.number n) parts.1 (after-loose n xs)
  where
    by : IsLoose x → (b : Bool) → (b || reach (is_number n) xs) ≡ true
        → (reach (is_number n) xs ≡ true → AreLoose (opened_after n xs)) → AreLoose (choose b (λ _. []) (λ _. x ∷ opened_after n xs))
    by l true h rest = tt
    by l false h rest = (l, rest h)

-- the block, and the elements that were opened after it
pub block-loose : (n : ℕ) (block : Open) (xs : List Open) → AreLoose (opened_after n xs)
    → furthest_block (opened_after n xs) ≡ Some block → IsLoose block × AreLoose (opened_after block.number xs)
block-loose n block [] l e = absurd (none-some block e)
block-loose n block (x ∷ xs) l e = by (nat_eq x.number n) l e (block-loose n block xs) where
  Go : Type 0
  Go = AreLoose (opened_after n xs) → furthest_block (opened_after n xs) ≡ Some block → IsLoose block
      × AreLoose (opened_after block.number xs)

  later : (b : Bool) → IsLoose x → AreLoose (opened_after block.number xs)
      → AreLoose (choose b (λ _. []) (λ _. x ∷ opened_after block.number xs))
  later true l rest = tt
  later false l rest = (l, rest)

  deeper : (o : Option Open) → furthest_block (opened_after n xs) ≡ o → IsLoose x → AreLoose (opened_after n xs)
      → or_first o x ≡ Some block → (AreLoose (opened_after n xs) → furthest_block (opened_after n xs) ≡ Some block
      → IsLoose block × AreLoose (opened_after block.number xs))
      → IsLoose block × AreLoose (opened_after block.number (x ∷ xs))
  deeper (Some other) h l ls e go = let rest = go ls (h ∙ e) in (rest.0, later (nat_eq x.number block.number) l rest.1)
  deeper None h l ls e go =
      let same = special-is (is_in set.SpecialTag x) x block e in
      (rw (← same) l, rw (← same) (rw (eq-eqb x.number x.number refl) tt))

  by : (b : Bool) → AreLoose (choose b (λ _. []) (λ _. x ∷ opened_after n xs))
      → furthest_block (choose b (λ _. []) (λ _. x ∷ opened_after n xs)) ≡ Some block
      → (AreLoose (opened_after n xs) → furthest_block (opened_after n xs) ≡ Some block → IsLoose block
      × AreLoose (opened_after block.number xs)) → IsLoose block × AreLoose (opened_after block.number (x ∷ xs))
  by true l e go = absurd (none-some block e)
  by false l e go = deeper (furthest_block (opened_after n xs)) refl l.0 l.1 e go

-- an element leaves by its number
pub number-frees : (n : ℕ) (xs : List Open) → AllOpen (λ x. is_number n x ≡ true → IsLoose x) xs → Frees xs (without_number n xs)
number-frees n [] all = nil
number-frees n (x ∷ xs) all = by (nat_eq x.number n) refl (number-frees n xs all.1) where
  by : (b : Bool) → nat_eq x.number n ≡ b → Frees xs (without_number n xs)
      → Frees (x ∷ xs) (choose b (λ _. xs) (λ _. x ∷ without_number n xs))
  by true e rest = drop x xs xs (all.0 e) (frees-same xs)
  by false e rest = keep x xs (without_number n xs) rest
