-- What keeps the open elements standing: elements that leave, and changes of the tree under which they stay as they are.
use Rattle.std.proofs.Common.{◌≡◌, ◌∙◌, ℕ, ◌<◌, Bool, true, false, List, [], ◌∷◌, Option, Some, None, refl, ap, nat_eq}
use Rattle.markup.specs.Forest.{Above, Forest, above_of, node_count}
use Rattle.markup.specs.Named.{IsTree}
use Rattle.markup.proofs.Walks.{Above-child}
use Rattle.markup.proofs.PutTexts.{KeepsNames, element-IsNode}
use Rattle.html_rules.specs.Choice.{choose}
use Rattle.html_rules.specs.Names.{Html, element_name_of}
use Rattle.html_rules.specs.Stack.{left_below, left_from, without_current, without_current_but_root, without_number}
use Rattle.html_rules.specs.State.{Open, Entry, Element, Marker, is_in}
use Rattle.html_rules.specs.declared.tag_set.TagSet.TheVariants as set
use Rattle.html_rules_laws.specs.Soundness.{AreListed, AreOpened, IsApart, IsClear, IsOpened, IsStanding}

-- some of the open elements, in their order
pub data IsPart : List Open → List Open → Type 0 where
  none : IsPart [] []
  kept : (x : Open) (xs ys : List Open) → IsPart ys xs → IsPart (x ∷ ys) (x ∷ xs)
  gone : (x : Open) (xs ys : List Open) → IsPart ys xs → IsPart ys (x ∷ xs)

pub part-same : (xs : List Open) → IsPart xs xs
part-same [] = none
part-same (x ∷ xs) = kept x xs xs (part-same xs)

part-choose : (b : Bool) (xs ys zs : List Open) → IsPart ys xs → IsPart zs xs → IsPart (choose b (λ _. ys) (λ _. zs)) xs
part-choose true xs ys zs h k = h
part-choose false xs ys zs h k = k

pub part-below : (p : Open → Bool) (xs : List Open) → IsPart (left_below p xs) xs
part-below p [] = none
part-below p (x ∷ xs) = part-choose (p x) (x ∷ xs) xs (left_below p xs) (gone x xs xs (part-same xs))
    (gone x xs (left_below p xs) (part-below p xs))

pub part-from : (p : Open → Bool) (xs : List Open) → IsPart (left_from p xs) xs
part-from p [] = none
part-from p (x ∷ xs) = part-choose (p x) (x ∷ xs) (x ∷ xs) (left_from p xs) (part-same (x ∷ xs))
    (gone x xs (left_from p xs) (part-from p xs))

pub part-number : (n : ℕ) (xs : List Open) → IsPart (without_number n xs) xs
part-number n [] = none
part-number n (x ∷ xs) = part-choose (nat_eq x.number n) (x ∷ xs) xs (x ∷ without_number n xs)
    (gone x xs xs (part-same xs)) (kept x xs (without_number n xs) (part-number n xs))

pub part-current : (xs : List Open) → IsPart (without_current xs) xs
part-current [] = none
part-current (x ∷ xs) = gone x xs xs (part-same xs)

pub part-but_root : (xs : List Open) → IsPart (without_current_but_root xs) xs
part-but_root [] = none
part-but_root (x ∷ xs) = part-choose (is_in set.Html x) (x ∷ xs) (x ∷ xs) xs (part-same (x ∷ xs)) (gone x xs xs (part-same xs))

pub part-opened : (f : Forest) (xs ys : List Open) → IsPart ys xs → AreOpened f xs → AreOpened f ys
part-opened f xs ys none h = h
part-opened f xs ys (kept x xs' ys' part) h = (h.0, part-opened f xs' ys' part h.1)
part-opened f xs ys (gone x xs' ys' part) h = part-opened f xs' ys' part h.1

pub part-clear : (f : Forest) (n : ℕ) (xs ys : List Open) → IsPart ys xs → IsClear f n xs → IsClear f n ys
part-clear f n xs ys none h = h
part-clear f n xs ys (kept x xs' ys' part) h = (h.0, part-clear f n xs' ys' part h.1)
part-clear f n xs ys (gone x xs' ys' part) h = part-clear f n xs' ys' part h.1

pub part-apart : (f : Forest) (xs ys : List Open) → IsPart ys xs → IsApart f xs → IsApart f ys
part-apart f xs ys none h = h
part-apart f xs ys (kept x xs' ys' part) h = (part-clear f x.number xs' ys' part h.0, part-apart f xs' ys' part h.1)
part-apart f xs ys (gone x xs' ys' part) h = part-apart f xs' ys' part h.1

-- elements leave the stack
pub fewer-Standing : (f : Forest) (entries : List Entry) (xs ys : List Open) → IsPart ys xs
    → IsStanding f xs entries → IsStanding f ys entries
fewer-Standing f entries xs ys part is = record {
  tree = is.tree;
  opened = part-opened f xs ys part is.opened;
  apart = part-apart f xs ys part is.apart;
  listed = is.listed;
  top = is.top;
}

-- the older nodes keep their names, and have nothing new above them
pub record Stays (f g : Forest) : Type 0 where
  pub tree : IsTree g
  pub names : KeepsNames f g
  pub above : (a n : ℕ) → n < node_count f → Above g a n → Above f a n

pub stays-opened : (f g : Forest) (xs : List Open) → Stays f g → AreOpened f xs → AreOpened g xs
stays-opened f g [] is h = tt
stays-opened f g (x ∷ xs) is h =
    (record { named = is.names.names x.number (element_name_of x.namespace x.name) h.0.named; own = h.0.own }, stays-opened f g xs is h.1)

pub stays-clear : (f g : Forest) (n : ℕ) (xs : List Open) → Stays f g → AreOpened f xs → IsClear f n xs → IsClear g n xs
stays-clear f g n [] is h c = tt
stays-clear f g n (x ∷ xs) is h c = (
  λ up. c.0 (is.above n x.number (element-IsNode f x.number (element_name_of x.namespace x.name) h.0.named) up),
  stays-clear f g n xs is h.1 c.1,
)

pub stays-apart : (f g : Forest) (xs : List Open) → Stays f g → AreOpened f xs → IsApart f xs → IsApart g xs
stays-apart f g [] is h a = tt
stays-apart f g (x ∷ xs) is h a = (stays-clear f g x.number xs is h.1 a.0, stays-apart f g xs is h.1 a.1)

pub stays-listed : (f g : Forest) (entries : List Entry) → Stays f g → AreListed f entries → AreListed g entries
stays-listed f g [] is h = tt
stays-listed f g (Marker ∷ entries) is h = stays-listed f g entries is h
stays-listed f g (Element n tag ∷ entries) is h = (is.names.names n (element_name_of Html tag.name) h.0, stays-listed f g entries is h.1)

-- only the document itself is above the document
pub above-top : (f : Forest) (a : ℕ) → above_of f 0 ≡ None → Above f a 0 → a ≡ 0
above-top f a e Above.here = refl
above-top f a e (Above.further is up) = absurd (cc)

pub stays-top : (f g : Forest) → IsTree f → Stays f g → above_of f 0 ≡ None → above_of g 0 ≡ None
stays-top f g tree is e = by (above_of g 0) refl where
  by : (o : Option ℕ) → above_of g 0 ≡ o → above_of g 0 ≡ None
  by None e' = e'
  by (Some m) e' =
      let m_is : m ≡ 0 = above-top f m e (is.above m 0 tree.forest.document (Above.further e' Above.here)) in
      let itself : above_of g 0 ≡ Some 0 = e' ∙ ap Some m_is in
      absurd (Above-child g is.tree.forest 0 0 itself Above.here)

-- the tree changes so
pub changed-Standing : (f g : Forest) (xs : List Open) (entries : List Entry) → Stays f g → IsStanding f xs entries
    → IsStanding g xs entries
changed-Standing f g xs entries is h = record {
  tree = is.tree;
  opened = stays-opened f g xs is h.opened;
  apart = stays-apart f g xs is h.opened h.apart;
  listed = stays-listed f g entries is h.listed;
  top = stays-top f g h.tree is h.top;
}

-- an element is opened that stands above none of the others
pub opened-Standing : (f : Forest) (x : Open) (xs : List Open) (entries : List Entry) → IsOpened f x
    → IsClear f x.number xs → IsStanding f xs entries → IsStanding f (x ∷ xs) entries
opened-Standing f x xs entries named clear is = record {
  tree = is.tree;
  opened = (named, is.opened);
  apart = (clear, is.apart);
  listed = is.listed;
  top = is.top;
}
