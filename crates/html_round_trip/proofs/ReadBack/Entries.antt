-- Entries of formatting elements that leave the list.
use Rattle.std.proofs.Common.{◌≡◌, ℕ, ◌<◌, ◌≤◌, Bool, true, false, List, [], ◌∷◌, Option, Some, inl, inr, refl, arith}
use Rattle.std.proofs.lemmas.Bool.Decides.{nat_tests}
use Rattle.std.specs.Prelude.{codes, is_some, nat_eq, nat_le}
use Rattle.std.specs.Str.{bytes_eq}
use Rattle.html_plain.specs.declared.elements.PlainElement.{PlainElement}
use Rattle.html_rules.specs.Choice.{choose}
use Rattle.html_rules.specs.Formatting.{Listed, count_equal, is_listed, with_room, without_earliest}
use Rattle.html_rules.specs.State.{Entry, Element, Marker, Open}
use Rattle.html_tokens.specs.declared.tags.Tag.{Tag}
use Rattle.html_round_trip.specs.ReadBack.Places.{AreBelow, AreOpen, Drops, HasNoLink, IsBare}
use Rattle.html_round_trip.specs.ReadBack.States.{opened}
use Rattle.html_round_trip.proofs.ReadBack.Stacks.{open-more}

pub drops-none : (es : List Entry) → Drops es es
drops-none [] = refl
drops-none (Marker ∷ es) = refl
drops-none (Element n tag ∷ es) = inr (es, (refl, drops-none es))

then-by : (n : ℕ) (tag : Tag) (es rest less : List Entry) → ((more : List Entry) → Drops rest more → Drops es more)
    → Drops (Element n tag ∷ rest) less → Drops (Element n tag ∷ es) less
then-by n tag es rest less go (inl d) = inl (go less d)
then-by n tag es rest less go (inr d) = inr (d.0, (d.1.0, go d.0 d.1.1))

then-kept : (n : ℕ) (tag : Tag) (es rest left less : List Entry) → left ≡ Element n tag ∷ rest
    → ((more : List Entry) → Drops rest more → Drops es more) → Drops left less → Drops (Element n tag ∷ es) less
then-kept n tag es rest left less e go k = then-by n tag es rest less go (rw e at k)

pub drops-then : (es left less : List Entry) → Drops es left → Drops left less → Drops es less
drops-then [] left less h k = rw h at k
drops-then (Marker ∷ es) left less h k = rw h at k
drops-then (Element n tag ∷ es) left less (inl h) k = inl (drops-then es left less h k)
drops-then (Element n tag ∷ es) left less (inr h) k = then-kept n tag es h.0 left less h.1.0 (λ more d. drops-then es h.0 more h.1.1 d) k

pub bare-stays : (es left : List Entry) → IsBare es → Drops es left → left ≡ es
bare-stays [] left bare h = h
bare-stays (Marker ∷ es) left bare h = h
bare-stays (Element n tag ∷ es) left bare h = absurd bare

pub below-left : (m : ℕ) (es left : List Entry) → Drops es left → AreBelow m es → AreBelow m left
below-left m [] left h below = rw h tt
below-left m (Marker ∷ es) left h below = rw h below
below-left m (Element n tag ∷ es) left (inl h) below = below-left m es left h below.1
below-left m (Element n tag ∷ es) left (inr h) below = rw h.1.0 (below.0, below-left m es h.0 h.1.1 below.1)

pub below-more : (m k : ℕ) (es : List Entry) → m ≤ k → AreBelow m es → AreBelow k es
below-more m k [] le below = tt
below-more m k (Marker ∷ es) le below = below-more m k es le below
below-more m k (Element n tag ∷ es) le below = (let less : n < m = below.0 in omega arith, below-more m k es le below.1)

pub open-left : (stack : List Open) (es left : List Entry) → Drops es left → AreOpen stack es → AreOpen stack left
open-left stack [] left h are = rw h tt
open-left stack (Marker ∷ es) left h are = rw h tt
open-left stack (Element n tag ∷ es) left (inl h) are = open-left stack es left h are.1
open-left stack (Element n tag ∷ es) left (inr h) are = rw h.1.0 (are.0, open-left stack es h.0 h.1.1 are.1)

pub all-open_more : (m : ℕ) (k : PlainElement) (stack : List Open) (es : List Entry) → AreOpen stack es → AreOpen (opened m k ∷ stack) es
all-open_more m k stack [] are = tt
all-open_more m k stack (Marker ∷ es) are = tt
all-open_more m k stack (Element n tag ∷ es) are = (open-more n m k stack are.0, all-open_more m k stack es are.1)

link-by : (b : Bool) (n : ℕ) (tag : Tag) (o : Option Listed)
    → is_some (choose b (λ _. Some (record { number = n; tag = tag })) (λ _. o)) ≡ false → (b ≡ false) × (is_some o ≡ false)
link-by true n tag o h = absurd (cc)
link-by false n tag o h = (refl, h)

pub link-left : (es left : List Entry) → Drops es left → HasNoLink es → HasNoLink left
link-left [] left h none = rw h refl
link-left (Marker ∷ es) left h none = rw h refl
link-left (Element n tag ∷ es) left (inl h) none = link-left es left h (link-by (bytes_eq tag.name (codes "a")) n tag _ none).1
link-left (Element n tag ∷ es) left (inr h) none =
    let p = link-by (bytes_eq tag.name (codes "a")) n tag _ none in
    rw (h.1.0, p.0) (link-left es h.0 h.1.1 p.1)

-- an element that is newer than all entries is not listed
pub none-listed : (n : ℕ) (es : List Entry) → AreBelow n es → is_listed n es ≡ false
none-listed n [] below = refl
none-listed n (Marker ∷ es) below = none-listed n es below
none-listed n (Element m tag ∷ es) below =
    let less : m < n = below.0 in
    let other : nat_eq m n ≡ false = grind (arith, nat_tests) in
    rw other (none-listed n es below.1)

-- at most three equal entries stay
earliest-by : (b : Bool) (n : ℕ) (tag : Tag) (es rest : List Entry) → Drops es rest → Drops (Element n tag ∷ es)
    (choose b (λ _. es) (λ _. Element n tag ∷ rest))
earliest-by true n tag es rest h = inl (drops-none es)
earliest-by false n tag es rest h = inr (rest, (refl, h))

drops-earliest : (tag : Tag) (es : List Entry) → Drops es (without_earliest tag es)
drops-earliest tag [] = refl
drops-earliest tag (Marker ∷ es) = refl
drops-earliest tag (Element n other ∷ es) = earliest-by _ n other es (without_earliest tag es) (drops-earliest tag es)

room-by : (b : Bool) (es left : List Entry) → Drops es left → Drops es (choose b (λ _. left) (λ _. es))
room-by true es left h = h
room-by false es left h = drops-none es

pub drops-room : (tag : Tag) (es : List Entry) → Drops es (with_room tag es)
drops-room tag es = room-by (nat_le 3 (count_equal tag es)) es (without_earliest tag es) (drops-earliest tag es)
