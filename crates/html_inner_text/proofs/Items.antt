-- The items of nodes have all levels.
use Rattle.std.proofs.Common.{◌≡◌, ◌∙◌, ◌≤◌, ℕ, zero, suc, true, List, [], ◌∷◌, ◌++◌, refl, ap, arith}
use Rattle.markup.specs.Forest.{Forest, IsForest, is_among, node_count}
use Rattle.markup.specs.Named.{HasContents}
use Rattle.markup.specs.Trees.{inner_of}
use Rattle.markup.proofs.WholeTrees.{Within, among-first, among-later, inner-within}
use Rattle.html_inner_text.specs.Items.{Item, items, items_each, items_within, node_items}
use Rattle.html_inner_text.specs.Styles.{Style, inside}

each-same : (f : Forest) (g h : Style → List ℕ → List Item) (s : Style) (ns : List ℕ)
    → ((n : ℕ) → is_among n ns ≡ true → (t : Style) → g t (inner_of f n) ≡ h t (inner_of f n)) → items_each g f s ns ≡ items_each h f s ns
each-same f g h s [] same = refl
each-same f g h s (n ∷ ns) same =
    ap (λ (inner : List Item). node_items f s n inner ++ items_each g f s ns) (same n (among-first n ns) (inside f s n))
    ∙ ap (λ (later : List Item). node_items f s n (h (inside f s n) (inner_of f n)) ++ later)
    (each-same f g h s ns (λ m among t. same m (among-later m n ns among) t))

-- as many levels as there are, or more, have the same items
within-same : (f : Forest) (l k : ℕ) (s : Style) (ns : List ℕ) → ((n : ℕ) → is_among n ns ≡ true → Within f l n) → l ≤ k
    → items_within l f s ns ≡ items_within k f s ns
unfolding items_within
within-same f zero zero s ns h le = refl
within-same f zero (suc k) s [] h le = refl
within-same f zero (suc k) s (n ∷ ns) h le = absurd (h n (among-first n ns))
within-same f (suc l) zero s ns h le = absurd (omega (arith, le))
within-same f (suc l) (suc k) s ns h le = each-same f (items_within l f) (items_within k f) s ns
    (λ n among t. within-same f l k t (inner_of f n) (h n among) (omega (arith, le)))

first-by : (f : Forest) → IsForest f → HasContents f → (count : ℕ) → node_count f ≡ count → (s : Style) (n : ℕ) (ns : List ℕ)
    → items_within count f s (n ∷ ns) ≡ node_items f s n (items_within count f (inside f s n) (inner_of f n)) ++ items_within count f s ns
unfolding items_within
first-by f is contents zero e s n ns = absurd (let some = is.document in omega (arith, some, e))
first-by f is contents (suc l) e s n ns =
    ap (λ (inner : List Item). node_items f s n inner ++ items_each (items_within l f) f s ns)
    (within-same f l (suc l) (inside f s n) (inner_of f n) (inner-within f is contents l e n) (omega arith))

-- the items of nodes begin with those of the first
pub items-first : (f : Forest) → IsForest f → HasContents f → (s : Style) (n : ℕ) (ns : List ℕ)
    → items f s (n ∷ ns) ≡ node_items f s n (items f (inside f s n) (inner_of f n)) ++ items f s ns
items-first f is contents s n ns = first-by f is contents (node_count f) refl s n ns

none-by : (f : Forest) (count : ℕ) (s : Style) → items_within count f s [] ≡ []
unfolding items_within
none-by f zero s = refl
none-by f (suc count) s = refl

pub items-none : (f : Forest) (s : Style) → items f s [] ≡ []
items-none f s = none-by f (node_count f) s
