-- Notes of open elements: what they say, and what becomes of it where elements come and leave.
use Rattle.std.proofs.Common.{◌≡◌, ◌∙◌, ℕ, zero, suc, ◌-◌, ◌<◌, ◌≤◌, ◌⊎◌, inl, inr, Bool, true, false, cond, List, [], ◌∷◌}
use Rattle.std.proofs.Common.{◌++◌, length, take, drop, get_or, map, reverse, Option, Some, None, Result, Ok, Err, refl, sym}
use Rattle.std.proofs.Common.{ap, subst, arith, true≢false, MatchOption, IfSome, length-append, take-append-drop}
use Rattle.std.specs.Prelude.{◌||◌, ◌&&◌, ◌==◌, not, max, min, bit_or, is_ok, unwrap_or, OnOk}
use Rattle.std.specs.BTreeMap.{is_at}
use Rattle.std.specs.Char.{to_ascii_lowercase}
use Rattle.std.specs.Cmp.Lexicographic.{slice_cmp, texts_ties}
use Rattle.std.specs.Int.{bit_at}
use Rattle.std.specs.List.{list_all, list_any, remove}
use Rattle.std.specs.Ordering.{nat_cmp}
use Rattle.std.specs.Str.{bytes_eq}
use Rattle.std.proofs.Math.ListN.{get_or-append}
use Rattle.std.proofs.Math.Seq.{get_or-append_seam}
use Rattle.std.proofs.lemmas.List.{get_or_default, length-map, length-take, length-take-le, map-append, reverse-append, take-take, take_at}
use Rattle.std.proofs.lemmas.Bool.{not-false, not-true}
use Rattle.std.proofs.lemmas.List.Folds.{list_any-append}
use Rattle.std.proofs.lemmas.Nat.Bits.{bit_at_or, bit_at-lt}
use Rattle.std.proofs.lemmas.Slice.Eq.{bytes_eq-Decides}
use Rattle.html_rules.specs.Names.{Namespace, Html as HtmlSpace, MathMl, Svg, Other, is_html}
use Rattle.html_rules.specs.Reset.{mode_of_open}
use Rattle.html_rules.specs.Stack.{finds_generic, has_open, in_scope, item_name}
use Rattle.html_rules.specs.State.{Open, State, is_in, named_in}
use Rattle.html_rules.specs.declared.tag_set.TagSet.{TagSet}
use Rattle.html_rules.specs.declared.tag_set.TagSet.TheVariants as set
use Rattle.html_names.specs.ElementNames.{Named}
use Rattle.html_names.specs.SetBits.{has_set, number_of}
use Rattle.html_stack.specs.Noted.{AreRanges, Covers, IsBeyond, IsNext, IsNoteOf, IsNoted, IsRange, IsSameKey}
use Rattle.html_stack.specs.Noted.{NoneFrom, NoneNoted, Says, SaysSame, asks_mode, bears, has, is_foreign_named, is_same_space}
use Rattle.html_stack.specs.Noted.{key_of, known_as, named, named_any_case, said}
use Rattle.html_stack.specs.Stacks.{open_of, opens_of}
use Rattle.html_stack.specs.declared.depths.Depths.{Depths}
use Rattle.html_stack.specs.declared.depths.Note.{Note}
use Rattle.html_stack.specs.declared.entries.OpenElement.{OpenElement}
use Rattle.html_stack.specs.declared.signs.Sign.{Sign}
use Rattle.html_stack.specs.declared.signs.Sign.TheVariants.{In, Html, BarsBodyEnd, BarsItems, AsksMode}
use Rattle.html_stack.specs.declared.signs.Signs.{Signs}
use Rattle.html_stack.proofs.Newest.{or-both, or-left, or-right, parts}

at-or-above : (k j : ℕ) → k ≤ j → (k ≡ j) ⊎ (k < j)
at-or-above zero zero l = inl refl
at-or-above zero (suc j) l = inr (omega arith)
at-or-above (suc k) zero l = absurd (omega (arith, l))
at-or-above (suc k) (suc j) l = elim (at-or-above k j (omega (arith, l))) [ inl e ↦ inl (ap suc e) | inr m ↦ inr (omega (arith, m)) ]

below-or-above : (i j : ℕ) → (j < i) ⊎ (i ≤ j)
below-or-above zero j = inr (omega arith)
below-or-above (suc i) zero = inl (omega arith)
below-or-above (suc i) (suc j) = elim (below-or-above i j) [ inl l ↦ inl (omega (arith, l)) | inr l ↦ inr (omega (arith, l)) ]

false-unless : (b : Bool) → (b ≡ true → ⊥) → b ≡ false
false-unless true h = absurd (h refl)
false-unless false h = refl

-- ranges

-- none passes from one place further down on
pub none-one : (sign : Sign) (notes : List Note) (i k : ℕ) (note : Note) → NoneNoted sign notes i → i ≡ suc k
    → k < length notes → note ≡ get_or notes k note → has note.own sign ≡ false → NoneNoted sign notes k
none-one sign notes i k note none e less here fails j n from inside = elim (at-or-above k j from) [
  | inl same ↦ ap (λ m. has (get_or notes m n).own sign) (sym same) ∙ ap (λ (x : Note). has x.own sign)
      (get_or_default notes k n note less ∙ sym here) ∙ fails
  | inr above ↦ none j n (omega (arith, e, above)) inside
]

-- or from the range of a note on that none of it passes
pub none-range : (sign : Sign) (notes : List Note) (i k : ℕ) (note : Note) → NoneNoted sign notes i → i ≡ suc k
    → IsRange notes k note → has note.all sign ≡ false → NoneNoted sign notes note.from
none-range sign notes i k note none e range fails j n from inside = elim (below-or-above i j) [
  | inl low ↦ false-unless (has (get_or notes j n).own sign)
      (λ h. true≢false (sym (range.all j n sign from (omega (arith, e, low)) h) ∙ fails))
  | inr high ↦ none j n high inside
]

-- none stands after the last
pub none-end : (sign : Sign) (notes : List Note) → NoneNoted sign notes (length notes)
none-end sign notes j n from inside = absurd (omega (arith, from, inside))

-- the range of a note at a place
pub range-at : (notes : List Note) (k : ℕ) (note : Note) → AreRanges notes → k < length notes
    → note ≡ get_or notes k note → IsRange notes k note
range-at notes k note ranges less here = subst (λ x. IsRange notes k x) (sym here) (ranges k note less)

or-middle : (a b c : Bool) → b ≡ true → (a || (b || c)) ≡ true
or-middle true b c h = refl
or-middle false b c h = rw h refl

or-last : (a b c : Bool) → c ≡ true → (a || (b || c)) ≡ true
or-last true b c h = refl
or-last false true c h = refl
or-last false false c h = h

-- two ranges that lie side by side
pub ranges-joined : (notes : List Note) (count c d : ℕ) (last next : Note) (own all : Signs) → count ≡ suc c
    → last.from ≡ suc d → IsRange notes c last → IsRange notes d next
    → ((sign : Sign) → has all sign ≡ (has own sign || (has last.all sign || has next.all sign))) → Covers notes next.from count all
ranges-joined notes count c d last next own all e f one other with k n sign from inside h = elim (below-or-above last.from k) [
  | inl low ↦ with sign ∙ or-last (has own sign) (has last.all sign) (has next.all sign) (other.all k n sign from (omega (arith, f, low)) h)
  | inr high ↦ with sign ∙ or-middle (has own sign) (has last.all sign) (has next.all sign)
      (one.all k n sign high (omega (arith, e, inside)) h)
]

pub covers-none : (notes : List Note) (count : ℕ) (all : Signs) → Covers notes count count all
covers-none notes count all k n sign from inside h = absurd (omega (arith, from, inside))

-- what is noted

pub IsNoted-none : (xs : List Named) (d : Depths) → d.notes.items ≡ [] → IsNoted xs d
IsNoted-none xs d e = record {
  within = rw e (omega arith);
  notes = λ i x n less. absurd (none-in i e less);
  ranges = λ i n less. absurd (none-in i e less);
  tops = record {
    top = λ j n less. absurd (none-in j e less);
    below = λ i j n low less same. absurd (none-in i e less);
  };
}
  where
    none-in : (i : ℕ) → d.notes.items ≡ [] → i < length d.notes.items → ⊥
    none-in i e less = let none : i < 0 = rw e at less in omega (arith, none)

-- nothing else is said of any name
pub IsNoted-same : (xs : List Named) (d e : Depths) → e.notes.items ≡ d.notes.items → SaysSame d.tops e.tops → IsNoted xs d → IsNoted xs e
IsNoted-same xs d e items same is = record {
  within = rw items is.within;
  notes = rw items is.notes;
  ranges = rw items is.ranges;
  tops = rw items (record {
    top = λ j n less. rw (same (get_or d.notes.items j n).own.is_html (get_or d.notes.items j n).name) (is.tops.top j n less);
    below = is.tops.below;
  });
}

-- what is said of a name is what was put there, or what was said before
said-next : (b : Bool) (a c : ℕ) (j : ℕ) → (b ≡ true → j < a) → (b ≡ false → j < c) → j < cond b a c
said-next true a c j one other = one refl
said-next false a c j one other = other refl

same-space : (a b : Bool) → is_same_space a b ≡ true → a ≡ b
same-space true b h = sym h
same-space false true h = absurd (true≢false (sym h))
same-space false false h = refl

and-left : (a b : Bool) → (a && b) ≡ true → a ≡ true
and-left true b h = refl
and-left false b h = h

and-right : (a b : Bool) → (a && b) ≡ true → b ≡ true
and-right true b h = h
and-right false b h = absurd (true≢false (sym h))

bytes-same : (xs ys : List ℕ) → bytes_eq xs ys ≡ true → xs ≡ ys
bytes-same xs ys h = (bytes_eq-Decides xs ys).0 h

bytes-refl : (xs : List ℕ) → bytes_eq xs xs ≡ true
bytes-refl xs = (bytes_eq-Decides xs xs).1 refl

space-refl : (b : Bool) → is_same_space b b ≡ true
space-refl true = refl
space-refl false = refl

-- the notes with one more, by the old ones and the new
at-next : (notes more : List Note) (note n : Note) (j : ℕ) → more ≡ notes ++ note ∷ [] → j < length notes
    → get_or more j n ≡ get_or notes j n
at-next notes more note n j e less = rw e (get_or-append notes (note ∷ []) n j less)

at-last : (notes more : List Note) (note n : Note) → more ≡ notes ++ note ∷ [] → get_or more (length notes) n ≡ note
at-last notes more note n e = rw e (get_or-append_seam notes note [] n)

pub length-next : (notes more : List Note) (note : Note) → more ≡ notes ++ note ∷ [] → length more ≡ suc (length notes)
length-next notes more note e = rw (e, length-append) (omega arith)

-- one note more
pub IsNoted-next : (xs : List Named) (d e : Depths) (note : Note) (name : List ℕ) (top : ℕ)
    → e.notes.items ≡ d.notes.items ++ note ∷ [] → top ≡ suc (length d.notes.items) → Says note.own.is_html name top d.tops e.tops
    → IsNext xs d note name → IsNoted xs d → IsNoted xs e
IsNoted-next xs d e note name top items is_top says next is =
    let notes : List Note = d.notes.items in
    let count : length e.notes.items ≡ suc (length notes) = length-next notes e.notes.items note items in
    let old : (n : Note) (j : ℕ) → j < length notes → get_or e.notes.items j n ≡ get_or notes j n =
    λ n j less. at-next notes e.notes.items note n j items less in
    let last : (n : Note) (j : ℕ) → j ≡ length notes → get_or e.notes.items j n ≡ note =
    λ n j same. ap (λ k. get_or e.notes.items k n) same ∙ at-last notes e.notes.items note n items in
    let split : (j : ℕ) → j < length e.notes.items → (j < length notes) ⊎ (j ≡ length notes) =
    λ j less. elim (below-or-above (length notes) j) [ inl low ↦ inl low | inr high ↦ inr (omega (arith, count, less, high)) ] in
    let covered : (from to : ℕ) (all : Signs) → to ≤ length notes → Covers notes from to all
    → Covers e.notes.items from to all = λ from to all within c k n sign above below h.
    c k n sign above below (ap (λ (x : Note). has x.own sign) (sym (old n k (omega (arith, below, within)))) ∙ h) in
    record {
      within = omega (arith, count, next.within);
      notes = λ i x n less. elim (split i less) [
        | inl low ↦ subst (λ y. IsNoteOf (get_or xs i x) y) (sym (old n i low)) (is.notes i x n low)
        | inr same ↦ subst (λ y. IsNoteOf (get_or xs i x) y) (sym (last n i same))
            (subst (λ k. IsNoteOf (get_or xs k x) note) (sym same) (next.of x))
      ];
      ranges = λ i n less. elim (split i less) [
        | inl low ↦ subst (λ y. IsRange e.notes.items i y) (sym (old n i low)) (record {
          from = (is.ranges i n low).from;
          all = covered (get_or notes i n).from (suc i) (get_or notes i n).all (omega (arith, low)) (is.ranges i n low).all;
        })
        | inr same ↦ subst (λ y. IsRange e.notes.items i y) (sym (last n i same)) (record {
          from = omega (arith, same, next.from);
          all = λ k m sign above below h. elim (below-or-above (length notes) k) [
            | inl low ↦ next.all k m sign above low (ap (λ (x : Note). has x.own sign) (sym (old m k low)) ∙ h)
            | inr high ↦ next.own sign (ap (λ (x : Note). has x.own sign) (sym (last m k (omega (arith, high, below, same)))) ∙ h)
          ];
        })
      ];
      tops = record {
        top = λ j n less.
            (subst (λ m. j < m) (sym (says (get_or e.notes.items j n).own.is_html (get_or e.notes.items j n).name))
            (said-next (is_same_space note.own.is_html (get_or e.notes.items j n).own.is_html
            && bytes_eq name (get_or e.notes.items j n).name) top
            (said d.tops (get_or e.notes.items j n).own.is_html (get_or e.notes.items j n).name) j
            (λ _. omega (arith, is_top, count, less))
            (λ other. elim (split j less) [
              | inl low ↦ subst (λ (y : Note). j < said d.tops y.own.is_html y.name) (sym (old n j low)) (is.tops.top j n low)
              | inr same ↦ absurd (true≢false (sym (rw (last n j same, next.same, space-refl, bytes-refl) refl) ∙ other))
            ])));
        below = λ i j n low less key. elim (split i less) [
          | inl before ↦ subst (λ (y : Note). j < y.below) (sym (old n i before))
              (is.tops.below i j n low before (subst (λ y. IsSameKey y (get_or notes j n)) (old n i before)
              (subst (λ y. IsSameKey (get_or e.notes.items i n) y) (old n j (omega (arith, low, before))) key)))
          | inr same ↦ subst (λ (y : Note). j < y.below) (sym (last n i same))
              (let inside : j < length notes = omega (arith, low, same) in
              let keys : IsSameKey note (get_or notes j n) = subst (λ y. IsSameKey y (get_or notes j n))
              (last n i same) (subst (λ y. IsSameKey (get_or e.notes.items i n) y) (old n j inside) key) in
              rw (next.below, keys.space, keys.name) (is.tops.top j n inside))
        ];
      };
    }

-- one note fewer
pub IsNoted-undo : (xs : List Named) (d e : Depths) (note : Note) → d.notes.items ≡ e.notes.items ++ note ∷
    [] → Says note.own.is_html note.name note.below d.tops e.tops → IsNoted xs d → IsNoted xs e
IsNoted-undo xs d e note items says is =
    let notes : List Note = e.notes.items in
    let count : length d.notes.items ≡ suc (length notes) = length-next notes d.notes.items note items in
    let old : (n : Note) (j : ℕ) → j < length notes → get_or d.notes.items j n ≡ get_or notes j n =
    λ n j less. at-next notes d.notes.items note n j items less in
    record {
      within = omega (arith, count, is.within);
      notes = λ i x n less. subst (λ y. IsNoteOf (get_or xs i x) y) (old n i less) (is.notes i x n (omega (arith, count, less)));
      ranges = λ i n less.
          let range : IsRange d.notes.items i (get_or notes i n) = subst (λ y. IsRange d.notes.items i y)
          (old n i less) (is.ranges i n (omega (arith, count, less))) in
          record {
            from = range.from;
            all = λ k m sign above below h. range.all k m sign above below
                (ap (λ (x : Note). has x.own sign) (old m k (omega (arith, below, less))) ∙ h);
          };
      tops = record {
        top = λ j n less.
            subst (λ m. j < m) (sym (says (get_or notes j n).own.is_html (get_or notes j n).name))
            (said-next (is_same_space note.own.is_html (get_or notes j n).own.is_html && bytes_eq note.name
            (get_or notes j n).name) note.below (said d.tops (get_or notes j n).own.is_html (get_or notes j n).name) j
            (λ h.
            let space = same-space note.own.is_html (get_or notes j n).own.is_html
            (and-left (is_same_space note.own.is_html (get_or notes j n).own.is_html) (bytes_eq note.name (get_or notes j n).name) h) in
            let name = bytes-same note.name (get_or notes j n).name
            (and-right (is_same_space note.own.is_html (get_or notes j n).own.is_html)
            (bytes_eq note.name (get_or notes j n).name) h) in
            let last : get_or d.notes.items (length notes) n ≡ note = at-last notes d.notes.items note n items in
            subst (λ (y : Note). j < y.below) last
            (is.tops.below (length notes) j n less (omega (arith, count))
            (subst (λ y. IsSameKey y (get_or d.notes.items j n)) (sym last)
            (subst (λ y. IsSameKey note y) (sym (old n j less)) (record { space = space; name = name })))))
            (λ _. subst (λ (y : Note). j < said d.tops y.own.is_html y.name) (old n j less)
            (is.tops.top j n (omega (arith, count, less)))));
        below = λ i j n low less key.
            subst (λ (y : Note). j < y.below) (old n i less)
            (is.tops.below i j n low (omega (arith, count, less))
            (subst (λ y. IsSameKey y (get_or d.notes.items j n)) (sym (old n i less))
            (subst (λ y. IsSameKey (get_or notes i n) y) (sym (old n j (omega (arith, low, less)))) key)));
      };
    }

-- the same notes, of elements that begin alike as far as there are notes
pub IsNoted-alike : (xs ys : List Named) (d : Depths) → length d.notes.items ≤ length ys
    → ((i : ℕ) (x : Named) → i < length d.notes.items → get_or xs i x ≡ get_or ys i x) → IsNoted xs d → IsNoted ys d
IsNoted-alike xs ys d within alike is = record {
  within = within;
  notes = λ i x n less. subst (λ y. IsNoteOf y (get_or d.notes.items i n)) (alike i x less) (is.notes i x n less);
  ranges = is.ranges;
  tops = is.tops;
}

-- what leaves no trace

pub none-drop : {H : Type 0} (node : H → ℕ) (p : Named → Bool) (items : List (OpenElement H)) (m : ℕ)
    → NoneFrom p (named items) m → list_any (λ x. p (known_as x)) (reverse (map (open_of node) (drop m items))) ≡ false
none-drop node p [] zero none = refl
none-drop node p [] (suc m) none = refl
none-drop node p (x ∷ items) (suc m) none = none-drop node p items m
    (λ k y from less. none (suc k) y (omega (arith, from)) (omega (arith, less)))
none-drop node p (x ∷ items) zero none =
    let q : Open → Bool = λ y. p (known_as y) in
    ap (list_any q) (reverse-append (open_of node x ∷ []) (map (open_of node) items))
    ∙ list_any-append q (reverse (map (open_of node) items)) (open_of node x ∷ [])
    ∙ or-both (list_any q (reverse (map (open_of node) items))) (list_any q (open_of node x ∷ []))
    (none-drop node p items zero (λ k y from less. none (suc k) y (omega arith) (omega (arith, less))))
    (or-both (p x.name) false (none zero x.name (omega arith) (omega arith)) refl)

-- the elements that were opened first, where none that was opened later passes
pub beyond : {H : Type 0} (node : H → ℕ) (p : Named → Bool) (items : List (OpenElement H)) (m : ℕ)
    → NoneFrom p (named items) m → IsBeyond p (opens_of node (take m items)) (opens_of node items)
beyond node p items m none = record {
  newer = reverse (map (open_of node) (drop m items));
  parted = parts (open_of node) items m;
  none = none-drop node p items m none;
}

any-first : (p : Open → Bool) (x : Open) (xs : List Open) → list_any p (x ∷ xs) ≡ false → p x ≡ false
any-first p x xs h = elim-or (p x) (list_any p xs) h
  where
    elim-or : (a b : Bool) → (a || b) ≡ false → a ≡ false
    elim-or true b h = absurd (true≢false h)
    elim-or false b h = refl

any-rest : (p : Open → Bool) (x : Open) (xs : List Open) → list_any p (x ∷ xs) ≡ false → list_any p xs ≡ false
any-rest p x xs h = elim-or (p x) (list_any p xs) h
  where
    elim-or : (a b : Bool) → (a || b) ≡ false → b ≡ false
    elim-or true b h = absurd (true≢false h)
    elim-or false b h = h

same-beyond : {A : Type 0} (f : List Open → A) (p : Named → Bool)
    → ((x : Open) (ys : List Open) → p (known_as x) ≡ false → f (x ∷ ys) ≡ f ys) → (newer rest : List Open)
    → list_any (λ x. p (known_as x)) newer ≡ false → f rest ≡ f (newer ++ rest)
same-beyond f p skips [] rest none = refl
same-beyond f p skips (x ∷ newer) rest none =
    same-beyond f p skips newer rest (any-rest (λ y. p (known_as y)) x newer none)
    ∙ sym (skips x (newer ++ rest) (any-first (λ y. p (known_as y)) x newer none))

-- a question that each element answers alike that does not pass has the same answer without them
pub same-answer : {A : Type 0} (f : List Open → A) (p : Named → Bool)
    → ((x : Open) (ys : List Open) → p (known_as x) ≡ false → f (x ∷ ys) ≡ f ys) → (rest xs : List Open)
    → IsBeyond p rest xs → f rest ≡ f xs
same-answer f p skips rest xs is = same-beyond f p skips is.newer rest is.none ∙ ap f (sym is.parted)

-- tests of one or another

max-one : (a b : ℕ) → a < 2 → b < 2 → (max a b == 1) ≡ (a == 1 || b == 1)
max-one zero zero l m = refl
max-one zero (suc zero) l m = refl
max-one (suc zero) zero l m = refl
max-one (suc zero) (suc zero) l m = refl
max-one zero (suc (suc b)) l m = absurd (omega (arith, m))
max-one (suc zero) (suc (suc b)) l m = absurd (omega (arith, m))
max-one (suc (suc a)) b l m = absurd (omega (arith, l))

has_set-either : (a b : ℕ) (set : TagSet) → has_set (bit_or a b) set ≡ (has_set a set || has_set b set)
has_set-either a b set = ap (λ n. n == 1) (bit_at_or a b (number_of set)) ∙ max-one (bit_at a (number_of set))
    (bit_at b (number_of set)) (bit_at-lt a (number_of set)) (bit_at-lt b (number_of set))

pub has-with : (a b : Signs) (sign : Sign)
    → has (record {
      sets = bit_or a.sets b.sets;
      is_html = a.is_html || b.is_html;
      bars_body_end = a.bars_body_end || b.bars_body_end;
      bars_items = a.bars_items || b.bars_items;
      asks_mode = a.asks_mode || b.asks_mode;
    }) sign ≡ (has a sign || has b sign)
has-with a b (In set) = has_set-either a.sets b.sets set
has-with a b Html = refl
has-with a b BarsBodyEnd = refl
has-with a b BarsItems = refl
has-with a b AsksMode = refl

-- what is said once a map has changed

pub said-removed : (b c : Bool) (o : Option ℕ) (top : ℕ) → b ≡ c → top ≡ 0 → unwrap_or (cond b None o) 0 ≡ cond c top (unwrap_or o 0)
said-removed true c o top e none = rw (← e) (sym none)
said-removed false c o top e none = rw (← e) refl

pub said-put : (b c : Bool) (o : Option ℕ) (top : ℕ) → b ≡ c → unwrap_or (cond b (Some top) o) 0 ≡ cond c top (unwrap_or o 0)
said-put true c o top e = rw (← e) refl
said-put false c o top e = rw (← e) refl

pub key-same : (name other : List ℕ) → is_at (slice_cmp nat_cmp name) other ≡ bytes_eq name other
key-same name other = sym (texts_ties name other)

pub went_well : {T E P : Type 0} (r : Result T E) → OnOk r P → is_ok r ≡ true → P
went_well (Ok x) h e = h
went_well (Err fault) h e = absurd cc

-- all but the last
pub without-last : {X : Type 0} (xs ys : List X) (x : X) → ys ≡ xs ++ x ∷ [] → take (length ys - 1) ys ≡ xs
without-last xs ys x e =
    let count : length ys - 1 ≡ length xs = rw (e, length-append) (omega arith) in
    rw (count, e) (take_at xs (x ∷ []) (length xs) refl)

-- answers by notes

pub some-of : {X : Type 0} (xs : List X) (k : ℕ) → k < length xs → X
some-of [] k l = absurd (omega (arith, l))
some-of (x ∷ xs) k l = x

pub none-passes : (xs : List Named) (d : Depths) (sign : Sign) (from : ℕ) → length d.notes.items ≡ length xs
    → IsNoted xs d → NoneNoted sign d.notes.items from → NoneFrom (bears sign) xs from
none-passes xs d sign from all is none k x above less =
    let inside : k < length d.notes.items = omega (arith, all, less) in
    let n : Note = some-of d.notes.items k inside in
    sym ((is.notes k x n inside).own sign) ∙ none k n above inside

pub none-either : (p q : Named → Bool) (xs : List Named) (a b from : ℕ) → a ≤ from → b ≤ from → NoneFrom p xs a
    → NoneFrom q xs b → NoneFrom (λ x. p x || q x) xs from
none-either p q xs a b from l m one other k x above less = or-both (p (get_or xs k x)) (q (get_or xs k x))
    (one k x (omega (arith, l, above)) less) (other k x (omega (arith, m, above)) less)

-- nor of so many of all
pub none-within : (p : Named → Bool) (xs : List Named) (a count : ℕ) → length xs ≡ count → NoneFrom p xs a → NoneFrom p xs (min a count)
none-within p xs a count all none k x above less = none k x (omega (arith, all, above, less)) less

html-named : (space : Namespace) (name local : List ℕ) → named_in space name local ≡ true → (is_html space ≡ true) × (name ≡ local)
html-named HtmlSpace name local h = (refl, bytes-same name local h)
html-named MathMl name local h = absurd (true≢false (sym h))
html-named Svg name local h = absurd (true≢false (sym h))
html-named (Other uri) name local h = absurd (true≢false (sym h))

-- no element is found by a name at what is said of it, or above
none-key : (xs : List Named) (d : Depths) (html : Bool) (key : List ℕ) (k : ℕ) (x : Named)
    → length d.notes.items ≡ length xs → IsNoted xs d → said d.tops html key ≤ k → k < length xs
    → is_html (get_or xs k x).namespace ≡ html → key_of (get_or xs k x) ≡ key → ⊥
none-key xs d html key k x all is above less space name =
    let inside : k < length d.notes.items = omega (arith, all, less) in
    let n : Note = some-of d.notes.items k inside in
    let of = is.notes k x n inside in
    let top : k < said d.tops html key = rw (of.own Html ∙ space, of.name ∙ name) at (is.tops.top k n inside) in
    omega (arith, top, above)

pub none-named : (xs : List Named) (d : Depths) (name : List ℕ) → length d.notes.items ≡ length xs → IsNoted xs d
    → NoneFrom (λ x. named_in x.namespace x.name name) xs (said d.tops true name)
none-named xs d name all is k x above less = false-unless (named_in (get_or xs k x).namespace (get_or xs k x).name name) (λ h.
    let same = html-named (get_or xs k x).namespace (get_or xs k x).name name h in
    none-key xs d true name k x all is above less same.0 (rw same.0 same.1))

pub none-foreign : (xs : List Named) (d : Depths) (name : List ℕ) → length d.notes.items ≡ length xs → IsNoted xs d
    → NoneFrom (is_foreign_named name) xs (said d.tops false (map to_ascii_lowercase name))
none-foreign xs d name all is k x above less = false-unless (is_foreign_named name (get_or xs k x)) (λ h.
    let foreign : is_html (get_or xs k x).namespace ≡ false = not-true (is_html (get_or xs k x).namespace)
    (and-left (not (is_html (get_or xs k x).namespace)) (named_any_case name (get_or xs k x)) h) in
    let same = bytes-same (map to_ascii_lowercase (get_or xs k x).name) (map to_ascii_lowercase name)
    (and-right (not (is_html (get_or xs k x).namespace)) (named_any_case name (get_or xs k x)) h) in
    none-key xs d false (map to_ascii_lowercase name) k x all is above less foreign (rw foreign same))

either-foreign : (a b : Bool) → a ≡ false → (not a && b) ≡ false → (a || b) ≡ false
either-foreign true b e h = absurd (true≢false e)
either-foreign false b e h = h

pub none-ended : (xs : List Named) (name : List ℕ) (a b from : ℕ) → a ≤ from → b ≤ from → NoneFrom (bears Html) xs a
    → NoneFrom (is_foreign_named name) xs b → NoneFrom (λ x. is_html x.namespace || named_any_case name x) xs from
none-ended xs name a b from l m one other k x above less =
    either-foreign (is_html (get_or xs k x).namespace) (named_any_case name (get_or xs k x))
    (one k x (omega (arith, l, above)) less) (other k x (omega (arith, m, above)) less)

-- questions that the elements beyond do not change

pub scope-beyond : (scope : TagSet) (p : Open → Bool) (q : Named → Bool)
    → ((x : Open) → q (known_as x) ≡ false → p x ≡ false)
    → ((x : Open) → q (known_as x) ≡ false → is_in scope x ≡ false) → (rest xs : List Open) → IsBeyond q rest xs
    → in_scope scope p rest ≡ in_scope scope p xs
scope-beyond scope p q fails passed = same-answer (in_scope scope p) q (λ x ys h. rw (fails x h, passed x h) refl)

pub generic-beyond : (p : Open → Bool) (q : Named → Bool) → ((x : Open) → q (known_as x) ≡ false → p x ≡ false)
    → ((x : Open) → q (known_as x) ≡ false → is_in set.SpecialTag x ≡ false) → (rest xs : List Open)
    → IsBeyond q rest xs → finds_generic p rest ≡ finds_generic p xs
generic-beyond p q fails passed = same-answer (finds_generic p) q (λ x ys h. rw (fails x h, passed x h) refl)

pub item-beyond : (items : TagSet) (rest xs : List Open) → IsBeyond (λ x. bears (In items) x || bears BarsItems x)
    rest xs → item_name items rest ≡ item_name items xs
item-beyond items = same-answer (item_name items) (λ x. bears (In items) x || bears BarsItems x)
    (λ x ys h. rw (
      or-left (bears (In items) (known_as x)) (bears BarsItems (known_as x)) h,
      or-right (bears (In items) (known_as x)) (bears BarsItems (known_as x)) h,
    ) refl)

pub open-beyond : (s : TagSet) (rest xs : List Open) → IsBeyond (λ x. bears (In s) x || bears (In s) x) rest xs
    → has_open s rest ≡ has_open s xs
open-beyond s = same-answer (has_open s) (λ x. bears (In s) x || bears (In s) x)
    (λ x ys h. rw (or-left (bears (In s) (known_as x)) (bears (In s) (known_as x)) h) refl)

pub body-beyond : (rest xs : List Open) → IsBeyond (λ x. bears BarsBodyEnd x || bears BarsBodyEnd x) rest xs
    → list_all (is_in set.BodyEnd) rest ≡ list_all (is_in set.BodyEnd) xs
body-beyond = same-answer (list_all (is_in set.BodyEnd)) (λ x. bears BarsBodyEnd x || bears BarsBodyEnd x)
    (λ x ys h. rw (not-false (is_in set.BodyEnd x) (or-left (bears BarsBodyEnd (known_as x)) (bears BarsBodyEnd (known_as x)) h)) refl)

mode-skips : (s : State) (x : Open) (ys : List Open) → asks_mode (known_as x) ≡ false → mode_of_open s (x ∷ ys) ≡ mode_of_open s ys
mode-skips s x ys none =
    let rest9 = or-left _ (is_in set.Frameset x) none in
    let rest8 = or-left _ (is_in set.Body x) rest9 in
    let rest7 = or-left _ (is_in set.Template x) rest8 in
    let rest6 = or-left _ (is_in set.Table x) rest7 in
    let rest5 = or-left _ (is_in set.Colgroup x) rest6 in
    let rest4 = or-left _ (is_in set.Caption x) rest5 in
    let rest3 = or-left _ (is_in set.TbodyTfootThead x) rest4 in
    let rest2 = or-left _ (is_in set.Tr x) rest3 in
    let rest1 = or-left _ (is_in set.Html x) rest2 in
    rw (
      or-left (is_in set.TdTh x) (is_in set.Head x) rest1,
      or-right _ (is_in set.Head x) rest1,
      or-right _ (is_in set.Html x) rest2,
      or-right _ (is_in set.Tr x) rest3,
      or-right _ (is_in set.TbodyTfootThead x) rest4,
      or-right _ (is_in set.Caption x) rest5,
      or-right _ (is_in set.Colgroup x) rest6,
      or-right _ (is_in set.Table x) rest7,
      or-right _ (is_in set.Template x) rest8,
      or-right _ (is_in set.Body x) rest9,
      or-right _ (is_in set.Frameset x) none,
    ) refl

pub mode-beyond : (s : State) (rest xs : List Open) → IsBeyond (λ x. bears AsksMode x || bears AsksMode x) rest xs
    → mode_of_open s rest ≡ mode_of_open s xs
mode-beyond s = same-answer (mode_of_open s) (λ x. bears AsksMode x || bears AsksMode x)
    (λ x ys h. mode-skips s x ys (or-left (bears AsksMode (known_as x)) (bears AsksMode (known_as x)) h))

-- elements come and leave

pub length-named : {H : Type 0} (items : List (OpenElement H)) → length (named items) ≡ length items
length-named items = rw length-map refl

-- the same notes, where elements are put after those that they are of
pub more-noted : {H : Type 0} (items front rest : List (OpenElement H)) (d : Depths) → items ≡ front ++ rest
    → IsNoted (named front) d → IsNoted (named items) d
more-noted items front rest d e is =
    let whole : named items ≡ named front ++ named rest = ap named e ∙ map-append (λ x. x.name) front rest in
    IsNoted-alike (named front) (named items) d (rw (whole, length-append) (omega (arith, is.within)))
    (λ i x less. rw whole (sym (get_or-append (named front) (named rest) x i (omega (arith, less, is.within))))) is

-- or where others leave
pub fewer-noted : {H : Type 0} (items front rest : List (OpenElement H)) (d : Depths) → items ≡ front ++ rest
    → length d.notes.items ≤ length front → IsNoted (named items) d → IsNoted (named front) d
fewer-noted items front rest d e within is =
    let whole : named items ≡ named front ++ named rest = ap named e ∙ map-append (λ x. x.name) front rest in
    let enough : length d.notes.items ≤ length (named front) = rw length-named within in
    IsNoted-alike (named items) (named front) d enough
    (λ i x less. rw whole (get_or-append (named front) (named rest) x i (omega (arith, less, enough)))) is

pub cut-noted : {H : Type 0} (items : List (OpenElement H)) (k : ℕ) (d : Depths) → length d.notes.items ≤ k
    → IsNoted (named items) d → IsNoted (named (take k items)) d
cut-noted items k d within is =
    fewer-noted items (take k items) (drop k items) d (sym (take-append-drop k items))
    (rw length-take (omega (arith, within, is.within, length-named items))) is

-- or where all change but those that were opened first
pub changed-noted : {H : Type 0} (old new : List (OpenElement H)) (k : ℕ) (d : Depths) → length d.notes.items ≤ k
    → take k new ≡ take k old → IsNoted (named old) d → IsNoted (named new) d
changed-noted old new k d within same is =
    more-noted new (take k new) (drop k new) d (sym (take-append-drop k new)) (rw same (cut-noted old k d within is))

pub turned-noted : {H : Type 0} (place : Option ℕ) (old new : List (OpenElement H)) (d : Depths)
    → IfSome place (λ k. length d.notes.items ≤ k) → MatchOption place (new ≡ old) (λ k. take k new ≡ take k old)
    → IsNoted (named old) d → IsNoted (named new) d
turned-noted None old new d within same is = rw same is
turned-noted (Some k) old new d within same is = changed-noted old new k d within same is

pub removed-noted : {H : Type 0} (items new : List (OpenElement H)) (i : ℕ) (d : Depths) → length d.notes.items ≤ i
    → new ≡ remove items i → IsNoted (named items) d → IsNoted (named new) d
removed-noted items new i d within e is = more-noted new (take i items) (drop (suc i) items) d e (cut-noted items i d within is)

pub front-kept : {X : Type 0} (old new rest : List X) (from : ℕ) → from ≤ length old → new ≡ take from old ++ rest
    → take from new ≡ take from old
front-kept old new rest from within e = rw e (take_at (take from old) rest from (length-take-le from old within))

pub front-cut : {X : Type 0} (old new : List X) (from : ℕ) → new ≡ take from old → take from new ≡ take from old
front-cut old new from e = rw e (take-take from from old (omega arith))
