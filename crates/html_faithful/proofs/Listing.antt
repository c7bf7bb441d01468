-- Where the list is that of the path, nothing is opened again, and an end tag of the current node only closes it.
use Rattle.std.proofs.Common.{◌≡◌, ◌∙◌, ℕ, Bool, true, false, List, [], ◌∷◌, refl, sym, ap, ap₂, arith, subst, true≢false}
use Rattle.std.proofs.lemmas.Bool.Decides.{nat_tests}
use Rattle.std.specs.Prelude.{Some, codes, is_some, suc}
use Rattle.std.specs.Prelude.{◌&&◌, ◌||◌, nat_eq, nat_le}
use Rattle.std.specs.Str.{bytes_eq}
use Rattle.html_tokens.specs.declared.tags.Tag.{Tag}
use Rattle.std.proofs.lemmas.Bool.{and_parts}
use Rattle.markup.specs.Equality.{texts_by_value}
use Rattle.markup.specs.Attributes.{have_same_counts}
use Rattle.std.specs.Prelude.{length}
use Rattle.html_rules.specs.Formatting.{last_named, same_kind}
use Rattle.html_rules.specs.Adoption.{adoption_agency, adoption_turn, adoption_turns}
use Rattle.html_rules.specs.Choice.{choose}
use Rattle.html_rules.specs.Formatting.{after_marker, count_equal, is_equiv_modulo_attr_order, is_listed, with_room, without_earliest}
use Rattle.html_rules.specs.Formatting.{without_entry}
use Rattle.html_rules.specs.Names.{Html, MathMl, Namespace, Other, Svg}
use Rattle.html_rules.specs.Sets.{is_among, mathml_names_of, names_in, names_of, svg_names_of}
use Rattle.html_rules.specs.Stack.{is_open, pop, without_current}
use Rattle.html_rules.specs.State.{Element, Entry, Marker, Open, State, current_is, current_number, is_in, is_named, named_in}
use Rattle.html_rules.specs.declared.tag_set.TagSet.TheVariants as set
use Rattle.html_faithful.specs.Listing.{AreApart, Bare, Empty, Listed, Lists, ListsLinks, Marked, link_open}
use Rattle.html_faithful.specs.Spots.{is_marked}
use Rattle.html_faithful.specs.Steps.{Adopts, is_settled}

same : (n : ℕ) → nat_eq n n ≡ true
same n = grind (arith, nat_tests)

or-second : (a b : Bool) → b ≡ true → (a || b) ≡ true
or-second true b h = refl
or-second false b h = h

or-nothing : (b : Bool) → (b || false) ≡ b
or-nothing true = refl
or-nothing false = refl

or-no : (a b : Bool) → (a || b) ≡ false → (a || false) ≡ false
or-no true b h = h
or-no false b h = refl

-- a formatting element is a link by its name, and no other element is one
pub formatting-link : (namespace : Namespace) (name : List ℕ) → is_among name (names_in namespace set.FormattingEnd) ≡ true
    → is_among name (names_in namespace set.A) ≡ bytes_eq name (codes "a")
unfolding names_of mathml_names_of svg_names_of
formatting-link Html name h = or-nothing (bytes_eq name (codes "a"))
formatting-link MathMl name h = absurd (true≢false (sym h))
formatting-link Svg name h = absurd (true≢false (sym h))
formatting-link (Other uri) name h = absurd (true≢false (sym h))

pub no-link : (namespace : Namespace) (name : List ℕ) → is_among name (names_in namespace set.FormattingEnd) ≡ false
    → is_among name (names_in namespace set.A) ≡ false
unfolding names_of mathml_names_of svg_names_of
no-link Html name h = or-no (bytes_eq name (codes "a")) _ h
no-link MathMl name h = refl
no-link Svg name h = refl
no-link (Other uri) name h = refl

settled-more : (x : Open) (xs : List Open) (es : List Entry) → is_settled xs es ≡ true → is_settled (x ∷ xs) es ≡ true
settled-more x xs [] h = refl
settled-more x xs (Marker ∷ es) h = refl
settled-more x xs (Element n tag ∷ es) h = or-second (nat_eq x.number n) (is_open n xs) h

or-no₁ : (a b : Bool) → (a || b) ≡ false → a ≡ false
or-no₁ true b h = h
or-no₁ false b h = refl

or-no₂ : (a b : Bool) → (a || b) ≡ false → b ≡ false
or-no₂ true b h = absurd (true≢false h)
or-no₂ false b h = h

is-link : (x : Open) (tag : Tag) → tag.name ≡ x.name → is_in set.FormattingEnd x ≡ true → is_in set.A x ≡ bytes_eq tag.name (codes "a")
is-link x tag e f = formatting-link x.namespace x.name f ∙ ap (λ n. bytes_eq n (codes "a")) (sym e)

pub settled : {xs : List Open} {es : List Entry} → Lists xs es → is_settled xs es ≡ true
settled Empty = refl
settled (Bare {x = x} {xs = xs} {es = es} m k l) = settled-more x xs es (settled l)
settled (Listed {x = x} m e a l) = rw (same x.number) refl
settled (Marked m l) = refl

-- only open elements are listed
only-open : (n : ℕ) {xs : List Open} {es : List Entry} → Lists xs es → is_open n xs ≡ false → is_listed n es ≡ false
only-open n Empty h = refl
only-open n (Bare {x = x} {xs = xs} m k l) h = only-open n l (or-no₂ (nat_eq x.number n) (is_open n xs) h)
only-open n (Listed {x = x} {xs = xs} m e a l) h =
    rw (or-no₁ (nat_eq x.number n) (is_open n xs) h) (only-open n l (or-no₂ (nat_eq x.number n) (is_open n xs) h))
only-open n (Marked {x = x} {xs = xs} m l) h = only-open n l (or-no₂ (nat_eq x.number n) (is_open n xs) h)

unlisted-stays : (n : ℕ) (es : List Entry) → is_listed n es ≡ false → without_entry n es ≡ es
unlisted-stays n [] h = refl
unlisted-stays n (Marker ∷ es) h = ap (λ es. Marker ∷ es) (unlisted-stays n es h)
unlisted-stays n (Element m tag ∷ es) h =
    rw (or-no₁ (nat_eq m n) (is_listed n es) h)
    (ap (λ es. Element m tag ∷ es) (unlisted-stays n es (or-no₂ (nat_eq m n) (is_listed n es) h)))

named-so : (ns : Namespace) (a b : List ℕ) → named_in ns a b ≡ true → bytes_eq a b ≡ true
named-so Html a b h = h
named-so ns a b h = absurd (true≢false (sym h))

-- the current node is listed first, or not at all
data First : Open → List Entry → Type 0 where
  IsFirst : {x : Open} {tag : Tag} {es : List Entry} → tag.name ≡ x.name → First x (Element x.number tag ∷ es)
  IsNot : {x : Open} {es : List Entry} → is_listed x.number es ≡ false → First x es

first : {x : Open} {xs : List Open} {es : List Entry} → Lists (x ∷ xs) es → is_open x.number xs ≡ false → First x es
first (Bare {x = x} m k l) apart = IsNot (only-open x.number l apart)
first (Listed m e a l) apart = IsFirst e
first (Marked {x = x} m l) apart = IsNot (only-open x.number l apart)

adopts-at : (name : List ℕ) (s : State) (xs : List Open) {x : Open} {es : List Entry} → First x es → s.open_elems ≡ x ∷ xs
    → s.active_formatting ≡ es → is_named name x ≡ true
    → adoption_agency name s ≡ record s { open_elems = xs; active_formatting = without_entry x.number es }
unfolding adoption_agency adoption_turns adoption_turn pop
adopts-at name s xs (IsFirst {x = x} {tag = tag} {es = es} same_name) e f named =
    let by_name : bytes_eq tag.name name ≡ true = ap (λ n. bytes_eq n name) same_name ∙ named-so x.namespace x.name name named in
    rw (e, f, named, same x.number, by_name, same x.number, same x.number) refl
adopts-at name s xs (IsNot {x = x} {es = es} none) e f named = rw (e, f, named, none, unlisted-stays x.number es none) refl

module _ (before : State) where
  at-stack : (xs : List Open) (es : List Entry) → Lists xs es → AreApart xs → (name : List ℕ) (s : State)
      → current_is (is_named name) xs ≡ true → s.open_elems ≡ xs → s.active_formatting ≡ es
      → adoption_agency name s ≡ record s { open_elems = without_current xs; active_formatting = without_entry (current_number xs) es }
  at-stack [] es l apart name s current e f = absurd (true≢false (sym current))
  at-stack (x ∷ xs) es l apart name s current e f = adopts-at name s xs (first l apart.0) e f current

  pub adopts : Lists before.open_elems before.active_formatting → AreApart before.open_elems → Adopts before
  adopts l apart name s current e f =
      at-stack before.open_elems before.active_formatting l apart name s (ap (current_is (is_named name)) (sym e) ∙ current) e f
      ∙ ap₂ (λ xs es. record s { open_elems = without_current xs; active_formatting = without_entry (current_number xs) es }) (sym e)
      (sym f)

-- WHERE ELEMENTS ARE OPENED AND CLOSED

one-of : (b : Bool) {xs : List Open} {es fs : List Entry} → (b ≡ true → Lists xs es) → (b ≡ false → Lists xs fs)
    → Lists xs (choose b (λ _. es) (λ _. fs))
one-of true l k = l refl
one-of false l k = k refl

linked : (b : Bool) (x : Open) (tag : Tag) (xs : List Open) (es : List Entry) → ListsLinks xs es
    → is_some (choose b (λ _. Some (record { number = x.number; tag = tag })) (λ _. last_named (codes "a") es))
    ≡ choose b (λ _. true) (λ _. link_open xs)
linked true x tag xs es h = refl
linked false x tag xs es h = h

skipped : (q b : Bool) (n : ℕ) (tag other : Tag) (es : List Entry) → (q ≡ true → b ≡ true)
    → is_some (choose b (λ _. Some (record { number = n; tag = other })) (λ _. last_named (codes "a") es)) ≡ false
    → (is_some (last_named (codes "a") es) ≡ false → count_equal tag es ≡ 0)
    → choose q (λ _. suc (count_equal tag es)) (λ _. count_equal tag es) ≡ 0
skipped q true n tag other es e h rest = absurd (true≢false h)
skipped true false n tag other es e h rest = absurd (true≢false (sym (e refl)))
skipped false false n tag other es e h rest = rest h

pub links : {xs : List Open} {es : List Entry} → Lists xs es → ListsLinks xs es
links Empty = refl
links (Bare m k l) = rw (m, k) (links l)
links (Listed {x = x} {tag = tag} {xs = xs} {es = es} m e a l) = rw (m, is-link x tag e a)
    (linked (bytes_eq tag.name (codes "a")) x tag xs es (links l))
links (Marked m l) = rw m refl

-- equal tags have equal names
same-names : (tag other : Tag) → is_equiv_modulo_attr_order tag other ≡ true → tag.name ≡ other.name
same-names tag other h =
    let kinds = same_kind tag.kind other.kind in
    let alike = bytes_eq tag.name other.name in
    let lengths = nat_eq (length tag.attrs) (length other.attrs) in
    let counts = have_same_counts tag.attrs other.attrs in
    (texts_by_value tag.name other.name).0 (and_parts kinds alike (and_parts (kinds && alike) lengths
    (and_parts ((kinds && alike) && lengths) counts h).0).0).1

earliest : (tag : Tag) → bytes_eq tag.name (codes "a") ≡ false → {xs : List Open} {es : List Entry} → Lists xs es
    → Lists xs (without_earliest tag es)
earliest tag plain Empty = Empty
earliest tag plain (Bare m k l) = Bare m k (earliest tag plain l)
earliest tag plain (Listed {x = x} {tag = other} {xs = xs} {es = es} m e a l) =
    one-of (is_equiv_modulo_attr_order tag other && nat_eq (count_equal tag es) 0)
    (λ b. Bare m (is-link x other e a ∙ (ap (λ n. bytes_eq n (codes "a")) (sym (same-names tag other
    (and_parts (is_equiv_modulo_attr_order tag other) (nat_eq (count_equal tag es) 0) b).0)) ∙ plain)) l)
    (λ b. Listed m e a (earliest tag plain l))
earliest tag plain (Marked m l) = Marked m l

-- of no listed `a` none is equal
none-equal : (tag : Tag) → bytes_eq tag.name (codes "a") ≡ true → (es : List Entry) → is_some (last_named (codes "a") es) ≡ false
    → count_equal tag es ≡ 0
none-equal tag named [] h = refl
none-equal tag named (Marker ∷ es) h = refl
none-equal tag named (Element n other ∷ es) h =
    skipped (is_equiv_modulo_attr_order tag other) (bytes_eq other.name (codes "a")) n tag other es
    (λ q. ap (λ n. bytes_eq n (codes "a")) (sym (same-names tag other q)) ∙ named) h (λ g. none-equal tag named es g)

by-name : (b : Bool) (tag : Tag) → bytes_eq tag.name (codes "a") ≡ b → {xs : List Open} {es : List Entry}
    → (b ≡ true → link_open xs ≡ false) → Lists xs es → Lists xs (with_room tag es)
by-name false tag e {xs = xs} {es = es} first_one l = one-of (nat_le 3 (count_equal tag es)) (λ b. earliest tag e l) (λ b. l)
by-name true tag e {xs = xs} {es = es} first_one l = rw (none-equal tag e es (links l ∙ first_one refl)) l

pub room : (tag : Tag) {xs : List Open} {es : List Entry} → (bytes_eq tag.name (codes "a") ≡ true → link_open xs ≡ false) → Lists xs es
    → Lists xs (with_room tag es)
room tag first_one l = by-name (bytes_eq tag.name (codes "a")) tag refl first_one l

pub entry-left : {x : Open} {xs : List Open} {es : List Entry} → Lists (x ∷ xs) es → is_open x.number xs ≡ false → is_marked x ≡ false
    → Lists xs (without_entry x.number es)
entry-left (Bare {x = x} {xs = xs} {es = es} m k l) apart plain =
    subst (Lists xs) (sym (unlisted-stays x.number es (only-open x.number l apart))) l
entry-left (Listed {x = x} m e a l) apart plain = rw (same x.number) l
entry-left (Marked m l) apart plain = absurd (true≢false (sym m ∙ plain))

pub marker-left : {x : Open} {xs : List Open} {es : List Entry} → Lists (x ∷ xs) es → is_marked x ≡ true → Lists xs (after_marker es)
marker-left (Bare m k l) marked = absurd (true≢false (sym marked ∙ m))
marker-left (Listed m e a l) marked = absurd (true≢false (sym marked ∙ m))
marker-left (Marked m l) marked = l

pub other-left : {x : Open} {xs : List Open} {es : List Entry} → Lists (x ∷ xs) es → is_marked x ≡ false → is_in set.FormattingEnd x ≡ false
    → Lists xs es
other-left (Bare m k l) plain none = l
other-left (Listed m e f l) plain none = absurd (true≢false (sym f ∙ none))
other-left (Marked m l) plain none = absurd (true≢false (sym m ∙ plain))

pub listed-more : (x : Open) (tag : Tag) (xs : List Open) (es : List Entry) → is_marked x ≡ false → tag.name ≡ x.name
    → is_in set.FormattingEnd x ≡ true → (is_in set.A x ≡ true → link_open xs ≡ false) → Lists xs es
    → Lists (x ∷ xs) (Element x.number tag ∷ with_room tag es)
listed-more x tag xs es plain e f first_one l = Listed plain e f (room tag (λ h. first_one (is-link x tag e f ∙ h)) l)
