-- The longest name that a text begins with, one character more at a time.
use Rattle.std.proofs.Common.{◌≡◌, ◌∙◌, ℕ, ◌<◌, ◌≤◌, ◌+◌, ◌-◌, zero, suc, Bool, true, false, cond, List, [], ◌∷◌, ◌++◌, length}
use Rattle.std.proofs.Common.{get_or, take, drop, Option, Some, None, refl, sym, ap, subst, arith, ⊎_elim}
use Rattle.std.specs.Prelude.{nat_eq, nat_lt, nat_le, ◌&&◌, slice_get, IfSome, IfNone}
use Rattle.std.specs.Option.{option_and_then, option_or}
use Rattle.std.specs.List.{starts_with}
use Rattle.std.specs.Str.{bytes_eq}
use Rattle.std.specs.Cmp.Lexicographic.{pointwise}
use Rattle.std.proofs.lemmas.Bool.{and_parts, and_from, cases_lt, cond-true, cond-false, eqb-true, false_from_ne_true, le-leb}
use Rattle.std.proofs.lemmas.Bool.{lt-leb, lt-ltb, or_parts, true≢false}
use Rattle.std.proofs.lemmas.Bool.Decides.{nat_tests}
use Rattle.std.proofs.lemmas.List.{length-take-le, take_more, take-append-drop}
use Rattle.html_references.specs.References.{goes_on, goes_on_after, is_named, is_reference_name, longer_of, longest}
use Rattle.html_references.specs.Order.{IsOrder, name_at}
use Rattle.html_references.proofs.Begins.{fitting-is}
use Rattle.html_references.proofs.Matches.{same_place}
use Rattle.html_tokens.specs.declared.table.ReferenceRow.{ReferenceRow}

nat_eq-sym : (a b : ℕ) → nat_eq a b ≡ nat_eq b a
nat_eq-sym a b = grind (arith, nat_tests)

under_first : (b x y z : Bool) → (b && x) ≡ false → (x ≡ false → y ≡ z) → (b && y) ≡ (b && z)
under_first true x y z e h = h e
under_first false x y z e h = refl

shift : (a b : ℕ) → nat_lt (suc a) (suc b) ≡ nat_lt a b
shift a b = grind (arith, nat_tests)

and_assoc : (a b c : Bool) → ((a && b) && c) ≡ (a && (b && c))
and_assoc true b c = refl
and_assoc false b c = refl

-- a name that does not go on after what is held begins a longer text where it begins what is held
starts_with-cut : (held more name : List ℕ) → goes_on_after held name ≡ false → starts_with nat_eq
    (held ++ more) name ≡ starts_with nat_eq held name
starts_with-cut held more [] g = refl
starts_with-cut [] more (n ∷ ns) g = absurd (true≢false (sym (lt-ltb 0 (suc (length ns)) (omega arith)) ∙ g))
starts_with-cut (h ∷ hs) more (n ∷ ns) g =
    under_first (nat_eq n h) _ _ _
    (rw (nat_eq-sym n h, ← shift (length hs) (length ns)) (sym (and_assoc (nat_eq h n) (starts_with nat_eq ns hs) _) ∙ g))
    (starts_with-cut hs more ns)

-- nothing goes on after a text of no row more than it begins with
pub longest-cut : (rows : List ReferenceRow) (held more : List ℕ) → goes_on rows held ≡ false
    → longest rows (held ++ more) ≡ longest rows held
longest-cut [] held more g = refl
longest-cut (row ∷ rows) held more g =
    let p = or_parts (goes_on_after held row.name) (goes_on rows held) g in
    rw (fitting-is (held ++ more) row, fitting-is held row, starts_with-cut held more row.name p.0, longest-cut rows held more p.1) refl

starts_with-nil : (ns : List ℕ) → starts_with nat_eq [] ns ≡ pointwise nat_eq ns []
starts_with-nil [] = refl
starts_with-nil (n ∷ ns) = refl

-- a name that is not the text begins it only where it begins all but its last character
starts_with-step : (front : List ℕ) (c : ℕ) (name : List ℕ) → bytes_eq name (front ++ c ∷ []) ≡ false
    → starts_with nat_eq (front ++ c ∷ []) name ≡ starts_with nat_eq front name
starts_with-step front c [] e = refl
starts_with-step [] c (n ∷ ns) e = ap (λ b. nat_eq n c && b) (starts_with-nil ns) ∙ e
starts_with-step (f ∷ fs) c (n ∷ ns) e = under_first (nat_eq n f) _ _ _ e (starts_with-step fs c ns)

-- with a character more that ends no name, the longest name stays
pub longest-step : (rows : List ReferenceRow) (front : List ℕ) (c : ℕ) → is_named rows (front ++ c ∷ []) ≡ false
    → longest rows (front ++ c ∷ []) ≡ longest rows front
longest-step [] front c g = refl
longest-step (row ∷ rows) front c g =
    let p = or_parts (bytes_eq row.name (front ++ c ∷ [])) (is_named rows (front ++ c ∷ [])) g in
    rw (fitting-is (front ++ c ∷ []) row, fitting-is front row, starts_with-step front c row.name p.0, longest-step rows front c p.1) refl

-- a text begins with itself, and with nothing longer
starts_with-itself : (text : List ℕ) → starts_with nat_eq text text ≡ true
starts_with-itself [] = refl
starts_with-itself (c ∷ cs) = and_from (nat_eq c c) _ (grind (arith, nat_tests)) (starts_with-itself cs)

pub starts_with-length : (text name : List ℕ) → starts_with nat_eq text name ≡ true → length name ≤ length text
starts_with-length text [] s = omega arith
starts_with-length [] (n ∷ ns) s = cc
starts_with-length (c ∷ cs) (n ∷ ns) s = let l : length ns ≤ length cs = starts_with-length cs ns
    (and_parts (nat_eq n c) _ s).1 in omega arith

-- what begins a text and is as long is the text
whole : (text name : List ℕ) → starts_with nat_eq text name ≡ true → length text ≤ length name → name ≡ text
whole [] [] s l = refl
whole (c ∷ cs) [] s l = absurd (omega arith)
whole [] (n ∷ ns) s l = cc
whole (c ∷ cs) (n ∷ ns) s l =
    let p = and_parts (nat_eq n c) (starts_with nat_eq cs ns) s in
    rw (eqb-true n c p.0, whole cs ns p.1 (omega arith)) refl

-- the name in an option is no longer than a length
abbrev pub Within : ℕ → Option ReferenceRow → Type 0
Within n None = Unit {0}
Within n (Some row) = length row.name ≤ n

longer_of-within : (n : ℕ) (x y : Option ReferenceRow) → Within n x → Within n y → Within n (longer_of x y)
longer_of-within n None y a b = b
longer_of-within n (Some x) None a b = a
longer_of-within n (Some x) (Some y) a b = elim (nat_le (length y.name) (length x.name))
    as (λ v. Within n (cond v (Some x) (Some y))) [ true ↦ a | false ↦ b ]

row-within : (text : List ℕ) (row : ReferenceRow) (b : Bool) → starts_with nat_eq text row.name ≡ b
    → Within (length text) (cond b (Some row) None)
row-within text row true s = starts_with-length text row.name s
row-within text row false s = tt

-- the longest name that a text begins with is no longer than the text
pub longest-within : (rows : List ReferenceRow) (text : List ℕ) → Within (length text) (longest rows text)
longest-within [] text = tt
longest-within (row ∷ rows) text = rw (fitting-is text row)
    (longer_of-within (length text) _ (longest rows text) (row-within text row _ refl) (longest-within rows text))

longer_of-first : (row : ReferenceRow) (other : Option ReferenceRow) → Within (length row.name) other
    → longer_of (Some row) other ≡ Some row
longer_of-first row None w = refl
longer_of-first row (Some other) w = cond-true _ _ _ (le-leb _ _ w)

longer_of-second : (first : Option ReferenceRow) (row : ReferenceRow) (n : ℕ) → Within n first → n < length row.name
    → longer_of first (Some row) ≡ Some row
longer_of-second None row n w l = refl
longer_of-second (Some x) row n w l = cond-false _ _ _ (lt-leb (length row.name) (length x.name) (omega arith))

-- a row whose name isn't the text has a shorter one, where the text begins with it
row-shorter : (text : List ℕ) (row : ReferenceRow) (b : Bool) → (row.name ≡ text → ⊥) → 0 < length text
    → starts_with nat_eq text row.name ≡ b → Within (length text - 1) (cond b (Some row) None)
row-shorter text row true ne l s =
    ⊎_elim
    (λ (m : length row.name < length text). omega arith)
    (λ (m : length text ≤ length row.name). absurd (ne (whole text row.name s m)))
    (cases_lt (length row.name) (length text))
row-shorter text row false ne l s = tt

-- the row at a place, with the name at it
row_at : (rows : List ReferenceRow) (place : ℕ) → place < length rows → (row : ReferenceRow)
    × (slice_get rows place ≡ Some row) × (row.name ≡ name_at rows place)
row_at [] place l = absurd (omega arith)
row_at (row ∷ rows) zero l = (row, refl, refl)
row_at (row ∷ rows) (suc place) l = row_at rows place (omega arith)

-- where the text is a name, its row is the answer
pub longest-named : (rows : List ReferenceRow) (place : ℕ) (text : List ℕ) → place < length rows
    → name_at rows place ≡ text → 0 < length text → ((p : ℕ) → p < length rows → name_at rows p ≡ text → p ≡ place)
    → longest rows text ≡ slice_get rows place
longest-named [] place text l e z only = absurd (omega arith)
longest-named (row ∷ rows) zero text l e z only =
    rw (fitting-is text row, cond-true (starts_with nat_eq text row.name) (Some row) None (rw e (starts_with-itself text)))
    (longer_of-first row (longest rows text) (subst (λ n. Within n (longest rows text)) (ap length (sym e)) (longest-within rows text)))
longest-named (row ∷ rows) (suc place) text l e z only =
    let r = row_at rows place (omega arith) in
    let n : length r.0.name ≡ length text = ap length (r.2 ∙ e) in
    let shorter : Within (length text - 1) (cond (starts_with nat_eq text row.name) (Some row) None) =
    row-shorter text row _ (λ same. zero≢suc place (only 0 (omega arith) same)) z refl in
    rw (
      fitting-is text row,
      longest-named rows place text (omega arith) e z
          (λ p m same. let q : suc p ≡ suc place = only (suc p) (omega arith) same in omega arith),
      r.1,
    )
    (longer_of-second (cond (starts_with nat_eq text row.name) (Some row) None) r.0 (length text - 1) shorter (omega arith))
  where
    zero≢suc : (n : ℕ) → 0 ≡ suc n → ⊥
    zero≢suc n e = omega arith

-- no text begins with a name where it has no character
longest-nil : (rows : List ReferenceRow) → ((place : ℕ) → place < length rows → name_at rows place ≡ [] → ⊥) → longest rows [] ≡ None
longest-nil [] h = refl
longest-nil (row ∷ rows) h =
    rw (
      fitting-is [] row,
      cond-false (starts_with nat_eq [] row.name) (Some row) None
          (false_from_ne_true _ (λ s. h 0 (omega arith) (whole [] row.name s (omega arith)))),
    )
    (longest-nil rows (λ place l. h (suc place) (omega arith)))

no_empty_name : is_reference_name [] ≡ true → ⊥
no_empty_name h = true≢false (sym h)

-- every row has a good name
pub named_at : (rows : List ReferenceRow) (order : List ℕ) → IsOrder rows order → (place : ℕ) → place < length rows
    → is_reference_name (name_at rows place) ≡ true
named_at rows order o place l = let w = o.whole place l in rw w.2 at (o.ordered.named w.0 w.1)

pub longest-none : (rows : List ReferenceRow) (order : List ℕ) → IsOrder rows order → None ≡ longest rows []
longest-none rows order o =
    sym (longest-nil rows (λ place l e. no_empty_name (rw e at (named_at rows order o place l))))

-- where the whole text is a name, that is the longest
pub longest-whole : (rows : List ReferenceRow) (order text : List ℕ) (place : ℕ) → IsOrder rows order
    → place < length rows → name_at rows place ≡ text → slice_get rows place ≡ longest rows text
longest-whole rows order [] place o l e = absurd (no_empty_name (rw e at (named_at rows order o place l)))
longest-whole rows order (c ∷ cs) place o l e =
    sym (longest-named rows place (c ∷ cs) l e (omega arith) (λ p m same. same_place rows order o p place m l (same ∙ sym e)))

pub longest-found : (rows : List ReferenceRow) (order text : List ℕ) (found : Option ℕ) (place : ℕ)
    → IsOrder rows order → found ≡ Some place
    → IfSome found (λ place. (place < length rows) × (name_at rows place ≡ text)) → slice_get rows place ≡ longest rows text
longest-found rows order text None place o is f = absurd cc
longest-found rows order text (Some at) place o is f =
    let same : place ≡ at = cc in
    rw same (longest-whole rows order text at o f.0 f.1)

-- a turn of the search for the longest name: a name of one character more, or else the one so far
pub longest-more : (rows : List ReferenceRow) (order text : List ℕ) (end : ℕ) (found before : Option ℕ)
    → IsOrder rows order → end < length text
    → IfSome found (λ place. (place < length rows) × (name_at rows place ≡ take (end + 1) text))
    → IfNone found (is_named rows (take (end + 1) text) ≡ false) → option_and_then (slice_get rows) before ≡ longest
    rows (take end text) → option_and_then (slice_get rows) (option_or found before) ≡ longest rows (take (end + 1) text)
longest-more rows order text end None before o l f a h =
    let more = take_more text end 0 l in
    h ∙ sym (ap (longest rows) more ∙ longest-step rows (take end text) (get_or text end 0) (sym (ap (is_named rows) more) ∙ a))
longest-more rows order text end (Some place) before o l f a h =
    let n : length (take (end + 1) text) ≡ end + 1 = length-take-le (end + 1) text (omega arith) in
    sym (longest-named rows place (take (end + 1) text) f.0 f.1 (omega arith)
    (λ p m same. same_place rows order o p place m f.0 (same ∙ sym f.1)))

pub found-within : (rows : List ReferenceRow) (name : List ℕ) (found : Option ℕ)
    → IfSome found (λ place. (place < length rows) × (name_at rows place ≡ name)) → IfSome found (λ place. place < length rows)
found-within rows name None f = tt
found-within rows name (Some place) f = f.0

pub within-more : (n : ℕ) (found longest : Option ℕ) → IfSome found (λ place. place < n)
    → IfSome longest (λ place. place < n) → IfSome (option_or found longest) (λ place. place < n)
within-more n None longest f h = h
within-more n (Some place) longest f h = f

-- where no name goes on, the longest name stays
pub longest-all : (rows : List ReferenceRow) (text : List ℕ) (end : ℕ) → goes_on rows (take end text) ≡ false
    → longest rows (take end text) ≡ longest rows text
longest-all rows text end g =
    sym (ap (longest rows) (sym (take-append-drop end text)) ∙ longest-cut rows (take end text) (drop end text) g)

-- a row read at a place is the one there
pub slice_get-get_or : (rows : List ReferenceRow) (place : ℕ) (row : ReferenceRow) → place < length rows
    → row ≡ get_or rows place row → Some row ≡ slice_get rows place
slice_get-get_or [] place row l e = absurd (omega arith)
slice_get-get_or (r ∷ rows) zero row l e = ap (λ x. Some x) e
slice_get-get_or (r ∷ rows) (suc place) row l e = slice_get-get_or rows place row (omega arith) e
