-- The walk of an end tag in foreign content.
use Rattle.std.proofs.Common.{◌≡◌, ◌∙◌, ℕ, suc, ◌<◌, ◌≤◌, Bool, true, false, List, [], ◌∷◌, length, take, get_or, sym, ap, refl, arith}
use Rattle.std.specs.Prelude.{◌||◌, ◌&&◌, min, not}
use Rattle.std.proofs.lemmas.List.{get_or-take, length-map, length-reverse, length-take, reverse-reverse, take-map, take-take}
use Rattle.std.proofs.Math.Seq.{take-length}
use Rattle.html_rules.specs.ForeignContent.{AsInMode, Closed, Dropped, foreign_end_from, is_html_element, is_named_any_case}
use Rattle.html_rules.specs.Names.{is_html}
use Rattle.html_rules.specs.State.{Open}
use Rattle.html_stack.specs.Noted.{NoneFrom, known_as, named, named_any_case}
use Rattle.html_stack.specs.ForeignEnds.{end_of, ends_at}
use Rattle.html_stack.specs.Stacks.{open_of, opens_of}
use Rattle.html_stack.specs.declared.foreign_end.ForeignEnd.{ForeignEnd as Found}
use Rattle.html_stack.specs.declared.foreign_end.ForeignEnd.TheVariants as found
use Rattle.html_stack.specs.declared.entries.OpenElement.{OpenElement}
use Rattle.html_stack.proofs.Newest.{or-left, or-right}
use Rattle.html_stack.proofs.Noted.{beyond, length-named, same-answer}
use Rattle.html_stack.proofs.WalksBack.{at}

-- the walk has come so far: what is left has the same end as the whole, however nodes are numbered
pub record IsEndWalked {H : Type 0} (name : List ℕ) (xs : List (OpenElement H)) (first : Bool) (i : ℕ) : Type 0 where
  pub within : i ≤ length xs
  pub same : (node : H → ℕ) → foreign_end_from true name (opens_of node xs) ≡ foreign_end_from first name (opens_of node (take i xs))

pub IsEndWalked-start : {H : Type 0} (name : List ℕ) (xs : List (OpenElement H)) → IsEndWalked name xs true (length xs)
IsEndWalked-start name xs = record { within = omega arith; same = λ node. rw (take-length xs) refl }

-- the root alone, or nothing
root-alone : (first : Bool) (name : List ℕ) (xs : List Open) → length xs ≤ 1 → foreign_end_from first name xs ≡ Dropped
root-alone first name [] l = refl
root-alone first name (x ∷ []) l = refl
root-alone first name (x ∷ y ∷ ys) l = absurd (omega arith)

-- none but the root is left
pub end-none : {H : Type 0} (name : List ℕ) (xs : List (OpenElement H)) (first : Bool) (i : ℕ)
    → IsEndWalked name xs first i → i ≤ 1 → (node : H → ℕ) → foreign_end_from true name (opens_of node xs) ≡ Dropped
end-none name xs first i is l node =
    let few : length (opens_of node (take i xs)) ≤ 1 = rw (length-reverse, length-map, length-take) (omega (arith, is.within)) in
    is.same node ∙ root-alone first name (opens_of node (take i xs)) few

some-left : {H : Type 0} (node : H → ℕ) (xs : List (OpenElement H)) (k : ℕ) → 0 < k → k ≤ length xs → 0 < length (opens_of node (take k xs))
some-left node xs k some within = rw (length-reverse, length-map, length-take) (omega (arith, some, within))

fails-on : (first : Bool) (name : List ℕ) (x : Open) (rest : List Open) → 0 < length rest
    → false ≡ (not first && is_html_element x) → false ≡ is_named_any_case name x → foreign_end_from first name
    (x ∷ rest) ≡ foreign_end_from false name rest
fails-on first name x [] some html named = absurd (omega (arith, some))
fails-on first name x (y ∷ ys) some html named = rw (← html, ← named) refl

-- one element further
pub end-step : {H : Type 0} (name : List ℕ) (xs : List (OpenElement H)) (first : Bool) (i k : ℕ) (x : OpenElement H)
    → IsEndWalked name xs first i → i ≡ suc k → 0 < k → x ≡ get_or xs k x
    → ((node : H → ℕ) → false ≡ (not first && is_html_element (open_of node x)))
    → ((node : H → ℕ) → false ≡ is_named_any_case name (open_of node x)) → IsEndWalked name xs false k
end-step name xs first i k x is e some here html named = record {
  within = omega (arith, is.within, e);
  same = λ node.
      is.same node
      ∙ ap (foreign_end_from first name) (at (open_of node) xs i k x e (omega (arith, is.within, e)) here)
      ∙ fails-on first name (open_of node x) (opens_of node (take k xs))
      (some-left node xs k some (omega (arith, is.within, e))) (html node) (named node);
}

skips : (name : List ℕ) (x : Open) (ys : List Open) → (is_html x.namespace || named_any_case name (known_as x)) ≡
    false → foreign_end_from false name (x ∷ ys) ≡ foreign_end_from false name ys
skips name x [] none = refl
skips name x (y ∷ ys) none = rw (
  or-left (is_html x.namespace) (named_any_case name (known_as x)) none,
  or-right (is_html x.namespace) (named_any_case name (known_as x)) none,
) refl

html-on : (first : Bool) (name : List ℕ) (x : Open) (rest : List Open) → 0 < length rest
    → true ≡ (not first && is_html_element x) → foreign_end_from first name (x ∷ rest) ≡ AsInMode
html-on first name x [] some html = absurd (omega (arith, some))
html-on first name x (y ∷ ys) some html = rw (← html) refl

named-on : (first : Bool) (name : List ℕ) (x : Open) (rest : List Open) → 0 < length rest
    → false ≡ (not first && is_html_element x) → true ≡ is_named_any_case name x → foreign_end_from first name (x ∷ rest) ≡ Closed rest
named-on first name x [] some html named = absurd (omega (arith, some))
named-on first name x (y ∷ ys) some html named = rw (← html, ← named) refl

-- the walk ends at an HTML element
pub end-html : {H : Type 0} (name : List ℕ) (xs : List (OpenElement H)) (first : Bool) (i k : ℕ) (x : OpenElement H)
    → IsEndWalked name xs first i → i ≡ suc k → 0 < k → x ≡ get_or xs k x
    → ((node : H → ℕ) → true ≡ (not first && is_html_element (open_of node x))) → (node : H → ℕ)
    → foreign_end_from true name (opens_of node xs) ≡ AsInMode
end-html name xs first i k x is e some here html node =
    is.same node
    ∙ ap (foreign_end_from first name) (at (open_of node) xs i k x e (omega (arith, is.within, e)) here)
    ∙ html-on first name (open_of node x) (opens_of node (take k xs)) (some-left node xs k some (omega (arith, is.within, e))) (html node)

-- or at one of the name
pub end-named : {H : Type 0} (name : List ℕ) (xs : List (OpenElement H)) (first : Bool) (i k : ℕ)
    (x : OpenElement H) → IsEndWalked name xs first i → i ≡ suc k → 0 < k → x ≡ get_or xs k x
    → ((node : H → ℕ) → false ≡ (not first && is_html_element (open_of node x)))
    → ((node : H → ℕ) → true ≡ is_named_any_case name (open_of node x)) → (node : H → ℕ)
    → foreign_end_from true name (opens_of node xs) ≡ Closed (opens_of node (take k xs))
end-named name xs first i k x is e some here html named node =
    is.same node
    ∙ ap (foreign_end_from first name) (at (open_of node) xs i k x e (omega (arith, is.within, e)) here)
    ∙ named-on first name (open_of node x) (opens_of node (take k xs))
    (some-left node xs k some (omega (arith, is.within, e))) (html node) (named node)

-- those beyond a place are passed over, where none of them has the name or is HTML's
pub end-skip : {H : Type 0} (name : List ℕ) (xs : List (OpenElement H)) (k reach m : ℕ)
    → IsEndWalked name xs false k → m ≡ min k reach → NoneFrom (λ x. is_html x.namespace || named_any_case name x)
    (named xs) reach → IsEndWalked name xs false m
end-skip name xs k reach m is e none =
    let below : m ≤ k = rw e (omega arith) in
    let none-part : NoneFrom (λ x. is_html x.namespace || named_any_case name x) (named (take k xs)) m = λ j x above less.
    let inside : j < k = omega (arith, less, length-named (take k xs), length-take k xs) in
    let all : j < length (named xs) = omega (arith, less, length-named (take k xs), length-take k xs, length-named xs) in
    let same : get_or (named (take k xs)) j x ≡ get_or (named xs) j x = rw (← take-map) (get_or-take k (named xs) j x inside) in
    rw same (none j x (omega (arith, e, above, inside)) all) in
    record {
      within = omega (arith, is.within, below);
      same = λ node.
          is.same node
          ∙ sym (same-answer (foreign_end_from false name) (λ x. is_html x.namespace || named_any_case name x)
          (skips name) (opens_of node (take m (take k xs))) (opens_of node (take k xs))
          (beyond node (λ x. is_html x.namespace || named_any_case name x) (take k xs) m none-part))
          ∙ ap (λ ys. foreign_end_from false name (opens_of node ys)) (take-take m k xs below);
    }

-- an end, by elements as they lie and by open elements
pub ends-same : {H : Type 0} (node : H → ℕ) (items : List (OpenElement H)) (end : Found)
    → end_of node items end ≡ ends_at (opens_of node items) end
ends-same node items found.Dropped = refl
ends-same node items found.AsInMode = refl
ends-same node items (found.Closed count) = rw (reverse-reverse, take-map) refl
