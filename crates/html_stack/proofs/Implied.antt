-- Elements whose end tags are implied, one by one.
use Rattle.std.proofs.Common.{◌≡◌, ℕ, ◌<◌, Bool, true, false, List, [], ◌∷◌, length, refl, arith}
use Rattle.std.specs.Prelude.{not, ◌&&◌, ◌||◌}
use Rattle.html_rules.specs.Stack.{expect_to_close, generate_implied_end_except, pop_until, process_end_tag_in_body, without_current}
use Rattle.html_rules.specs.State.{Open, State, current_is, is_in, is_named}
use Rattle.html_rules.specs.declared.tag_set.TagSet.TheVariants.{CursoryImpliedEnd}

goes : (a b : Bool) → (a && not b) ≡ true → (not a || b) ≡ false
goes true true h = absurd cc
goes true false h = refl
goes false b h = absurd cc

stays : (a b : Bool) → (a && not b) ≡ false → (not a || b) ≡ true
stays true true h = refl
stays true false h = absurd cc
stays false b h = refl

-- the current node ends
generic-first : (name : List ℕ) (s : State) (x : Open) (xs : List Open) → is_named name x ≡ true
    → record s { open_elems = xs } ≡ process_end_tag_in_body name (record s { open_elems = x ∷ xs })
unfolding process_end_tag_in_body generate_implied_end_except expect_to_close pop_until
generic-first name s x xs is = rw (is, or-true (not (is_in CursoryImpliedEnd x)), is) refl where
  or-true : (b : Bool) → (b || true) ≡ true
  or-true true = refl
  or-true false = refl

pub generic-current : (name : List ℕ) (s : State) → current_is (is_named name) s.open_elems ≡ true
    → record s { open_elems = without_current s.open_elems } ≡ process_end_tag_in_body name s
generic-current name s is = by s.open_elems is where
  by : (xs : List Open) → current_is (is_named name) xs ≡ true
      → record s { open_elems = without_current xs } ≡ process_end_tag_in_body name (record s { open_elems = xs })
  by [] is = absurd cc
  by (x ∷ xs) is = generic-first name s x xs is

pub fewer : (p : Open → Bool) (xs : List Open) → current_is p xs ≡ true → length (without_current xs) < length xs
fewer p [] h = absurd cc
fewer p (x ∷ xs) h = omega arith
