-- Written values, as they are read.
use Rattle.std.proofs.Common.{◌≡◌, ℕ, Bool, true, false, nat_eq, List, [], ◌∷◌, ◌++◌, length, refl, arith}
use Rattle.std.specs.Prelude.{codes, cond}
use Rattle.std.proofs.lemmas.Bool.{and_parts, eqb-true, not-true}
use Rattle.std.proofs.lemmas.Bool.Decides.{nat_tests}
use Rattle.html_tokens.specs.Characters.{is_null}
use Rattle.html_tokens.specs.Laws.{is_not_null, has_no_null, ReadsEscapes}
use Rattle.html_tokens.specs.Table.{Row}
use Rattle.html_tokens.specs.Tags.{Value, value_from}
use Rattle.html_round_trip.proofs.Slices.References.{amp-faultless, lt-faultless, gt-faultless, quot-faultless, nbsp-faultless}
use Rattle.markup.specs.Escape.{escape_value, escaped, escaped_by}

-- a value as long as what is written of it
abbrev pub whole : List ℕ → List ℕ → Value
whole v w = record { chars = v; len = length w; is_odd = false }

quote-swap : (c : ℕ) (b : Bool) → nat_eq c 34 ≡ b → nat_eq 34 c ≡ b
quote-swap c true h = grind (arith, nat_tests)
quote-swap c false h = grind (arith, nat_tests)

module _ (rows : List Row) (reads : ReadsEscapes rows) where
  abbrev from : List ℕ → Value
  from t = value_from rows is_null (nat_eq 34) 0 t

  escaped-by : (c : ℕ) (v w u : List ℕ) (a b d e : Bool) → nat_eq c 38 ≡ a → nat_eq c 60 ≡ b → nat_eq c 62 ≡ d
      → nat_eq c 0xA0 ≡ e → nat_eq c 34 ≡ false → nat_eq c 0 ≡ false
      → from (w ++ 34 ∷ u) ≡ whole v w → from ((escaped_by a b d e c ++ w) ++ 34 ∷ u) ≡ whole (c ∷ v) (escaped_by a b d e c ++ w)
  unfolding value_from
  escaped-by c v w u true b d e ea eb ed ee q z h =
      let t = w ++ 34 ∷ u in
      rw (eqb-true c 38 ea, amp-faultless rows reads t, reads.amp true t, h) refl
  escaped-by c v w u false true d e ea eb ed ee q z h =
      let t = w ++ 34 ∷ u in
      rw (eqb-true c 60 eb, lt-faultless rows reads t, reads.lt true t, h) refl
  escaped-by c v w u false false true e ea eb ed ee q z h =
      let t = w ++ 34 ∷ u in
      rw (eqb-true c 62 ed, gt-faultless rows reads t, reads.gt true t, h) refl
  escaped-by c v w u false false false true ea eb ed ee q z h =
      let t = w ++ 34 ∷ u in
      rw (eqb-true c 0xA0 ee, nbsp-faultless rows reads t, reads.nbsp true t, h) refl
  escaped-by c v w u false false false false ea eb ed ee q z h =
      rw (quote-swap c false q, ea, z, h) refl

  one-by : (c : ℕ) (v w u : List ℕ) (q : Bool) → nat_eq c 34 ≡ q → nat_eq c 0 ≡ false
      → from (w ++ 34 ∷ u) ≡ whole v w → from ((cond q (codes "&quot;") (escaped c) ++ w) ++ 34 ∷ u) ≡ whole (c ∷ v)
      (cond q (codes "&quot;") (escaped c) ++ w)
  unfolding value_from
  one-by c v w u true q z h =
      let t = w ++ 34 ∷ u in
      rw (eqb-true c 34 q, quot-faultless rows reads t, reads.quot true t, h) refl
  one-by c v w u false q z h = escaped-by c v w u _ _ _ _ refl refl refl refl q z h

  -- a written value is read as the value, up to the quote after it
  pub value-whole : (v u : List ℕ) → has_no_null v ≡ true → from (escape_value v ++ 34 ∷ u) ≡ whole v (escape_value v)
  unfolding value_from
  value-whole [] u h = refl
  value-whole (c ∷ v) u h =
      let p = and_parts (is_not_null c) (has_no_null v) h in
      one-by c v (escape_value v) u _ refl (not-true _ p.0) (value-whole v u p.1)
