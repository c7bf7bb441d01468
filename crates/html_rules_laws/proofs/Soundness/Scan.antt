-- What holds of each row that may take a token of a kind holds of the first that fits.
use Rattle.std.proofs.Common.{◌≡◌, ◌∙◌, Bool, true, false, List, [], ◌∷◌, refl, sym, true≢false}
use Rattle.std.specs.Prelude.{◌&&◌}
use Rattle.std.proofs.lemmas.Bool.{and_parts}
use Rattle.html_tokens.specs.declared.token.Token.{Token}
use Rattle.html_rules.specs.Choice.{choose}
use Rattle.html_rules.specs.Conditions.{holds}
use Rattle.html_rules.specs.Rules.{first_fit}
use Rattle.html_rules.specs.State.{State}
use Rattle.html_rules.specs.Table.{Row, row, AnythingElse, Nothing, Done}
use Rattle.html_rules.specs.Tokens.{class_fits}
use Rattle.html_rules_laws.specs.WholeTable.{is_always}
use Rattle.html_rules_laws.proofs.Termination.Kinds.{Kind, hit, hit-is, is_none, is_of, left, left-is, none-of}
use Rattle.html_rules_laws.proofs.Progress.TotalRows.{always_holds}

abbrev pub scan_row : (Kind → Row → Bool) → Kind → Row → Bool
scan_row ok kind r = choose (is_none (hit kind r.on)) (λ _. true) (λ _. ok (hit kind r.on) r)

abbrev pub scan : (Kind → Row → Bool) → Kind → List Row → Bool
scan ok kind [] = true
scan ok kind (r ∷ rs) =
    scan_row ok kind r
    && choose (is_always r.when)
    (λ _. choose (is_none (left kind r.on)) (λ _. true) (λ _. scan ok (left kind r.on) rs)) (λ _. scan ok kind rs)

module _ (ok : Kind → Row → Bool) (P : Row → Type 0) (t : Token) (s : State)
    (rows-hold : (kind : Kind) (r : Row) → ok kind r ≡ true → is_of kind t ≡ true → class_fits r.on t ≡ true
    → holds r.when t s ≡ true → P r) (none : P (row AnythingElse Nothing Done))
  where
    row-holds : (kind : Kind) (r : Row) → scan_row ok kind r ≡ true → is_of kind t ≡ true → class_fits r.on t ≡ true
        → holds r.when t s ≡ true → P r
    row-holds kind r h f k c = by (is_none (hit kind r.on)) refl h where
      by : (b : Bool) → is_none (hit kind r.on) ≡ b → choose b (λ _. true) (λ _. ok (hit kind r.on) r) ≡ true → P r
      by true n h = absurd (none-of (hit kind r.on) t n (hit-is kind r.on t f k))
      by false n h = rows-hold (hit kind r.on) r h (hit-is kind r.on t f k) k c

    pub scan-holds : (rs : List Row) (kind : Kind) → scan ok kind rs ≡ true → is_of kind t ≡ true → P (first_fit rs t s)
    scan-holds [] kind h f = none
    scan-holds (r ∷ rs) kind h f =
        let parts = and_parts (scan_row ok kind r) _ h in
        by (class_fits r.on t) (holds r.when t s) (is_always r.when) refl refl refl parts.0 parts.1 (scan-holds rs)
      where
        left-holds : class_fits r.on t ≡ false → (b : Bool) → is_none (left kind r.on) ≡ b → choose b (λ _. true)
            (λ _. scan ok (left kind r.on) rs) ≡ true
            → ((kind : Kind) → scan ok kind rs ≡ true → is_of kind t ≡ true → P (first_fit rs t s)) → P (first_fit rs t s)
        left-holds k true n h rest = absurd (none-of (left kind r.on) t n (left-is kind r.on t f k))
        left-holds k false n h rest = rest (left kind r.on) h (left-is kind r.on t f k)

        by : (a b c : Bool) → class_fits r.on t ≡ a → holds r.when t s ≡ b → is_always r.when ≡ c → scan_row ok kind r ≡ true
            → choose c (λ _. choose (is_none (left kind r.on)) (λ _. true) (λ _. scan ok (left kind r.on) rs)) (λ _. scan ok kind rs) ≡ true
            → ((kind : Kind) → scan ok kind rs ≡ true → is_of kind t ≡ true → P (first_fit rs t s))
            → P (choose (choose a (λ _. b) (λ _. false)) (λ _. r) (λ _. first_fit rs t s))
        by true true c ea eb ec own h rest = row-holds kind r own f ea eb
        by true false true ea eb ec own h rest = absurd (true≢false (sym (always_holds r.when t s ec) ∙ eb))
        by true false false ea eb ec own h rest = rest kind h f
        by false b true ea eb ec own h rest = left-holds ea (is_none (left kind r.on)) refl h rest
        by false b false ea eb ec own h rest = rest kind h f
