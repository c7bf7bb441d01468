-- Pieces that a policy keeps have tags that are kept.
use Rattle.std.proofs.Common.{◌≡◌, ℕ, ◌+◌, Bool, true, false, List, [], ◌∷◌, refl, sym}
use Rattle.std.proofs.lemmas.Bool.{and_parts}
use Rattle.std.specs.Prelude.{◌&&◌, ◌||◌, not, IfOk, Result, Ok, Err}
use Rattle.markup.specs.Trees.{Trees}
use Rattle.std.specs.List.{list_all}
use Rattle.html_tokens.specs.Reading.{line_breaks, line_number}
use Rattle.html_rules.specs.Sets.{is_among}
use Rattle.html_rules.specs.State.{State}
use Rattle.html_rules.specs.Step.{step}
use Rattle.html_rules_laws.specs.Usable.{Usable}
use Rattle.html_clean.specs.Cleaned.{are_kept_pieces, are_lawful_attributes, cleaned, is_kept_piece, pieces_of}
use Rattle.html_clean.specs.Names.{is_safe_name}
use Rattle.html_clean.specs.Pieces.{End, Piece, Start, Text, telling, token_of, written_piece}
use Rattle.html_clean.specs.Policies.{is_kept_name, is_ruled}
use Rattle.html_clean.specs.declared.policy.Policy.{Policy}
use Rattle.html_clean.proofs.Kept.{all-kept}
use Rattle.html_clean.proofs.Pieces.{pieces-kept}
use Rattle.html_origins.specs.Allowed.{IsStateAllowed}
use Rattle.html_origins.specs.KeptTokens.{KeepsHtmlOnly, IsKeptToken, renamed_tags, with_kept_origin}
use Rattle.html_origins.proofs.ManyTokens.{state, then}
use Rattle.html_origins.proofs.Rows.{among-all}
use Rattle.html_clean_tree.specs.Elements.{is_bare, is_kept_element}

-- `math`, `svg` and `image` are never kept
none-safe : list_all (λ name. not (is_safe_name name)) renamed_tags ≡ true
unfolding is_safe_name
none-safe = refl

clash : (b : Bool) → not b ≡ true → b ≡ true → true ≡ false
clash true h e = sym h
clash false h e = sym e

alone : (policy : Policy) → KeepsHtmlOnly (is_kept_element policy)
alone policy name attributes h = by (is_among name renamed_tags) refl where
  kept : is_kept_name policy name ≡ true
  kept = (and_parts (is_kept_name policy name) _ h).0

  safe : is_safe_name name ≡ true
  safe = (and_parts (is_safe_name name) (is_ruled policy.kept.items name) kept).0

  by : (b : Bool) → is_among name renamed_tags ≡ b → b ≡ false
  by false e = refl
  by true e = clash (is_safe_name name) (among-all (λ name. not (is_safe_name name)) name renamed_tags none-safe e) safe

with-true : (b : Bool) → b ≡ true → (b && true) ≡ true
with-true true h = refl
with-true false h = h

with-bare : (kept lawful bare : Bool) → (kept && lawful) ≡ true → (kept && (bare || lawful)) ≡ true
with-bare true lawful true h = refl
with-bare true lawful false h = h
with-bare false lawful bare h = h

told : (policy : Policy) (piece : Piece) → is_kept_piece policy piece ≡ true → IsKeptToken (is_kept_element policy) (token_of piece)
told policy (Start name attributes) h = with-bare (is_kept_name policy name) (are_lawful_attributes policy name attributes) (is_bare attributes) h
told policy (Text text) h = tt
told policy (End name) h = with-true (is_kept_name policy name) h

module _ (policy : Policy) (s : State) where
  abbrev IsGood : State → Type 0
  IsGood q = Usable q × IsStateAllowed (with_kept_origin (is_kept_element policy) s) q

  all : (pieces : List Piece) → are_kept_pieces policy pieces ≡ true → (breaks : ℕ) (q : State) → IsGood q
      → IfOk (telling step breaks q pieces) IsGood
  all [] h breaks q is = is
  all (piece ∷ rest) h breaks q is =
      let parts = and_parts (is_kept_piece policy piece) (are_kept_pieces policy rest) h in
      let behind : ℕ = breaks + line_breaks (written_piece piece) in
      then (is_kept_element policy) (alone policy) s q (token_of piece) (line_number behind) (λ q. telling step behind q rest) IsGood
      is.0 (told policy piece parts.0) is.1 (λ q usable k. all rest parts.1 behind q (usable, k))

  good : (trees : Trees) (breaks : ℕ) → Usable s → IfOk (telling step breaks s (pieces_of (cleaned policy trees))) IsGood
  good trees breaks usable =
      all (pieces_of (cleaned policy trees)) (pieces-kept policy (cleaned policy trees) (all-kept policy trees) [] refl) breaks s
      (usable, state (is_kept_element policy) (alone policy) s)

ok-map : {T E : Type 0} (P Q : T → Type 0) (r : Result T E) → ((x : T) → P x → Q x) → IfOk r P → IfOk r Q
ok-map P Q (Ok x) f h = f x h
ok-map P Q (Err e) f h = tt

pub pieces-usable : (policy : Policy) (trees : Trees) (breaks : ℕ) (s : State) → Usable s
    → IfOk (telling step breaks s (pieces_of (cleaned policy trees))) Usable
pieces-usable policy trees breaks s usable = ok-map (IsGood policy s) Usable _ (λ q h. h.0) (good policy s trees breaks usable)

pub pieces-origins : (policy : Policy) (trees : Trees) (breaks : ℕ) (s : State) → Usable s
    → IfOk (telling step breaks s (pieces_of (cleaned policy trees)))
    (λ after. IsStateAllowed (with_kept_origin (is_kept_element policy) s) after)
pieces-origins policy trees breaks s usable = ok-map (IsGood policy s) _ _ (λ q h. h.1) (good policy s trees breaks usable)
