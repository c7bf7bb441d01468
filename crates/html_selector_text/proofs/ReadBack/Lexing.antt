-- The tokens of what is left of a text, one by one.
use Rattle.std.proofs.Common.{◌≡◌, ◌∙◌, ℕ, zero, suc, ◌+◌, ◌-◌, ◌≤◌, false, ◌&&◌}
use Rattle.std.proofs.Common.{List, [], ◌∷◌, ◌++◌, length, refl, sym, ap, arith, append_assoc, length-append, inl, inr}
use Rattle.std.specs.Prelude.{◌==◌, slice_index}
use Rattle.std.proofs.lemmas.Bool.{cases_Bool, ne_eqb}
use Rattle.std.proofs.lemmas.List.{append-nil}
use Rattle.html_selector_text.specs.declared.tokens.Token.{Token}
use Rattle.html_selector_text.specs.declared.tokens.TokenKind.{TokenKind}
use Rattle.html_selector_text.specs.declared.tokens.TokenKind.TheVariants.{End}
use Rattle.html_selector_text.specs.declared.parts.Zone.{Zone}
use Rattle.html_selector_text.specs.declared.parts.Zone.TheVariants.{Compounds}
use Rattle.html_selector_text.specs.Parts.{zone_after, is_part, from_part, beyond_limit}
use Rattle.html_selector_text.specs.Scanning.{Read, read, token, placed, one_token, token_steps, tokens}
use Rattle.html_selector_text.proofs.ReadBack.Shorter.{token_takes, comment_left}

-- the tokens of what is left of a text of so many code points
pub tokens_of : ℕ → List ℕ → List Token
tokens_of total chars = token_steps (length chars) total [] chars ++ placed End total ∷ []

-- tokens so far stay in front
so_far_first : (n total : ℕ) (so_far : List Token) (chars : List ℕ)
    → token_steps n total so_far chars ≡ so_far ++ token_steps n total [] chars
so_far_first zero total so_far chars = sym (append-nil so_far)
so_far_first (suc n) total so_far chars = elim (cases_Bool (length chars == 0)) [
  | inl is ↦ rw is (sym (append-nil so_far))
  | inr some ↦
      let new = (one_token total chars).tokens in
      let rest = (one_token total chars).rest in
      rw some (so_far_first n total (so_far ++ new) rest
      ∙ (append_assoc so_far new (token_steps n total [] rest)
      ∙ ap (λ (x : List Token). so_far ++ x) (sym (so_far_first n total new rest))))
]

one_shorter : (total c : ℕ) (rest : List ℕ) → length (one_token total (c ∷ rest)).rest ≤ length rest
one_shorter total c rest = elim (cases_Bool ((c == 47) && (slice_index rest 0 == 42))) [
  | inl is ↦ rw is (comment_left rest)
  | inr is ↦ rw is (token_takes c rest)
]

-- as many steps as there are characters are enough
enough : (n m total : ℕ) (chars : List ℕ) → length chars ≤ n → length chars ≤ m
    → token_steps n total [] chars ≡ token_steps m total [] chars
enough zero zero total chars long also = refl
enough zero (suc m) total [] long also = refl
enough zero (suc m) total (c ∷ rest) long also = absurd (omega arith)
enough (suc n) zero total [] long also = refl
enough (suc n) zero total (c ∷ rest) long also = absurd (omega arith)
enough (suc n) (suc m) total [] long also = refl
enough (suc n) (suc m) total (c ∷ rest) long also =
    let new = (one_token total (c ∷ rest)).tokens in
    let left = (one_token total (c ∷ rest)).rest in
    let shorter : length left ≤ length rest = one_shorter total c rest in
    let some : (length (c ∷ rest) == 0) ≡ false = ne_eqb _ _ (omega arith) in
    rw some (so_far_first n total ([] ++ new) left
    ∙ (ap (λ (x : List Token). ([] ++ new) ++ x) (enough n m total left (omega arith) (omega arith))
    ∙ sym (so_far_first m total ([] ++ new) left)))

-- the token that stands first, where no comment does
pub token_first : (total c : ℕ) (chars rest : List ℕ) (kind : TokenKind) → (c == 47) ≡ false → token (c ∷ chars) ≡ read kind rest
    → tokens_of total (c ∷ chars) ≡ placed kind (total - length (c ∷ chars)) ∷ tokens_of total rest
unfolding tokens_of
token_first total c chars rest kind comment is =
    let shorter : length rest ≤ length chars = rw (ap (λ (r : Read). r.rest) is) at (token_takes c chars) in
    let some : (length (c ∷ chars) == 0) ≡ false = ne_eqb _ _ (omega arith) in
    rw (comment, is, some) (ap (λ (x : List Token). x ++ placed End total ∷ [])
    (so_far_first (length chars) total (placed kind (total - length (c ∷ chars)) ∷ []) rest
    ∙ ap (λ (x : List Token). placed kind (total - length (c ∷ chars)) ∷ x)
    (enough (length chars) (length rest) total rest shorter (omega arith))))

pub no_tokens : (total : ℕ) → tokens_of total [] ≡ placed End total ∷ []
unfolding tokens_of
no_tokens total = refl

pub all_tokens : (chars : List ℕ) → tokens chars ≡ tokens_of (length chars) chars
unfolding tokens tokens_of
all_tokens chars = refl

-- HOW MANY THERE ARE

one_at_most : (total c : ℕ) (rest : List ℕ) → length (one_token total (c ∷ rest)).tokens ≤ 1
one_at_most total c rest = elim (cases_Bool ((c == 47) && (slice_index rest 0 == 42))) [
  | inl is ↦ rw is (omega arith)
  | inr is ↦ rw is (omega arith)
]

steps_few : (n total : ℕ) (chars : List ℕ) → length (token_steps n total [] chars) ≤ length chars
steps_few zero total chars = omega arith
steps_few (suc n) total [] = omega arith
steps_few (suc n) total (c ∷ rest) =
    let new = (one_token total (c ∷ rest)).tokens in
    let left = (one_token total (c ∷ rest)).rest in
    let some : (length (c ∷ rest) == 0) ≡ false = ne_eqb _ _ (omega arith) in
    rw some (omega (
      arith,
      ap length (so_far_first n total ([] ++ new) left),
      length-append ([] ++ new) (token_steps n total [] left),
      steps_few n total left,
      one_at_most total c rest,
      one_shorter total c rest,
    ))

-- a text has at most as many tokens as characters, and the end
few_tokens : (chars : List ℕ) → length (tokens chars) ≤ length chars + 1
unfolding tokens
few_tokens chars = omega (
  arith,
  length-append (token_steps (length chars) (length chars) [] chars) (placed End (length chars) ∷ []),
  steps_few (length chars) (length chars) chars,
)

-- a list of few tokens has few parts
none_from : (n : ℕ) (zone : Zone) (ts : List Token) → length ts ≤ n → from_part n zone ts ≡ []
none_from n zone [] few = refl
none_from n zone (t ∷ ts) few = elim (cases_Bool (is_part zone t.kind ts)) [
  | inl is ↦
      let some : (n == 0) ≡ false = ne_eqb _ _ (omega arith) in
      rw (is, some) (none_from (n - 1) (zone_after zone (t ∷ ts)) ts (omega arith))
  | inr is ↦ rw is (none_from n (zone_after zone (t ∷ ts)) ts (omega arith))
]

pub short_text : (text : List ℕ) → length text ≤ 4095 → beyond_limit (tokens text) ≡ []
unfolding beyond_limit
short_text text short = none_from 4096 Compounds (tokens text) (omega (arith, few_tokens text))
