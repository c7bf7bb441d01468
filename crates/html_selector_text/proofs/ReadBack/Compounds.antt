-- What stands in a compound selector before its tests is read back.
use Rattle.std.proofs.Common.{◌≡◌, ◌∙◌, ℕ, suc, ◌+◌, ◌-◌, ◌<◌, ◌≤◌, Bool, true, false, not, ◌||◌, Ok}
use Rattle.std.proofs.Common.{List, [], ◌∷◌, ◌++◌, length, refl, sym, ap, subst, arith, append_assoc, inl, inr}
use Rattle.std.specs.Prelude.{◌==◌, ◌⊎◌, slice_index}
use Rattle.std.specs.Char.{is_ascii_digit}
use Rattle.std.proofs.lemmas.Bool.Decides.{nat_tests}
use Rattle.std.proofs.lemmas.Bool.{cases_Bool, or_cases, eqb-true, false≢true}
use Rattle.std.proofs.lemmas.List.{append-nil}
use Rattle.markup.specs.declared.namespaces.KnownNamespace.{KnownNamespace}
use Rattle.selectors.specs.declared.selector.Simple.{Simple}
use Rattle.selectors.specs.declared.selector.Simple.TheVariants.{«Type», Namespace, Id, Class, Attribute, Root, Scope, Empty, NthChild}
use Rattle.selectors.specs.declared.selector.Simple.TheVariants.{NthOfType}
use Rattle.html_selector_text.specs.declared.tokens.Token.{Token}
use Rattle.html_selector_text.specs.declared.tokens.TokenKind.{TokenKind}
use Rattle.html_selector_text.specs.declared.tokens.TokenKind.TheVariants.{Ident, Function, AtKeyword, Hash, Str, BadStr, Url, BadUrl}
use Rattle.html_selector_text.specs.declared.tokens.TokenKind.TheVariants.{Number, Percentage, Dimension, Space, Cdo, Cdc, Delim, End}
use Rattle.html_selector_text.specs.Characters.{is_in_name, at_escape, at_name, at_number}
use Rattle.html_selector_text.specs.Scanning.{placed, numeric, number, name, token}
use Rattle.html_selector_text.specs.Simples.{at_bar, prefix, type_selector}
use Rattle.html_selector_text.specs.Grammar.{Inner, no_parts, with_simple, turn, parts}
use Rattle.html_selector_text.specs.Trees.{CompoundTree}
use Rattle.html_selector_text.specs.Written.{identifier, prefix_text, simple_text, one_text, simples_text, is_first, attribute_text}
use Rattle.html_selector_text.specs.Readable.{IsName, IsPart, AreParts, AreNamed, AreSimples}
use Rattle.html_selector_text.proofs.ReadBack.Lexing.{tokens_of, token_first, no_tokens}
use Rattle.html_selector_text.proofs.ReadBack.Words.{ident_token}
use Rattle.html_selector_text.proofs.ReadBack.Parts.{follows_at, follows, follows_ends, IsRead, star_token}
use Rattle.html_selector_text.proofs.ReadBack.Attributes.{known_read}
use Rattle.html_selector_text.proofs.ReadBack.Classes.{part_read, part_text}

-- WHAT FOLLOWS

-- kinds of tokens that begin no type selector
abbrev starts_no_type : TokenKind → Bool
starts_no_type (Ident name) = false
starts_no_type (Delim c) = not ((c == 124) || (c == 42))
starts_no_type _ = true

no_type_numeric : (chars : List ℕ) → starts_no_type (numeric chars).kind ≡ true
unfolding numeric
no_type_numeric chars = elim (cases_Bool (at_name (number chars).rest)) [
  | inl is ↦ rw is refl
  | inr other ↦ elim (cases_Bool (slice_index (number chars).rest 0 == 37)) [
    | inl is ↦ rw (other, is) refl
    | inr is ↦ rw (other, is) refl
  ]
]

no_type_dot : (rest : List ℕ) → starts_no_type (token (46 ∷ rest)).kind ≡ true
unfolding token at_number at_name
no_type_dot rest = elim (cases_Bool (is_ascii_digit (slice_index rest 0))) [
  | inl is ↦ rw is (no_type_numeric (46 ∷ rest))
  | inr is ↦ rw is refl
]

no_type_hash : (rest : List ℕ) → starts_no_type (token (35 ∷ rest)).kind ≡ true
unfolding token at_number at_name
no_type_hash rest = elim (cases_Bool (is_in_name (slice_index rest 0) || at_escape rest)) [
  | inl is ↦ rw is refl
  | inr is ↦ rw is refl
]

-- the kinds of the first tokens that may follow
no_type_at : (c : ℕ) (rest : List ℕ) → follows_at c ≡ true → starts_no_type (token (c ∷ rest)).kind ≡ true
unfolding token at_number at_name
no_type_at c rest h = elim (or_cases _ _ h) [
  | inl h ↦ elim (or_cases _ _ h) [
    | inl h ↦ elim (or_cases _ _ h) [
      | inl is ↦ subst (λ (x : ℕ). starts_no_type (token (x ∷ rest)).kind ≡ true) (sym (eqb-true c 32 is)) refl
      | inr is ↦ subst (λ (x : ℕ). starts_no_type (token (x ∷ rest)).kind ≡ true) (sym (eqb-true c 35 is)) (no_type_hash rest)
    ]
    | inr h ↦ elim (or_cases _ _ h) [
      | inl is ↦ subst (λ (x : ℕ). starts_no_type (token (x ∷ rest)).kind ≡ true) (sym (eqb-true c 41 is)) refl
      | inr is ↦ subst (λ (x : ℕ). starts_no_type (token (x ∷ rest)).kind ≡ true) (sym (eqb-true c 44 is)) refl
    ]
  ]
  | inr h ↦ elim (or_cases _ _ h) [
    | inl is ↦ subst (λ (x : ℕ). starts_no_type (token (x ∷ rest)).kind ≡ true) (sym (eqb-true c 46 is)) (no_type_dot rest)
    | inr h ↦ elim (or_cases _ _ h) [
      | inl is ↦ subst (λ (x : ℕ). starts_no_type (token (x ∷ rest)).kind ≡ true) (sym (eqb-true c 58 is)) refl
      | inr is ↦ subst (λ (x : ℕ). starts_no_type (token (x ∷ rest)).kind ≡ true) (sym (eqb-true c 91 is)) refl
    ]
  ]
]

no_slash : (c : ℕ) → follows_at c ≡ true → (c == 47) ≡ false
no_slash c h = grind (arith, nat_tests)

delim_no_bar : (c : ℕ) → not ((c == 124) || (c == 42)) ≡ true → (c == 124) ≡ false
delim_no_bar c h = grind (arith, nat_tests)

delim_no_star : (c : ℕ) → not ((c == 124) || (c == 42)) ≡ true → (c == 42) ≡ false
delim_no_star c h = grind (arith, nat_tests)

no_bar_of : (kind : TokenKind) (at : ℕ) (ts : List Token) → starts_no_type kind ≡ true → at_bar (placed kind at ∷ ts) ≡ false
no_bar_of (Ident name) at ts h = absurd (false≢true h)
no_bar_of (Delim c) at ts h = rw (delim_no_bar c h) refl
no_bar_of (Function name) at ts h = refl
no_bar_of (AtKeyword name) at ts h = refl
no_bar_of (Hash name id) at ts h = refl
no_bar_of (Str name) at ts h = refl
no_bar_of BadStr at ts h = refl
no_bar_of Url at ts h = refl
no_bar_of BadUrl at ts h = refl
no_bar_of (Number number) at ts h = refl
no_bar_of Percentage at ts h = refl
no_bar_of (Dimension number name) at ts h = refl
no_bar_of Space at ts h = refl
no_bar_of Cdo at ts h = refl
no_bar_of Cdc at ts h = refl
no_bar_of End at ts h = refl

no_type_kind : (kind : TokenKind) (at : ℕ) (ts : List Token) → starts_no_type kind ≡ true
    → type_selector (placed kind at ∷ ts) ≡ Ok ([], placed kind at ∷ ts)
unfolding type_selector prefix
no_type_kind (Ident name) at ts h = absurd (false≢true h)
no_type_kind (Delim c) at ts h = simp (delim_no_bar c h, delim_no_star c h) refl
no_type_kind (Function name) at ts h = refl
no_type_kind (AtKeyword name) at ts h = refl
no_type_kind (Hash name id) at ts h = refl
no_type_kind (Str name) at ts h = refl
no_type_kind BadStr at ts h = refl
no_type_kind Url at ts h = refl
no_type_kind BadUrl at ts h = refl
no_type_kind (Number number) at ts h = refl
no_type_kind Percentage at ts h = refl
no_type_kind (Dimension number name) at ts h = refl
no_type_kind Space at ts h = refl
no_type_kind Cdo at ts h = refl
no_type_kind Cdc at ts h = refl
no_type_kind End at ts h = refl

pub no_bar : (total : ℕ) (rest : List ℕ) → follows rest ≡ true → at_bar (tokens_of total rest) ≡ false
no_bar total [] h = rw (no_tokens total) refl
no_bar total (c ∷ rest) h =
    rw (token_first total c rest (token (c ∷ rest)).rest (token (c ∷ rest)).kind (no_slash c h) refl)
    (no_bar_of (token (c ∷ rest)).kind (total - length (c ∷ rest)) (tokens_of total (token (c ∷ rest)).rest) (no_type_at c rest h))

-- the text of parts, and what follows it, follows a type selector
starts_follow : (simple : Simple) (rest : List ℕ) → IsPart simple → follows (simple_text simple ++ rest) ≡ true
unfolding attribute_text
starts_follow («Type» name) rest is = absurd is
starts_follow (Namespace known) rest is = absurd is
starts_follow (Id name) rest is = refl
starts_follow (Class name) rest is = refl
starts_follow (Attribute test) rest is = refl
starts_follow Root rest is = refl
starts_follow Scope rest is = refl
starts_follow Empty rest is = refl
starts_follow (NthChild nth) rest is = elim (cases_Bool (is_first nth)) [
  | inl one ↦ elim (cases_Bool nth.from_end) [ inl end ↦ rw (one, end) refl | inr end ↦ rw (one, end) refl ]
  | inr one ↦ elim (cases_Bool nth.from_end) [ inl end ↦ rw (one, end) refl | inr end ↦ rw (one, end) refl ]
]
starts_follow (NthOfType nth) rest is = elim (cases_Bool (is_first nth)) [
  | inl one ↦ elim (cases_Bool nth.from_end) [ inl end ↦ rw (one, end) refl | inr end ↦ rw (one, end) refl ]
  | inr one ↦ elim (cases_Bool nth.from_end) [ inl end ↦ rw (one, end) refl | inr end ↦ rw (one, end) refl ]
]

one_behind : (simple : Simple) (simples : List Simple) (rest : List ℕ) → IsPart simple
    → simples_text (simple ∷ simples) ++ rest ≡ simple_text simple ++ (simples_text simples ++ rest)
one_behind simple simples rest is =
    append_assoc (one_text simple simples) (simples_text simples) rest
    ∙ ap (λ (x : List ℕ). x ++ (simples_text simples ++ rest)) (part_text simple simples is)

pub parts_follow : (simples : List Simple) (rest : List ℕ) → AreParts simples → follows rest ≡ true
    → follows (simples_text simples ++ rest) ≡ true
parts_follow [] rest are follow = follow
parts_follow (s ∷ simples) rest are follow =
    rw (one_behind s simples rest are.0) (starts_follow s (simples_text simples ++ rest) are.0)

-- SIMPLE SELECTORS, ONE AFTER THE OTHER

-- with so much fuel, what is read goes on with enough of it
pub record Reaches {A : Type 0} (start : A) (goal : ℕ → A) (count least whole : ℕ) : Type 0 where
  pub fuel : ℕ
  pub enough : least ≤ fuel
  pub is : start ≡ goal fuel
  pub fewer : count + least ≤ whole

one_step : (inner : Inner) (in_has : Bool) (n total : ℕ) (so_far : CompoundTree) (simple : Simple) (chars rest : List ℕ)
    → IsRead total simple chars rest
    → parts inner in_has (suc n) so_far (tokens_of total chars) ≡ parts inner in_has n (with_simple so_far simple) (tokens_of total rest)
unfolding turn
one_step inner in_has n total so_far simple chars rest is = rw (is.next in_has) refl

pub parts_more : (inner : Inner) (in_has : Bool) (total n : ℕ) (before simples : List Simple) (rest : List ℕ)
    → AreParts simples → follows rest ≡ true → length (tokens_of total (simples_text simples ++ rest)) ≤ n
    → Reaches (parts inner in_has n (no_parts before) (tokens_of total (simples_text simples ++ rest)))
    (λ m. parts inner in_has m (no_parts (before ++ simples)) (tokens_of total rest))
    (length simples) (length (tokens_of total rest)) (length (tokens_of total (simples_text simples ++ rest)))
parts_more inner in_has total n before [] rest are follow long = record {
  fuel = n;
  enough = long;
  is = ap (λ (x : List Simple). parts inner in_has n (no_parts x) (tokens_of total rest)) (sym (append-nil before));
  fewer = omega arith;
}
parts_more inner in_has total n before (s ∷ simples) rest are follow long =
    let behind = simples_text simples ++ rest in
    let all = one_behind s simples rest are.0 in
    let is = part_read total s behind are.0 (parts_follow simples rest are.1 follow) in
    let lengths : length (tokens_of total (simples_text (s ∷ simples) ++ rest)) ≡ length (tokens_of total (simple_text s ++ behind)) =
    ap (λ (x : List ℕ). length (tokens_of total x)) all in
    let one : n ≡ suc (n - 1) = omega (arith, is.fewer, lengths, long) in
    let left : length (tokens_of total behind) ≤ n - 1 = omega (arith, is.fewer, lengths, long) in
    let more = parts_more inner in_has total (n - 1) (before ++ s ∷ []) simples rest are.1 follow left in
    record {
      fuel = more.fuel;
      enough = more.enough;
      is = ap (λ (x : List ℕ). parts inner in_has n (no_parts before) (tokens_of total x)) all
          ∙ (ap (λ (k : ℕ). parts inner in_has k (no_parts before) (tokens_of total (simple_text s ++ behind))) one
          ∙ (one_step inner in_has (n - 1) total (no_parts before) s (simple_text s ++ behind) behind is
          ∙ (more.is ∙ ap (λ (x : List Simple). parts inner in_has more.fuel (no_parts x) (tokens_of total rest))
          (append_assoc before (s ∷ []) simples))));
      fewer = omega (arith, is.fewer, lengths, more.fewer);
    }

-- TYPE SELECTORS

-- the type selector of a compound one is read, and its parts stand behind it
pub record Typed (total : ℕ) (simples : List Simple) (rest : List ℕ) : Type 0 where
  pub types : List Simple
  pub behind : List Simple
  pub are_parts : AreParts behind
  pub all : types ++ behind ≡ simples
  pub read : type_selector (tokens_of total (simples_text simples ++ rest)) ≡ Ok (types, tokens_of total (simples_text behind ++ rest))
  pub fewer : length (tokens_of total (simples_text behind ++ rest)) ≤ length (tokens_of total (simples_text simples ++ rest))
  pub takes : (types ≡ []) ⊎ (length (tokens_of total (simples_text behind ++ rest)) < length (tokens_of total
      (simples_text simples ++ rest)))

two_text : (a b c rest : List ℕ) → ((a ++ []) ++ ((b ++ []) ++ c)) ++ rest ≡ a ++ (b ++ (c ++ rest))
two_text a b c rest =
    rw (append-nil a, append-nil b) (append_assoc a (b ++ c) rest ∙ ap (λ (x : List ℕ). a ++ x) (append_assoc b c rest))

star_text : (a c rest : List ℕ) → ((a ++ 42 ∷ []) ++ c) ++ rest ≡ a ++ 42 ∷ (c ++ rest)
star_text a c rest = append_assoc (a ++ 42 ∷ []) c rest ∙ append_assoc a (42 ∷ []) (c ++ rest)

one_type_text : (b c rest : List ℕ) → ((b ++ []) ++ c) ++ rest ≡ b ++ (c ++ rest)
one_type_text b c rest = rw (append-nil b) (append_assoc b c rest)

-- how what follows a compound selector's type begins: a part, a pseudo-class, or what stands behind the whole
begins_no_type : (total : ℕ) (chars : List ℕ) → follows chars ≡ true
    → type_selector (tokens_of total chars) ≡ Ok ([], tokens_of total chars)
unfolding type_selector prefix
begins_no_type total [] h = rw (no_tokens total) refl
begins_no_type total (c ∷ rest) h =
    let kind = (token (c ∷ rest)).kind in
    let left = (token (c ∷ rest)).rest in
    let is = token_first total c rest left kind (no_slash c h) refl in
    rw is (no_type_kind kind (total - length (c ∷ rest)) (tokens_of total left) (no_type_at c rest h))

-- the type of an element
name_typed : (total : ℕ) (name : List ℕ) (simples : List Simple) (rest : List ℕ) → IsName name → AreParts simples → follows rest ≡ true
    → Typed total («Type» name ∷ simples) rest
unfolding type_selector prefix
name_typed total name simples rest is are follow =
    let behind = simples_text simples ++ rest in
    let after = parts_follow simples rest are follow in
    let all = one_type_text (identifier name) (simples_text simples) rest in
    let token = ident_token total name behind is (follows_ends behind after) in
    let lengths = ap (λ (x : List ℕ). length (tokens_of total x)) all in
    record {
      types = «Type» name ∷ [];
      behind = simples;
      are_parts = are;
      all = refl;
      read = ap (λ (x : List ℕ). type_selector (tokens_of total x)) all ∙ rw (token, no_bar total behind after) refl;
      fewer = omega (arith, lengths, ap length token);
      takes = inr (omega (arith, lengths, ap length token));
    }

known_name : (total : ℕ) (known : KnownNamespace) (name : List ℕ) (simples : List Simple) (rest : List ℕ) → IsName name → AreParts simples
    → follows rest ≡ true → Typed total (Namespace known ∷ «Type» name ∷ simples) rest
unfolding type_selector
known_name total known name simples rest is are follow =
    let behind = simples_text simples ++ rest in
    let after = parts_follow simples rest are follow in
    let all = two_text (prefix_text known) (identifier name) (simples_text simples) rest in
    let token = ident_token total name behind is (follows_ends behind after) in
    let p = known_read total known (identifier name ++ behind) (rw token refl) in
    let lengths = ap (λ (x : List ℕ). length (tokens_of total x)) all in
    record {
      types = Namespace known ∷ «Type» name ∷ [];
      behind = simples;
      are_parts = are;
      all = refl;
      read = ap (λ (x : List ℕ). type_selector (tokens_of total x)) all ∙ rw (p.read, token) refl;
      fewer = omega (arith, lengths, p.fewer, ap length token);
      takes = inr (omega (arith, lengths, p.fewer, ap length token));
    }

known_star : (total : ℕ) (known : KnownNamespace) (simples : List Simple) (rest : List ℕ) → AreParts simples → follows rest ≡ true
    → simples_text (Namespace known ∷ simples) ≡ (prefix_text known ++ 42 ∷ []) ++ simples_text simples
    → Typed total (Namespace known ∷ simples) rest
unfolding type_selector
known_star total known simples rest are follow text =
    let behind = simples_text simples ++ rest in
    let all = ap (λ (x : List ℕ). x ++ rest) text ∙ star_text (prefix_text known) (simples_text simples) rest in
    let token = star_token total behind in
    let p = known_read total known (42 ∷ behind) (rw token refl) in
    let lengths = ap (λ (x : List ℕ). length (tokens_of total x)) all in
    record {
      types = Namespace known ∷ [];
      behind = simples;
      are_parts = are;
      all = refl;
      read = ap (λ (x : List ℕ). type_selector (tokens_of total x)) all ∙ rw (p.read, token) refl;
      fewer = omega (arith, lengths, p.fewer, ap length token);
      takes = inr (omega (arith, lengths, p.fewer, ap length token));
    }

no_name : (total : ℕ) (simples : List Simple) (rest : List ℕ) → AreParts simples → follows rest ≡ true → Typed total simples rest
no_name total simples rest are follow = record {
  types = [];
  behind = simples;
  are_parts = are;
  all = refl;
  read = begins_no_type total (simples_text simples ++ rest) (parts_follow simples rest are follow);
  fewer = omega arith;
  takes = inl refl;
}

named_typed : (total : ℕ) (simples : List Simple) (rest : List ℕ) → AreNamed simples → follows rest ≡ true → Typed total simples rest
named_typed total [] rest are follow = no_name total [] rest are follow
named_typed total («Type» name ∷ simples) rest are follow = name_typed total name simples rest are.0 are.1 follow
named_typed total (Namespace known ∷ simples) rest are follow = absurd are.0
named_typed total (Id name ∷ simples) rest are follow = no_name total (Id name ∷ simples) rest are follow
named_typed total (Class name ∷ simples) rest are follow = no_name total (Class name ∷ simples) rest are follow
named_typed total (Attribute test ∷ simples) rest are follow = no_name total (Attribute test ∷ simples) rest are follow
named_typed total (Root ∷ simples) rest are follow = no_name total (Root ∷ simples) rest are follow
named_typed total (Scope ∷ simples) rest are follow = no_name total (Scope ∷ simples) rest are follow
named_typed total (Empty ∷ simples) rest are follow = no_name total (Empty ∷ simples) rest are follow
named_typed total (NthChild nth ∷ simples) rest are follow = no_name total (NthChild nth ∷ simples) rest are follow
named_typed total (NthOfType nth ∷ simples) rest are follow = no_name total (NthOfType nth ∷ simples) rest are follow

known_typed : (total : ℕ) (known : KnownNamespace) (simples : List Simple) (rest : List ℕ) → AreNamed simples → follows rest ≡ true
    → Typed total (Namespace known ∷ simples) rest
known_typed total known [] rest are follow = known_star total known [] rest are follow refl
known_typed total known («Type» name ∷ simples) rest are follow = known_name total known name simples rest are.0 are.1 follow
known_typed total known (Namespace other ∷ simples) rest are follow = absurd are.0
known_typed total known (Id name ∷ simples) rest are follow = known_star total known (Id name ∷ simples) rest are follow refl
known_typed total known (Class name ∷ simples) rest are follow = known_star total known (Class name ∷ simples) rest are follow refl
known_typed total known (Attribute test ∷ simples) rest are follow = known_star total known (Attribute test ∷ simples) rest are follow refl
known_typed total known (Root ∷ simples) rest are follow = known_star total known (Root ∷ simples) rest are follow refl
known_typed total known (Scope ∷ simples) rest are follow = known_star total known (Scope ∷ simples) rest are follow refl
known_typed total known (Empty ∷ simples) rest are follow = known_star total known (Empty ∷ simples) rest are follow refl
known_typed total known (NthChild nth ∷ simples) rest are follow = known_star total known (NthChild nth ∷ simples) rest are follow refl
known_typed total known (NthOfType nth ∷ simples) rest are follow = known_star total known (NthOfType nth ∷ simples) rest are follow refl

pub typed : (total : ℕ) (simples : List Simple) (rest : List ℕ) → AreSimples simples → follows rest ≡ true → Typed total simples rest
typed total [] rest are follow = no_name total [] rest are follow
typed total («Type» name ∷ simples) rest are follow = named_typed total («Type» name ∷ simples) rest are follow
typed total (Namespace known ∷ simples) rest are follow = known_typed total known simples rest are follow
typed total (Id name ∷ simples) rest are follow = named_typed total (Id name ∷ simples) rest are follow
typed total (Class name ∷ simples) rest are follow = named_typed total (Class name ∷ simples) rest are follow
typed total (Attribute test ∷ simples) rest are follow = named_typed total (Attribute test ∷ simples) rest are follow
typed total (Root ∷ simples) rest are follow = named_typed total (Root ∷ simples) rest are follow
typed total (Scope ∷ simples) rest are follow = named_typed total (Scope ∷ simples) rest are follow
typed total (Empty ∷ simples) rest are follow = named_typed total (Empty ∷ simples) rest are follow
typed total (NthChild nth ∷ simples) rest are follow = named_typed total (NthChild nth ∷ simples) rest are follow
typed total (NthOfType nth ∷ simples) rest are follow = named_typed total (NthOfType nth ∷ simples) rest are follow
