-- Simple selectors that are written are read back.
use Rattle.std.proofs.Common.{◌≡◌, ◌∙◌, ℕ, ◌-◌, ◌<◌, Bool, true, false, not, ◌&&◌, ◌||◌, Ok}
use Rattle.std.proofs.Common.{List, [], ◌∷◌, ◌++◌, length, refl, sym, ap, subst, arith}
use Rattle.std.specs.Prelude.{◌==◌, slice_index, codes}
use Rattle.std.specs.Char.{is_ascii_digit}
use Rattle.std.proofs.lemmas.Bool.{eqb-false, and_parts, not-true}
use Rattle.std.proofs.lemmas.Bool.Decides.{nat_tests}
use Rattle.selectors.specs.declared.selector.Simple.{Simple}
use Rattle.selectors.specs.declared.selector.Simple.TheVariants.{Id, Class, Root, Scope, Empty}
use Rattle.html_selector_text.specs.declared.simples.Part.TheVariants.{One}
use Rattle.html_selector_text.specs.declared.tokens.TokenKind.TheVariants.{Ident, Function, Delim}
use Rattle.html_selector_text.specs.Characters.{at_escape, at_name, at_number}
use Rattle.html_selector_text.specs.Scanning.{name, is_word, placed, ident_like_of, ident_like, token}
use Rattle.html_selector_text.specs.Simples.{next_part, pseudo, class_named, plain_class}
use Rattle.html_selector_text.specs.Written.{identifier, NoZero, EndsName, simple_text}
use Rattle.html_selector_text.specs.Readable.{IsName}
use Rattle.html_selector_text.proofs.ReadBack.Identifiers.{identifier_read}
use Rattle.html_selector_text.proofs.ReadBack.Lexing.{tokens_of, token_first}
use Rattle.html_selector_text.proofs.ReadBack.Words.{ends_ident, no_arrow, no_zero, identifier_starts, ident_token, hash_token}

-- what stands behind a part of a compound selector
abbrev pub follows_at : ℕ → Bool
follows_at c = (((c == 32) || (c == 35)) || ((c == 41) || (c == 44))) || ((c == 46) || ((c == 58) || (c == 91)))

abbrev pub follows : List ℕ → Bool
follows [] = true
follows (c ∷ rest) = follows_at c

ends_of : (c : ℕ) → follows_at c ≡ true → ends_ident (c ∷ []) ≡ true
ends_of c h = grind (arith, nat_tests)

pub follows_ends : (rest : List ℕ) → follows rest ≡ true → ends_ident rest ≡ true
follows_ends [] h = refl
follows_ends (c ∷ rest) h = ends_of c h

-- a simple selector is read of a text, and tokens are taken
pub record IsRead (total : ℕ) (simple : Simple) (chars rest : List ℕ) : Type 0 where
  pub next : (in_has : Bool) → next_part in_has (tokens_of total chars) ≡ Ok (One simple, tokens_of total rest)
  pub fewer : length (tokens_of total rest) < length (tokens_of total chars)

-- words that the grammar has
abbrev pub some_characters : List ℕ → Bool
some_characters [] = true
some_characters (c ∷ cs) = not (c == 0) && some_characters cs

pub no_zeros : (cs : List ℕ) → some_characters cs ≡ true → NoZero cs
no_zeros [] h = tt
no_zeros (c ∷ cs) h = (eqb-false c 0 (not-true _ (and_parts _ _ h).0), no_zeros cs (and_parts _ _ h).1)

-- an identifier that is written as it is
pub record IsWord (word : List ℕ) : Type 0 where
  pub is_name : IsName word
  pub as_it_is : identifier word ≡ word

pub word_token : (total : ℕ) (word rest : List ℕ) → IsWord word → ends_ident rest ≡ true
    → tokens_of total (word ++ rest) ≡ placed (Ident word) (total - length (word ++ rest)) ∷ tokens_of total rest
word_token total word rest is ends =
    subst (λ (x : List ℕ). tokens_of total (x ++ rest) ≡ placed (Ident word) (total - length (x ++ rest)) ∷ tokens_of total rest)
    is.as_it_is (ident_token total word rest is.is_name ends)

open_ends : (rest : List ℕ) → EndsName (40 ∷ rest)
unfolding at_escape
open_ends rest = record { character = refl; escape = refl }

pub function_token : (total : ℕ) (word rest : List ℕ) → IsWord word → is_word word (codes "url") ≡ false
    → tokens_of total (word ++ 40 ∷ rest) ≡ placed (Function word) (total - length (word ++ 40 ∷ rest)) ∷ tokens_of total rest
unfolding ident_like
function_token total word rest is url =
    let s = identifier_starts word (40 ∷ rest) is.is_name refl in
    let same : List ℕ → Type 0 = λ x. tokens_of total x ≡ placed (Function word) (total - length x) ∷ tokens_of total rest in
    let named : name (s.head ∷ s.tail) ≡ record { text = word; rest = 40 ∷ rest } =
    subst (λ (x : List ℕ). name x ≡ record { text = word; rest = 40 ∷ rest }) s.is
    (identifier_read word (40 ∷ rest) (no_zero word is.is_name) (open_ends rest)) in
    subst (λ (x : List ℕ). same (x ++ 40 ∷ rest)) is.as_it_is (subst same (sym s.is)
    (token_first total s.head s.tail rest (Function word) s.comment (s.ident ∙ (ap ident_like_of named ∙ rw url refl))))

-- ONE CHARACTER

pub dot_token : (total : ℕ) (rest : List ℕ) → is_ascii_digit (slice_index rest 0) ≡ false
    → tokens_of total (46 ∷ rest) ≡ placed (Delim 46) (total - length (46 ∷ rest)) ∷ tokens_of total rest
unfolding token at_number at_name
dot_token total rest digit = token_first total 46 rest rest (Delim 46) refl (rw digit refl)

pub colon_token : (total : ℕ) (rest : List ℕ)
    → tokens_of total (58 ∷ rest) ≡ placed (Delim 58) (total - length (58 ∷ rest)) ∷ tokens_of total rest
unfolding token at_number at_name
colon_token total rest = token_first total 58 rest rest (Delim 58) refl refl

pub bracket_token : (total : ℕ) (rest : List ℕ)
    → tokens_of total (91 ∷ rest) ≡ placed (Delim 91) (total - length (91 ∷ rest)) ∷ tokens_of total rest
unfolding token at_number at_name
bracket_token total rest = token_first total 91 rest rest (Delim 91) refl refl

pub end_bracket_token : (total : ℕ) (rest : List ℕ)
    → tokens_of total (93 ∷ rest) ≡ placed (Delim 93) (total - length (93 ∷ rest)) ∷ tokens_of total rest
unfolding token at_number at_name
end_bracket_token total rest = token_first total 93 rest rest (Delim 93) refl refl

pub bar_token : (total : ℕ) (rest : List ℕ)
    → tokens_of total (124 ∷ rest) ≡ placed (Delim 124) (total - length (124 ∷ rest)) ∷ tokens_of total rest
unfolding token at_number at_name
bar_token total rest = token_first total 124 rest rest (Delim 124) refl refl

pub star_token : (total : ℕ) (rest : List ℕ)
    → tokens_of total (42 ∷ rest) ≡ placed (Delim 42) (total - length (42 ∷ rest)) ∷ tokens_of total rest
unfolding token at_number at_name
star_token total rest = token_first total 42 rest rest (Delim 42) refl refl

pub equals_token : (total : ℕ) (rest : List ℕ)
    → tokens_of total (61 ∷ rest) ≡ placed (Delim 61) (total - length (61 ∷ rest)) ∷ tokens_of total rest
unfolding token at_number at_name
equals_token total rest = token_first total 61 rest rest (Delim 61) refl refl

-- IDS AND CLASSES

pub id_read : (total : ℕ) (text rest : List ℕ) → IsName text → follows rest ≡ true
    → IsRead total (Id text) (simple_text (Id text) ++ rest) rest
unfolding next_part
id_read total text rest some follow =
    let is = hash_token total text rest some (follows_ends rest follow) in
    record { next = λ in_has. rw is refl; fewer = rw is (omega arith) }

pub class_read : (total : ℕ) (text rest : List ℕ) → IsName text → follows rest ≡ true
    → IsRead total (Class text) (simple_text (Class text) ++ rest) rest
unfolding next_part
class_read total text rest some follow =
    let ends = follows_ends rest follow in
    let s = identifier_starts text rest some (no_arrow rest ends) in
    let digit : is_ascii_digit (slice_index (identifier text ++ rest) 0) ≡ false =
    subst (λ (x : List ℕ). is_ascii_digit (slice_index x 0) ≡ false) (sym s.is) s.digit in
    let dot = dot_token total (identifier text ++ rest) digit in
    let word = ident_token total text rest some ends in
    record { next = λ in_has. rw (dot, word) refl; fewer = rw (dot, word) (omega arith) }

-- PSEUDO-CLASSES OF ONE WORD

pub pseudo_read : (total : ℕ) (word rest : List ℕ) (simple : Simple) → IsWord word → plain_class word ≡ One simple → follows rest ≡ true
    → IsRead total simple (58 ∷ (word ++ rest)) rest
unfolding next_part pseudo class_named
pseudo_read total word rest simple is named follow =
    let colon = colon_token total (word ++ rest) in
    let ident = word_token total word rest is (follows_ends rest follow) in
    record { next = λ in_has. rw (colon, ident, named) refl; fewer = rw (colon, ident) (omega arith) }

root_word : IsWord (codes "root")
unfolding identifier
root_word = record { is_name = no_zeros (codes "root") refl; as_it_is = refl }

scope_word : IsWord (codes "scope")
unfolding identifier
scope_word = record { is_name = no_zeros (codes "scope") refl; as_it_is = refl }

empty_word : IsWord (codes "empty")
unfolding identifier
empty_word = record { is_name = no_zeros (codes "empty") refl; as_it_is = refl }

pub root_read : (total : ℕ) (rest : List ℕ) → follows rest ≡ true → IsRead total Root (simple_text Root ++ rest) rest
root_read total rest follow = pseudo_read total (codes "root") rest Root root_word refl follow

pub scope_read : (total : ℕ) (rest : List ℕ) → follows rest ≡ true → IsRead total Scope (simple_text Scope ++ rest) rest
scope_read total rest follow = pseudo_read total (codes "scope") rest Scope scope_word refl follow

pub empty_read : (total : ℕ) (rest : List ℕ) → follows rest ≡ true → IsRead total Empty (simple_text Empty ++ rest) rest
empty_read total rest follow = pseudo_read total (codes "empty") rest Empty empty_word refl follow
