-- The text of selectors is read as these selectors.
use Rattle.std.proofs.Common.{◌≡◌, ◌∙◌, ℕ, Bool, true, false, cond, Result, Ok, Err, List, [], ◌∷◌, ◌++◌}
use Rattle.std.proofs.Common.{length, refl, sym, ap, arith, subst, inl, inr}
use Rattle.std.specs.Prelude.{◌==◌}
use Rattle.std.proofs.lemmas.Bool.{cases_Bool, false≢true, ne_eqb}
use Rattle.std.proofs.lemmas.List.{append-nil}
use Rattle.html_selector_text.specs.declared.simples.ListKind.TheVariants.{Plain}
use Rattle.html_selector_text.specs.declared.tokens.Token.{Token}
use Rattle.html_selector_text.specs.Characters.{preprocessed}
use Rattle.html_selector_text.specs.declared.fault.SyntaxFault.TheVariants.{Unexpected}
use Rattle.html_selector_text.specs.Reading.{wrong, is_end, is_delim, past_spaces}
use Rattle.html_selector_text.specs.Results.{Wrong}
use Rattle.html_selector_text.specs.Parts.{beyond_limit}
use Rattle.html_selector_text.specs.Scanning.{tokens}
use Rattle.html_selector_text.specs.Grammar.{ListRead, list_at, selector_list, short, limited, placed_in, parsed}
use Rattle.html_selector_text.specs.Trees.{ListTree}
use Rattle.html_selector_text.specs.Written.{is_none, list_text, written}
use Rattle.html_selector_text.specs.Readable.{IsList, IsReadable}
use Rattle.html_selector_text.proofs.ReadBack.Lexing.{tokens_of, no_tokens, all_tokens}
use Rattle.html_selector_text.proofs.ReadBack.Lists.{whole_list}
use Rattle.html_selector_text.proofs.ReadBack.Selectors.{lists}
use Rattle.html_selector_text.proofs.ReadBack.Sound.{Sound, tokens_sound, preprocessed_zero}
use Rattle.html_selector_text.proofs.ReadBack.Sounds.{Gives, bind}
use Rattle.html_selector_text.proofs.ReadBack.Parsed.{ListSound, list_sound}
use Rattle.html_selector_text.proofs.ReadBack.Clean.{clean_same, list_clean}

end_no_comma : (total : ℕ) → is_delim 44 (tokens_of total []) ≡ false
end_no_comma total = rw (no_tokens total) refl

listed : (list : ListTree) → IsReadable list → list_at 33 false Plain (tokens (list_text false list))
    ≡ Ok (list, tokens_of (length (list_text false list)) [])
listed list is =
    let text : List ℕ = list_text false list in
    let total : ℕ = length text in
    let reads = lists list 32 false Plain refl is.parsed.parts is.parsed.some in
    let all : text ++ [] ≡ text = append-nil text in
    let spaces : past_spaces (tokens_of total text) ≡ tokens_of total (text ++ []) =
    subst (λ (x : List ℕ). past_spaces (tokens_of total x) ≡ tokens_of total (text ++ [])) all (reads.spaces total [] refl) in
    ap (λ (x : List Token). list_at 33 false Plain x) (all_tokens text)
    ∙ whole_list 32 false Plain false list total [] (tokens_of total text) reads refl (end_no_comma total) spaces

short_is : (list : ListTree) → beyond_limit (tokens (written list)) ≡ [] → short list ≡ Ok list
short_is list is = rw is refl

pub read_back : (list : ListTree) → IsReadable list → parsed (written list) ≡ Ok list
unfolding parsed limited selector_list written
read_back list is =
    let text : List ℕ = list_text false list in
    rw (clean_same text (list_clean list false), is.short, listed list is, no_tokens (length text))
    (ap (λ (x : Result ListTree Wrong). placed_in text x) (short_is list is.short))

-- WHAT IS PARSED

abbrev IsGood : ListTree → Type 0
IsGood list = (is_none list ≡ false) × IsList list 32 false

first_good : (r : ListRead) → Gives (ListSound 33 false Plain) r → Gives (λ (x : ListTree × List Token). IsGood x.0) r
first_good (Ok x) h = h.1.0
first_good (Err e) h = tt

end_good : (b : Bool) (list : ListTree) (e : Wrong) → IsGood list → Gives IsGood (cond b (Ok list) (Err e))
end_good true list e h = h
end_good false list e h = tt

list_good : (ts : List Token) → Sound ts → Gives IsGood (selector_list ts)
unfolding selector_list
list_good ts h =
    bind (λ (x : ListTree × List Token). IsGood x.0) IsGood (list_at 33 false Plain ts)
    (λ list. cond (is_end list.1) (Ok list.0) (Err (wrong Unexpected list.1)))
    (first_good (list_at 33 false Plain ts) (list_sound 33 false Plain ts (λ is. absurd (false≢true is)) h))
    (λ list good. end_good (is_end list.1) list.0 (wrong Unexpected list.1) good)

no_length : {A : Type 0} (xs : List A) → (length xs == 0) ≡ true → xs ≡ []
no_length [] is = refl
no_length (x ∷ xs) is =
    let some : (length (x ∷ xs) == 0) ≡ false = ne_eqb _ _ (omega arith) in
    absurd (false≢true (sym some ∙ is))

-- and it is short enough
abbrev IsShort : ListTree → Type 0
IsShort list = IsGood list × (beyond_limit (tokens (written list)) ≡ [])

short_good : (list : ListTree) → IsGood list → Gives IsShort (short list)
short_good list good = elim (cases_Bool (length (beyond_limit (tokens (written list))) == 0)) [
  | inl is ↦ rw is (good, no_length (beyond_limit (tokens (written list))) is)
  | inr is ↦ rw is tt
]

limited_good : (ts : List Token) → Sound ts → Gives IsShort (limited ts)
unfolding limited
limited_good ts h = elim (cases_Bool (length (beyond_limit ts) == 0)) [
  | inl is ↦ rw is (bind IsGood IsShort (selector_list ts) short (list_good ts h) short_good)
  | inr is ↦ rw is tt
]

placed_good : (text : List ℕ) (r : Result ListTree Wrong) → Gives IsShort r → Gives IsShort (placed_in text r)
placed_good text (Ok x) h = h
placed_good text (Err e) h = tt

parsed_good : (text : List ℕ) → Gives IsShort (parsed text)
unfolding parsed
parsed_good text = placed_good text (limited (tokens (preprocessed text)))
    (limited_good (tokens (preprocessed text)) (tokens_sound (preprocessed text) (preprocessed_zero text)))

pub parsed_is : (text : List ℕ) (list : ListTree) → parsed text ≡ Ok list → IsReadable list
parsed_is text list h =
    let good : IsShort list = subst (Gives IsShort) h (parsed_good text) in
    record { parsed = record { some = good.0.0; parts = good.0.1 }; short = good.1 }

pub these_alone : (list : ListTree) → parsed (written list) ≡ Ok list → IsReadable list
these_alone list h = parsed_is (written list) list h

pub again : (text : List ℕ) (list : ListTree) → parsed text ≡ Ok list → parsed (written list) ≡ Ok list
again text list h = read_back list (parsed_is text list h)
