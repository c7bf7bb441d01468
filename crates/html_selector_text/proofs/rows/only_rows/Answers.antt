use Rattle.std.proofs.Common.{◌≡◌, true, false, ap, length, refl, List, [], ◌∷◌, Result, Ok}
use Rattle.std.specs.Prelude.{codes, nat_lt}
use Rattle.selectors.specs.declared.selector.Simple.TheVariants.{NthChild}
use Rattle.html_selector_text.specs.Characters.{preprocessed, place_of, at_escape, at_name, at_number}
use Rattle.html_selector_text.specs.Scanning.{hex, escaped, name, string, number, numeric, past_bad_url, url, ident_like, token, tokens}
use Rattle.html_selector_text.specs.Nth.{places, b_behind_sign, b_behind_n, suffix_of, nth_behind, nth_of_ident, nth}
use Rattle.html_selector_text.specs.Simples.{prefix, type_selector, operator_of, compared, attribute, class_named, nth_class}
use Rattle.html_selector_text.specs.Simples.{function_named, pseudo, attribute_part, next_part}
use Rattle.html_selector_text.specs.Meanings.{meaning_text, meaning_tokens}
use Rattle.html_selector_text.specs.Grammar.{combinator_of, past_combinator, meant, turn, compound, complex, relative, item, list_at}
use Rattle.html_selector_text.specs.Grammar.{selector_list}
use Rattle.html_selector_text.specs.Results.{Wrong}
use Rattle.html_selector_text.specs.Trees.{ListTree}
use Rattle.html_selector_text.specs.Written.{identifier, quoted, decimal, nth_text, attribute_text, written}
use Rattle.html_selector_text.specs.Rows as rows
use Rattle.html_selector_text.proofs.ByText.{row_by}
use Rattle.html_selector_text.proofs.rows.only_rows.Goals as goal

abbrev tree : ListTree
tree = rows.only (NthChild (rows.places 1 0 false false) ∷ NthChild (rows.places 1 0 false true) ∷ [])

few : nat_lt 4095 (length (preprocessed (codes ":only-child"))) ≡ false
unfolding preprocessed
few = refl

reads : selector_list (tokens (preprocessed (codes ":only-child"))) ≡ Ok tree
unfolding preprocessed place_of at_escape at_name at_number hex escaped name string number numeric past_bad_url url ident_like
    token tokens places b_behind_sign b_behind_n suffix_of nth_behind nth_of_ident nth prefix type_selector operator_of compared
    attribute class_named nth_class function_named pseudo attribute_part next_part meaning_text meaning_tokens combinator_of
    past_combinator meant turn compound complex relative item list_at selector_list
reads = refl

short : nat_lt 4095 (length (written tree)) ≡ false
unfolding identifier quoted decimal nth_text attribute_text written
short = refl

pub returns : goal.returns
returns c = ap (λ (x : Result ListTree Wrong). x ∷ []) (row_by (codes ":only-child") tree few reads short)
