use Rattle.std.proofs.Common.{refl}
use Rattle.html_selector_text.specs.Characters.{preprocessed, place_of, at_escape, at_name, at_number}
use Rattle.html_selector_text.specs.Scanning.{hex, escaped, name, string, number, numeric, past_bad_url, url, ident_like, token, tokens}
use Rattle.html_selector_text.specs.Nth.{places, b_behind_sign, b_behind_n, suffix_of, nth_behind, nth_of_ident, nth}
use Rattle.html_selector_text.specs.Simples.{prefix, type_selector, operator_of, compared, attribute, class_named, nth_class}
use Rattle.html_selector_text.specs.Simples.{function_named, pseudo, attribute_part, next_part}
use Rattle.html_selector_text.specs.Meanings.{meaning_text, meaning_tokens}
use Rattle.html_selector_text.specs.Grammar.{combinator_of, past_combinator, meant, turn, compound, complex, relative, item, list_at}
use Rattle.html_selector_text.specs.Grammar.{selector_list, limited, parsed}
use Rattle.html_selector_text.specs.Parts.{beyond_limit}
use Rattle.html_selector_text.specs.Written.{identifier, quoted, decimal, nth_text, attribute_text, written}
use Rattle.html_selector_text.proofs.rows.class_rows.Goals as goal

pub returns : goal.returns
unfolding identifier quoted decimal nth_text attribute_text written
    preprocessed place_of at_escape at_name at_number hex escaped name string number numeric past_bad_url url ident_like
    token tokens places b_behind_sign b_behind_n suffix_of nth_behind nth_of_ident nth prefix type_selector operator_of compared
    attribute class_named nth_class function_named pseudo attribute_part next_part meaning_text meaning_tokens combinator_of
    past_combinator meant turn compound complex relative item list_at selector_list limited parsed beyond_limit
returns c = refl
