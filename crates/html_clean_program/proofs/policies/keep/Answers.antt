use Rattle.std.proofs.Common.{◌∙◌, ℕ, List, Bor, Ok, Some, ap, lit<, map}
use Rattle.std.proofs.lemmas.Iterator.Consumers.{map_from_collect}
use Rattle.std.proofs.lemmas.Iterator.Splits.{YieldsList-from_str_split}
use Rattle.std.proofs.lemmas.Str.Pattern.{split_once_first}
use Rattle.std.specs.Str.{chars}
use Rattle.html_clean_program.proofs.Rules.{rule-split}
use Rattle.html_clean_program.proofs.policies.keep.Goals as goal

pub returns-clause-ok : goal.returns-clause-ok
returns-clause-ok c =
    let element = c.in-Some.element.now in
    let list = c.in-Some.list.now in
    let parts = c.in_ok-attributes.attributes.items in
    let found = split_once_first 58 c.args.word.now (Some (c.in-Some.element, c.in-Some.list)) c.in-Some.ensures.cases (lit< tt) in
    let split = map_from_collect {E = Unit {0}} (Ok c.in_ok-attributes.attributes) c.in_ok-attributes.ensures.ran
    (YieldsList-from_str_split 44 list (lit< tt) c.split.ensures.text c.split.ensures.has_more c.split.ensures.pattern) in
    let rule = ap (λ (names : List (Bor (List ℕ))). (chars element, map (λ name. chars name.now) names)) c.as_slice.ensures.value
    ∙ rule-split c.args.word.now element list parts found.0 found.1 found.2 split in
    rw rule at c.keep-2.ensures.ok
