-- What the call found is the first attribute with the name.
use Rattle.std.proofs.Common.{Some, ap, sym, ◌∙◌, rules}
use Rattle.std.proofs.lemmas.Iterator.{YieldsList-from_slice}
use Rattle.std.proofs.lemmas.Iterator.Search.{find_from_yields_List}
use Rattle.std.specs.Option.{option_map}
use Rattle.std.specs.Str.{bytes_eq}
use borrow.Author.Tests.{tests}
use Rattle.html_tokens.proofs.tags.Tag.get_attribute.Goals as goal

pub returns-in-None-clause-ok : goal.returns-in-None-clause-ok
returns-in-None-clause-ok c =
    let found = find_from_yields_List (λ a. bytes_eq a.name.local c.args.name.now) _ _ c.find.result
    c.find.ensures.ran (YieldsList-from_slice c.args.self.now.attrs cc) (λ x b q k. search (rules, tests)) in
    ap (option_map (λ a. a.value)) (sym (ap (option_map (λ a. a.now)) c.in-None.is) ∙ found)

pub returns-in_ok-copy-in-Some-clause-ok : goal.returns-in_ok-copy-in-Some-clause-ok
returns-in_ok-copy-in-Some-clause-ok c =
    let found = find_from_yields_List (λ a. bytes_eq a.name.local c.args.name.now) _ _ c.find.result
    c.find.ensures.ran (YieldsList-from_slice c.args.self.now.attrs cc) (λ x b q k. search (rules, tests)) in
    ap Some c.in_ok-copy-in-Some.ensures.ok ∙ ap (option_map (λ a. a.value)) (sym (ap (option_map (λ a. a.now)) c.in-Some.is) ∙ found)
