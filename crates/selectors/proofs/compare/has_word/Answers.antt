use Rattle.std.proofs.Common.{◌≡◌, ◌==◌, Bool, true, rules, tests, length}
use Rattle.std.specs.Prelude.{not, ◌&&◌}
use Rattle.std.specs.Char.{is_ascii_whitespace}
use Rattle.std.specs.List.{list_any, slice_split}
use Rattle.std.proofs.lemmas.Iterator.Search.{any_from_yields_List}
use Rattle.std.proofs.lemmas.Iterator.Splits.{YieldsList-from_slice_split}
use Rattle.selectors.specs.Compare.{same}
use Rattle.selectors.proofs.compare.has_word.Goals as goal

both : (r any b : Bool) → r ≡ any → b ≡ true → r ≡ (b && any)
both r any b e h = rw h e

pub returns-then-not-is_empty : goal.returns-then-not-is_empty
returns-then-not-is_empty c =
    let word = c.args.word.now in
    let alike = c.args.alike in
    let found : c.any.result ≡ list_any (λ part. same alike part word) (slice_split is_ascii_whitespace c.args.text.now) =
    any_from_yields_List (λ part. same alike part word) _ _ _ c.any.ensures.ran
    (YieldsList-from_slice_split _ is_ascii_whitespace c.args.text.now c.split.ensures.rest
    c.split.ensures.done c.split.ensures.closure (λ x b q k. search (rules, tests)))
    (λ x b q k. search (rules, tests)) in
    both c.any.result _ (not (length word == 0)) found (search rules)
