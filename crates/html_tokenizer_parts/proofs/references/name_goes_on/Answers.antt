use Rattle.std.proofs.Common.{◌∙◌, sym, ap, nat_eq, [], ◌∷◌, rules}
use Rattle.std.specs.List.{ends_with}
use Rattle.html_references.proofs.WholeNames.{whole-stops}
use Rattle.html_tokenizer_parts.proofs.references.name_goes_on.Goals as goal

pub returns-then-ends_with-clause-is : goal.returns-then-ends_with-clause-is
returns-then-ends_with-clause-is c =
    sym (whole-stops c.args.table.now c.rows-rows.ensures.table c.args.held.now c.args.c
    (ap (λ text. ends_with nat_eq text (59 ∷ [])) (sym (c.as_bytes.ensures.value ∙ c.as_str-text.ensures.bytes))
    ∙ sym c.ends_with.ensures.value ∙ c.if-ends_with.true))

pub returns-clause-is : goal.returns-clause-is
returns-clause-is c = search rules
