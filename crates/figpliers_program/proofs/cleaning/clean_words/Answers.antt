use Rattle.std.proofs.Common.{◌∙◌, None, Some, ap, map, sym}
use Rattle.std.specs.Prelude.{cond, not}
use Rattle.std.specs.String.{string_bytes}
use Rattle.figpliers_program.proofs.AfterCommand.{of-clean, rest_of}
use Rattle.figpliers_program.proofs.cleaning.clean_words.Goals as goal

pub returns-then-are_about : goal.returns-then-are_about
returns-then-are_about c = sym (of-clean c.args.words.now c.command-item.result c.as_str.result.now c.ne.result c.are_about.result
    c.in-len2-up.len_at_least c.command-item.is c.as_str.ensures.value c.ne.ensures c.if-ne.false c.are_about.ensures
    ∙ ap (λ b. cond (not b) (Some (map string_bytes (rest_of c.args.words.now))) None) c.if-are_about.true)

pub returns : goal.returns
returns c = sym (of-clean c.args.words.now c.command-item.result c.as_str.result.now c.ne.result c.are_about.result
    c.in-len2-up.len_at_least c.command-item.is c.as_str.ensures.value c.ne.ensures c.if-ne.false c.are_about.ensures
    ∙ ap (λ b. cond (not b) (Some (map string_bytes (rest_of c.args.words.now))) None) c.if-are_about.false)
