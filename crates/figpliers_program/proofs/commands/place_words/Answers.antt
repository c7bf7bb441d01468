use Rattle.std.proofs.Common.{◌∙◌, ◌≡◌, ℕ, List, ◌++◌, codes, subst}
use Rattle.std.specs.Fmt.{decimal}
use Rattle.std.specs.Prelude.{IfOk}
use Rattle.std.specs.String.{string_bytes}
use Rattle.figpliers_program.proofs.commands.place_words.Goals as goal

pub returns : goal.returns
returns c =
    subst (λ (line : List ℕ). IfOk c.format.result (λ words. string_bytes words ≡ line ++ (codes ":" ++ decimal c.args.place.column)))
    (c.as_str-line.ensures.value ∙ c.in_ok-line.ensures)
    (subst (λ (column : List ℕ). IfOk c.format.result (λ words. string_bytes words ≡ c.as_str-line.result.now ++ (codes ":" ++ column)))
    (c.as_str-column.ensures.value ∙ c.in_ok-column.ensures) c.format.ensures.ok)
