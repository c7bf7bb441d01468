use Rattle.std.proofs.Common.{◌∙◌, ℕ, List, ap, sym}
use Rattle.std.specs.Box.{with_value}
use Rattle.html_forest.specs.declared.entry.Entry.TheVariants.{OwnText}
use Rattle.html_forest.proofs.Stored.{OnErr-always}
use Rattle.html_forest.proofs.data.join_entry.Goals as goal

pub returns-in_err-append-in-OwnText-clause-err : goal.returns-in_err-append-in-OwnText-clause-err
returns-in_err-append-in-OwnText-clause-err c =
    OnErr-always c.from_residual-in_err-append-in-OwnText.result
    (ap (λ (text : List ℕ). OwnText (with_value c.in-OwnText.text text)) (c.in_err-append-in-OwnText.ensures.err
    ∙ c.deref_mut.ensures.value) ∙ sym c.in-OwnText.is)
