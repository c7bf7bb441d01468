use Rattle.std.proofs.Common.{◌∙◌, ap}
use Rattle.std.specs.Io.KnownBytes.{append_known}
use Rattle.markup.specs.Forest.{Forest}
use Rattle.html_plain.specs.Grammar.{is_plain_forest}
use Rattle.html_normal.specs.Document.{document_bytes, document_trees}
use Rattle.html_normal.proofs.Again.{same-document}
use Rattle.html_normal.proofs.laws.normal_bytes_are_kept.Goals as goal

pub returns : goal.returns
returns c table exact trees bytes left old new report normal given =
    let same = same-document table bytes given.document normal.document given.input normal.input in (
      record {
        plain = given.plain ∙ (ap is_plain_forest same ∙ normal.plain);
        no_quirks = given.quirks ∙ (ap (λ (f : Forest). f.quirks) same ∙ normal.no_quirks);
        output = given.output ∙ (ap (λ f. append_known old (document_bytes f)) same ∙ ap (append_known old) normal.same);
        no_error = λ free. given.errors.none normal.quiet free;
      },
      ap document_trees same ∙ normal.trees,
    )
