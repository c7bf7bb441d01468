-- What selectors select below a node of an image, and why there is none.
use Rattle.std.proofs.Common.{◌≡◌, ℕ, List, subst}
use Rattle.std.specs.Str.{IsUtf8}
use Rattle.markup.specs.Forest.{Forest}
use Rattle.html_normal.specs.declared.report.Report.{Report}
use Rattle.html_ffi.specs.Images.{FailsOnNode, FailsToSelect, IsFound, IsSelected, IsSelection}
use Rattle.html_ffi.specs.declared.answer.Answer.{Answer}
use Rattle.html_ffi.specs.declared.answer.Answer.TheVariants.{Done, NotUtf8, TooShort, Memory, TooLarge, TableNotUtf8}
use Rattle.html_ffi.specs.declared.answer.Answer.TheVariants.{TableLine, TableName, TableDuplicate, TableValue}
use Rattle.html_ffi.specs.declared.answer.Answer.TheVariants.{SelectorNotUtf8, Selector, NotAnImage, NoNode}
use Rattle.html_ffi.specs.declared.answer.Answer.TheVariants.{PolicyNotUtf8, PolicyLine, NeverKept, NoPolicy, ContextNotUtf8}

-- what is wrong with the image or the node is so for a call that takes selectors too
pub fails-too : (selector image : List ℕ) (node : ℕ) (answer : Answer) (at : ℕ) → FailsOnNode image node answer at
    → FailsToSelect selector image node answer at
fails-too selector image node Done at why = absurd why
fails-too selector image node NotUtf8 at why = absurd why
fails-too selector image node TooShort at why = absurd why
fails-too selector image node Memory at why = why
fails-too selector image node TooLarge at why = absurd why
fails-too selector image node TableNotUtf8 at why = absurd why
fails-too selector image node TableLine at why = absurd why
fails-too selector image node TableName at why = absurd why
fails-too selector image node TableDuplicate at why = absurd why
fails-too selector image node TableValue at why = absurd why
fails-too selector image node SelectorNotUtf8 at why = absurd why
fails-too selector image node Selector at why = absurd why
fails-too selector image node NotAnImage at why = why
fails-too selector image node NoNode at why = why
fails-too selector image node PolicyNotUtf8 at why = absurd why
fails-too selector image node PolicyLine at why = absurd why
fails-too selector image node NeverKept at why = absurd why
fails-too selector image node NoPolicy at why = absurd why
fails-too selector image node ContextNotUtf8 at why = absurd why

-- what selectors select below a node that was found
pub selection-made : (selector image text : List ℕ) (node : ℕ) (f : Forest) (id : ℕ) (bytes : List ℕ) (report : Report)
    → text ≡ selector → IsUtf8 selector → IsFound image node f id report → IsSelected text f id bytes
    → IsSelection selector node image bytes report
selection-made selector image text node f id bytes report same utf8 found selected = record {
  utf8 = utf8;
  selected = record {
    forest = f;
    found = subst (λ (n : ℕ). IsFound image node f n report) found.is found;
    bytes_are = subst (λ (n : ℕ). IsSelected selector f n bytes) found.is
        (subst (λ (t : List ℕ). IsSelected t f id bytes) same selected);
  };
}
