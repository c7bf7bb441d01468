-- What parsing gives is read back from its text.
use Rattle.std.specs.Prelude.{◌≡◌, ℕ, List, Result, Ok, Err, IfOk}
use Rattle.std.specs.Str.{chars}
use Rattle.std.specs.String.{string_bytes}
use Rattle.html_selector_text.specs.declared.fault.SelectorError.{SelectorError}
use Rattle.html_selector_text.specs.declared.selector.Selector.{Selector}
use Rattle.html_selector_text.specs.Grammar.{parsed}
use Rattle.html_selector_text.specs.Results.{Gives}
use Rattle.html_selector_text.specs.Trees.{list_tree}
use Rattle.html_selector_text.proofs.ReadBack.Whole.{again}

pub read_again : (text : List ℕ) (r : Result Selector SelectorError) → Gives (λ (s : Selector). list_tree s.selectors) r (parsed text)
    → IfOk r (λ s. parsed (chars (string_bytes s.text)) ≡ Ok (list_tree s.selectors))
read_again text (Ok s) h = rw s.as_written (again text (list_tree s.selectors) h)
read_again text (Err e) h = tt
