-- A row whose text is short is what its tokens are read as.
use Rattle.std.proofs.Common.{◌≡◌, ℕ, false, Ok, List, length, refl}
use Rattle.std.specs.Prelude.{nat_lt}
use Rattle.std.proofs.lemmas.Bool.{ltb-false}
use Rattle.html_selector_text.specs.Characters.{preprocessed}
use Rattle.html_selector_text.specs.Scanning.{tokens}
use Rattle.html_selector_text.specs.Grammar.{selector_list, limited, parsed}
use Rattle.html_selector_text.specs.Trees.{ListTree}
use Rattle.html_selector_text.specs.Written.{written}
use Rattle.html_selector_text.proofs.ReadBack.Lexing.{short_text}

pub row_by : (text : List ℕ) (list : ListTree) → nat_lt 4095 (length (preprocessed text)) ≡ false
    → selector_list (tokens (preprocessed text)) ≡ Ok list → nat_lt 4095 (length (written list)) ≡ false → parsed text ≡ Ok list
unfolding parsed limited
row_by text list few reads short = rw (
  short_text (preprocessed text) (ltb-false 4095 (length (preprocessed text)) few),
  reads,
  short_text (written list) (ltb-false 4095 (length (written list)) short),
) refl
