-- Texts and items, one after the other.
use Rattle.std.proofs.Common.{◌≡◌, ℕ, Bool, List, [], ◌∷◌, ◌++◌, refl}
use Rattle.html_inner_text.specs.Items.{Item}
use Rattle.html_inner_text.specs.InnerText.{after, pushed, run, written}
use Rattle.html_inner_text.specs.declared.writer.Writer.{Writer}

pub written_more : (preserves : Bool) (w : Writer) (cs : List ℕ) (c : ℕ)
    → written preserves w (cs ++ c ∷ []) ≡ pushed preserves (written preserves w cs) c
written_more preserves w [] c = refl
written_more preserves w (d ∷ cs) c = written_more preserves (pushed preserves w d) cs c

pub run-append : (w : Writer) (xs ys : List Item) → run w (xs ++ ys) ≡ run (run w xs) ys
run-append w [] ys = refl
run-append w (x ∷ xs) ys = run-append (after w x) xs ys
