-- Whether a text begins with a name, by the definitions of tokenizing and by the library's.
use Rattle.std.proofs.Common.{◌≡◌, ◌∙◌, ℕ, Bool, true, false, cond, List, [], ◌∷◌, Some, None, refl, ap}
use Rattle.std.specs.Prelude.{nat_eq, ◌&&◌}
use Rattle.std.specs.List.{starts_with}
use Rattle.html_tokens.specs.Characters.{begins, begins_by}
use Rattle.html_tokens.specs.Table.{fitting}
use Rattle.html_tokens.specs.declared.table.ReferenceRow.{ReferenceRow}

begins_by-is : (b x y : Bool) → x ≡ y → begins_by b (λ _. x) ≡ (b && y)
begins_by-is true x y h = h
begins_by-is false x y h = refl

pub begins-is : (name text : List ℕ) → begins name text ≡ starts_with nat_eq text name
begins-is [] text = refl
begins-is (w ∷ ws) [] = refl
begins-is (w ∷ ws) (c ∷ t) = begins_by-is (nat_eq w c) (begins ws t) (starts_with nat_eq t ws) (begins-is ws t)

fitting-by : (b : Bool) (row : ReferenceRow) → fitting b row ≡ cond b (Some row) None
fitting-by true row = refl
fitting-by false row = refl

-- the row, where the text begins with its name
pub fitting-is : (text : List ℕ) (row : ReferenceRow) → fitting (begins row.name text) row ≡ cond
    (starts_with nat_eq text row.name) (Some row) None
fitting-is text row = fitting-by (begins row.name text) row ∙ ap (λ b. cond b (Some row) None) (begins-is row.name text)
