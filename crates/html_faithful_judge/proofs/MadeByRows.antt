-- How rows end, and what the rows of tables make of a token.
use Rattle.std.proofs.Common.{◌≡◌, ◌∙◌, ℕ, zero, suc, Bool, true, false, List, ap, sym, refl}
use Rattle.std.specs.Prelude.{Option, Some, None}
use Rattle.html_tokens.specs.declared.token.Token.{Token}
use Rattle.html_rules.specs.Choice.{choose}
use Rattle.html_rules.specs.Rules.{first_fit, rows}
use Rattle.html_rules.specs.Table.{Row}
use Rattle.html_rules.specs.declared.insertion_mode.InsertionMode.{InsertionMode}
use Rattle.html_modes.specs.Tables.{conclusion_of}
use Rattle.html_modes.specs.declared.table.Conclusion.{Conclusion}
use Rattle.html_faithful.specs.Harmless.{Made, and_then, by_rows, concludes, does, made_of, nothing_yet, provided}
use Rattle.html_rules.specs.ForeignContent.{is_foreign}
use Rattle.html_rules.specs.Modes.Foreign.{in_foreign_content}
use Rattle.html_faithful.specs.Spots.{Spot, hollow}
use Rattle.html_faithful_judge.specs.Mades.{again_if, next_by}
use Rattle.html_faithful_judge.specs.declared.making.Next.{Next}

pub concludes-as : (again : List Row → Made → Option Made) (t : Token) (a b : Conclusion) (m : Made) (r : Option Made) → a ≡ b
    → concludes again t (conclusion_of b) m ≡ r → concludes again t (conclusion_of a) m ≡ r
concludes-as again t a b m r e h = ap (λ a. concludes again t (conclusion_of a) m) e ∙ h

using-by : (again : List Row → Made → Option Made) (m : Made) (b : Bool) (mode : InsertionMode)
    → choose b (λ _. again (rows mode) m) (λ _. None) ≡ next_by again (again_if b mode) m
using-by again m true mode = refl
using-by again m false mode = refl

-- the rows of another mode are gone through where they may be
pub using-as : (again : List Row → Made → Option Made) (m : Made) (b may : Bool) (mode : InsertionMode) (next : Next) → b ≡ may
    → next ≡ again_if b mode → choose may (λ _. again (rows mode) m) (λ _. None) ≡ next_by again next m
using-as again m b may mode next e is =
    ap (λ may. choose may (λ _. again (rows mode) m) (λ _. None)) (sym e)
    ∙ (using-by again m b mode ∙ ap (λ next. next_by again next m) (sym is))

-- no table is left
pub rows-none : (count : ℕ) (table : List Row) (t : Token) (m : Made) → count ≡ 0 → by_rows count table t m ≡ None
unfolding by_rows
rows-none zero table t m e = refl
rows-none (suc n) table t m e = absurd cc

-- the row that is met does more
pub rows-refused : (n count : ℕ) (table : List Row) (t : Token) (m : Made) (r : Row) → count ≡ suc n → r ≡ first_fit table t (hollow m.spot)
    → does r.does t m ≡ None → by_rows count table t m ≡ None
unfolding by_rows
rows-refused n count table t m r e is d =
    ap (λ count. by_rows count table t m) e
    ∙ (ap (λ r. and_then (does r.does t m) (λ m. concludes (λ table m. by_rows n table t m) t r.ends m)) (sym is)
    ∙ ap (λ o. and_then o (λ m. concludes (λ table m. by_rows n table t m) t r.ends m)) d)

-- it goes on after the row
pub rows-next : (n count : ℕ) (table : List Row) (t : Token) (m mid new : Made) (r : Row) (next : Next) → count ≡ suc n
    → r ≡ first_fit table t (hollow m.spot) → does r.does t m ≡ Some mid
    → ((again : List Row → Made → Option Made) → concludes again t r.ends mid ≡ next_by again next new)
    → by_rows count table t m ≡ next_by (λ table m. by_rows n table t m) next new
unfolding by_rows
rows-next n count table t m mid new r next e is d ends =
    ap (λ count. by_rows count table t m) e
    ∙ (ap (λ r. and_then (does r.does t m) (λ m. concludes (λ table m. by_rows n table t m) t r.ends m)) (sym is)
    ∙ (ap (λ o. and_then o (λ m. concludes (λ table m. by_rows n table t m) t r.ends m)) d
    ∙ ends (λ table m. by_rows n table t m)))

-- a token is taken where the last one led
pub taken-as : (t : Token) (p : Spot) (m : Made) (table : List Row) (r : Option Made) → m ≡ nothing_yet p
    → table ≡ choose (is_foreign (hollow m.spot) t) (λ _. in_foreign_content) (λ _. rows m.spot.mode) → by_rows 4 table t m ≡ r
    → made_of t p ≡ r
unfolding made_of
taken-as t p m table r e is h =
    ap (λ (m : Made). by_rows 4 (choose (is_foreign (hollow m.spot) t) (λ _. in_foreign_content) (λ _. rows m.spot.mode)) t m) (sym e)
    ∙ (ap (λ table. by_rows 4 table t m) (sym is) ∙ h)

-- whether it went on
pub refused : (b : Bool) (m : Made) → b ≡ false → provided b m ≡ None
refused false m h = refl
refused true m h = absurd cc

pub passed : (b : Bool) (m : Made) → b ≡ true → provided b m ≡ Some m
passed true m h = refl
passed false m h = absurd cc
