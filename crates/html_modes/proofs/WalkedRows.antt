-- Rows that are walked by their places, up to the first that fits.
use Rattle.std.proofs.Common.{◌≡◌, ℕ, zero, suc, ◌≤◌, true, List, [], ◌∷◌, Some, None, length, drop, leb, refl}
use Rattle.std.specs.Prelude.{slice_get}
use Rattle.std.proofs.lemmas.Bool.{leb-true}
use Rattle.html_tokens.specs.declared.token.Token.{Token}
use Rattle.html_rules.specs.Choice.{choose}
use Rattle.html_rules.specs.Rules.{first_fit, fits, rows}
use Rattle.html_rules.specs.State.{State}
use Rattle.html_rules.specs.Table.{Row, AnythingElse, Nothing, Done, row}
use Rattle.html_rules.specs.declared.insertion_mode.InsertionMode.{InsertionMode}
use Rattle.html_rules.specs.declared.insertion_mode.InsertionMode.TheVariants as mode

the : {A : Type 0} (a b : A) → Some a ≡ Some b → a ≡ b
the a b h = cc

-- the row at a place, then those after it
pub at-place : (rows : List Row) (place : ℕ) (r : Row) (t : Token) (s : State) → slice_get rows place ≡ Some r
    → first_fit (drop place rows) t s ≡ choose (fits r t s) (λ _. r) (λ _. first_fit (drop (suc place) rows) t s)
at-place [] place r t s h = absurd cc
at-place (x ∷ rows) zero r t s h = rw (the x r h) refl
at-place (x ∷ rows) (suc place) r t s h = at-place rows place r t s h

-- no row is left
pub past-all : (rows : List Row) (place : ℕ) (t : Token) (s : State) → slice_get rows place ≡ None
    → first_fit (drop place rows) t s ≡ row AnythingElse Nothing Done
past-all [] zero t s h = refl
past-all [] (suc place) t s h = refl
past-all (x ∷ rows) zero t s h = absurd cc
past-all (x ∷ rows) (suc place) t s h = past-all rows place t s h

are-few : (mode : InsertionMode) → leb (length (rows mode)) 99 ≡ true
unfolding rows
are-few mode.Initial = refl
are-few mode.BeforeHtml = refl
are-few mode.BeforeHead = refl
are-few mode.InHead = refl
are-few mode.InHeadNoscript = refl
are-few mode.AfterHead = refl
are-few mode.InBody = refl
are-few mode.Text = refl
are-few mode.InTable = refl
are-few mode.InTableText = refl
are-few mode.InCaption = refl
are-few mode.InColumnGroup = refl
are-few mode.InTableBody = refl
are-few mode.InRow = refl
are-few mode.InCell = refl
are-few mode.InTemplate = refl
are-few mode.AfterBody = refl
are-few mode.InFrameset = refl
are-few mode.AfterFrameset = refl
are-few mode.AfterAfterBody = refl
are-few mode.AfterAfterFrameset = refl

-- no mode has many rows
pub few-rows : (mode : InsertionMode) → length (rows mode) ≤ 99
few-rows mode = leb-true _ _ (are-few mode)
