-- Each list of rows has one for anything else, so it has a row for every token.
use Rattle.std.proofs.Common.{◌≡◌, Bool, true, false, ◌||◌, ◌&&◌, List, [], ◌∷◌, refl, sym, true≢false}
use Rattle.std.specs.List.{list_any}
use Rattle.std.proofs.lemmas.Bool.{and_parts}
use Rattle.html_tokens.specs.declared.token.Token.{Token}
use Rattle.html_rules.specs.Conditions.{holds}
use Rattle.html_rules.specs.Modes.Foreign.{in_foreign_content}
use Rattle.html_rules.specs.Rules.{fits, rows}
use Rattle.html_rules.specs.State.{State}
use Rattle.html_rules.specs.Table.{Row, Class, AnythingElse, Condition, Always}
use Rattle.html_rules.specs.Tokens.{class_fits}
use Rattle.html_rules.specs.declared.insertion_mode.InsertionMode.{InsertionMode}
use Rattle.html_rules_laws.specs.WholeTable.{IsEachTokenTaken, TakesEachToken, is_always}
use Rattle.html_rules_laws.proofs.EachMode.{each-mode}

abbrev is_anything_else : Class → Bool
is_anything_else AnythingElse = true
is_anything_else class = false

abbrev has_anything_else : List Row → Bool
has_anything_else [] = false
has_anything_else (r ∷ rs) = (is_anything_else r.on && is_always r.when) || has_anything_else rs

class_takes : (c : Class) (t : Token) → is_anything_else c ≡ true → class_fits c t ≡ true
class_takes AnythingElse t h = refl
class_takes _ t h = absurd (true≢false (sym h))

pub always_holds : (c : Condition) (t : Token) (s : State) → is_always c ≡ true → holds c t s ≡ true
always_holds Always t s h = refl
always_holds _ t s h = absurd (true≢false (sym h))

takes_by : (a b x y : Bool) → (a ≡ true → x ≡ true) → (b ≡ true → y ≡ true) → (a || b) ≡ true → (x || y) ≡ true
takes_by true b x y f g h = rw (f refl) refl
takes_by false b true y f g h = refl
takes_by false b false y f g h = g h

row_takes : (r : Row) (t : Token) (s : State) → (is_anything_else r.on && is_always r.when) ≡ true → fits r t s ≡ true
row_takes r t s h =
    let parts = and_parts (is_anything_else r.on) (is_always r.when) h in
    rw (class_takes r.on t parts.0) (always_holds r.when t s parts.1)

takes_each : (rs : List Row) → has_anything_else rs ≡ true → TakesEachToken rs
takes_each [] h t s = absurd (true≢false (sym h))
takes_each (r ∷ rs) h t s =
    takes_by (is_anything_else r.on && is_always r.when) (has_anything_else rs) (fits r t s)
    (list_any (λ r. fits r t s) rs) (row_takes r t s) (λ e. takes_each rs e t s) h

modes_have_anything_else : (m : InsertionMode) → has_anything_else (rows m) ≡ true
unfolding rows
modes_have_anything_else = each-mode (λ m. has_anything_else (rows m)) refl

pub each_token_is_taken : IsEachTokenTaken
each_token_is_taken = (λ m. takes_each (rows m) (modes_have_anything_else m), takes_each in_foreign_content refl)
