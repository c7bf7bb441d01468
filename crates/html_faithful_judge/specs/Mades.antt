-- What is made of a token, in the code.
use Rattle.std.specs.Prelude.{List, ◌∷◌, ℕ, Bool, true, false, Option, Some, None, option_map}
use Rattle.html_rules.specs.Names.{Namespace, namespace_of}
use Rattle.html_rules.specs.Stack.{without_current}
use Rattle.html_rules.specs.Table as table
use Rattle.html_rules.specs.Table.{Action, Row}
use Rattle.html_rules.specs.declared.insertion_mode.InsertionMode.{InsertionMode}
use Rattle.html_faithful.specs.Harmless as harmless
use Rattle.html_faithful.specs.Harmless.{Made, with_raw}
use Rattle.html_faithful.specs.Spots.{opened_at}
use Rattle.html_faithful_judge.specs.Rows.{rows_in}
use Rattle.html_faithful_judge.specs.Spots.{spot_of}
use Rattle.html_faithful_judge.specs.declared.made.Change.{Change}
use Rattle.html_faithful_judge.specs.declared.made.Change.TheVariants as change
use Rattle.html_faithful_judge.specs.declared.made.FormChange.{FormChange}
use Rattle.html_faithful_judge.specs.declared.made.FormChange.TheVariants as form
use Rattle.html_faithful_judge.specs.declared.made.Made as declared
use Rattle.html_faithful_judge.specs.declared.making.Next.{Next}
use Rattle.html_faithful_judge.specs.declared.making.Next.TheVariants as next
use Rattle.html_faithful_judge.specs.declared.rows.Table.TheVariants.{Mode}
use Rattle.html_faithful_judge.specs.declared.made.Put.{Put}
use Rattle.html_faithful_judge.specs.declared.made.Put.TheVariants as put

abbrev pub put_as : Put → harmless.Put
put_as (put.Element namespace name attributes opened) = harmless.Element (namespace_of namespace) name attributes opened
put_as put.TextHere = harmless.TextHere
put_as put.CommentHere = harmless.CommentHere
put_as put.InRoot = harmless.InRoot
put_as put.InDocument = harmless.InDocument

abbrev pub change_of : Change → harmless.Change
change_of change.Unchanged = harmless.Unchanged
change_of change.EntryPushed = harmless.EntryPushed
change_of change.MarkerPushed = harmless.MarkerPushed
change_of change.EntryLeft = harmless.EntryLeft
change_of change.MarkerLeft = harmless.MarkerLeft

abbrev pub form_change_of : FormChange → harmless.FormChange
form_change_of form.FormKept = harmless.FormKept
form_change_of form.FormSet = harmless.FormSet
form_change_of form.FormForgotten = harmless.FormForgotten

abbrev pub made_as : declared.Made → Made
made_as made = record {
  spot = spot_of made.spot;
  put = option_map put_as made.put;
  closed = made.closed;
  change = change_of made.change;
  form = form_change_of made.form;
  raw = made.raw;
  drops_line_feed = made.drops_line_feed;
}

-- an element is opened, and nothing else changes
abbrev pub pushed : Namespace → List ℕ → Made → Made
pushed namespace name made =
    record made { spot = record made.spot { path = opened_at made.spot.rules namespace name made.spot.path ∷ made.spot.path } }

-- the current node leaves the open elements, and nothing else changes
abbrev pub popped : Made → Made
popped made = record made { spot = record made.spot { path = without_current made.spot.path } }

-- an action that has no others in it
abbrev pub is_alone : Action → Bool
is_alone (table.Then a b) = false
is_alone (table.When c a) = false
is_alone a = true

abbrev pub again_if : Bool → InsertionMode → Next
again_if true mode = next.Again (Mode mode)
again_if false mode = next.Stop

-- how it goes on after a row; `again` has what other rows make of the token
abbrev pub next_by : (List Row → Made → Option Made) → Next → Made → Option Made
next_by again (next.Done raw) made = Some (with_raw raw made)
next_by again (next.Again table) made = again (rows_in table) made
next_by again next.Stop made = None
