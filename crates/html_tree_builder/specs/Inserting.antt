-- Actions that insert an element for a tag, and those that do not look at the token.
use Rattle.std.specs.Prelude.{Bool, true, false, ◌&&◌}
use Rattle.html_rules.specs.Table.{Action, Then, InsertElement, InsertVoid, InsertFormatting, InsertForeign, InsertMarker}
use Rattle.html_rules.specs.Table.{FramesetNotOk, IgnoreLineFeed, SaveMode, SwitchTo}
use Rattle.html_tree_builder.specs.declared.actions.insertions.Insertion.{Insertion}
use Rattle.html_tree_builder.specs.declared.actions.insertions.Insertion.TheVariants as insertion

-- the action
abbrev pub inserting : Insertion → Action
inserting insertion.Element = InsertElement
inserting insertion.Void = InsertVoid
inserting insertion.Formatting = InsertFormatting
inserting insertion.Foreign = InsertForeign

-- whether an action is one that does the same for every token
abbrev pub is_indifferent : Action → Bool
is_indifferent (Then a b) = is_indifferent a && is_indifferent b
is_indifferent InsertMarker = true
is_indifferent FramesetNotOk = true
is_indifferent IgnoreLineFeed = true
is_indifferent SaveMode = true
is_indifferent (SwitchTo mode) = true
is_indifferent a = false
