-- What keeps an item from being told without an error.
use Rattle.std.specs.Prelude.{Bool, true, false, Option, Some, None}

-- The item is faulty, and one error at least is told of it; or something stands in it for which an error may be told.
pub data Fault : Type 0 where
  Grave : Fault
  Slight : Fault

-- a faulty item, where this is so
abbrev pub grave_if : Bool → Option Fault
grave_if true = Some Grave
grave_if false = None

-- something in an item, where this is so
abbrev pub slight_if : Bool → Option Fault
slight_if true = Some Slight
slight_if false = None

-- a fault, with something slight beside it
abbrev pub and_slight : Option Fault → Option Fault
and_slight None = Some Slight
and_slight (Some fault) = Some fault

-- the same, where this is so
abbrev pub and_slight_if : Bool → Option Fault → Option Fault
and_slight_if true fault = and_slight fault
and_slight_if false fault = fault
