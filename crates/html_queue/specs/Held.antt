use Rattle.std.specs.Prelude.{ℕ, Option, Some, None, List, [], String}
use Rattle.std.specs.Global.{Global}
use Rattle.std.specs.String.{string_bytes}

-- the bytes of a text, if there is one
abbrev pub held : Option (String Global) → List ℕ
held None = []
held (Some text) = string_bytes text
