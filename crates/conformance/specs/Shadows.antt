-- Which templates become shadow roots in the sink that lists its calls.
use Rattle.std.specs.Prelude.{Bool, codes}
use Rattle.std.specs.Str.{bytes_eq}
use Rattle.markup.specs.declared.attributes.Attribute.{Attribute}

-- an attribute whose value asks for a closed shadow root
abbrev pub is_closed : Attribute → Bool
is_closed attribute = bytes_eq attribute.value (codes "closed")
