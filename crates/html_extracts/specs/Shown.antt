-- Which texts of a tree are shown.
use Rattle.std.specs.Prelude.{ℕ, ◌||◌, Bool, true, not, List, Option, Some, None, codes, encode_utf8_all}
use Rattle.std.specs.Str.{bytes_eq}
use Rattle.markup.specs.Forest.{Forest, data_of, element_name, parent_of}
use Rattle.markup.specs.declared.names.QualName.{QualName}

-- whether the text in an element of this name is a program, a style sheet, or markup that stands in for something
abbrev pub hides : List ℕ → Bool
hides local =
    bytes_eq local (codes "script") || bytes_eq local (codes "style") || bytes_eq local (codes "noscript")
    || bytes_eq local (codes "noframes")
    || bytes_eq local (codes "noembed") || bytes_eq local (codes "iframe")

abbrev pub is_shown_in : Option QualName → Bool
is_shown_in None = true
is_shown_in (Some name) = not (hides (encode_utf8_all name.local))

abbrev pub is_shown_under : Forest → Option ℕ → Bool
is_shown_under f None = true
is_shown_under f (Some parent) = is_shown_in (element_name (data_of f parent))

-- whether a node's parent shows it
abbrev pub is_shown : Forest → ℕ → Bool
is_shown f n = is_shown_under f (parent_of f n)
