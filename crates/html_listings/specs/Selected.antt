-- What is printed of the elements of a page that are selected.
use Rattle.std.specs.Prelude.{ℕ, Bool, true, List, [], ◌∷◌, ◌++◌, Option, Some, None, codes, encode_utf8_all, filter, length}
use Rattle.std.specs.Fmt.{decimal}
use Rattle.std.specs.List.{flat_map}
use Rattle.std.specs.String.{string_bytes}
use Rattle.markup.specs.Forest.{Forest, data_of, element_name}
use Rattle.markup.specs.declared.names.QualName.{QualName}
use Rattle.markup.specs.declared.serializer.TraversalScope.TheVariants.{IncludeNode}
use Rattle.html_forest.specs.Walk.{walked}
use Rattle.html_serialize.specs.Serializing.{bytes_in}
use Rattle.html_nodes.specs.Below.{below}
use Rattle.html_nodes.specs.Looks.{attribute_of, texts_of}
use Rattle.html_selector_matching.specs.Selects.{is_any, scope_of}
use Rattle.selectors.specs.declared.selector.Selectors.{Selectors}
use Rattle.html_listings.specs.Json.{member, string_of}
use Rattle.html_listings.specs.Listings.{file_prefix}
use Rattle.html_listings.specs.declared.selected.Show.{Show}
use Rattle.html_listings.specs.declared.selected.Show.TheVariants.{Attribute, Count, Html, Json, Text}

-- the HTML of a node, where scripts run
unfoldable pub html_of : Forest → ℕ → List ℕ
html_of f n = bytes_in true IncludeNode (walked f n IncludeNode)

-- a line of a value, if there is one
abbrev pub line_if : List ℕ → Option (List ℕ) → List ℕ
line_if prefix None = []
line_if prefix (Some value) = prefix ++ (encode_utf8_all value ++ codes "\n")

-- the name of an element in JSON
abbrev pub json_name : Option QualName → List ℕ
json_name None = codes "null"
json_name (Some name) = string_of (encode_utf8_all name.local)

unfoldable pub json_element : Forest → (file : List ℕ) → ℕ → List ℕ
json_element f file n =
    member (codes "{\"file\":") file ++ (codes ",\"name\":" ++ (json_name (element_name (data_of f n))
    ++ (member (codes ",\"html\":") (html_of f n) ++ codes "}\n")))

-- what is printed of an element of the file of that name
unfoldable pub element_text : Show → Forest → (file prefix : List ℕ) → ℕ → List ℕ
element_text Html f file prefix n = prefix ++ (html_of f n ++ codes "\n")
element_text Text f file prefix n = line_if prefix (Some (texts_of f (n ∷ below f n)))
element_text (Attribute name) f file prefix n = line_if prefix (attribute_of f n (string_bytes name))
element_text Json f file prefix n = json_element f file n
element_text Count f file prefix n = []

abbrev pub count_line : Show → (prefix : List ℕ) → ℕ → List ℕ
count_line Count prefix count = prefix ++ (decimal count ++ codes "\n")
count_line show prefix count = []

-- what is printed of elements: a text for each, or how many they are
abbrev pub elements_text : Show → Forest → (file prefix : List ℕ) → List ℕ → List ℕ
elements_text show f file prefix found = flat_map (element_text show f file prefix) found ++ count_line show prefix (length found)

-- the elements of a page that are selected, in tree order
abbrev pub selected_in : Selectors → Forest → List ℕ
selected_in selectors f = filter (is_any selectors f (scope_of f 0)) (below f 0)

-- what is printed of the elements that are selected in the file of a name, which is printed too where there are several
abbrev pub selected_text : Show → Selectors → Forest → (file : List ℕ) → (several : Bool) → List ℕ
selected_text show selectors f file several = elements_text show f file (file_prefix several file) (selected_in selectors f)
