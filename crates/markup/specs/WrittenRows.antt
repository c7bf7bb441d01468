-- Worked rows of writing: trees, and the text that each is written as.
use Prim.Native.String.{String}
use Rattle.std.specs.Prelude.{◌≡◌, ℕ, Bool, true, false, List, [], ◌∷◌, ◌++◌, map, Some, None, codes}
use Rattle.std.specs.List.{list_all}
use Rattle.std.specs.Str.{bytes_eq}
use Rattle.markup.specs.Escape.{escape, escape_value, start_tag}
use Rattle.markup.specs.Forest as forest
use Rattle.markup.specs.Forest.{Forest, create_element, empty_forest, put, put_new, put_text}
use Rattle.markup.specs.Forest.Place.{Last}
use Rattle.markup.specs.Namespaces.{name_of}
use Rattle.markup.specs.Trees.{Trees, Nothing, Text, Comment, ProcessingInstruction, Doctype, Element, default_entry}
use Rattle.markup.specs.Trees.{first_entry, inner_of, raw_names, trees_of, void_names, written}
use Rattle.markup.specs.declared.attributes.Attribute.{Attribute}
use Rattle.markup.specs.declared.flags.ElementFlags.{ElementFlags}
use Rattle.markup.specs.declared.names.QualName.{QualName}
use Rattle.markup.specs.declared.namespaces.KnownNamespace.{KnownNamespace}
use Rattle.markup.specs.declared.namespaces.KnownNamespace.TheVariants.{NoNamespace, Html, MathMl, Svg, XLink, Xml, Xmlns}

-- a name in a known namespace
abbrev named : KnownNamespace → List ℕ → QualName
named ns local = record { prefix = None; ns = name_of ns; local = local }

abbrev with_value : QualName → List ℕ → Attribute
with_value name value = record { name = name; value = value }

abbrev html : String → Trees → Trees → Trees
html local kids rest = Element (named Html (codes local)) [] false kids rest

abbrev text : String → Trees
text characters = Text (codes characters) Nothing

abbrev Rows : Type 0
Rows = List (List ℕ × List ℕ)

abbrev row : List ℕ → String → List ℕ × List ℕ
row made expected = (made, codes expected)

abbrev are_same : Rows → Bool
are_same rows = list_all (λ r. bytes_eq r.0 r.1) rows

-- written with scripts that run, under no element
abbrev page : Trees → List ℕ
page trees = written true default_entry trees

-- each character that is escaped, in text and in values
abbrev escape_rows : Rows
escape_rows =
    row (escape (codes "a\"<>&" ++ 0xA0 ∷ [])) "a\"&lt;&gt;&amp;&nbsp;"
    ∷ row (escape_value (codes "a\"<>&" ++ 0xA0 ∷ [])) "a&quot;&lt;&gt;&amp;&nbsp;"
    ∷ row (escape (codes "&lt;'")) "&amp;lt;'"
    ∷ (escape (0xC2 ∷ 0xA1 ∷ 0x1F600 ∷ []), 0xC2 ∷ 0xA1 ∷ 0x1F600 ∷ [])
    ∷ row (escape []) ""
    ∷ []

-- each namespace of an attribute
abbrev prefix_rows : Rows
prefix_rows =
    row (start_tag (codes "a") []) "<a>"
    ∷ row (start_tag (codes "a") (with_value (named NoNamespace (codes "x")) (codes "1") ∷
    with_value (named NoNamespace (codes "y")) [] ∷ [])) "<a x=\"1\" y=\"\">"
    ∷ row (start_tag (codes "a") (with_value (named Xml (codes "lang")) (codes "de") ∷ [])) "<a xml:lang=\"de\">"
    ∷ row (start_tag (codes "a") (with_value (named Xmlns (codes "xmlns")) (codes "u") ∷ [])) "<a xmlns=\"u\">"
    ∷ row (start_tag (codes "a") (with_value (named Xmlns (codes "xlink")) (codes "u") ∷ [])) "<a xmlns:xlink=\"u\">"
    ∷ row (start_tag (codes "a") (with_value (named XLink (codes "href")) (codes "u") ∷ [])) "<a xlink:href=\"u\">"
    ∷ row (start_tag (codes "a") (with_value (named Html (codes "x")) (codes "1") ∷
    with_value (named MathMl (codes "y")) (codes "2") ∷ with_value (named Svg (codes "z")) (codes "3") ∷
    [])) "<a unknown_namespace:x=\"1\" unknown_namespace:y=\"2\" unknown_namespace:z=\"3\">"
    ∷ row (start_tag (codes "a")
    (with_value (record { prefix = Some (codes "p"); ns = codes "u"; local = codes "x" }) (codes "1") ∷ []))
    "<a unknown_namespace:x=\"1\">"
    ∷ []

-- each void element: no end tag, and no elements in it, but text and comments
abbrev void_row : List ℕ → List ℕ × List ℕ
void_row local = (
  page (Element (named Html local) [] false (Text (codes "<") (html "b" (Comment (codes "c") Nothing) Nothing))
      (text "z")),
  codes "<" ++ (local ++ codes ">&lt;<!--c-->z"),
)

-- each element whose text is written as it is, but not the text of elements in it
abbrev raw_row : List ℕ → List ℕ × List ℕ
raw_row local = (
  page (Element (named Html local) [] false (Text (codes "a<b") (html "b" (text "<") Nothing)) (text "<")),
  codes "<" ++ (local ++ (codes ">a<b<b>&lt;</b></" ++ (local ++ codes ">&lt;"))),
)

-- each kind of node, each namespace of an element
abbrev node_rows : Rows
node_rows =
    row (page Nothing) ""
    ∷ row (page (Doctype (codes "html") (codes "p") (codes "s")
    (html "html" (html "head" Nothing (html "body" (text "a") Nothing)) Nothing)))
    "<!DOCTYPE html><html><head></head><body>a</body></html>"
    ∷ row (page (Comment (codes "a<b") (text "<"))) "<!--a<b-->&lt;"
    ∷ row (page (ProcessingInstruction (codes "a") (codes "b<") (text "c"))) "<?a b<>c"
    ∷ row (page (Element (named Html (codes "a"))
    (with_value (named NoNamespace (codes "x")) (codes "a\"<>&" ++ 0xA0 ∷ []) ∷
    with_value (named XLink (codes "href")) (codes "u") ∷ []) false (text "\"") Nothing))
    "<a x=\"a&quot;&lt;&gt;&amp;&nbsp;\" xlink:href=\"u\">\"</a>"
    ∷ row (page (Element (record { prefix = Some (codes "p"); ns = name_of Svg; local = codes "svg" }) [] false
    (text "<") Nothing)) "<svg>&lt;</svg>"
    -- names that are void or raw are so in HTML alone
    ∷ row (page (Element (named Svg (codes "br")) [] false (html "b" Nothing Nothing)
    (Element (named Svg (codes "style")) [] false (text "<") Nothing))) "<br><b></b></br><style>&lt;</style>"
    ∷ row (page (html "noscript" (text "<") Nothing)) "<noscript><</noscript>"
    ∷ row (written false default_entry (html "noscript" (text "<") Nothing)) "<noscript>&lt;</noscript>"
    -- what stands under an element that ignores its children ignores too
    ∷ row (page (html "br" (html "script" (Text (codes "<") (html "b" (text ">") Nothing)) Nothing) Nothing)) "<br><&gt;"
    -- under a name alone, which is taken as HTML's
    ∷ row (written true (first_entry true (Some (named Svg (codes "style")))) (text "<")) "<"
    ∷ row (written true (first_entry true (Some (named Html (codes "noscript")))) (text "<")) "<"
    ∷ row (written false (first_entry false (Some (named Html (codes "noscript")))) (text "<")) "&lt;"
    ∷ row (written true (first_entry true (Some (named Html (codes "br")))) (html "b" Nothing Nothing)) "<b></b>"
    ∷ row (written true (first_entry true None) (text "<")) "&lt;"
    ∷ []

-- a forest: a doctype, an element 2 with a text, a comment and a template 5, whose contents 6 have an element 7 with a processing
-- instruction, and an element 9 in the template itself
abbrev no_flags : ElementFlags
no_flags = record { template = false; mathml_annotation_xml_integration_point = false; had_duplicate_attributes = false }

abbrev made : Forest
made =
    let doctype = put_new empty_forest (Last 0) (forest.NodeData.Doctype (codes "html") [] []) in
    let body = put (create_element doctype (named Html (codes "body")) [] no_flags) (Last 0) 2 in
    let words = put_new (put_text body (Last 2) (codes "a<")) (Last 2) (forest.NodeData.Comment (codes "c")) in
    let template = put (create_element words (named Html (codes "template")) [] (record no_flags { template = true })) (Last 2) 5 in
    let within = put (create_element template (named Html (codes "p")) [] no_flags) (Last 6) 7 in
    let told = put_new within (Last 7) (forest.NodeData.ProcessingInstruction (codes "t") (codes "d")) in
    put (create_element told (named Html (codes "i")) [] no_flags) (Last 5) 9

abbrev trees_from : List ℕ → List ℕ
trees_from ns = page (trees_of made ns)

abbrev forest_rows : Rows
forest_rows =
    row (trees_from (0 ∷ [])) "<!DOCTYPE html><body>a&lt;<!--c--><template><p><?t d></p></template></body>"
    ∷ row (trees_from (inner_of made 0)) "<!DOCTYPE html><body>a&lt;<!--c--><template><p><?t d></p></template></body>"
    ∷ row (trees_from (inner_of made 2)) "a&lt;<!--c--><template><p><?t d></p></template>"
    ∷ row (trees_from (5 ∷ [])) "<template><p><?t d></p></template>"
    ∷ row (trees_from (inner_of made 5)) "<p><?t d></p>"
    ∷ row (trees_from (6 ∷ [])) "<p><?t d></p>"
    ∷ row (trees_from (9 ∷ [])) "<i></i>"
    ∷ row (trees_from (3 ∷ [])) "a&lt;"
    ∷ row (trees_from (inner_of made 3)) ""
    ∷ row (trees_from (10 ∷ [])) ""
    ∷ row (trees_from (inner_of made 10)) ""
    ∷ []

abbrev pub AreRowsWritten : Type 0
AreRowsWritten =
    are_same (escape_rows ++ prefix_rows ++ map void_row void_names ++ map raw_row raw_names ++ node_rows ++ forest_rows) ≡ true
