-- Worked rows of the plain grammar: each clause once met and once just missed.
use Prim.Native.String.{String}
use Rattle.std.specs.Prelude.{◌≡◌, ℕ, true, false, List, [], ◌∷◌, ◌++◌, map, Some, None, codes}
use Rattle.markup.specs.Namespaces.{name_of}
use Rattle.markup.specs.Trees.{Trees, Nothing, Text, Comment, ProcessingInstruction, Doctype, Element}
use Rattle.markup.specs.declared.attributes.Attribute.{Attribute}
use Rattle.markup.specs.declared.namespaces.KnownNamespace.TheVariants.{Svg, XLink}
use Rattle.html_plain.specs.Elements.{html_name}
use Rattle.html_plain.specs.Grammar.{is_plain_document}

-- TREES

abbrev of : String → Trees → Trees → Trees
of local kids rest = Element (html_name (codes local)) [] false kids rest

-- an element with nothing after it
abbrev one : String → Trees → Trees
one local kids = of local kids Nothing

-- an element with nothing in it
abbrev bare : String → Trees
bare local = one local Nothing

abbrev text : String → Trees
text characters = Text (codes characters) Nothing

-- a comment with nothing after it
abbrev noted : String → Trees
noted characters = Comment (codes characters) Nothing

-- a text before other trees
abbrev say : String → Trees → Trees
say characters rest = Text (codes characters) rest

abbrev at : String → List ℕ → Attribute
at name value = record { name = record { prefix = None; ns = []; local = codes name }; value = value }

abbrev with_attributes : List Attribute → Trees
with_attributes attributes = Element (html_name (codes "p")) attributes false Nothing Nothing

-- DOCUMENTS

abbrev headed : Trees → Trees → Trees
headed head behind = Doctype (codes "html") [] [] (one "html" (of "head" head behind))

-- a document of a body
abbrev page : Trees → Trees
page body = headed Nothing (one "body" body)

abbrev cell : Trees → Trees
cell kids = one "table" (one "tbody" (one "tr" (one "td" kids)))

-- trees in a body that are plain there
abbrev plain_bodies : List Trees
plain_bodies =
    Nothing
    -- texts and blocks
    ∷ text "a<b>&" ∷ Text (0xA0 ∷ 9 ∷ 10 ∷ 0x1F600 ∷ []) Nothing
    ∷ bare "p" ∷ bare "h1" ∷ bare "h2" ∷ bare "h3" ∷ bare "h4" ∷ bare "h5" ∷ bare "h6" ∷ bare "div"
    ∷ bare "ul" ∷ bare "ol" ∷ bare "table"
    ∷ say "a" (of "p" (text "b") (say "c" (of "p" Nothing (text "d"))))
    -- inline elements
    ∷ bare "br" ∷ bare "b" ∷ bare "i" ∷ bare "em" ∷ bare "code" ∷ bare "a"
    ∷ one "p" (say "x" (of "br" Nothing (of "b" (text "y") (of "i" Nothing (of "em" Nothing (of "code" Nothing (bare "a")))))))
    ∷ one "h6" (say "x" (of "br" Nothing (of "b" Nothing (bare "a"))))
    ∷ one "b" (one "b" (one "b" (one "b" (text "x"))))
    ∷ one "b" (one "a" (one "i" (say "x" (bare "br"))))
    ∷ of "a" Nothing (bare "a")
    -- what holds blocks
    ∷ one "div" (of "div" Nothing (of "p" Nothing (of "ul" Nothing (of "table" Nothing (say "x" (bare "b"))))))
    ∷ one "ul" (of "li" (text "x") (one "li" (of "p" Nothing (one "ol" (bare "li")))))
    ∷ cell (of "h1" Nothing (of "ul" Nothing (cell (text "x"))))
    ∷ one "table" (of "tbody" (one "tr" (one "th" (bare "p"))) (one "tbody" (of "tr" Nothing (one "tr" (of "td" Nothing (bare "th"))))))
    -- comments in flow, where they part texts
    ∷ noted "c" ∷ Comment [] (noted " &!\"") ∷ Comment (9 ∷ 10 ∷ 0xA0 ∷ 0x1F600 ∷ []) Nothing
    ∷ one "div" (say "a" (Comment [] (say "b" (Comment (codes "c") (bare "p"))))) ∷ of "p" Nothing (noted "c")
    ∷ one "ul" (one "li" (noted "c")) ∷ cell (noted " c ") ∷ one "table" (one "tbody" (one "tr" (one "th" (noted "c"))))
    -- white space where no other text stands
    ∷ one "ul" (say " " (of "li" Nothing (Text (9 ∷ 10 ∷ 12 ∷ 32 ∷ []) Nothing)))
    ∷ one "ol" (say " " (bare "li"))
    ∷ one "table" (say " " (one "tbody" (say " " (one "tr" (say " " (of "td" Nothing (text " ")))))))
    -- attributes
    ∷ with_attributes (at "class" (codes "a<b>&\"") ∷ at "data-1-" [] ∷ at "-" (9 ∷ 10 ∷ 0xA0 ∷ []) ∷ [])
    ∷ []

-- trees in a body that are not, each by one clause
abbrev odd_bodies : List Trees
odd_bodies =
    -- texts: empty, neighbours, U+0000, U+000D, a surrogate
    Text [] Nothing
    ∷ say "a" (text "b")
    ∷ one "p" (say "a" (text "b"))
    ∷ Text (codes "a" ++ 0 ∷ []) Nothing ∷ Text (codes "a" ++ 13 ∷ []) Nothing ∷ Text (0xD800 ∷ []) Nothing
    ∷ one "p" (Text (13 ∷ []) Nothing)
    -- nodes of other kinds
    ∷ ProcessingInstruction (codes "x") (codes "y") Nothing ∷ Doctype (codes "html") [] [] Nothing
    -- comments: a hyphen, "<", ">", U+0000, U+000D, a surrogate, and where no flow stands
    ∷ noted "a-b" ∷ noted "<" ∷ noted "a>" ∷ Comment (0 ∷ []) Nothing ∷ Comment (codes "a" ++ 13 ∷ []) Nothing ∷
    Comment (0xDFFF ∷ []) Nothing
    ∷ one "div" (Comment [] (say "a" (Comment [] (say "b" (text "c")))))
    ∷ one "p" (noted "c") ∷ one "h1" (noted "c") ∷ one "b" (noted "c") ∷ one "a" (noted "c") ∷ one "br" (noted "c")
    ∷ one "ul" (noted "c") ∷ one "ol" (noted "c") ∷ one "table" (noted "c") ∷
    one "table" (one "tbody" (noted "c")) ∷ one "table" (one "tbody" (one "tr" (noted "c")))
    -- other elements, and names of other namespaces and with a prefix
    ∷ bare "span" ∷ bare "P" ∷ bare "h7" ∷ bare ""
    ∷ Element (record { prefix = None; ns = name_of Svg; local = codes "a" }) [] false Nothing Nothing
    ∷ Element (record { prefix = None; ns = []; local = codes "p" }) [] false Nothing Nothing
    ∷ Element (record { prefix = Some []; ns = (html_name []).ns; local = codes "p" }) [] false Nothing Nothing
    ∷ Element (html_name (codes "p")) [] true Nothing Nothing
    -- blocks in a line
    ∷ one "p" (bare "p") ∷ one "p" (bare "div") ∷ one "p" (bare "ul") ∷ one "p" (bare "table") ∷ one "h1" (bare "h2")
    ∷ one "b" (bare "p") ∷ one "a" (bare "div") ∷ one "p" (one "b" (bare "h1"))
    -- a link in a link
    ∷ one "a" (bare "a") ∷ one "a" (one "b" (bare "a"))
    -- something in a `br`
    ∷ one "br" (text "x") ∷ one "br" (bare "b")
    -- parts of lists and tables elsewhere, and other elements and texts in these
    ∷ bare "li" ∷ one "div" (bare "li") ∷ one "ul" (bare "p") ∷ one "ul" (bare "ul") ∷ one "ul" (text "x") ∷ one "ol" (text "x")
    ∷ bare "tbody" ∷ bare "tr" ∷ bare "td" ∷ one "table" (bare "tr") ∷ one "table" (bare "td") ∷
    one "table" (bare "p") ∷ one "table" (text "x")
    ∷ one "table" (one "tbody" (bare "td")) ∷ one "table" (one "tbody" (text "x"))
    ∷ one "table" (one "tbody" (one "tr" (bare "p"))) ∷ one "table" (one "tbody" (one "tr" (text "x")))
    ∷ one "ul" (Text (0xA0 ∷ []) Nothing) ∷ one "ul" (Text (11 ∷ []) Nothing) ∷ one "ul" (say " " (text " "))
    -- parts of the document
    ∷ bare "html" ∷ bare "head" ∷ bare "title" ∷ bare "body"
    -- attributes: names, two of one name, prefix, namespace, values
    ∷ with_attributes (at "Class" [] ∷ []) ∷ with_attributes (at "" [] ∷ []) ∷ with_attributes (at "a_b" [] ∷ []) ∷
    with_attributes (at "xml:lang" [] ∷ [])
    ∷ with_attributes (at "a" (codes "1") ∷ at "b" [] ∷ at "a" (codes "2") ∷ [])
    ∷ with_attributes (record { name = record { prefix = Some (codes "x"); ns = []; local = codes "a" }; value = [] } ∷ [])
    ∷ with_attributes (record { name = record { prefix = None; ns = name_of XLink; local = codes "href" }; value = [] } ∷ [])
    ∷ with_attributes (at "a" (0 ∷ []) ∷ []) ∷ with_attributes (at "a" (13 ∷ []) ∷ [])
    ∷ []

-- whole documents that are plain
abbrev plain_pages : List Trees
plain_pages =
    page Nothing
    ∷ headed Nothing (say " " (bare "body"))
    ∷ headed (bare "title") (bare "body")
    ∷ headed (one "title" (text "a<b>")) (one "body" (text "x"))
    ∷ headed (say " " (of "title" (text " ") (Text (10 ∷ []) Nothing))) (bare "body")
    ∷ headed (text " ") (bare "body")
    ∷ Doctype (codes "html") [] [] (Element (html_name (codes "html")) (at "lang" (codes "en") ∷ []) false
    (Element (html_name (codes "head")) (at "a" [] ∷ []) false
    (Element (html_name (codes "title")) (at "a" [] ∷ []) false Nothing Nothing)
    (Element (html_name (codes "body")) (at "a" [] ∷ []) false Nothing Nothing)) Nothing)
    ∷ []

abbrev html : Trees
html = one "html" (of "head" Nothing (bare "body"))

-- whole documents that are not
abbrev odd_pages : List Trees
odd_pages =
    -- the doctype
    Nothing ∷ html ∷ Doctype (codes "html") [] [] Nothing ∷ Doctype (codes "HTML") [] [] html ∷ Doctype [] [] [] html
    ∷ Doctype (codes "html") (codes "x") [] html ∷ Doctype (codes "html") [] (codes "about:legacy-compat") html ∷
    Doctype (codes "html") [] [] (Doctype (codes "html") [] [] html)
    -- beside the root
    ∷ Doctype (codes "html") [] [] (Text (10 ∷ []) html)
    ∷ Comment [] (Doctype (codes "html") [] [] html)
    ∷ Doctype (codes "html") [] [] (Comment [] html)
    ∷ Doctype (codes "html") [] [] (of "html" (of "head" Nothing (bare "body")) (noted "c"))
    ∷ Doctype (codes "html") [] [] (of "html" (of "head" Nothing (bare "body")) (text " "))
    ∷ Doctype (codes "html") [] [] (of "html" (of "head" Nothing (bare "body")) html)
    ∷ Doctype (codes "html") [] [] (bare "body")
    -- in the root
    ∷ Doctype (codes "html") [] [] (bare "html")
    ∷ Doctype (codes "html") [] [] (one "html" (bare "head"))
    ∷ Doctype (codes "html") [] [] (one "html" (bare "body"))
    ∷ Doctype (codes "html") [] [] (one "html" (say " " (of "head" Nothing (bare "body"))))
    ∷ Doctype (codes "html") [] [] (one "html" (Comment [] (of "head" Nothing (bare "body"))))
    ∷ headed Nothing (text " ")
    ∷ headed Nothing (say "x" (bare "body"))
    ∷ headed Nothing (say " " (say " " (bare "body")))
    ∷ headed Nothing (of "head" Nothing (bare "body"))
    ∷ headed Nothing (bare "frameset")
    ∷ headed Nothing (Comment [] (bare "body"))
    ∷ headed Nothing (of "body" Nothing (noted "c"))
    ∷ headed Nothing (of "body" Nothing (text " "))
    ∷ headed Nothing (of "body" Nothing (bare "body"))
    -- in the head and its title
    ∷ headed (text "x") (bare "body")
    ∷ headed (bare "meta") (bare "body")
    ∷ headed (noted "c") (bare "body")
    ∷ headed (one "title" (noted "c")) (bare "body")
    ∷ headed (of "title" Nothing (bare "title")) (bare "body")
    ∷ headed (one "title" (say "a" (text "b"))) (bare "body")
    ∷ headed (one "title" (bare "b")) (bare "body")
    ∷ headed (one "title" (Text [] Nothing)) (bare "body")
    ∷ headed (one "title" (Text (13 ∷ []) Nothing)) (bare "body")
    ∷ []

abbrev pub ArePlainRows : Type 0
ArePlainRows = (map (λ body. is_plain_document (page body)) plain_bodies ≡ map (λ body. true) plain_bodies)
    × (map is_plain_document plain_pages ≡ map (λ trees. true) plain_pages)

abbrev pub AreOddRows : Type 0
AreOddRows = (map (λ body. is_plain_document (page body)) odd_bodies ≡ map (λ body. false) odd_bodies)
    × (map is_plain_document odd_pages ≡ map (λ trees. false) odd_pages)
