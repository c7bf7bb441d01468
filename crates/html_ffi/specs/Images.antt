-- What calls make of a node of a tree's image.
use Rattle.std.specs.Prelude.{◌≡◌, ℕ, ◌≤◌, true, List, [], ◌∷◌, ◌++◌, Err, encode_utf8_all}
use Rattle.std.specs.List.{flat_map}
use Rattle.std.specs.Str.{IsUtf8, IsValidUpTo, chars}
use Rattle.markup.specs.Forest.{Forest, IsNode, node_count}
use Rattle.markup.specs.Named.{IsTree}
use Rattle.markup.specs.TreeLaws.{with_errors}
use Rattle.markup.specs.Trees.{trees_of}
use Rattle.markup.specs.declared.serializer.TraversalScope.TheVariants.{IncludeNode}
use Rattle.html_extracts.specs.Links.{lines_of_links}
use Rattle.html_nodes.specs.Below.{below}
use Rattle.html_nodes.specs.Looks.{texts_of}
use Rattle.html_normal.specs.declared.report.Report.{Report}
use Rattle.html_plain.specs.Grammar.{is_plain_forest}
use Rattle.html_select.specs.Found as select
use Rattle.html_selector_text.specs.Grammar.{parsed}
use Rattle.html_selector_text.specs.declared.fault.SyntaxFault.{SyntaxFault}
use Rattle.html_serialize.specs.Serializing.{bytes_in}
use Rattle.html_tree_image.specs.Image.{image_of, words}
use Rattle.html_ffi.specs.Answers.{Means}
use Rattle.html_ffi.specs.Calls.{IsReported}
use Rattle.html_ffi.specs.Reports.{nothing_at}
use Rattle.html_ffi.specs.declared.answer.Answer.{Answer}
use Rattle.html_ffi.specs.declared.answer.Answer.TheVariants.{Done, NotUtf8, TooShort, Memory, TooLarge, TableNotUtf8}
use Rattle.html_ffi.specs.declared.answer.Answer.TheVariants.{TableLine, TableName, TableDuplicate, TableValue}
use Rattle.html_ffi.specs.declared.answer.Answer.TheVariants.{SelectorNotUtf8, Selector, NotAnImage, NoNode}
use Rattle.html_ffi.specs.declared.answer.Answer.TheVariants.{PolicyNotUtf8, PolicyLine, NeverKept, NoPolicy, ContextNotUtf8}
use Rattle.html_ffi.specs.declared.report.FigReport.{FigReport}

-- a node with what is in it as HTML (HTML Standard, section 13.3)
abbrev pub html_of : Forest → ℕ → List ℕ
html_of f n = bytes_in true IncludeNode (trees_of f (n ∷ []))

-- the texts in a node, in their order (DOM Standard, section 4.4, `textContent`)
abbrev pub text_of : Forest → ℕ → List ℕ
text_of f n = encode_utf8_all (texts_of f (n ∷ below f n))

-- the links of the elements in a node, in tree order, each with a line feed behind it
abbrev pub link_line : List ℕ → List ℕ
link_line link = encode_utf8_all link ++ 10 ∷ []

abbrev pub link_lines : Forest → ℕ → List ℕ
link_lines f n = flat_map link_line (lines_of_links f (below f n))

abbrev pub IsHtml : Forest → ℕ → List ℕ → Type 0
IsHtml f n bytes = bytes ≡ html_of f n

abbrev pub IsTextContent : Forest → ℕ → List ℕ → Type 0
IsTextContent f n bytes = bytes ≡ text_of f n

abbrev pub IsLinkList : Forest → ℕ → List ℕ → Type 0
IsLinkList f n bytes = bytes ≡ link_lines f n

-- A block of bytes is the image of a forest, which has a node of that number, and the report is that of the forest.
pub record IsFound (image : List ℕ) (node : ℕ) (f : Forest) (id : ℕ) (report : Report) : Type 0 where
  pub tree : IsTree f
  pub image_is : image ≡ image_of (with_errors report.errors f)
  pub is : id ≡ node
  pub there : IsNode f node
  pub plain : report.plain ≡ is_plain_forest f
  pub quirks : report.quirks ≡ f.quirks

-- Bytes are as `Is` says of a node of the forest of which a block of bytes is the image, and the report is that of the forest.
pub record IsMadeOfNode (Is : Forest → ℕ → List ℕ → Type 0) (node : ℕ) (image bytes : List ℕ) (report : Report) : Type 0 where
  pub forest : Forest
  pub found : IsFound image node forest node report
  pub bytes_are : Is forest node bytes

-- The forest of which a block of bytes is the image has no node of that number.
pub record HasNoNode (image : List ℕ) (node : ℕ) : Type 0 where
  pub forest : Forest
  pub errors : ℕ
  pub image_is : image ≡ image_of (with_errors errors forest)
  pub past : node_count forest ≤ node

-- What the answer of a call that has no text says of the image and the node, with the place in the report.
abbrev pub FailsOnNode : (image : List ℕ) → ℕ → Answer → ℕ → Type 0
FailsOnNode image node Memory at = at ≡ 0
FailsOnNode image node NotAnImage at = at ≡ 0
FailsOnNode image node NoNode at = (at ≡ 0) × HasNoNode image node
FailsOnNode image node Done at = ⊥
FailsOnNode image node NotUtf8 at = ⊥
FailsOnNode image node TooShort at = ⊥
FailsOnNode image node TooLarge at = ⊥
FailsOnNode image node TableNotUtf8 at = ⊥
FailsOnNode image node TableLine at = ⊥
FailsOnNode image node TableName at = ⊥
FailsOnNode image node TableDuplicate at = ⊥
FailsOnNode image node TableValue at = ⊥
FailsOnNode image node SelectorNotUtf8 at = ⊥
FailsOnNode image node Selector at = ⊥
FailsOnNode image node PolicyNotUtf8 at = ⊥
FailsOnNode image node PolicyLine at = ⊥
FailsOnNode image node NeverKept at = ⊥
FailsOnNode image node NoPolicy at = ⊥
FailsOnNode image node ContextNotUtf8 at = ⊥

-- what an answer says of the image and the node, the room before and after the call, and the report
abbrev pub MeansNode : (Is : Forest → ℕ → List ℕ → Type 0) → ℕ → (image old new : List ℕ) → FigReport → Answer → Type 0
MeansNode Is node image old new report = Means (IsReported (λ none. IsMadeOfNode Is node) [] image report)
    (report ≡ nothing_at report.at) (λ answer. FailsOnNode image node answer report.at) old new

-- SELECTORS

-- Bytes are the numbers of the nodes below a node that selectors select, in tree order.
pub record IsSelected (selector : List ℕ) (f : Forest) (top : ℕ) (bytes : List ℕ) : Type 0 where
  pub nodes : List ℕ
  pub selects : select.IsFound (chars selector) f top nodes
  pub numbers : bytes ≡ words nodes

-- Bytes are the numbers of what selectors select below a node of an image, with the report of the image.
pub record IsSelection (selector : List ℕ) (node : ℕ) (image bytes : List ℕ) (report : Report) : Type 0 where
  pub utf8 : IsUtf8 selector
  pub selected : IsMadeOfNode (IsSelected selector) node image bytes report

-- A text is no selectors: the first fault is at this place, in characters.
pub record IsNoSelector (text : List ℕ) (at : ℕ) : Type 0 where
  pub fault : SyntaxFault
  pub is : parsed (chars text) ≡ Err (record { fault = fault; at = at })

-- what the answer of a call that has no numbers says of the selectors, the image and the node, with the place in the report
abbrev pub FailsToSelect : (selector image : List ℕ) → ℕ → Answer → ℕ → Type 0
FailsToSelect selector image node SelectorNotUtf8 at = IsValidUpTo selector at
FailsToSelect selector image node Selector at = IsNoSelector selector at
FailsToSelect selector image node answer at = FailsOnNode image node answer at

-- what an answer says of the selectors, the image and the node, the room before and after the call, and the report
abbrev pub MeansSelection : (selector image : List ℕ) → ℕ → (old new : List ℕ) → FigReport → Answer → Type 0
MeansSelection selector image node old new report = Means (IsReported (λ none. IsSelection selector node) [] image report)
    (report ≡ nothing_at report.at) (λ answer. FailsToSelect selector image node answer report.at) old new
