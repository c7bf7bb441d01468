-- The laws of the forms of the plain grammar: reading what is written of a form adds its subtree and gives the state back.
use Rattle.std.specs.Prelude.{◌≡◌, ℕ, Bool, true, false, List, [], ◌∷◌, Option, Some, None, codes}
use Rattle.std.specs.List.{list_all}
use Rattle.markup.specs.Escape.{end_tag, escape, start_tag, written_comment, written_doctype}
use Rattle.markup.specs.Forest as forest
use Rattle.markup.specs.Forest.{Forest, NodeData, node_count, put_new, put_text}
use Rattle.markup.specs.Forest.Place.{Last}
use Rattle.markup.specs.Trees.{Trees}
use Rattle.markup.specs.declared.attributes.Attribute.{Attribute}
use Rattle.markup.specs.declared.quirks.QuirksMode.TheVariants.{NoQuirks}
use Rattle.html_plain.specs.Elements.{inside}
use Rattle.html_plain.specs.Grammar.{IsPlain, are_plain_attributes, is_plain_comment, is_white}
use Rattle.html_plain.specs.Laws.{text_of}
use Rattle.html_plain.specs.declared.elements.CellKind.{CellKind}
use Rattle.html_plain.specs.declared.elements.Format.{Format}
use Rattle.html_plain.specs.declared.elements.Level.{Level}
use Rattle.html_plain.specs.declared.elements.ListKind.{ListKind}
use Rattle.html_plain.specs.declared.elements.PlainElement.{PlainElement}
use Rattle.html_plain.specs.declared.elements.PlainElement.TheVariants as element
use Rattle.html_plain.specs.declared.place.PlainPlace.{PlainPlace}
use Rattle.html_plain.specs.declared.place.PlainPlace.TheVariants.{InFlow, InLine, InList, InRow, InTable, InTableBody, InTitle}
use Rattle.html_round_trip.specs.Planting.Planted.{planted}
use Rattle.html_rules.specs.State.{Entry, Open}
use Rattle.html_rules.specs.declared.insertion_mode.InsertionMode.TheVariants as mode
use Rattle.html_tokens.specs.Laws.{ReadsEscapes, has_no_null, in_data}
use Rattle.html_tokens.specs.Table.{Row}
use Rattle.html_round_trip.specs.ReadBack.Laws.{ReadsElementInPart, ReadsInFlow, ReadsInPart, element_text}
use Rattle.html_round_trip.specs.ReadBack.Places.{AreBelow, Fits, IsGood, IsHome, IsRooted}
use Rattle.html_round_trip.specs.ReadBack.Runs.{Reads}
use Rattle.html_round_trip.specs.ReadBack.States.{Around, Home, Part, OfTable, OfBodies, OfRow, at, comment_node, element_node}
use Rattle.html_round_trip.specs.ReadBack.States.{mode_in, opened, part_element}

-- TREES AND ELEMENTS, BY THEIR PLACE

-- trees in flow: the rules are left with just these trees planted in the current node
abbrev pub AreReadInFlow : List Row → Bool → Around → Option ℕ → PlainPlace → Trees → Type 0
AreReadInFlow rows sc o head place trees =
    (b : Home) (n : ℕ) (top : PlainElement) (os : List Open) (last : Option (List ℕ)) (f : Forest) (es : List Entry)
    (ok : Bool) → IsGood f n → Fits place b f (opened n top ∷ os) es
    → ReadsInFlow rows o head b n top os last f es ok (text_of sc trees) (planted trees n f)

-- an element in flow
abbrev pub IsReadInFlow : List Row → Bool → Around → Option ℕ → PlainPlace → PlainElement → List Attribute → Trees → Type 0
IsReadInFlow rows sc o head place k attrs kids =
    (b : Home) (n : ℕ) (top : PlainElement) (os : List Open) (last : Option (List ℕ)) (f : Forest) (es : List Entry)
    (ok : Bool) → IsGood f n → Fits place b f (opened n top ∷ os) es
    → ReadsInFlow rows o head b n top os last f es ok (element_text k attrs (text_of sc kids))
    (planted kids (node_count f) (put_new f (Last n) (element_node k attrs)))

-- trees in a part of a table, where white space waits, or none
abbrev pub AreReadInPart : List Row → Bool → Around → Option ℕ → Part → Trees → Type 0
AreReadInPart rows sc o head part trees =
    (n : ℕ) (os : List Open) (last : Option (List ℕ)) (f : Forest) (es : List Entry) (ok : Bool) (waiting : List ℕ)
    → IsGood f n → IsRooted (opened n (part_element part) ∷ os) → AreBelow (node_count f) es → list_all is_white waiting ≡ true
    → ReadsInPart rows o head part n os last f es ok waiting (text_of sc trees) (planted trees n (put_text f (Last n) waiting))

-- an element there
abbrev pub IsReadInPart : List Row → Bool → Around → Option ℕ → Part → PlainElement → List Attribute → Trees → Type 0
IsReadInPart rows sc o head part k attrs kids =
    (n : ℕ) (os : List Open) (last : Option (List ℕ)) (f : Forest) (es : List Entry) (ok : Bool) (waiting : List ℕ)
    → IsGood f n → IsRooted (opened n (part_element part) ∷ os) → AreBelow (node_count f) es → list_all is_white waiting ≡ true
    → let g = put_text f (Last n) waiting in
    ReadsElementInPart rows o head part n os last f es ok waiting (element_text k attrs (text_of sc kids))
    (planted kids (node_count g) (put_new g (Last n) (element_node k attrs)))

-- trees in a place; those of the frame have laws of their own
abbrev pub AreRead : List Row → Bool → Around → Option ℕ → PlainPlace → Trees → Type 0
AreRead rows sc o head InFlow trees = AreReadInFlow rows sc o head InFlow trees
AreRead rows sc o head (InLine in_link) trees = AreReadInFlow rows sc o head (InLine in_link) trees
AreRead rows sc o head InList trees = AreReadInFlow rows sc o head InList trees
AreRead rows sc o head InTable trees = AreReadInPart rows sc o head OfTable trees
AreRead rows sc o head InTableBody trees = AreReadInPart rows sc o head OfBodies trees
AreRead rows sc o head InRow trees = AreReadInPart rows sc o head OfRow trees
AreRead rows sc o head place trees = Unit {0}

abbrev pub IsRead : List Row → Bool → Around → Option ℕ → PlainPlace → PlainElement → List Attribute → Trees → Type 0
IsRead rows sc o head InFlow k attrs kids = IsReadInFlow rows sc o head InFlow k attrs kids
IsRead rows sc o head (InLine in_link) k attrs kids = IsReadInFlow rows sc o head (InLine in_link) k attrs kids
IsRead rows sc o head InList k attrs kids = IsReadInFlow rows sc o head InList k attrs kids
IsRead rows sc o head InTable k attrs kids = IsReadInPart rows sc o head OfTable k attrs kids
IsRead rows sc o head InTableBody k attrs kids = IsReadInPart rows sc o head OfBodies k attrs kids
IsRead rows sc o head InRow k attrs kids = IsReadInPart rows sc o head OfRow k attrs kids
IsRead rows sc o head place k attrs kids = Unit {0}

-- THE FORMS

-- an element of this form is read in such a place, if its children are
abbrev pub IsFormRead : List Row → PlainPlace → PlainElement → Type 0
IsFormRead rows place k =
    (sc : Bool) (o : Around) (head : Option ℕ) (attrs : List Attribute) (kids : Trees)
    → are_plain_attributes attrs ≡ true → IsPlain (inside place k) false kids → AreRead rows sc o head (inside place k) kids
    → IsRead rows sc o head place k attrs kids

pub record AreBlocksRead (rows : List Row) : Type 0 where
  pub paragraph : IsFormRead rows InFlow element.Paragraph
  pub heading : (level : Level) → IsFormRead rows InFlow (element.Heading level)
  pub division : IsFormRead rows InFlow element.Division
  pub list : (kind : ListKind) → IsFormRead rows InFlow (element.List kind)
  pub item : IsFormRead rows InList element.Item

pub record AreInlinesRead (rows : List Row) : Type 0 where
  pub break : IsFormRead rows InFlow element.Break
  pub break_in_line : (in_link : Bool) → IsFormRead rows (InLine in_link) element.Break
  pub format : (format : Format) → IsFormRead rows InFlow (element.Formatted format)
  pub format_in_line : (in_link : Bool) (format : Format) → IsFormRead rows (InLine in_link) (element.Formatted format)
  pub link : IsFormRead rows InFlow element.Link
  pub link_in_line : IsFormRead rows (InLine false) element.Link

pub record AreTablesRead (rows : List Row) : Type 0 where
  pub table : IsFormRead rows InFlow element.Table
  pub table_body : IsFormRead rows InTable element.TableBody
  pub row : IsFormRead rows InTableBody element.Row
  pub cell : (kind : CellKind) → IsFormRead rows InRow (element.Cell kind)

pub record AreTextsRead (rows : List Row) : Type 0 where
  -- in flow a text goes into the current node
  pub flow : (o : Around) (head : Option ℕ) (place : PlainPlace) (b : Home) (n : ℕ) (top : PlainElement)
      (os : List Open) (last : Option (List ℕ)) (f : Forest) (es : List Entry) (ok : Bool) (text : List ℕ)
      → has_no_null text ≡ true → IsGood f n → Fits place b f (opened n top ∷ os) es
      → ReadsInFlow rows o head b n top os last f es ok (escape text) (put_text f (Last n) text)
  -- beside the elements of a table white space waits for the next one
  pub part : (o : Around) (head : Option ℕ) (part : Part) (n : ℕ) (os : List Open) (last : Option (List ℕ))
      (f : Forest) (es : List Entry) (ok : Bool) (waiting text : List ℕ)
      → IsGood f n → IsRooted (opened n (part_element part) ∷ os) → list_all is_white waiting ≡ true → list_all is_white text ≡ true
      → ReadsInPart rows o head part n os last f es ok waiting (escape text) (put_text (put_text f (Last n) waiting) (Last n) text)

-- in flow a comment is put last into the current node, and all else of the state is as before
abbrev pub AreCommentsRead : List Row → Type 0
AreCommentsRead rows =
    (o : Around) (head : Option ℕ) (b : Home) (n : ℕ) (top : PlainElement) (os : List Open) (last : Option (List ℕ))
    (f : Forest) (es : List Entry) (ok : Bool) (text : List ℕ)
    → is_plain_comment text ≡ true → IsGood f n → IsHome b (opened n top ∷ os)
    → Reads rows (in_data last) (at o head (mode_in b) f (opened n top ∷ os) es ok) (written_comment text)
    (in_data last) (at o head (mode_in b) (put_new f (Last n) (comment_node text)) (opened n top ∷ os) es ok)

-- THE FRAME

-- the node of the doctype
abbrev pub doctype_node : NodeData
doctype_node = forest.NodeData.Doctype (codes "html") [] []

-- from one mode to the next: `n` is the root, `m` the head or the body
pub record IsFrameRead (rows : List Row) (o : Around) (f : Forest) (n m : ℕ) : Type 0 where
  pub doctype : f.errors ≡ 0 → f.quirks ≡ NoQuirks
      → Reads rows (in_data None) (at o None mode.Initial f [] [] true) (written_doctype (codes "html"))
      (in_data None) (at o None mode.BeforeHtml (put_new f (Last 0) doctype_node) [] [] true)
  pub html : (last : Option (List ℕ)) (attrs : List Attribute) → are_plain_attributes attrs ≡ true → f.errors ≡ 0
      → Reads rows (in_data last) (at o None mode.BeforeHtml f [] [] true) (start_tag (codes "html") attrs)
      (in_data (Some (codes "html")))
      (at o None mode.BeforeHead (put_new f (Last 0) (element_node element.Html attrs))
      (opened (node_count f) element.Html ∷ []) [] true)
  pub head : (last : Option (List ℕ)) (attrs : List Attribute) → are_plain_attributes attrs ≡ true → f.errors ≡ 0
      → Reads rows (in_data last) (at o None mode.BeforeHead f (opened n element.Html ∷ []) [] true) (start_tag (codes "head") attrs)
      (in_data (Some (codes "head")))
      (at o (Some (node_count f)) mode.InHead (put_new f (Last n) (element_node element.Head attrs))
      (opened (node_count f) element.Head ∷ opened n element.Html ∷ []) [] true)
  -- white space and a title in the head
  pub space_in_head : (head : ℕ) (last : Option (List ℕ)) (text : List ℕ) → list_all is_white text ≡ true → IsGood f m
      → Reads rows (in_data last) (at o (Some head) mode.InHead f (opened m element.Head ∷ opened n element.Html ∷
      []) [] true) (escape text)
      (in_data last) (at o (Some head) mode.InHead (put_text f (Last m) text) (opened m element.Head ∷ opened n element.Html ∷ []) [] true)
  pub title : (sc : Bool) (head : ℕ) (last : Option (List ℕ)) (attrs : List Attribute) (kids : Trees)
      → are_plain_attributes attrs ≡ true → IsPlain InTitle false kids → IsGood f m
      → Reads rows (in_data last) (at o (Some head) mode.InHead f (opened m element.Head ∷ opened n element.Html ∷
      []) [] true) (element_text element.Title attrs (text_of sc kids))
      (in_data (Some (codes "title")))
      (at o (Some head) mode.InHead
      (planted kids (node_count f) (put_new f (Last m) (element_node element.Title attrs)))
      (opened m element.Head ∷ opened n element.Html ∷ []) [] true)
  pub head_end : (head : ℕ) (last : Option (List ℕ)) → f.errors ≡ 0
      → Reads rows (in_data last) (at o (Some head) mode.InHead f (opened m element.Head ∷ opened n element.Html ∷
      []) [] true) (end_tag (codes "head"))
      (in_data last) (at o (Some head) mode.AfterHead f (opened n element.Html ∷ []) [] true)
  pub space_after_head : (head : ℕ) (last : Option (List ℕ)) (text : List ℕ) → list_all is_white text ≡ true → IsGood f n
      → Reads rows (in_data last) (at o (Some head) mode.AfterHead f (opened n element.Html ∷ []) [] true) (escape text)
      (in_data last) (at o (Some head) mode.AfterHead (put_text f (Last n) text) (opened n element.Html ∷ []) [] true)
  pub body : (head : ℕ) (last : Option (List ℕ)) (attrs : List Attribute) → are_plain_attributes attrs ≡ true → f.errors ≡ 0
      → Reads rows (in_data last) (at o (Some head) mode.AfterHead f (opened n element.Html ∷ []) [] true) (start_tag (codes "body") attrs)
      (in_data (Some (codes "body")))
      (at o (Some head) mode.InBody (put_new f (Last n) (element_node element.Body attrs))
      (opened (node_count f) element.Body ∷ opened n element.Html ∷ []) [] false)
  pub body_end : (head : ℕ) (last : Option (List ℕ)) (ok : Bool) → f.errors ≡ 0
      → Reads rows (in_data last) (at o (Some head) mode.InBody f (opened m element.Body ∷ opened n element.Html ∷
      []) [] ok) (end_tag (codes "body"))
      (in_data last) (at o (Some head) mode.AfterBody f (opened m element.Body ∷ opened n element.Html ∷ []) [] ok)
  pub html_end : (head : ℕ) (last : Option (List ℕ)) (ok : Bool) → f.errors ≡ 0
      → Reads rows (in_data last)
      (at o (Some head) mode.AfterBody f (opened m element.Body ∷ opened n element.Html ∷ []) [] ok) (end_tag (codes "html"))
      (in_data last) (at o (Some head) mode.AfterAfterBody f (opened m element.Body ∷ opened n element.Html ∷ []) [] ok)

-- AS LAWS

-- of every table that reads what escaping writes
abbrev pub OfEachTable : (List Row → Type 0) → Type 0
OfEachTable P = (rows : List Row) → ReadsEscapes rows → P rows

abbrev pub AreFramesRead : Type 0
AreFramesRead = OfEachTable (λ rows. (o : Around) (f : Forest) (n m : ℕ) → IsFrameRead rows o f n m)

-- plain trees are read in their place
abbrev pub ArePlainTreesRead : Type 0
ArePlainTreesRead = OfEachTable (λ rows. (sc : Bool) (o : Around) (head : Option ℕ) (trees : Trees)
    (place : PlainPlace) (after_text : Bool) → IsPlain place after_text trees → AreRead rows sc o head place trees)
