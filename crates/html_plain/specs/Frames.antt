-- The frame of a plain document.
use Rattle.std.specs.Prelude.{◌≡◌, ℕ, true, false, List, [], ◌∷◌, codes}
use Rattle.std.specs.List.{list_all}
use Rattle.markup.specs.Trees.{Trees, Nothing, Text, Doctype, Element}
use Rattle.markup.specs.declared.attributes.Attribute.{Attribute}
use Rattle.html_plain.specs.Elements.{html_name}
use Rattle.html_plain.specs.Grammar.{IsPlain, IsPlainDocument, are_plain_attributes, is_white}
use Rattle.html_plain.specs.declared.place.PlainPlace.TheVariants.{InFlow, InHead}

-- the attributes of `html`, `head` and `body`, what stands in the last two, and the white space between them
pub record Frame : Type 0 where
  pub root : List Attribute
  pub head : List Attribute
  pub body : List Attribute
  pub heads : Trees
  pub space : List ℕ
  pub flow : Trees

-- a text before other trees, if there is one
abbrev pub text_before : List ℕ → Trees → Trees
text_before [] rest = rest
text_before (c ∷ cs) rest = Text (c ∷ cs) rest

abbrev pub framed : Frame → Trees
framed f =
    Doctype (codes "html") [] []
    (Element (html_name (codes "html")) f.root false
    (Element (html_name (codes "head")) f.head false f.heads
    (text_before f.space (Element (html_name (codes "body")) f.body false f.flow Nothing)))
    Nothing)

-- the parts of a frame are plain
pub record IsPlainFrame (f : Frame) : Type 0 where
  pub root : are_plain_attributes f.root ≡ true
  pub head : are_plain_attributes f.head ≡ true
  pub body : are_plain_attributes f.body ≡ true
  pub heads : IsPlain InHead false f.heads
  pub space : list_all is_white f.space ≡ true
  pub flow : IsPlain InFlow false f.flow

-- a plain document is a doctype, `html`, `head`, white space or none, and `body`
abbrev pub AreDocumentsFramed : Type 0
AreDocumentsFramed = (trees : Trees) → IsPlainDocument trees → (f : Frame) × ((trees ≡ framed f) × IsPlainFrame f)
