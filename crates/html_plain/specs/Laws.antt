-- Laws of the plain grammar, and of what is written of its forms.
use Rattle.std.specs.Prelude.{◌≡◌, ℕ, Bool, true, false, List, [], ◌++◌, ◌↔◌, codes}
use Rattle.markup.specs.Escape.{end_tag, escape, start_tag, written_comment, written_doctype}
use Rattle.markup.specs.Trees.{Trees, Nothing, Text, Comment, Doctype, Element, default_entry, written}
use Rattle.markup.specs.declared.attributes.Attribute.{Attribute}
use Rattle.html_plain.specs.Elements.{html_name, spelled}
use Rattle.html_plain.specs.Grammar.{IsPlain, is_plain}
use Rattle.html_plain.specs.declared.elements.PlainElement.{PlainElement}
use Rattle.html_plain.specs.declared.elements.PlainElement.TheVariants.{Break}
use Rattle.html_plain.specs.declared.place.PlainPlace.{PlainPlace}

-- the grammar by cases, and as it is computed, have the same trees
abbrev pub IsGrammarComputed : Type 0
IsGrammarComputed = (place : PlainPlace) (after_text : Bool) (trees : Trees)
    → (is_plain place after_text trees ≡ true) ↔ IsPlain place after_text trees

-- what is written of trees, whether scripts run or not
abbrev pub text_of : Bool → Trees → List ℕ
text_of scripting trees = written scripting default_entry trees

-- an element without children and without an end tag
abbrev pub is_void : PlainElement → Bool
is_void Break = true
is_void _ = false

-- what is written of each form of the grammar, with what follows it
pub record AreFormsWritten : Type 0 where
  pub doctype : (scripting : Bool) (rest : Trees) → text_of scripting (Doctype (codes "html") [] [] rest) ≡
      written_doctype (codes "html") ++ text_of scripting rest
  pub text : (scripting : Bool) (text : List ℕ) (rest : Trees) → text_of scripting (Text text rest) ≡ escape text ++ text_of scripting rest
  pub comment : (scripting : Bool) (text : List ℕ) (rest : Trees)
      → text_of scripting (Comment text rest) ≡ written_comment text ++ text_of scripting rest
  pub break : (scripting : Bool) (attributes : List Attribute) (rest : Trees)
      → text_of scripting (Element (html_name (spelled Break)) attributes false Nothing rest) ≡ start_tag
      (spelled Break) attributes ++ text_of scripting rest
  -- all other elements
  pub element : (k : PlainElement) → is_void k ≡ false → (scripting : Bool) (attributes : List Attribute) (kids rest : Trees)
      → text_of scripting (Element (html_name (spelled k)) attributes false kids rest) ≡ start_tag
      (spelled k) attributes ++ (text_of scripting kids ++ (end_tag (spelled k) ++ text_of scripting rest))
