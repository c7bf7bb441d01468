-- What each change of a forest keeps, whoever makes it.
use Rattle.std.specs.Prelude.{◌≡◌, ℕ, List, ◌++◌}
use Rattle.markup.specs.Forest.{Forest, NodeData, Place, IsForest, IsPlace, add_attributes, create_element, put, put_new}
use Rattle.markup.specs.Forest.{put_text, remove, reparent_children, set_quirks, with_node}
use Rattle.markup.specs.declared.attributes.Attribute.{Attribute}
use Rattle.markup.specs.declared.flags.ElementFlags.{ElementFlags}
use Rattle.markup.specs.declared.names.QualName.{QualName}
use Rattle.markup.specs.declared.quirks.QuirksMode.{QuirksMode}

-- two texts put at one place, one after the other, are as one
abbrev pub AreTextsJoined : Type 0
AreTextsJoined = (f : Forest) (place : Place) (a b : List ℕ) → IsForest f → IsPlace f place
    → put_text (put_text f place a) place b ≡ put_text f place (a ++ b)

-- a forest with another number of errors
abbrev pub with_errors : ℕ → Forest → Forest
with_errors n f = record f { errors = n }

-- a change neither looks at the number of errors nor moves it
abbrev pub LeavesErrors : (Forest → Forest) → Type 0
LeavesErrors change = (f : Forest) → (change f).errors ≡ f.errors × ((n : ℕ) → change (with_errors n f) ≡ with_errors n (change f))

-- which is so of every change but that of an error
pub record AreErrorsApart : Type 0 where
  pub created : (name : QualName) (attributes : List Attribute) (flags : ElementFlags)
      → LeavesErrors (λ f. create_element f name attributes flags)
  pub made : (about : NodeData) → LeavesErrors (λ f. with_node f about)
  pub put : (place : Place) (child : ℕ) → LeavesErrors (λ f. put f place child)
  pub put_new : (place : Place) (about : NodeData) → LeavesErrors (λ f. put_new f place about)
  pub texted : (place : Place) (characters : List ℕ) → LeavesErrors (λ f. put_text f place characters)
  pub quirks : (mode : QuirksMode) → LeavesErrors (λ f. set_quirks f mode)
  pub attributes : (n : ℕ) (others : List Attribute) → LeavesErrors (λ f. add_attributes f n others)
  pub removed : (n : ℕ) → LeavesErrors (λ f. remove f n)
  pub reparented : (from to : ℕ) → LeavesErrors (λ f. reparent_children f from to)
