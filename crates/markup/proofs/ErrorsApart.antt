-- No change of a forest but that of an error looks at the number of errors, and none else moves it.
use Rattle.std.proofs.Common.{◌≡◌, ◌==◌, ℕ, Bool, true, false, cond, List, Option, Some, None, length, refl}
use Rattle.markup.specs.Forest.{Forest, Place, create_element, data_if, joined_text, parent_of, previous_at, put_text}
use Rattle.markup.specs.Forest.{remove_under, text_of, with_node}
use Rattle.markup.specs.Forest.NodeData.{Contents, Element}
use Rattle.markup.specs.TreeLaws.{AreErrorsApart, LeavesErrors, with_errors}
use Rattle.markup.specs.declared.attributes.Attribute.{Attribute}
use Rattle.markup.specs.declared.flags.ElementFlags.{ElementFlags}
use Rattle.markup.specs.declared.names.QualName.{QualName}

-- one of two changes is made, by a test that does not see the number of errors
either-LeavesErrors : (b : Bool) (g h : Forest → Forest) → LeavesErrors g → LeavesErrors h → LeavesErrors (λ f. cond b (g f) (h f))
either-LeavesErrors true g h is other = is
either-LeavesErrors false g h is other = other

create_element-LeavesErrors : (name : QualName) (attributes : List Attribute) (flags : ElementFlags)
    → LeavesErrors (λ f. create_element f name attributes flags)
create_element-LeavesErrors name attributes flags =
    let about = Element name attributes flags.template flags.mathml_annotation_xml_integration_point in
    either-LeavesErrors flags.template (λ f. with_node (with_node f about) Contents) (λ f. with_node f about)
    (λ f. (refl, λ n. refl)) (λ f. (refl, λ n. refl))

joined_text-LeavesErrors : (place : Place) (characters : List ℕ) (f : Forest) (o : Option ℕ)
    (earlier : Option (List ℕ)) → (joined_text f place characters o earlier).errors ≡ f.errors
    × ((n : ℕ) → joined_text (with_errors n f) place characters o earlier ≡ with_errors n (joined_text f place characters o earlier))
joined_text-LeavesErrors place characters f None earlier = (refl, λ n. refl)
joined_text-LeavesErrors place characters f (Some m) None = (refl, λ n. refl)
joined_text-LeavesErrors place characters f (Some m) (Some earlier) = (refl, λ n. refl)

put_text-LeavesErrors : (place : Place) (characters : List ℕ) → LeavesErrors (λ f. put_text f place characters)
put_text-LeavesErrors place characters f = by (length characters == 0) where
  joined : Forest → Forest
  joined g = joined_text g place characters (previous_at g place) (text_of (data_if g (previous_at g place)))

  same : (o : Option ℕ) (n : ℕ) → data_if (with_errors n f) o ≡ data_if f o
  same None n = refl
  same (Some m) n = refl

  by : (b : Bool) → (cond b f (joined f)).errors ≡ f.errors
      × ((n : ℕ) → cond b (with_errors n f) (joined (with_errors n f)) ≡ with_errors n (cond b f (joined f)))
  by true = (refl, λ n. refl)
  by false = let is = joined_text-LeavesErrors place characters f (previous_at f place)
      (text_of (data_if f (previous_at f place))) in (is.0, λ n. rw (same (previous_at f place) n) (is.1 n))

remove_under-LeavesErrors : (f : Forest) (m : ℕ) (o : Option ℕ) → (remove_under f m o).errors ≡ f.errors
    × ((n : ℕ) → remove_under (with_errors n f) m o ≡ with_errors n (remove_under f m o))
remove_under-LeavesErrors f m None = (refl, λ n. refl)
remove_under-LeavesErrors f m (Some parent) = (refl, λ n. refl)

pub errors-apart : AreErrorsApart
errors-apart = record {
  created = create_element-LeavesErrors;
  made = λ about f. (refl, λ n. refl);
  put = λ place child f. (refl, λ n. refl);
  put_new = λ place about f. (refl, λ n. refl);
  texted = put_text-LeavesErrors;
  quirks = λ mode f. (refl, λ n. refl);
  attributes = λ m others f. (refl, λ n. refl);
  removed = λ m f. remove_under-LeavesErrors f m (parent_of f m);
  reparented = λ from to f. (refl, λ n. refl);
}
