-- The quirks mode and the number of errors of a forest are of no account to what is put and walked.
use Rattle.std.proofs.Common.{◌≡◌, ◌∙◌, ◌==◌, ℕ, zero, suc, Bool, true, false, List, length, Option, Some, None, cond, refl}
use Rattle.std.proofs.Common.{ap}
use Rattle.markup.specs.Forest as forest
use Rattle.markup.specs.Forest.{Forest, Place, children_of, create_element, data_if, data_of, joined_text, node_count, previous_at}
use Rattle.markup.specs.Forest.{put, put_new, put_text}
use Rattle.markup.specs.Forest.{text_of, with_node}
use Rattle.markup.specs.Trees.{Trees, Nothing, Text, Comment, ProcessingInstruction, Doctype, Element, nodes_before, trees_of, trees_within}
use Rattle.markup.specs.declared.quirks.QuirksMode.{QuirksMode}
use Rattle.html_rules.specs.Names.{flags_of, namespace_of}
use Rattle.html_faithful.specs.Planting.{element_put, place_under, planted}

module _ (q : QuirksMode) (errors : ℕ) where
  abbrev pub dressed : Forest → Forest
  dressed f = record f { quirks = q; errors = errors }

  joined-dressed : (f : Forest) (place : Place) (text : List ℕ) (o : Option ℕ) (earlier : Option (List ℕ))
      → joined_text (dressed f) place text o earlier ≡ dressed (joined_text f place text o earlier)
  joined-dressed f place text None earlier = refl
  joined-dressed f place text (Some n) None = refl
  joined-dressed f place text (Some n) (Some earlier) = refl

  cond-dressed : (b : Bool) (f g h : Forest) → g ≡ dressed h → cond b (dressed f) g ≡ dressed (cond b f h)
  cond-dressed true f g h e = refl
  cond-dressed false f g h e = e

  text-dressed : (f : Forest) (place : Place) (text : List ℕ) → put_text (dressed f) place text ≡ dressed (put_text f place text)
  text-dressed f place text =
      let o = previous_at f place in
      cond-dressed (length text == 0) f (joined_text (dressed f) place text o (text_of (data_if f o)))
      (joined_text f place text o (text_of (data_if f o))) (joined-dressed f place text o (text_of (data_if f o)))

  made-dressed : (b : Bool) (f : Forest) (about : forest.NodeData) (place : Place)
      → put (cond b (with_node (with_node (dressed f) about) forest.NodeData.Contents) (with_node (dressed f) about)) place (node_count f)
      ≡ dressed (put (cond b (with_node (with_node f about) forest.NodeData.Contents) (with_node f about)) place (node_count f))
  made-dressed true f about place = refl
  made-dressed false f about place = refl

  pub planted-dressed : (place : Place) (trees : Trees) (f : Forest) → planted place trees (dressed f) ≡ dressed (planted place trees f)
  planted-dressed place Nothing f = refl
  planted-dressed place (Text text rest) f =
      ap (planted place rest) (text-dressed f place text) ∙ planted-dressed place rest (put_text f place text)
  planted-dressed place (Comment text rest) f = planted-dressed place rest (put_new f place (forest.NodeData.Comment text))
  planted-dressed place (ProcessingInstruction target text rest) f = planted-dressed place rest f
  planted-dressed place (Doctype name public_id system_id rest) f =
      planted-dressed place rest (put_new f place (forest.NodeData.Doctype name public_id system_id))
  planted-dressed place (Element name attributes template kids rest) f =
      let g = element_put place name attributes f in
      let under = place_under name f in
      let flags = flags_of (namespace_of name.ns) name.local attributes false in
      ap (λ g. planted place rest (planted under kids g)) (made-dressed flags.template f _ place)
      ∙ (ap (planted place rest) (planted-dressed under kids g) ∙ planted-dressed place rest (planted under kids g))

  within-dressed : (levels : ℕ) (f : Forest) (ns : List ℕ) (rest : Trees)
      → trees_within levels (dressed f) ns rest ≡ trees_within levels f ns rest
  unfolding trees_within
  within-dressed zero f ns rest = refl
  within-dressed (suc levels) f ns rest =
      let same : trees_within levels (dressed f) ≡ trees_within levels f = λ i ns rest. within-dressed levels f ns rest i in
      ap (λ (go : List ℕ → Trees → Trees). nodes_before go f ns rest) same

  pub trees-dressed : (f : Forest) (ns : List ℕ) → trees_of (dressed f) ns ≡ trees_of f ns
  trees-dressed f ns = within-dressed (node_count f) f ns Nothing
