-- The parts of one node more.
use Rattle.std.proofs.Common.{◌≡◌, ℕ, ◌+◌, List, ◌++◌, length, refl}
use Rattle.std.proofs.Math.Numerals.{add-one}
use Rattle.markup.specs.Forest.{Forest, data_of}
use Rattle.html_tree_image.specs.Image.{attributes_upto, node_attributes, node_record, node_texts, nodes_upto, texts_upto}

module _ (f : Forest) (n id : ℕ) (is : id ≡ n) (texts : List ℕ) (before : texts ≡ texts_upto f n) where
  pub texts-grown : (new : List ℕ) → new ≡ texts ++ node_texts (data_of f id) → new ≡ texts_upto f (n + 1)
  texts-grown new grown = rw (add-one n, grown, is, before) refl

  pub attributes-grown : (old new : List ℕ) → old ≡ attributes_upto f n → new ≡ old ++ node_attributes (length texts) (data_of f id)
      → new ≡ attributes_upto f (n + 1)
  attributes-grown old new first grown = rw (add-one n, grown, is, before, first) refl

  pub nodes-grown : (old new attributes : List ℕ) → old ≡ nodes_upto f n → attributes ≡ attributes_upto f n
      → new ≡ old ++ node_record f id (length texts) (length attributes) → new ≡ nodes_upto f (n + 1)
  nodes-grown old new attributes these first grown = rw (add-one n, grown, is, before, first, these) refl
