-- What an image says of a forest: all of it but the prefixes of elements, and the names of namespaces that the parser doesn't give.
use Rattle.std.specs.Prelude.{◌≡◌, ◌<◌, ℕ, false, length}
use Rattle.markup.specs.Forest.{Forest, IsForest, children_of, data_of, node_count}
use Rattle.html_tree_image.specs.Image.{attributes_upto, image_of, is_too_large, kind_number, node_attributes, node_record, node_texts}
use Rattle.html_tree_image.specs.Image.{texts_upto}

-- Two forests have the same nodes: kinds, children, texts, and in them the same names, values and identifiers, which `records` and
-- `attributes` divide.
pub record AreAlike (f g : Forest) : Type 0 where
  pub count : node_count f ≡ node_count g
  pub quirks : f.quirks ≡ g.quirks
  pub kinds : (n : ℕ) → n < node_count f → kind_number (data_of f n) ≡ kind_number (data_of g n)
  pub children : (n : ℕ) → n < node_count f → children_of f n ≡ children_of g n
  pub texts : (n : ℕ) → n < node_count f → node_texts (data_of f n) ≡ node_texts (data_of g n)
  pub records : (n : ℕ) → n < node_count f → node_record f n (length (texts_upto f n)) (length (attributes_upto f n))
      ≡ node_record g n (length (texts_upto g n)) (length (attributes_upto g n))
  pub attributes : (n : ℕ) → n < node_count f → node_attributes (length (texts_upto f n)) (data_of f n)
      ≡ node_attributes (length (texts_upto g n)) (data_of g n)

-- forests with one image have the same nodes
abbrev pub HaveEqualTrees : Type 0
HaveEqualTrees = (f g : Forest) → IsForest f → IsForest g → is_too_large f ≡ false → is_too_large g ≡ false
    → image_of f ≡ image_of g → AreAlike f g
