-- Forests with one image have the same nodes.
use Rattle.std.proofs.Common.{◌≡◌, ◌^◌, ◌<◌, ◌||◌, ℕ, false, nat_le, Option, IfSome, arith, length, refl, subst, sym}
use Rattle.std.proofs.lemmas.Bool.{leb-false, or_parts}
use Rattle.markup.specs.Forest.{Forest, IsForest, children_of, node_count, parent_of}
use Rattle.html_forest.specs.Links.{first_of, next_under}
use Rattle.html_tree_image.specs.Image.{attributes_of, image_of, is_too_large, nodes_of, texts_of}
use Rattle.html_image_reader.specs.Alike.{AreAlike}
use Rattle.html_image_reader.proofs.Headers as headers
use Rattle.html_image_reader.proofs.Headers.{Fits}
use Rattle.html_image_reader.proofs.Linked.{children-same, first-in, link-same, link-small, next-in}
use Rattle.html_image_reader.proofs.Records as records
use Rattle.html_image_reader.proofs.Records.{attributes_at, nodes-length, numbers, record_of}
use Rattle.html_image_reader.proofs.Words.{word-at}

fits : (f : Forest) → is_too_large f ≡ false → Fits f
fits f small =
    let one = or_parts (nat_le (2 ^ 32) (length (nodes_of f)))
    (nat_le (2 ^ 32) (length (attributes_of f)) || nat_le (2 ^ 32) (length (texts_of f))) small in
    let two = or_parts (nat_le (2 ^ 32) (length (attributes_of f))) (nat_le (2 ^ 32) (length (texts_of f))) one.1 in
    record {
      nodes = leb-false (2 ^ 32) (length (nodes_of f)) one.0;
      attributes = leb-false (2 ^ 32) (length (attributes_of f)) two.0;
      texts = leb-false (2 ^ 32) (length (texts_of f)) two.1;
    }

few : (f : Forest) → Fits f → node_count f < 4294967295
few f fits = let size = nodes-length f (node_count f) in let small = fits.nodes in omega (arith, size, small)

module _ (f g : Forest) (is : IsForest f) (is' : IsForest g) (small : is_too_large f ≡ false) (small' : is_too_large g ≡ false)
    (same : image_of f ≡ image_of g) where
  count : node_count f ≡ node_count g
  count = headers.counts-same f g (fits f small) (fits g small') same

  nodes : nodes_of f ≡ nodes_of g
  nodes = headers.nodes-same f g (fits f small) (fits g small') same

  attributes : attributes_of f ≡ attributes_of g
  attributes = headers.attributes-same f g (fits f small) (fits g small') same

  texts : texts_of f ≡ texts_of g
  texts = headers.texts-same f g (fits f small) (fits g small') same

  within : (o : Option ℕ) → IfSome o (λ k. k < node_count g) → IfSome o (λ k. k < node_count f)
  within o there = subst (λ (bound : ℕ). IfSome o (λ k. k < bound)) (sym count) there

  first-same : (n : ℕ) → n < node_count f → first_of (children_of f n) ≡ first_of (children_of g n)
  unfolding numbers
  first-same n less =
      let there = first-in f is n in
      let there' = within (first_of (children_of g n)) (first-in g is' n) in
      let bound = few f (fits f small) in
      link-same (node_count f) (first_of (children_of f n)) (first_of (children_of g n)) bound there there'
      (word-at (numbers f n) (numbers g n) 2 refl (records.numbers-same f g count nodes n less)
      (link-small (node_count f) (first_of (children_of f n)) bound there)
      (link-small (node_count f) (first_of (children_of g n)) bound there'))

  next-same : (n : ℕ) → n < node_count f → next_under f n (parent_of f n) ≡ next_under g n (parent_of g n)
  unfolding numbers
  next-same n less =
      let there = next-in f is n in
      let there' = within (next_under g n (parent_of g n)) (next-in g is' n) in
      let bound = few f (fits f small) in
      link-same (node_count f) (next_under f n (parent_of f n)) (next_under g n (parent_of g n)) bound there there'
      (word-at (numbers f n) (numbers g n) 5 refl (records.numbers-same f g count nodes n less)
      (link-small (node_count f) (next_under f n (parent_of f n)) bound there)
      (link-small (node_count f) (next_under g n (parent_of g n)) bound there'))

  pub alike : AreAlike f g
  unfolding record_of attributes_at
  alike =
      let short-attributes = (fits f small).attributes in
      let short-texts = (fits f small).texts in
      record {
        count = count;
        quirks = headers.modes-same f g (fits f small) (fits g small') same;
        kinds = records.kinds-same f g count nodes;
        children = λ n less. children-same f g is is' next-same n (first-same n less);
        texts = records.texts-same f g count nodes attributes texts short-attributes short-texts;
        records = records.records f g count nodes;
        attributes = records.attributes-same f g count nodes attributes short-attributes;
      }
