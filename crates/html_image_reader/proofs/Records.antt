-- Forests with equal parts of images have equal kinds, neighbours and texts.
use Rattle.std.proofs.Common.{◌≡◌, ◌∙◌, ◌+◌, ◌*◌, ◌^◌, ◌<◌, ◌≤◌, ℕ, zero, suc, List, ◌∷◌, ◌++◌}
use Rattle.std.proofs.Common.{ap, sym, refl, arith, length}
use Rattle.std.proofs.lemmas.List.{length-append}
use Rattle.markup.specs.Forest.{Forest, contents_of, data_of, node_count}
use Rattle.html_tree_image.specs.Image.{attributes_of, attributes_upto, extents, kind_number, links, node_attributes, node_record}
use Rattle.html_tree_image.specs.Image.{node_texts, node_type, nodes_of, nodes_upto, texts_of, texts_upto, words}
use Rattle.html_image_reader.proofs.Numbers.{attribute_count, counts-same, texts-length, attributes-size, extents-length, kind-small}
use Rattle.html_image_reader.proofs.Numbers.{type-same}
use Rattle.html_image_reader.proofs.Pieces.{piece-short, pieces}
use Rattle.html_image_reader.proofs.Words.{back-same, front-same, words-length, first-word}

-- the numbers of a node before its texts
unfoldable pub numbers : Forest → ℕ → List ℕ
numbers f n = kind_number (data_of f n) ∷ links f n

unfoldable pub places : Forest → ℕ → List ℕ
places f n = extents (length (texts_upto f n)) (length (attributes_upto f n)) (contents_of f n) (data_of f n)

unfoldable pub record_of : Forest → ℕ → List ℕ
record_of f n = node_record f n (length (texts_upto f n)) (length (attributes_upto f n))

numbers-length : (f : Forest) (n : ℕ) → length (words (numbers f n)) ≡ 24
unfolding numbers
numbers-length f n = words-length (kind_number (data_of f n) ∷ links f n)

record-length : (f : Forest) (n : ℕ) → length (record_of f n) ≡ 48
unfolding record_of numbers places
record-length f n =
    length-append (words (numbers f n)) (words (places f n))
    ∙ (let front = numbers-length f n in
    let back = words-length (places f n) in
    let six : length (places f n) ≡ 6
    = extents-length (length (texts_upto f n)) (length (attributes_upto f n)) (contents_of f n) (data_of f n) in
    omega (arith, front, back, six))

nodes-grow : (f : Forest) (n : ℕ) → nodes_upto f (suc n) ≡ nodes_upto f n ++ record_of f n
unfolding record_of
nodes-grow f n = refl

unfoldable pub attributes_at : Forest → ℕ → List ℕ
attributes_at f n = node_attributes (length (texts_upto f n)) (data_of f n)

attributes-grow : (f : Forest) (n : ℕ) → attributes_upto f (suc n) ≡ attributes_upto f n ++ attributes_at f n
unfolding attributes_at
attributes-grow f n = refl

texts_at : Forest → ℕ → List ℕ
texts_at f n = node_texts (data_of f n)

texts-grow : (f : Forest) (n : ℕ) → texts_upto f (suc n) ≡ texts_upto f n ++ texts_at f n
unfolding texts_at
texts-grow f n = refl

pub nodes-length : (f : Forest) (n : ℕ) → length (nodes_upto f n) ≡ 48 * n
nodes-length f zero = refl
nodes-length f (suc n) =
    ap length (nodes-grow f n) ∙ length-append (nodes_upto f n) (record_of f n)
    ∙ (let before = nodes-length f n in let one = record-length f n in omega (arith, before, one))

module _ (f g : Forest) (count : node_count f ≡ node_count g) (nodes : nodes_of f ≡ nodes_of g) where
  pub records : (n : ℕ) → n < node_count f → record_of f n ≡ record_of g n
  records n less =
      pieces (nodes_upto f) (nodes_upto g) (record_of f) (record_of g) (nodes-grow f) (nodes-grow g) (node_count f)
      (λ m within. nodes-length f m ∙ sym (nodes-length g m))
      (nodes ∙ ap (nodes_upto g) (sym count)) n less

  pub numbers-same : (n : ℕ) → n < node_count f → words (numbers f n) ≡ words (numbers g n)
  unfolding record_of numbers places
  numbers-same n less =
      front-same (words (numbers f n)) (words (places f n)) (words (numbers g n)) (words (places g n))
      (numbers-length f n ∙ sym (numbers-length g n)) (records n less)

  pub places-same : (n : ℕ) → n < node_count f → words (places f n) ≡ words (places g n)
  unfolding record_of numbers places
  places-same n less =
      back-same (words (numbers f n)) (words (places f n)) (words (numbers g n)) (words (places g n))
      (numbers-length f n ∙ sym (numbers-length g n)) (records n less)

  pub kinds-same : (n : ℕ) → n < node_count f → kind_number (data_of f n) ≡ kind_number (data_of g n)
  unfolding numbers
  kinds-same n less = first-word (kind_number (data_of f n)) (kind_number (data_of g n)) (links f n) (links g n)
      (kind-small (data_of f n)) (kind-small (data_of g n)) (numbers-same n less)

  types-same : (n : ℕ) → n < node_count f → node_type (data_of f n) ≡ node_type (data_of g n)
  types-same n less = type-same (data_of f n) (data_of g n) (kinds-same n less)

module _ (f g : Forest) (count : node_count f ≡ node_count g) (nodes : nodes_of f ≡ nodes_of g)
    (attributes : attributes_of f ≡ attributes_of g)
    (small-attributes : length (attributes_of f) < 2 ^ 32) where
  attributes-small : (n : ℕ) → n < node_count f → length (attributes_at f n) < 2 ^ 32
  attributes-small n less =
      let short = piece-short (attributes_upto f) (attributes_at f) (attributes-grow f) n (node_count f) less in
      omega (arith, short, small-attributes)

  attributes-small' : (n : ℕ) → n < node_count f → length (attributes_at g n) < 2 ^ 32
  attributes-small' n less =
      let short = piece-short (attributes_upto g) (attributes_at g) (attributes-grow g) n (node_count g) (omega (arith, less, count)) in
      let size : length (attributes_of f) ≡ length (attributes_of g) = ap length attributes in
      omega (arith, short, small-attributes, size)

  counts-at : (n : ℕ) → n < node_count f → attribute_count (data_of f n) ≡ attribute_count (data_of g n)
  unfolding places attributes_at
  counts-at n less =
      let small = attributes-small n less in
      let small' = attributes-small' n less in
      let size = attributes-size (length (texts_upto f n)) (data_of f n) in
      let size' = attributes-size (length (texts_upto g n)) (data_of g n) in
      counts-same (length (texts_upto f n)) (length (attributes_upto f n)) (length (texts_upto g n)) (length (attributes_upto g n))
      (contents_of f n) (contents_of g n) (data_of f n) (data_of g n) (types-same f g count nodes n less)
      (places-same f g count nodes n less)
      (omega (arith, size, small)) (omega (arith, size', small'))

  attributes-lengths : (n : ℕ) → n ≤ node_count f → length (attributes_upto f n) ≡ length (attributes_upto g n)
  attributes-lengths zero within = refl
  attributes-lengths (suc n) within =
      let before = attributes-lengths n (omega (arith, within)) in
      let size = attributes-size (length (texts_upto f n)) (data_of f n) in
      let size' = attributes-size (length (texts_upto g n)) (data_of g n) in
      let counts = counts-at n (omega (arith, within)) in
      length-append (attributes_upto f n) (node_attributes (length (texts_upto f n)) (data_of f n))
      ∙ (let one : length (attributes_upto f n) + length (node_attributes (length (texts_upto f n)) (data_of f n))
      ≡ length (attributes_upto g n) + length (node_attributes (length (texts_upto g n)) (data_of g n)) =
      omega (arith, before, size, size', counts) in one)
      ∙ sym (length-append (attributes_upto g n) (node_attributes (length (texts_upto g n)) (data_of g n)))

  pub attributes-same : (n : ℕ) → n < node_count f → attributes_at f n ≡ attributes_at g n
  attributes-same n less =
      pieces (attributes_upto f) (attributes_upto g) (attributes_at f) (attributes_at g) (attributes-grow f) (attributes-grow g)
      (node_count f) attributes-lengths (attributes ∙ ap (attributes_upto g) (sym count)) n less

module _ (f g : Forest) (count : node_count f ≡ node_count g) (nodes : nodes_of f ≡ nodes_of g)
    (attributes : attributes_of f ≡ attributes_of g)
    (texts : texts_of f ≡ texts_of g) (small-attributes : length (attributes_of f) < 2 ^ 32)
    (small-texts : length (texts_of f) < 2 ^ 32) where
  texts-small : (n : ℕ) → n < node_count f → length (texts_at f n) < 2 ^ 32
  texts-small n less =
      let short = piece-short (texts_upto f) (texts_at f) (texts-grow f) n (node_count f) less in
      omega (arith, short, small-texts)

  texts-small' : (n : ℕ) → n < node_count f → length (texts_at g n) < 2 ^ 32
  texts-small' n less =
      let short = piece-short (texts_upto g) (texts_at g) (texts-grow g) n (node_count g) (omega (arith, less, count)) in
      let size : length (texts_of f) ≡ length (texts_of g) = ap length texts in
      omega (arith, short, small-texts, size)

  texts-at : (n : ℕ) → n < node_count f → length (texts_at f n) ≡ length (texts_at g n)
  unfolding places attributes_at texts_at
  texts-at n less =
      texts-length (length (texts_upto f n)) (length (attributes_upto f n)) (length (texts_upto g n)) (length (attributes_upto g n))
      (contents_of f n) (contents_of g n) (data_of f n) (data_of g n) (types-same f g count nodes n less)
      (places-same f g count nodes n less)
      (attributes-same f g count nodes attributes small-attributes n less)
      (counts-at f g count nodes attributes small-attributes n less) (texts-small n less) (texts-small' n less)

  texts-lengths : (n : ℕ) → n ≤ node_count f → length (texts_upto f n) ≡ length (texts_upto g n)
  texts-lengths zero within = refl
  texts-lengths (suc n) within =
      ap length (texts-grow f n) ∙ length-append (texts_upto f n) (texts_at f n)
      ∙ (let before = texts-lengths n (omega (arith, within)) in
      let one = texts-at n (omega (arith, within)) in
      let all : length (texts_upto f n) + length (texts_at f n) ≡ length (texts_upto g n) + length (texts_at g n) =
      omega (arith, before, one) in all)
      ∙ sym (ap length (texts-grow g n) ∙ length-append (texts_upto g n) (texts_at g n))

  pub texts-same : (n : ℕ) → n < node_count f → node_texts (data_of f n) ≡ node_texts (data_of g n)
  unfolding texts_at
  texts-same n less =
      pieces (texts_upto f) (texts_upto g) (texts_at f) (texts_at g) (texts-grow f) (texts-grow g)
      (node_count f) texts-lengths (texts ∙ ap (texts_upto g) (sym count)) n less
