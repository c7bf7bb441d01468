-- Equal images have equal parts.
use Rattle.std.proofs.Common.{◌≡◌, ◌∙◌, ◌+◌, ◌^◌, ◌<◌, ℕ, List, [], ◌∷◌, ◌++◌, sym, refl, arith, length, codes}
use Rattle.std.proofs.lemmas.List.{length-append}
use Rattle.std.specs.Int.{w64, to_le_bytes}
use Rattle.markup.specs.Forest.{Forest, node_count}
use Rattle.markup.specs.declared.quirks.QuirksMode.{QuirksMode}
use Rattle.markup.specs.declared.quirks.QuirksMode.TheVariants.{NoQuirks, LimitedQuirks, Quirks}
use Rattle.html_tree_image.specs.Image.{attributes_of, header, image_of, nodes_of, quirks_number, texts_of, words}
use Rattle.html_image_reader.proofs.Records.{nodes-length}
use Rattle.html_image_reader.proofs.Words.{back-same, front-same, word-at, words-length}

-- the numbers in a header
sizes : Forest → List ℕ
sizes f = 1 ∷ length (nodes_of f) ∷ length (attributes_of f) ∷ length (texts_of f) ∷ quirks_number f.quirks ∷ []

front : Forest → List ℕ
front f = header (length (nodes_of f)) (length (attributes_of f)) (length (texts_of f)) f.quirks f.errors

back : Forest → List ℕ
back f = nodes_of f ++ (attributes_of f ++ texts_of f)

front-length : (f : Forest) → length (front f) ≡ 32
unfolding front sizes
front-length f =
    length-append (codes "FIGT") (words (sizes f) ++ to_le_bytes w64 f.errors)
    ∙ (let rest = length-append (words (sizes f)) (to_le_bytes w64 f.errors) in
    let numbers = words-length (sizes f) in
    let errors : length (to_le_bytes w64 f.errors) ≡ 8 = refl in
    let all : length (codes "FIGT") + length (words (sizes f) ++ to_le_bytes w64 f.errors) ≡ 32
    = omega (arith, rest, numbers, errors) in all)

quirks-small : (mode : QuirksMode) → quirks_number mode < 2 ^ 32
quirks-small NoQuirks = omega arith
quirks-small LimitedQuirks = omega arith
quirks-small Quirks = omega arith

quirks-same : (a b : QuirksMode) → quirks_number a ≡ quirks_number b → a ≡ b
quirks-same NoQuirks NoQuirks e = refl
quirks-same NoQuirks LimitedQuirks e = absurd (omega (arith, e))
quirks-same NoQuirks Quirks e = absurd (omega (arith, e))
quirks-same LimitedQuirks NoQuirks e = absurd (omega (arith, e))
quirks-same LimitedQuirks LimitedQuirks e = refl
quirks-same LimitedQuirks Quirks e = absurd (omega (arith, e))
quirks-same Quirks NoQuirks e = absurd (omega (arith, e))
quirks-same Quirks LimitedQuirks e = absurd (omega (arith, e))
quirks-same Quirks Quirks e = refl

-- parts of fewer than 2 ^ 32 bytes
pub record Fits (f : Forest) : Type 0 where
  pub nodes : length (nodes_of f) < 2 ^ 32
  pub attributes : length (attributes_of f) < 2 ^ 32
  pub texts : length (texts_of f) < 2 ^ 32

module _ (f g : Forest) (fits : Fits f) (fits' : Fits g) (same : image_of f ≡ image_of g) where
  fronts-same : front f ≡ front g
  unfolding front back
  fronts-same = front-same (front f) (back f) (front g) (back g) (front-length f ∙ sym (front-length g)) same

  backs-same : back f ≡ back g
  unfolding front back
  backs-same = back-same (front f) (back f) (front g) (back g) (front-length f ∙ sym (front-length g)) same

  sizes-same : words (sizes f) ≡ words (sizes g)
  unfolding front sizes
  sizes-same =
      let rest = back-same (codes "FIGT") (words (sizes f) ++ to_le_bytes w64 f.errors) (codes "FIGT")
      (words (sizes g) ++ to_le_bytes w64 g.errors) refl fronts-same in
      front-same (words (sizes f)) (to_le_bytes w64 f.errors) (words (sizes g)) (to_le_bytes w64 g.errors)
      (words-length (sizes f) ∙ sym (words-length (sizes g))) rest

  nodes-size : length (nodes_of f) ≡ length (nodes_of g)
  unfolding sizes
  nodes-size = word-at (sizes f) (sizes g) 1 refl sizes-same fits.nodes fits'.nodes

  attributes-size : length (attributes_of f) ≡ length (attributes_of g)
  unfolding sizes
  attributes-size = word-at (sizes f) (sizes g) 2 refl sizes-same fits.attributes fits'.attributes

  pub modes-same : f.quirks ≡ g.quirks
  unfolding sizes
  modes-same = quirks-same f.quirks g.quirks
      (word-at (sizes f) (sizes g) 4 refl sizes-same (quirks-small f.quirks) (quirks-small g.quirks))

  pub nodes-same : nodes_of f ≡ nodes_of g
  unfolding back
  nodes-same = front-same (nodes_of f) (attributes_of f ++ texts_of f) (nodes_of g) (attributes_of g ++ texts_of g) nodes-size backs-same

  others-same : attributes_of f ++ texts_of f ≡ attributes_of g ++ texts_of g
  unfolding back
  others-same = back-same (nodes_of f) (attributes_of f ++ texts_of f) (nodes_of g) (attributes_of g ++ texts_of g) nodes-size backs-same

  pub attributes-same : attributes_of f ≡ attributes_of g
  attributes-same = front-same (attributes_of f) (texts_of f) (attributes_of g) (texts_of g) attributes-size others-same

  pub texts-same : texts_of f ≡ texts_of g
  texts-same = back-same (attributes_of f) (texts_of f) (attributes_of g) (texts_of g) attributes-size others-same

  pub counts-same : node_count f ≡ node_count g
  counts-same =
      let size = nodes-length f (node_count f) in
      let size' = nodes-length g (node_count g) in
      omega (arith, size, size', nodes-size)
