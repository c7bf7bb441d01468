-- The number of errors is in no part of an image but its header.
use Rattle.std.proofs.Common.{◌≡◌, ◌∙◌, ℕ, zero, suc, ◌^◌, Bool, ◌||◌, nat_le, List, ◌++◌, ap, length, refl}
use Rattle.markup.specs.Forest.{Forest, data_of, node_count}
use Rattle.markup.specs.TreeLaws.{with_errors}
use Rattle.html_tree_image.specs.Image.{attributes_of, attributes_upto, is_too_large, node_attributes, node_record, node_texts}
use Rattle.html_tree_image.specs.Image.{nodes_of, nodes_upto, texts_of, texts_upto}

texts-same : (e : ℕ) (f : Forest) (n : ℕ) → texts_upto (with_errors e f) n ≡ texts_upto f n
texts-same e f zero = refl
texts-same e f (suc n) = ap (λ (t : List ℕ). t ++ node_texts (data_of f n)) (texts-same e f n)

attributes-same : (e : ℕ) (f : Forest) (n : ℕ) → attributes_upto (with_errors e f) n ≡ attributes_upto f n
attributes-same e f zero = refl
attributes-same e f (suc n) =
    ap (λ (a : List ℕ). a ++ node_attributes (length (texts_upto (with_errors e f) n)) (data_of f n)) (attributes-same e f n)
    ∙ ap (λ (t : List ℕ). attributes_upto f n ++ node_attributes (length t) (data_of f n)) (texts-same e f n)

nodes-same : (e : ℕ) (f : Forest) (n : ℕ) → nodes_upto (with_errors e f) n ≡ nodes_upto f n
nodes-same e f zero = refl
nodes-same e f (suc n) =
    ap (λ (r : List ℕ). r ++ node_record f n (length (texts_upto (with_errors e f) n)) (length (attributes_upto (with_errors e f) n)))
    (nodes-same e f n)
    ∙ ap (λ (t : List ℕ). nodes_upto f n ++ node_record f n (length t) (length (attributes_upto (with_errors e f) n))) (texts-same e f n)
    ∙ ap (λ (a : List ℕ). nodes_upto f n ++ node_record f n (length (texts_upto f n)) (length a)) (attributes-same e f n)

is_long : List ℕ → Bool
is_long part = nat_le (2 ^ 32) (length part)

pub too-large-same : (e : ℕ) (f : Forest) → is_too_large (with_errors e f) ≡ is_too_large f
unfolding is_long
too-large-same e f =
    ap (λ (r : List ℕ). is_long r || (is_long (attributes_of (with_errors e f)) || is_long (texts_of (with_errors e f))))
    (nodes-same e f (node_count f))
    ∙ ap (λ (a : List ℕ). is_long (nodes_of f) || (is_long a || is_long (texts_of (with_errors e f)))) (attributes-same e f (node_count f))
    ∙ ap (λ (t : List ℕ). is_long (nodes_of f) || (is_long (attributes_of f) || is_long t)) (texts-same e f (node_count f))
