-- What is written of cleaned trees does not begin with U+FEFF, and is its own normal text.
use Rattle.std.proofs.Common.{◌≡◌, ◌∙◌, ℕ, Bool, true, false, List, [], ◌∷◌, ◌++◌, refl, ap, append_assoc}
use Rattle.std.specs.Prelude.{cond, nat_eq}
use Rattle.std.proofs.lemmas.Bool.{and_parts}
use Rattle.markup.specs.Escape.{escape, escaped, escaped_by}
use Rattle.markup.specs.Trees.{Trees, Nothing, Text, Comment, ProcessingInstruction, Doctype, Element}
use Rattle.html_round_trip.specs.Slices.Forms.{has_no_return}
use Rattle.html_tokens.specs.NormalText.{normal_text, newlines_after, without_mark}
use Rattle.html_tokens.proofs.NewlineLaws.{newlines-own}
use Rattle.html_clean.specs.Cleaned.{are_kept, is_lawful_text, pieces_of, unmarked, unmarked_by}
use Rattle.html_clean.specs.Pieces.{written_pieces}
use Rattle.html_clean.specs.Policies.{is_mark, starts_with_mark, without_marks}
use Rattle.html_clean.specs.declared.policy.Policy.{Policy}

escaped-starts : (amp lt gt nbsp : Bool) (c : ℕ) (rest : List ℕ) → is_mark c ≡ false
    → starts_with_mark (escaped_by amp lt gt nbsp c ++ rest) ≡ false
escaped-starts true lt gt nbsp c rest h = refl
escaped-starts false true gt nbsp c rest h = refl
escaped-starts false false true nbsp c rest h = refl
escaped-starts false false false true c rest h = refl
escaped-starts false false false false c rest h = h

escape-starts : (c : ℕ) (cs rest : List ℕ) → is_mark c ≡ false → starts_with_mark (escape (c ∷ cs) ++ rest) ≡ false
escape-starts c cs rest h =
    ap starts_with_mark (append_assoc (escaped c) (escape cs) rest)
    ∙ escaped-starts (nat_eq c 0x26) (nat_eq c 0x3C) (nat_eq c 0x3E) (nat_eq c 0xA0) c (escape cs ++ rest) h

-- a text without marks in front has none in front
no-mark-by : (c : ℕ) (cs : List ℕ) (b : Bool) → is_mark c ≡ b → starts_with_mark (without_marks cs) ≡ false
    → starts_with_mark (cond b (without_marks cs) (c ∷ cs)) ≡ false
no-mark-by c cs true h k = k
no-mark-by c cs false h k = h

no-mark : (cs : List ℕ) → starts_with_mark (without_marks cs) ≡ false
no-mark [] = refl
no-mark (c ∷ cs) = no-mark-by c cs (is_mark c) refl (no-mark cs)

-- what is written of trees
abbrev text_of : Trees → List ℕ
text_of trees = written_pieces (pieces_of trees)

starts-by : (m : List ℕ) (front after : Trees) → starts_with_mark m ≡ false
    → starts_with_mark (text_of front) ≡ false → starts_with_mark (text_of (unmarked_by m front after)) ≡ false
starts-by [] front after h k = k
starts-by (c ∷ cs) front after h k = escape-starts c cs (text_of after) h

starts : (policy : Policy) (trees : Trees) → are_kept policy trees ≡ true → starts_with_mark (text_of (unmarked trees)) ≡ false
starts policy Nothing h = refl
starts policy (Text text rest) h =
    let p = and_parts (is_lawful_text text) (are_kept policy rest) h in
    starts-by (without_marks text) (unmarked rest) rest (no-mark text) (starts policy rest p.1)
starts policy (Comment text rest) h = absurd cc
starts policy (ProcessingInstruction target text rest) h = absurd cc
starts policy (Doctype name public_id system_id rest) h = absurd cc
starts policy (Element name attributes template kids rest) h = refl

unmarked-same : (discard_bom : Bool) (t : List ℕ) → starts_with_mark t ≡ false → without_mark discard_bom t ≡ t
unmarked-same discard_bom [] h = refl
unmarked-same true (c ∷ t) h = rw h refl
unmarked-same false (c ∷ t) h = refl

pub own-text : (policy : Policy) (trees : Trees) → are_kept policy trees ≡ true
    → has_no_return (text_of (unmarked trees)) ≡ true → (discard_bom : Bool) → normal_text discard_bom
    (text_of (unmarked trees)) ≡ text_of (unmarked trees)
own-text policy trees kept none discard_bom =
    ap (newlines_after false) (unmarked-same discard_bom (text_of (unmarked trees)) (starts policy trees kept))
    ∙ newlines-own (text_of (unmarked trees)) none
