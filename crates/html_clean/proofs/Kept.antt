-- What cleaning leaves is kept.
use Rattle.std.proofs.Common.{◌≡◌, ℕ, Bool, true, false, ◌&&◌, ◌||◌, List, [], ◌∷◌, refl}
use Rattle.std.specs.Prelude.{cond, not}
use Rattle.std.specs.List.{list_all}
use Rattle.std.proofs.lemmas.Bool.{and_parts}
use Rattle.markup.specs.Trees.{Trees, Nothing, Text, Comment, ProcessingInstruction, Doctype, Element, is_among, is_html}
use Rattle.markup.specs.declared.attributes.Attribute.{Attribute}
use Rattle.markup.specs.declared.names.QualName.{QualName}
use Rattle.html_clean.specs.Cleaned.{are_kept, are_lawful_attributes, cleaned, cleaned_before, element_before, is_lawful_text}
use Rattle.html_clean.specs.Cleaned.{is_nothing, kids_of, text_before, unmarked, unmarked_by}
use Rattle.html_clean.specs.Names.{is_void}
use Rattle.html_clean.specs.Policies.{fate, fate_by, is_kept_name, is_mark, is_plain_character, kept_attributes, plain_text, without_marks}
use Rattle.html_clean.specs.declared.elements.Fate.{Fate}
use Rattle.html_clean.specs.declared.elements.Fate.TheVariants.{Kept, Dropped, Unwrapped}
use Rattle.html_clean.specs.declared.policy.Policy.{Policy}
use Rattle.html_round_trip.specs.Slices.Forms.{is_no_text}
use Rattle.html_clean.proofs.Lawful.{and-both, attributes-lawful, plain-is}

kept-by : (b d : Bool) → fate_by b d ≡ Kept → b ≡ true
kept-by true d h = refl
kept-by false true h = absurd cc
kept-by false false h = absurd cc

text-kept : (policy : Policy) (text : List ℕ) (after : Trees) → list_all is_plain_character text ≡ true
    → are_kept policy after ≡ true → are_kept policy (text_before text after) ≡ true
text-kept policy [] after h k = k
text-kept policy (c ∷ cs) after h k = and-both (list_all is_plain_character (c ∷ cs)) (are_kept policy after) h k

kids-kept : (policy : Policy) (v : Bool) (kids : Trees) → are_kept policy kids ≡ true
    → (((not v || is_nothing (kids_of v kids)) && are_kept policy (kids_of v kids)) ≡ true)
kids-kept policy true kids h = refl
kids-kept policy false kids h = h

element-kept : (policy : Policy) (f : Fate) (name : QualName) (attributes : List Attribute) (inner : Trees → Trees) (after : Trees)
    → fate policy name ≡ f → are_lawful_attributes policy name.local attributes ≡ true
    → ((rest : Trees) → are_kept policy rest ≡ true → are_kept policy (inner rest) ≡ true) → are_kept policy after ≡ true
    → are_kept policy (element_before f name attributes inner after) ≡ true
element-kept policy Kept name attributes inner after e lawful keeps h =
    and-both _ _ (and-both _ _ (kept-by (is_html name && is_kept_name policy name.local)
    (is_among name.local policy.dropped.items) e) lawful)
    (and-both _ _ (kids-kept policy (is_void name.local) (inner Nothing) (keeps Nothing refl)) h)
element-kept policy Dropped name attributes inner after e lawful keeps h = h
element-kept policy Unwrapped name attributes inner after e lawful keeps h = keeps after h

pub cleaned-kept : (policy : Policy) (trees after : Trees) → are_kept policy after ≡ true
    → are_kept policy (cleaned_before policy trees after) ≡ true
cleaned-kept policy Nothing after h = h
cleaned-kept policy (Text text rest) after h = text-kept policy (plain_text text) (cleaned_before policy rest after)
    (plain-is text) (cleaned-kept policy rest after h)
cleaned-kept policy (Comment text rest) after h = cleaned-kept policy rest after h
cleaned-kept policy (ProcessingInstruction target text rest) after h = cleaned-kept policy rest after h
cleaned-kept policy (Doctype name public_id system_id rest) after h = cleaned-kept policy rest after h
cleaned-kept policy (Element name attributes template kids rest) after h =
    element-kept policy (fate policy name) name (kept_attributes policy name.local attributes)
    (cleaned_before policy kids) (cleaned_before policy rest after) refl
    (attributes-lawful policy name.local attributes) (λ more k. cleaned-kept policy kids more k) (cleaned-kept policy rest after h)

-- IN FRONT

marks-plain-by : (c : ℕ) (cs : List ℕ) (b : Bool) → is_plain_character c ≡ true
    → list_all is_plain_character cs ≡ true → list_all is_plain_character (without_marks cs) ≡ true
    → list_all is_plain_character (cond b (without_marks cs) (c ∷ cs)) ≡ true
marks-plain-by c cs true p h k = k
marks-plain-by c cs false p h k = and-both (is_plain_character c) (list_all is_plain_character cs) p h

marks-plain : (cs : List ℕ) → list_all is_plain_character cs ≡ true → list_all is_plain_character (without_marks cs) ≡ true
marks-plain [] h = refl
marks-plain (c ∷ cs) h = let p = and_parts (is_plain_character c) (list_all is_plain_character cs) h in
    marks-plain-by c cs (is_mark c) p.0 p.1 (marks-plain cs p.1)

unmarked-by-kept : (policy : Policy) (m : List ℕ) (front after : Trees) → list_all is_plain_character m ≡ true
    → are_kept policy front ≡ true → are_kept policy after ≡ true → are_kept policy (unmarked_by m front after) ≡ true
unmarked-by-kept policy [] front after h k l = k
unmarked-by-kept policy (c ∷ cs) front after h k l = and-both (list_all is_plain_character (c ∷ cs)) (are_kept policy after) h l

pub unmarked-kept : (policy : Policy) (trees : Trees) → are_kept policy trees ≡ true → are_kept policy (unmarked trees) ≡ true
unmarked-kept policy Nothing h = h
unmarked-kept policy (Text text rest) h =
    let p = and_parts (is_lawful_text text) (are_kept policy rest) h in
    let q = and_parts (not (is_no_text text)) (list_all is_plain_character text) p.0 in
    unmarked-by-kept policy (without_marks text) (unmarked rest) rest (marks-plain text q.1) (unmarked-kept policy rest p.1) p.1
unmarked-kept policy (Comment text rest) h = h
unmarked-kept policy (ProcessingInstruction target text rest) h = h
unmarked-kept policy (Doctype name public_id system_id rest) h = h
unmarked-kept policy (Element name attributes template kids rest) h = h

pub all-kept : (policy : Policy) (trees : Trees) → are_kept policy (cleaned policy trees) ≡ true
all-kept policy trees = unmarked-kept policy (cleaned_before policy trees Nothing) (cleaned-kept policy trees Nothing refl)
