-- Attributes that are emitted, one by one.
use Rattle.std.proofs.Common.{◌≡◌, ◌∙◌, ℕ, ◌+◌, ◌<◌, Bool, true, false, List, [], ◌∷◌, ◌++◌, length, map, take, drop, get_or, refl, sym, ap}
use Rattle.std.specs.Prelude.{◌&&◌, not, Option}
use Rattle.std.specs.Str.{chars}
use Rattle.std.specs.List.{list_all}
use Rattle.std.proofs.lemmas.List.{map-append}
use Rattle.std.proofs.lemmas.List.Folds.{list_all-append}
use Rattle.markup.proofs.Plain.{chars-plain}
use Rattle.std.proofs.Common.{codes}
use Rattle.markup.specs.Attributes.{are_distinct, has_local_name}
use Rattle.markup.specs.Escape.{attribute_prefix, prefix_by}
use Rattle.markup.specs.Namespaces.{known_namespace}
use Rattle.markup.specs.declared.attributes.Attribute.{Attribute}
use Rattle.markup.specs.declared.names.QualName.{QualName}
use Rattle.markup.specs.declared.namespaces.KnownNamespace.{KnownNamespace}
use Rattle.markup.specs.declared.namespaces.KnownNamespace.TheVariants.{NoNamespace, XLink, Xml, Xmlns}
use Rattle.std.specs.Prelude.{Some}
use Rattle.std.specs.Str.{bytes_eq}
use Rattle.html_plain.proofs.Parts.{distinct-more, repeated, split-at, take-at}
use Rattle.html_faithful.specs.Forms.{are_told, told_attribute}
use Rattle.html_faithful_judge.specs.Texts.{is_kept_attribute}

prefixes : (o : Option KnownNamespace) (b : Bool) → chars (prefix_by o b) ≡ prefix_by o b
prefixes (Some NoNamespace) b = chars-plain (codes "") refl
prefixes (Some Xml) b = chars-plain (codes "xml:") refl
prefixes (Some Xmlns) true = chars-plain (codes "") refl
prefixes (Some Xmlns) false = chars-plain (codes "xmlns:") refl
prefixes (Some XLink) b = chars-plain (codes "xlink:") refl
prefixes o b = chars-plain (codes "unknown_namespace:") refl

-- what stands before a name is of ASCII alone
pub prefix-chars : (name : QualName) → chars (attribute_prefix name) ≡ attribute_prefix name
prefix-chars name = prefixes (known_namespace name.ns) (bytes_eq name.local (codes "xmlns"))

-- attributes, as they are emitted, cut at one of them
pub emitted-at : (l : List Attribute) (i : ℕ) (x : Attribute) → i < length l → get_or l i x ≡ x
    → map told_attribute l ≡ map told_attribute (take i l) ++ told_attribute x ∷ map told_attribute (drop (i + 1) l)
emitted-at l i x lt e = ap (map told_attribute) (split-at l i x lt e) ∙ map-append told_attribute (take i l) (x ∷ drop (i + 1) l)

pub emitted-next : (l : List Attribute) (i : ℕ) (x : Attribute) → i < length l → get_or l i x ≡ x
    → map told_attribute (take (i + 1) l) ≡ map told_attribute (take i l) ++ told_attribute x ∷ []
emitted-next l i x lt e = ap (map told_attribute) (take-at l i x lt e) ∙ map-append told_attribute (take i l) (x ∷ [])

kept-by : (a b c d : Bool) → ((a && (b && true)) && (c && not d)) ≡ ((a && c) && (b && not d))
kept-by true true c d = refl
kept-by true false true d = refl
kept-by true false false d = refl
kept-by false b c d = refl

kept-more : (front : List Attribute) (a : Attribute) → are_told (front ++ a ∷ []) ≡
    (are_told front && (is_kept_attribute a && not (has_local_name a.name.local front)))
kept-more front a =
    ap (λ b. b && are_distinct (front ++ a ∷ [])) (list_all-append is_kept_attribute front (a ∷ []))
    ∙ (ap (λ b. (list_all is_kept_attribute front && (is_kept_attribute a && true)) && b) (distinct-more front a)
    ∙ kept-by (list_all is_kept_attribute front) (is_kept_attribute a) (are_distinct front) (has_local_name a.name.local front))

-- one more may join them
pub kept-joined : (front : List Attribute) (a : Attribute) (b : Bool) → are_told front ≡ true
    → b ≡ (is_kept_attribute a && not (has_local_name a.name.local front)) → b ≡ true → are_told (front ++ a ∷ []) ≡ true
kept-joined front a b h e may = kept-more front a
    ∙ (ap (λ t. t && (is_kept_attribute a && not (has_local_name a.name.local front))) h ∙ (sym e ∙ may))

unkept-by : (a b : Bool) → ((a && (false && b)) && true) ≡ false
unkept-by true b = refl
unkept-by false b = refl

and-false : (a : Bool) → (a && false) ≡ false
and-false true = refl
and-false false = refl

unkept : (all distinct told has : Bool) (rest : Bool) → (told && not has) ≡ false → (has ≡ true → distinct ≡ false)
    → ((all && (told && rest)) && distinct) ≡ false
unkept all distinct false has rest h d = elim all as (λ all. ((all && false) && distinct) ≡ false) [ true ↦ refl | false ↦ refl ]
unkept all distinct true true rest h d = ap (λ b. (all && rest) && b) (d refl) ∙ and-false (all && rest)
unkept all distinct true false rest h d = absurd cc

-- one may not
pub kept-refused : (front : List Attribute) (a : Attribute) (rest : List Attribute) (b : Bool)
    → b ≡ (is_kept_attribute a && not (has_local_name a.name.local front)) → b ≡ false → are_told (front ++ a ∷ rest) ≡ false
kept-refused front a rest b e refused =
    ap (λ t. t && are_distinct (front ++ a ∷ rest)) (list_all-append is_kept_attribute front (a ∷ rest))
    ∙ unkept (list_all is_kept_attribute front) (are_distinct (front ++ a ∷ rest)) (is_kept_attribute a) (has_local_name a.name.local front)
    (list_all is_kept_attribute rest) (sym e ∙ refused) (repeated front a rest)
