-- The tables of what is written of known names, row by row.
use Rattle.std.proofs.Common.{◌≡◌, ◌∙◌, ℕ, ◌-◌, ◌<◌, Bool, true, false, List, [], ◌∷◌, ◌++◌, Bor, length, length-append, map}
use Rattle.std.proofs.Common.{get_or, take, refl, ap, sym, arith, append_assoc, encode_utf8_all}
use Rattle.std.specs.Prelude.{◌&&◌, codes}
use Rattle.std.specs.List.{list_any, list_all}
use Rattle.std.specs.Str.{bytes_eq}
use Rattle.std.proofs.lemmas.Bool.{and_parts}
use Rattle.std.proofs.lemmas.List.{get_or-map, length-map}
use Rattle.std.proofs.lemmas.Slice.Eq.{bytes_eq-Decides}
use Rattle.std.proofs.Math.Seq.{take-append_seam}
use Rattle.markup.specs.Escape.{end_tag}
use Rattle.markup.specs.KnownNames.{IsNameAt, names}
use Rattle.markup.specs.Trees.{is_among, is_raw, raw_names, void_names}
use Rattle.html_serialize.specs.declared.names.Manner.{Manner}
use Rattle.html_serialize.specs.declared.names.Manner.TheVariants.{Usual}
use Rattle.html_serialize.specs.KnownTags.{IsMannerOf, attributes, bare_tag, before_value, end_tags, front_of, is_raw_in}
use Rattle.html_serialize.specs.KnownTags.{is_void_in, manners, start_tags}

pub starts : start_tags ≡ map bare_tag names
unfolding start_tags names
starts = refl

plain : map encode_utf8_all names ≡ names
unfolding names lib.Utf8.encode
plain = refl

pub ends : end_tags ≡ map (λ name. encode_utf8_all (end_tag name)) names
unfolding end_tags names lib.Utf8.encode
ends = refl

pub fronts : attributes ≡ map (λ name. encode_utf8_all (before_value [] name)) names
unfolding attributes names lib.Utf8.encode
fronts = refl

voids : map is_void_in manners ≡ map (λ name. is_among name void_names) names
unfolding manners names
voids = refl

raws : (scripting : Bool) → map (is_raw_in scripting) manners ≡ map (is_raw scripting) names
unfolding manners names
raws true = refl
raws false = refl

-- each table has a row for each name
row_there : {A B : Type 0} (g : A → B) (rows : List A) (f : List ℕ → B) (place : ℕ) (name : List ℕ)
    → map g rows ≡ map f names → IsNameAt place name → place < length rows
row_there {A} {B} g rows f place name is at =
    let within = at.within in
    let long : length rows ≡ length names = sym (length-map rows g) ∙ ap (length {A = B}) is ∙ length-map names f in
    omega arith

-- which says of it what the table says of all
row_is : {A B : Type 0} (g : A → B) (rows : List A) (f : List ℕ → B) (place : ℕ) (name : List ℕ) (d : A)
    → map g rows ≡ map f names → IsNameAt place name → g (get_or rows place d) ≡ f name
row_is g rows f place name d is at =
    sym (get_or-map g rows place d (g d) (row_there g rows f place name is at))
    ∙ ap (λ (xs : List _). get_or xs place (g d)) is
    ∙ get_or-map f names place [] (g d) at.within
    ∙ ap f at.there

-- the row of a table of texts
pub text_row : (rows : List (Bor (List ℕ))) (table : List (List ℕ)) (f : List ℕ → List ℕ) (place : ℕ)
    (name : List ℕ) (text : Bor (List ℕ)) → map (λ row. row.now) rows ≡ table → table ≡ map f names
    → IsNameAt place name → ((d : Bor (List ℕ)) → text ≡ get_or rows place d) → text.now ≡ f name
text_row rows table f place name text is made at found =
    ap (λ (row : Bor (List ℕ)). row.now) (found text) ∙ row_is (λ row. row.now) rows f place name text (is ∙ made) at

pub text_there : (rows : List (Bor (List ℕ))) (table : List (List ℕ)) (f : List ℕ → List ℕ) (place : ℕ)
    (name : List ℕ) → map (λ row. row.now) rows ≡ table → table ≡ map f names → IsNameAt place name → place < length rows
text_there rows table f place name is made at = row_there (λ row. row.now) rows f place name (is ∙ made) at

-- the bytes of a known name are its characters
pub name-plain : (place : ℕ) (name : List ℕ) → IsNameAt place name → encode_utf8_all name ≡ name
name-plain place name at = ap encode_utf8_all (sym at.there) ∙ row_is encode_utf8_all names (λ text. text) place
    name [] (plain ∙ sym (map-same names)) at
  where
    map-same : (xs : List (List ℕ)) → map (λ x. x) xs ≡ xs
    map-same [] = refl
    map-same (x ∷ xs) = ap (λ ys. x ∷ ys) (map-same xs)

pub manner_there : (place : ℕ) (name : List ℕ) → IsNameAt place name → place < length manners
manner_there place name at = row_there is_void_in manners (λ text. is_among text void_names) place name voids at

pub manner_row : (place : ℕ) (name : List ℕ) → IsNameAt place name → IsMannerOf name (get_or manners place Usual)
manner_row place name at = record {
  void = row_is is_void_in manners (λ text. is_among text void_names) place name Usual voids at;
  raw = λ scripting. row_is (is_raw_in scripting) manners (is_raw scripting) place name Usual (raws scripting) at;
}

-- a text that is no known name is none of those
other : (name text : List ℕ) → is_among text names ≡ true → is_among name names ≡ false → bytes_eq name text ≡ false
other name text known none = by (bytes_eq name text) refl
  where
    by : (b : Bool) → bytes_eq name text ≡ b → b ≡ false
    by false e = refl
    by true e =
        let same : name ≡ text = (bytes_eq-Decides name text).0 e in
        let is : is_among name names ≡ true = rw same known in
        absurd cc

others : (name : List ℕ) (texts : List (List ℕ)) → list_all (λ text. is_among text names) texts ≡ true
    → is_among name names ≡ false → is_among name texts ≡ false
others name [] known none = refl
others name (text ∷ texts) known none =
    let parts = and_parts (is_among text names) (list_all (λ text. is_among text names) texts) known in
    rw (other name text parts.0 none) (others name texts parts.1 none)

voids_known : list_all (λ text. is_among text names) void_names ≡ true
unfolding names
voids_known = refl

raws_known : list_all (λ text. is_among text names) raw_names ≡ true
unfolding names
raws_known = refl

noscript_known : is_among (codes "noscript") names ≡ true
unfolding names
noscript_known = refl

pub manner_other : (name : List ℕ) → is_among name names ≡ false → IsMannerOf name Usual
manner_other name none = record {
  void = sym (others name void_names voids_known none);
  raw = λ scripting. sym (rw (
    others name raw_names raws_known none,
    other name (codes "noscript") noscript_known
        none,
  ) (not_both scripting));
}
  where
    not_both : (b : Bool) → (b && false) ≡ false
    not_both true = refl
    not_both false = refl

-- all of a start tag but its last byte
pub bare-front : (bytes name : List ℕ) → bytes ≡ bare_tag name → front_of bytes ≡ codes "<" ++ name
bare-front bytes name is =
    ap front_of (is ∙ sym (append_assoc (codes "<") name (codes ">")))
    ∙ (let long : length ((codes "<" ++ name) ++ codes ">") - 1 ≡ length (codes "<" ++ name) =
    omega (arith, length-append (codes "<" ++ name) (codes ">")) in
    ap (λ (n : ℕ). take n ((codes "<" ++ name) ++ codes ">")) long)
    ∙ take-append_seam (codes "<" ++ name) (codes ">")

pub bare-ends : (bytes name : List ℕ) → bytes ≡ bare_tag name → bytes ≡ front_of bytes ++ codes ">"
bare-ends bytes name is = is ∙ sym (append_assoc (codes "<") name (codes ">"))
    ∙ ap (λ (front : List ℕ). front ++ codes ">") (sym (bare-front bytes name is))
