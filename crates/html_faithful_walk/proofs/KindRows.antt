-- The kinds of known names, row by row.
use Rattle.std.proofs.Common.{◌≡◌, ◌∙◌, ℕ, zero, suc, ◌<◌, Bool, true, false, List, [], ◌∷◌, length, map, get_or, refl, ap, sym, arith}
use Rattle.std.specs.Prelude.{◌&&◌, ◌||◌, not, codes}
use Rattle.std.specs.Char.{to_ascii_lowercase}
use Rattle.std.specs.List.{list_all}
use Rattle.std.specs.Str.{bytes_eq}
use Rattle.std.proofs.lemmas.Bool.{and_parts}
use Rattle.std.proofs.lemmas.List.{get_or-map, length-map}
use Rattle.std.proofs.lemmas.Slice.Eq.{bytes_eq-Decides}
use Rattle.markup.specs.KnownNames.{IsNameAt, names}
use Rattle.markup.specs.Trees.{is_among, is_raw, raw_names, void_names}
use Rattle.html_rules.specs.Renames.{foreign_attribute_names, mathml_attribute_names, renamed, svg_attribute_names}
use Rattle.html_rules.specs.Sets.{names_of}
use Rattle.html_faithful.specs.Forms.{is_attribute_name, lowered}
use Rattle.html_faithful_walk.specs.Kinds.{IsKindOf, asked_names, free, is_free_name, is_listed, is_raw_kind, is_staying_kind, is_told_back}
use Rattle.html_faithful_walk.specs.Kinds.{is_void_kind}
use Rattle.html_faithful_walk.specs.Kinds.{keeps_name, kinds, names_as, told_back}
use Rattle.html_faithful_judge.proofs.LoweredNames.{name-lower}
use Rattle.html_faithful_walk.specs.declared.kinds.Kind.{Kind}
use Rattle.html_faithful_walk.specs.declared.kinds.Kind.TheVariants as kind

voids : map is_void_kind kinds ≡ map (λ name. is_among name void_names) names
unfolding kinds names
voids = refl

abbrev is_staying : List ℕ → Bool
is_staying name = bytes_eq name (codes "body") || bytes_eq name (codes "html")

stays : map is_staying_kind kinds ≡ map is_staying names
unfolding kinds names
stays = refl

raws : (scripting : Bool) → map (is_raw_kind scripting) kinds ≡ map (is_raw scripting) names
unfolding kinds names
raws true = refl
raws false = refl

-- each row has a name of its kind, if that is common
fits : Kind → List ℕ → Bool
fits k name = not (is_listed k) || is_among name (names_as k)

all_fit : List Kind → List (List ℕ) → Bool
all_fit [] texts = true
all_fit (k ∷ ks) [] = false
all_fit (k ∷ ks) (text ∷ texts) = fits k text && all_fit ks texts

rows_fit : all_fit kinds names ≡ true
unfolding kinds names all_fit fits names_of
rows_fit = refl

fit-at : (ks : List Kind) (ns : List (List ℕ)) (place : ℕ) → all_fit ks ns ≡ true
    → fits (get_or ks place kind.Usual) (get_or ns place []) ≡ true
unfolding all_fit fits
fit-at [] ns place h = refl
fit-at (k ∷ ks) [] place h = absurd cc
fit-at (k ∷ ks) (n ∷ ns) zero h = (and_parts (fits k n) (all_fit ks ns) h).0
fit-at (k ∷ ks) (n ∷ ns) (suc place) h = fit-at ks ns place (and_parts (fits k n) (all_fit ks ns) h).1

fits-common : (k : Kind) (name : List ℕ) → fits k name ≡ true → is_listed k ≡ true → is_among name (names_as k) ≡ true
unfolding fits
fits-common k name h c = ap (λ b. not b || is_among name (names_as k)) (sym c) ∙ h

row_there : {B : Type 0} (g : Kind → B) (f : List ℕ → B) (place : ℕ) (name : List ℕ) → map g kinds ≡ map f names → IsNameAt place name
    → place < length kinds
row_there {B} g f place name is at =
    let within = at.within in
    let long : length kinds ≡ length names = sym (length-map kinds g) ∙ ap (length {A = B}) is ∙ length-map names f in
    omega arith

row_is : {B : Type 0} (g : Kind → B) (f : List ℕ → B) (place : ℕ) (name : List ℕ) → map g kinds ≡ map f names → IsNameAt place name
    → g (get_or kinds place kind.Usual) ≡ f name
row_is g f place name is at =
    sym (get_or-map g kinds place kind.Usual (g kind.Usual) (row_there g f place name is at))
    ∙ ap (λ (xs : List _). get_or xs place (g kind.Usual)) is
    ∙ get_or-map f names place [] (g kind.Usual) at.within
    ∙ ap f at.there

pub kind_there : (place : ℕ) (name : List ℕ) → IsNameAt place name → place < length kinds
kind_there place name at = row_there is_void_kind (λ text. is_among text void_names) place name voids at

pub kind_row : (place : ℕ) (name : List ℕ) → IsNameAt place name → IsKindOf name (get_or kinds place kind.Usual)
kind_row place name at = record {
  void = row_is is_void_kind (λ text. is_among text void_names) place name voids at;
  stays = row_is is_staying_kind is_staying place name stays at;
  raw = λ scripting. row_is (is_raw_kind scripting) (is_raw scripting) place name (raws scripting) at;
  named = λ c. fits-common (get_or kinds place kind.Usual) name
      (ap (fits (get_or kinds place kind.Usual)) (sym at.there) ∙ fit-at kinds names place rows_fit) c;
}

-- a text that is no known name is none of those
other : (name text : List ℕ) → is_among text names ≡ true → is_among name names ≡ false → bytes_eq name text ≡ false
other name text known none = by (bytes_eq name text) refl
  where
    by : (b : Bool) → bytes_eq name text ≡ b → b ≡ false
    by false e = refl
    by true e =
        let same : name ≡ text = (bytes_eq-Decides name text).0 e in
        let is : is_among name names ≡ true = rw same known in
        absurd cc

others : (name : List ℕ) (texts : List (List ℕ)) → list_all (λ text. is_among text names) texts ≡ true
    → is_among name names ≡ false → is_among name texts ≡ false
others name [] known none = refl
others name (text ∷ texts) known none =
    let parts = and_parts (is_among text names) (list_all (λ text. is_among text names) texts) known in
    rw (other name text parts.0 none) (others name texts parts.1 none)

voids_known : list_all (λ text. is_among text names) void_names ≡ true
unfolding names
voids_known = refl

raws_known : list_all (λ text. is_among text names) (codes "noscript" ∷ raw_names) ≡ true
unfolding names
raws_known = refl

none-raw : (scripting noscript raw : Bool) → noscript ≡ false → raw ≡ false → false ≡ (raw || (scripting && noscript))
none-raw true noscript false h k = sym h
none-raw false noscript false h k = refl
none-raw scripting noscript true h k = absurd cc

staying_known : (is_among (codes "body") names && is_among (codes "html") names) ≡ true
unfolding names
staying_known = refl

none-of-both : (a b : Bool) → a ≡ false → b ≡ false → false ≡ (a || b)
none-of-both false false h k = refl
none-of-both true b h k = absurd cc
none-of-both a true h k = absurd cc

pub kind-other : (name : List ℕ) → is_among name names ≡ false → IsKindOf name kind.Usual
kind-other name none = record {
  void = sym (others name void_names voids_known none);
  stays =
      let parts = and_parts (is_among (codes "body") names) (is_among (codes "html") names) staying_known in
      none-of-both (bytes_eq name (codes "body")) (bytes_eq name (codes "html")) (other name (codes "body") parts.0 none)
      (other name (codes "html") parts.1 none);
  raw = λ scripting.
      let parts = and_parts (is_among (codes "noscript") names) (list_all (λ text. is_among text names) raw_names) raws_known in
      none-raw scripting (bytes_eq name (codes "noscript")) (is_among name raw_names)
      (other name (codes "noscript") parts.0 none) (others name raw_names parts.1 none);
  named = λ c. absurd cc;
}

-- ATTRIBUTES

tolds : told_back ≡ map is_told_back names
unfolding told_back names svg_attribute_names foreign_attribute_names
tolds = refl

pub told_there : (place : ℕ) (name : List ℕ) → IsNameAt place name → place < length told_back
told_there place name at =
    let within = at.within in
    let long : length told_back ≡ length names = ap (length {A = Bool}) tolds ∙ length-map names is_told_back in
    omega arith

pub told_row : (place : ℕ) (name : List ℕ) → IsNameAt place name → get_or told_back place false ≡ is_told_back name
told_row place name at =
    ap (λ (xs : List Bool). get_or xs place false) tolds ∙ get_or-map is_told_back names place [] false at.within
    ∙ ap is_told_back at.there

same : (name : List ℕ) → bytes_eq name name ≡ true
same name = (bytes_eq-Decides name name).1 refl

renamed-other : (xs : List (List ℕ)) (name : List ℕ) → list_all (λ x. is_among (map to_ascii_lowercase x) names) xs ≡ true
    → is_among name names ≡ false → renamed xs name ≡ name
renamed-other [] name known none = refl
renamed-other (x ∷ xs) name known none =
    let parts = and_parts (is_among (map to_ascii_lowercase x) names) (list_all
    (λ x. is_among (map to_ascii_lowercase x) names) xs) known in
    rw (other name (map to_ascii_lowercase x) parts.0 none) (renamed-other xs name parts.1 none)

renamed_known : list_all (λ x. is_among (map to_ascii_lowercase x) names) svg_attribute_names ≡ true
unfolding names svg_attribute_names
renamed_known = refl

mathml_known : list_all (λ x. is_among (map to_ascii_lowercase x) names) mathml_attribute_names ≡ true
unfolding names
mathml_known = refl

asked_known : list_all (λ text. is_among text names) asked_names ≡ true
unfolding names
asked_known = refl

foreign_known : list_all (λ text. is_among text names) (map (λ x. x.written) foreign_attribute_names) ≡ true
unfolding names foreign_attribute_names
foreign_known = refl

pub keeps-other : (name : List ℕ) → is_among name names ≡ false → keeps_name name ≡ true
keeps-other name none =
    rw (
      renamed-other svg_attribute_names name renamed_known none,
      same name,
      others name (map (λ x. x.written) foreign_attribute_names) foreign_known none,
    ) refl

-- FREE ATTRIBUTES

frees : free ≡ map is_free_name names
unfolding free names svg_attribute_names foreign_attribute_names
frees = refl

pub free_there : (place : ℕ) (name : List ℕ) → IsNameAt place name → place < length free
free_there place name at =
    let within = at.within in
    let long : length free ≡ length names = ap (length {A = Bool}) frees ∙ length-map names is_free_name in
    omega arith

pub free_row : (place : ℕ) (name : List ℕ) → IsNameAt place name → get_or free place false ≡ is_free_name name
free_row place name at =
    ap (λ (xs : List Bool). get_or xs place false) frees ∙ get_or-map is_free_name names place [] false at.within
    ∙ ap is_free_name at.there

and-true : (b : Bool) → (b && true) ≡ b
and-true true = refl
and-true false = refl

pub free-other : (name : List ℕ) → is_among name names ≡ false → is_free_name name ≡ is_attribute_name name
free-other name none =
    rw (
      keeps-other name none,
      renamed-other mathml_attribute_names name mathml_known none,
      same name,
      others name asked_names asked_known none,
    ) (and-true (is_attribute_name name))

-- SVG'S ATTRIBUTES

-- what is renamed stays as it is, or becomes one of the names
data Renamed (xs : List (List ℕ)) (name : List ℕ) : Type 0 where
  Stays : renamed xs name ≡ name → Renamed xs name
  Becomes : is_among (renamed xs name) xs ≡ true → Renamed xs name

or-true : (b c : Bool) → c ≡ true → (b || c) ≡ true
or-true true c h = refl
or-true false c h = h

skipped : (x : List ℕ) (xs : List (List ℕ)) (name : List ℕ) → bytes_eq name (map to_ascii_lowercase x) ≡ false
    → renamed (x ∷ xs) name ≡ renamed xs name
skipped x xs name e = rw e refl

renamed-first : (x : List ℕ) (xs : List (List ℕ)) (name : List ℕ) (b : Bool) → bytes_eq name (map to_ascii_lowercase x) ≡ b
    → Renamed xs name → Renamed (x ∷ xs) name
renamed-first x xs name true e rest = Becomes (rw (e, same x) refl)
renamed-first x xs name false e (Stays h) = Stays (rw e h)
renamed-first x xs name false e (Becomes h) =
    Becomes (ap (λ v. is_among v (x ∷ xs)) (skipped x xs name e)
    ∙ or-true (bytes_eq (renamed xs name) x) (is_among (renamed xs name) xs) h)

renamed-so : (xs : List (List ℕ)) (name : List ℕ) → Renamed xs name
renamed-so [] name = Stays refl
renamed-so (x ∷ xs) name = renamed-first x xs name (bytes_eq name (map to_ascii_lowercase x)) refl (renamed-so xs name)

svg_known : list_all (λ x. is_among x names) svg_attribute_names ≡ true
unfolding names svg_attribute_names
svg_known = refl

among-known : (name : List ℕ) (xs : List (List ℕ)) → list_all (λ x. is_among x names) xs ≡ true → is_among name names ≡ false
    → is_among name xs ≡ true → false ≡ true
among-known name xs known none h = sym (others name xs known none) ∙ h

module _ (name : List ℕ) (none : is_among name names ≡ false) where
  abbrev back : Bool
  back = bytes_eq (renamed svg_attribute_names (lowered name)) name

  lower-not : bytes_eq (lowered name) name ≡ false → Renamed svg_attribute_names (lowered name) → (b : Bool) → back ≡ b → b ≡ false
  lower-not other is false e = refl
  lower-not other (Stays h) true e =
      let is : renamed svg_attribute_names (lowered name) ≡ name =
      (bytes_eq-Decides (renamed svg_attribute_names (lowered name)) name).0 e in
      let equal : lowered name ≡ name = sym h ∙ is in
      sym ((bytes_eq-Decides (lowered name) name).1 equal) ∙ other
  lower-not other (Becomes h) true e =
      let is : renamed svg_attribute_names (lowered name) ≡ name =
      (bytes_eq-Decides (renamed svg_attribute_names (lowered name)) name).0 e in
      sym (among-known name svg_attribute_names svg_known none
      (ap (λ name. is_among name svg_attribute_names) (sym is) ∙ h))

  and-none : (a b : Bool) → (a && (false && b)) ≡ false
  and-none true b = refl
  and-none false b = refl

  odd-by : (b : Bool) → bytes_eq (lowered name) name ≡ b → is_attribute_name name ≡ false → is_told_back name ≡ false
  odd-by true e h = rw (ap is_attribute_name ((bytes_eq-Decides (lowered name) name).0 e) ∙ h) refl
  odd-by false e h =
      rw (lower-not e (renamed-so svg_attribute_names (lowered name)) back refl)
      (and-none (is_attribute_name (lowered name)) (not (is_among name (map (λ x. x.written) foreign_attribute_names))))

  told-by : (b : Bool) → is_attribute_name name ≡ b → is_told_back name ≡ b
  told-by true h =
      rw (
        name-lower name h,
        h,
        renamed-other svg_attribute_names name renamed_known none,
        same name,
        others name (map (λ x. x.written) foreign_attribute_names) foreign_known none,
      ) refl
  told-by false h = odd-by (bytes_eq (lowered name) name) refl h

  pub told-other : is_told_back name ≡ is_attribute_name name
  told-other = told-by (is_attribute_name name) refl
