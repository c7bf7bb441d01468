-- Renames by numbers are those of the names.
use Rattle.std.proofs.Common.{◌≡◌, ◌∙◌, ℕ, ◌<◌, Bool, true, false, List, [], ◌∷◌, length, get_or, map, refl, sym, ap, nat_eq, find, arith}
use Rattle.std.specs.Prelude.{◌&&◌, IfSome, nat_lt}
use Rattle.std.specs.Char.{to_ascii_lowercase}
use Rattle.std.specs.List.{list_all, list_any}
use Rattle.std.specs.Str.{bytes_eq}
use Rattle.std.proofs.lemmas.Bool.{and_parts, ltb-true}
use Rattle.std.proofs.lemmas.Bool.Decides.{nat_tests}
use Rattle.std.proofs.lemmas.Slice.Eq.{bytes_eq-Decides}
use Rattle.markup.specs.KnownNames.{IsNameAt, names}
use Rattle.markup.specs.Namespaces.{name_of, prefix_of}
use Rattle.markup.specs.declared.names.QualName.{QualName}
use Rattle.html_rules.specs.Renames.{ForeignName as Written, adjust_attributes, adjust_foreign_attribute, rename_attribute}
use Rattle.html_rules.specs.Renames.{foreign_attribute_names, foreign_named, mathml_attribute_names, renamed}
use Rattle.html_rules.specs.Renames.{svg_attribute_names, svg_tag_names, xlink_namespace, xml_namespace, xmlns_namespace}
use Rattle.html_rules.specs.Names.{Namespace}
use Rattle.markup.specs.declared.attributes.Attribute.{Attribute}
use Rattle.html_names.specs.Classes.{kind_of}
use Rattle.html_names.specs.declared.element_class.ElementNamespace.{ElementNamespace}
use Rattle.html_names.specs.Renaming.{adjust_attribute, names_of, qualified, qualified_or, renamed_place, table_of}
use Rattle.html_names.specs.declared.renames.ForeignName.{ForeignName}
use Rattle.html_names.specs.declared.renames.Rename.{Rename}
use Rattle.html_names.specs.declared.renames.RenameTable.{RenameTable}
use Rattle.html_names.specs.declared.renames.RenameTable.TheVariants.{SvgTags, SvgAttributes, MathMlAttributes}
use Rattle.html_names.specs.declared.renames.TheConstants.{FOREIGN}
use Rattle.html_names.proofs.SameNames.{known-same, unknown-known}

-- a pair is of known names, of which the first is the other in lower case
abbrev fits : Rename → Bool
fits rename = (nat_lt rename.written (length names) && nat_lt rename.name (length names))
    && bytes_eq (map to_ascii_lowercase (get_or names rename.name [])) (get_or names rename.written [])

table-fits : (renames : RenameTable) → list_all fits (table_of renames) ≡ true
unfolding names
table-fits SvgTags = refl
table-fits SvgAttributes = refl
table-fits MathMlAttributes = refl

table-names : (renames : RenameTable) → names_of renames ≡ map (λ rename. get_or names rename.name []) (table_of renames)
unfolding names svg_tag_names svg_attribute_names
table-names SvgTags = refl
table-names SvgAttributes = refl
table-names MathMlAttributes = refl

-- what fits
record Fits (rename : Rename) : Type 0 where
  written : rename.written < length names
  name : rename.name < length names
  lowered : map to_ascii_lowercase (get_or names rename.name []) ≡ get_or names rename.written []

fits-Fits : (rename : Rename) → fits rename ≡ true → Fits rename
fits-Fits rename h =
    let parts = and_parts _ _ h in
    let within = and_parts _ _ parts.0 in
    record {
      written = ltb-true rename.written (length names) within.0;
      name = ltb-true rename.name (length names) within.1;
      lowered = (bytes_eq-Decides _ _).0 parts.1;
    }

nat_eq-comm : (a b : ℕ) → nat_eq a b ≡ nat_eq b a
nat_eq-comm a b = grind (arith, nat_tests)

-- a known name, by its pair
known-by : (row : Rename) (rows : List Rename) (k : ℕ) (name : List ℕ) (b : Bool) → nat_eq row.written k ≡ b
    → bytes_eq name (map to_ascii_lowercase (get_or names row.name [])) ≡ b
    → renamed (map (λ rename. get_or names rename.name []) rows) name ≡ get_or names (renamed_place rows k) []
    → renamed (map (λ rename. get_or names rename.name []) (row ∷ rows)) name ≡ get_or names (renamed_place (row ∷ rows) k) []
known-by row rows k name true e f rest = rw (e, f) refl
known-by row rows k name false e f rest = rw (e, f) rest

pub renamed-known : (rows : List Rename) → list_all fits rows ≡ true → (k : ℕ) (name : List ℕ) → IsNameAt k name
    → renamed (map (λ rename. get_or names rename.name []) rows) name ≡ get_or names (renamed_place rows k) []
renamed-known [] h k name is = sym is.there
renamed-known (row ∷ rows) h k name is =
    let parts = and_parts _ _ h in
    let fit = fits-Fits row parts.0 in
    let same : nat_eq k row.written ≡ bytes_eq name (get_or names row.written []) = known-same k row.written name
    (get_or names row.written []) is (record { within = fit.written; there = refl }) in
    known-by row rows k name (nat_eq row.written k) refl (rw fit.lowered (sym same ∙ nat_eq-comm k row.written))
    (renamed-known rows parts.1 k name is)

within-by : (row : Rename) (rows : List Rename) (k : ℕ) (b : Bool) → nat_eq row.written k ≡ b
    → row.name < length names → renamed_place rows k < length names → renamed_place (row ∷ rows) k < length names
within-by row rows k true e l rest = rw e l
within-by row rows k false e l rest = rw e rest

pub renamed-within : (rows : List Rename) → list_all fits rows ≡ true → (k : ℕ) → k < length names → renamed_place rows k < length names
renamed-within [] h k l = l
renamed-within (row ∷ rows) h k l =
    let parts = and_parts _ _ h in
    within-by row rows k (nat_eq row.written k) refl (fits-Fits row parts.0).name (renamed-within rows parts.1 k l)

pub renamed-unknown : (rows : List Rename) → list_all fits rows ≡ true → (name : List ℕ)
    → list_any (bytes_eq name) names ≡ false → renamed (map (λ rename. get_or names rename.name []) rows) name ≡ name
renamed-unknown [] h name none = refl
renamed-unknown (row ∷ rows) h name none =
    let parts = and_parts _ _ h in
    let fit = fits-Fits row parts.0 in
    let apart : bytes_eq name (get_or names row.written []) ≡ false = unknown-known row.written name
    (get_or names row.written []) none (record { within = fit.written; there = refl }) in
    rw (fit.lowered, apart) (renamed-unknown rows parts.1 name none)

-- for each table

pub table-known : (renames : RenameTable) (k : ℕ) (name : List ℕ) → IsNameAt k name
    → renamed (names_of renames) name ≡ get_or names (renamed_place (table_of renames) k) []
table-known renames k name is = rw (table-names renames) (renamed-known (table_of renames) (table-fits renames) k name is)

pub table-within : (renames : RenameTable) (k : ℕ) → k < length names → renamed_place (table_of renames) k < length names
table-within renames k l = renamed-within (table_of renames) (table-fits renames) k l

pub table-unknown : (renames : RenameTable) (name : List ℕ) → list_any (bytes_eq name) names ≡ false
    → renamed (names_of renames) name ≡ name
table-unknown renames name none = rw (table-names renames) (renamed-unknown (table_of renames) (table-fits renames) name none)

-- attributes with a namespace of their own

abbrev written_as : ForeignName → Written
written_as row = record { written = get_or names row.written []; name = qualified row }

foreign-names : foreign_attribute_names ≡ map written_as FOREIGN
unfolding names foreign_attribute_names xlink_namespace xml_namespace xmlns_namespace name_of prefix_of
foreign-names = refl

abbrev is_within : ForeignName → Bool
is_within row = nat_lt row.written (length names) && nat_lt row.name (length names)

foreign-within : list_all is_within FOREIGN ≡ true
unfolding names
foreign-within = refl

foreign-by : (row : ForeignName) (rows : List ForeignName) (k : ℕ) (name : QualName) (b : Bool)
    → nat_eq row.written k ≡ b → bytes_eq name.local (get_or names row.written []) ≡ b
    → foreign_named (map written_as rows) name ≡ qualified_or name (find (λ x. nat_eq x.written k) rows)
    → foreign_named (map written_as (row ∷ rows)) name ≡ qualified_or name (find (λ x. nat_eq x.written k) (row ∷ rows))
foreign-by row rows k name true e f rest = rw (e, f) refl
foreign-by row rows k name false e f rest = rw (e, f) rest

rows-known : (rows : List ForeignName) → list_all is_within rows ≡ true → (k : ℕ) (name : QualName)
    → IsNameAt k name.local → foreign_named (map written_as rows) name ≡ qualified_or name (find (λ x. nat_eq x.written k) rows)
rows-known [] h k name is = refl
rows-known (row ∷ rows) h k name is =
    let parts = and_parts _ _ h in
    let written : row.written < length names = ltb-true row.written (length names) (and_parts _ _ parts.0).0 in
    let same : nat_eq k row.written ≡ bytes_eq name.local (get_or names row.written []) =
    known-same k row.written name.local (get_or names row.written []) is (record { within = written; there = refl }) in
    foreign-by row rows k name (nat_eq row.written k) refl (sym same ∙ nat_eq-comm k row.written) (rows-known rows parts.1 k name is)

rows-unknown : (rows : List ForeignName) → list_all is_within rows ≡ true → (name : QualName)
    → list_any (bytes_eq name.local) names ≡ false → foreign_named (map written_as rows) name ≡ name
rows-unknown [] h name none = refl
rows-unknown (row ∷ rows) h name none =
    let parts = and_parts _ _ h in
    let written : row.written < length names = ltb-true row.written (length names) (and_parts _ _ parts.0).0 in
    let apart : bytes_eq name.local (get_or names row.written []) ≡ false = unknown-known row.written name.local
    (get_or names row.written []) none (record { within = written; there = refl }) in
    rw apart (rows-unknown rows parts.1 name none)

pub foreign-known : (k : ℕ) (name : QualName) → IsNameAt k name.local → foreign_named foreign_attribute_names
    name ≡ qualified_or name (find (λ x. nat_eq x.written k) FOREIGN)
foreign-known k name is = rw foreign-names (rows-known FOREIGN foreign-within k name is)

pub foreign-unknown : (name : QualName) → list_any (bytes_eq name.local) names ≡ false → foreign_named foreign_attribute_names name ≡ name
foreign-unknown name none = rw foreign-names (rows-unknown FOREIGN foreign-within name none)

found-by : (row : ForeignName) (rows : List ForeignName) (k : ℕ) (b : Bool) → nat_eq row.written k ≡ b
    → row.name < length names → IfSome (find (λ x. nat_eq x.written k) rows) (λ x. x.name < length names)
    → IfSome (find (λ x. nat_eq x.written k) (row ∷ rows)) (λ x. x.name < length names)
found-by row rows k true e l rest = rw e l
found-by row rows k false e l rest = rw e rest

rows-within : (rows : List ForeignName) → list_all is_within rows ≡ true → (k : ℕ)
    → IfSome (find (λ x. nat_eq x.written k) rows) (λ x. x.name < length names)
rows-within [] h k = tt
rows-within (row ∷ rows) h k =
    let parts = and_parts _ _ h in
    found-by row rows k (nat_eq row.written k) refl (ltb-true row.name (length names) (and_parts _ _ parts.0).1)
    (rows-within rows parts.1 k)

pub row-within : (k : ℕ) → IfSome (find (λ x. nat_eq x.written k) FOREIGN) (λ x. x.name < length names)
row-within k = rows-within FOREIGN foreign-within k

-- attributes, one by one

each : (f g : Attribute → Attribute) (attributes : List Attribute) → ((x : Attribute) → f x ≡ g x) → map f attributes ≡ map g attributes
each f g [] h = refl
each f g (x ∷ xs) h = rw (h x) (ap (λ ys. g x ∷ ys) (each f g xs h))

twice : (f g : Attribute → Attribute) (attributes : List Attribute) → map f (map g attributes) ≡ map (λ x. f (g x)) attributes
twice f g [] = refl
twice f g (x ∷ xs) = ap (λ ys. f (g x) ∷ ys) (twice f g xs)

pub attributes-adjusted : (space : Namespace) (kind : ElementNamespace) (attributes : List Attribute)
    → kind_of space ≡ kind → map (adjust_attribute kind) attributes ≡ adjust_attributes space attributes
unfolding adjust_attributes
attributes-adjusted Namespace.Html kind attributes e = rw (← e) refl
attributes-adjusted Namespace.MathMl kind attributes e =
    rw (← e) (sym (twice adjust_foreign_attribute (rename_attribute mathml_attribute_names) attributes))
attributes-adjusted Namespace.Svg kind attributes e =
    rw (← e) (sym (twice adjust_foreign_attribute (rename_attribute svg_attribute_names) attributes))
attributes-adjusted (Namespace.Other uri) kind attributes e = rw (← e) refl
