-- Renames as pairs of places in the table of known names.
use Rattle.std.specs.Prelude.{ℕ, List, [], Option, Some, None, find, nat_eq, slice_index_or}
use Rattle.markup.specs.KnownNames.{names}
use Rattle.markup.specs.Namespaces.{name_of, prefix_of}
use Rattle.markup.specs.declared.attributes.Attribute.{Attribute}
use Rattle.markup.specs.declared.names.QualName.{QualName}
use Rattle.html_rules.specs.Renames.{foreign_attribute_names, foreign_named, mathml_attribute_names, renamed}
use Rattle.html_rules.specs.Renames.{svg_attribute_names, svg_tag_names}
use Rattle.html_names.specs.declared.element_class.ElementNamespace.{ElementNamespace}
use Rattle.html_names.specs.declared.element_class.ElementNamespace.TheVariants.{MathMl, Svg}
use Rattle.html_names.specs.declared.renames.ForeignName.{ForeignName}
use Rattle.html_names.specs.declared.renames.Rename.{Rename}
use Rattle.html_names.specs.declared.renames.RenameTable.{RenameTable}
use Rattle.html_names.specs.declared.renames.RenameTable.TheVariants.{SvgTags, SvgAttributes, MathMlAttributes}
use Rattle.html_names.specs.declared.renames.TheConstants.{FOREIGN, MATHML_ATTRIBUTES, SVG_ATTRIBUTES, SVG_TAGS}

-- the pairs
abbrev pub table_of : RenameTable → List Rename
table_of SvgTags = SVG_TAGS
table_of SvgAttributes = SVG_ATTRIBUTES
table_of MathMlAttributes = MATHML_ATTRIBUTES

-- the names that others become
abbrev pub names_of : RenameTable → List (List ℕ)
names_of SvgTags = svg_tag_names
names_of SvgAttributes = svg_attribute_names
names_of MathMlAttributes = mathml_attribute_names

abbrev pub name_or : ℕ → Option Rename → ℕ
name_or place None = place
name_or place (Some rename) = rename.name

-- the place of the name that the one at a place becomes
abbrev pub renamed_place : List Rename → ℕ → ℕ
renamed_place table place = name_or place (find (λ rename. nat_eq rename.written place) table)

-- the name that a row stands for
abbrev pub qualified : ForeignName → QualName
qualified row = record { prefix = Some (prefix_of row.prefix); ns = name_of row.namespace; local = slice_index_or names row.name [] }

-- a name by the row that was found for it
abbrev pub qualified_or : QualName → Option ForeignName → QualName
qualified_or name None = name
qualified_or name (Some row) = qualified row

-- the row of an attribute whose name is at a place
abbrev pub row_at : ℕ → Option ForeignName
row_at place = find (λ row. nat_eq row.written place) FOREIGN

-- the local name of an attribute, by the kind of its element's namespace
abbrev pub adjust_local : ElementNamespace → List ℕ → List ℕ
adjust_local MathMl name = renamed mathml_attribute_names name
adjust_local Svg name = renamed svg_attribute_names name
adjust_local _ name = name

abbrev pub adjust_attribute : ElementNamespace → Attribute → Attribute
adjust_attribute namespace attribute = record attribute
    { name = foreign_named foreign_attribute_names (record attribute.name { local = adjust_local namespace attribute.name.local }) }
