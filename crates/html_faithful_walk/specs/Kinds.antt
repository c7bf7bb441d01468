-- The kinds of elements.
use Rattle.std.specs.Prelude.{◌≡◌, ℕ, Bool, true, false, ◌&&◌, ◌||◌, not, List, [], ◌∷◌, codes, map}
use Rattle.std.specs.Str.{bytes_eq}
use Rattle.markup.specs.Trees.{is_among, is_raw, void_names}
use Rattle.html_rules.specs.Renames.{foreign_attribute_names, mathml_attribute_names, renamed, svg_attribute_names}
use Rattle.html_rules.specs.Sets.{names_of}
use Rattle.html_rules.specs.declared.tag_set.TagSet.TheVariants as set
use Rattle.html_faithful.specs.Forms.{is_attribute_name, lowered}
use Rattle.html_faithful_walk.specs.declared.kinds.Kind.{Kind}
use Rattle.html_faithful_walk.specs.declared.kinds.Kind.TheVariants as kind
use Rattle.html_faithful_walk.specs.declared.known_kinds.TheConstants.{FREE, KINDS, TOLD_BACK}

unfoldable pub kinds : List Kind
kinds = KINDS

-- elements that their tags only open and close in a body
abbrev pub phrase_names : List (List ℕ)
phrase_names = codes "abbr" ∷ codes "acronym" ∷ codes "bdi" ∷ codes "bdo" ∷ codes "cite" ∷ codes "data" ∷ codes "del" ∷ codes "dfn" ∷
    codes "ins" ∷ codes "kbd" ∷ codes "label" ∷ codes "mark" ∷ codes "q" ∷ codes "samp" ∷ codes "span" ∷ codes "sub" ∷ codes "sup" ∷
    codes "time" ∷ codes "var" ∷ []

-- elements that their tags only open and close in SVG, but for those of HTML that are common
abbrev pub svg_names : List (List ℕ)
svg_names = codes "animate" ∷ codes "circle" ∷ codes "defs" ∷ codes "ellipse" ∷ codes "filter" ∷ codes "g" ∷ codes "image" ∷
    codes "line" ∷ codes "marker" ∷ codes "mask" ∷ codes "path" ∷ codes "pattern" ∷ codes "polygon" ∷ codes "polyline" ∷ codes "rect" ∷
    codes "set" ∷ codes "stop" ∷ codes "svg" ∷ codes "symbol" ∷ codes "text" ∷ codes "tspan" ∷ codes "use" ∷ codes "view" ∷ []

-- elements that stay open where they end (sections 13.2.6.4.7 and 13.2.6.4.19)
abbrev pub staying_names : List (List ℕ)
staying_names = codes "body" ∷ codes "html" ∷ []

-- the names of the elements of a kind that is common
abbrev pub names_as : Kind → List (List ℕ)
names_as kind.Phrase = phrase_names
names_as kind.Formatting = names_of set.FormattingTag
names_as kind.Link = names_of set.A
names_as kind.Block = names_of set.Block
names_as kind.Heading = names_of set.HeadingTag
names_as kind.Preformatted = names_of set.PreListing
names_as kind.Item = names_of set.Li
names_as kind.Description = names_of set.DdDt
names_as kind.VoidPhrase = names_of set.VoidTag
names_as kind.VoidBlock = names_of set.Hr
names_as kind.Input = names_of set.Input
names_as kind.Button = names_of set.Button
names_as kind.Table = names_of set.Table
names_as kind.Section = names_of set.TbodyTfootThead
names_as kind.Row = names_of set.Tr
names_as kind.Cell = names_of set.TdTh
names_as kind.Head = names_of set.Head
names_as kind.Body = names_of set.Body
names_as kind.Metadata = names_of set.MetadataVoid
names_as kind.Title = names_of set.Title
names_as kind.Style = names_of set.NoframesStyle
names_as kind.Script = names_of set.Script
names_as kind.Svg = svg_names
names_as k = []

-- an attribute of SVG that keeps its name (HTML Standard, section 13.2.6.1)
abbrev pub keeps_name : List ℕ → Bool
keeps_name name = bytes_eq (renamed svg_attribute_names name) name && not (is_among name (map (λ x. x.written) foreign_attribute_names))

-- an attribute of SVG that is read in lower case, and gets its name back
abbrev pub is_told_back : List ℕ → Bool
is_told_back name = is_attribute_name (lowered name) && (bytes_eq (renamed svg_attribute_names (lowered name)) name
    && not (is_among name (map (λ x. x.written) foreign_attribute_names)))

unfoldable pub told_back : List Bool
told_back = TOLD_BACK

-- attributes at which rules look
abbrev pub asked_names : List (List ℕ)
asked_names = codes "color" ∷ codes "face" ∷ codes "shadowrootmode" ∷ codes "size" ∷ codes "type" ∷ []

-- an attribute that is emitted with its name, keeps it in foreign content, and at which no rule looks
abbrev pub is_free_name : List ℕ → Bool
is_free_name name = is_attribute_name name
    && ((keeps_name name && bytes_eq (renamed mathml_attribute_names name) name) && not (is_among name asked_names))

unfoldable pub free : List Bool
free = FREE

abbrev pub is_void_kind : Kind → Bool
is_void_kind kind.Void = true
is_void_kind kind.VoidPhrase = true
is_void_kind kind.VoidBlock = true
is_void_kind kind.Input = true
is_void_kind kind.Metadata = true
is_void_kind k = false

abbrev pub is_staying_kind : Kind → Bool
is_staying_kind kind.Staying = true
is_staying_kind kind.Body = true
is_staying_kind k = false

abbrev pub is_raw_kind : Bool → Kind → Bool
is_raw_kind scripting kind.Raw = true
is_raw_kind scripting kind.Style = true
is_raw_kind scripting kind.Script = true
is_raw_kind scripting kind.RawWithScripts = scripting
is_raw_kind scripting k = false

-- whether the rows are known that tags of a kind take
abbrev pub is_common : Kind → Bool
is_common kind.Usual = false
is_common kind.Staying = false
is_common kind.Void = false
is_common kind.Raw = false
is_common kind.RawWithScripts = false
is_common kind.Svg = false
is_common k = true

-- by a list of their names
abbrev pub is_listed : Kind → Bool
is_listed kind.Svg = true
is_listed k = is_common k

-- and whether those of their end tags are, too
abbrev pub has_end : Kind → Bool
has_end kind.VoidPhrase = false
has_end kind.VoidBlock = false
has_end kind.Input = false
has_end kind.Body = false
has_end kind.Metadata = false
has_end k = is_common k

-- a kind is that of the HTML element of a name
pub record IsKindOf (name : List ℕ) (k : Kind) : Type 0 where
  pub void : is_void_kind k ≡ is_among name void_names
  pub stays : is_staying_kind k ≡ (bytes_eq name (codes "body") || bytes_eq name (codes "html"))
  pub raw : (scripting : Bool) → is_raw_kind scripting k ≡ is_raw scripting name
  pub named : is_listed k ≡ true → is_among name (names_as k) ≡ true

abbrev pub is_svg_kind : Kind → Bool
is_svg_kind kind.Svg = true
is_svg_kind k = false
