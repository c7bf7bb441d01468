-- What is written of known names.
use Rattle.std.specs.Prelude.{◌≡◌, ℕ, ◌-◌, Bool, true, false, List, ◌++◌, Option, IfSome, IfNone, codes, encode_utf8_all, length, map, take}
use Rattle.std.specs.List.{list_any}
use Rattle.std.specs.Str.{bytes_eq}
use Rattle.markup.specs.Escape.{attribute_prefix}
use Rattle.markup.specs.KnownNames.{IsNameAt, names}
use Rattle.markup.specs.Trees.{is_among, is_raw, void_names}
use Rattle.markup.specs.declared.known_names.KnownName.{KnownName}
use Rattle.markup.specs.declared.names.QualName.{QualName}
use Rattle.html_serialize.specs.declared.names.Manner.{Manner}
use Rattle.html_serialize.specs.declared.names.Manner.TheVariants.{Usual, Void, Raw, RawWithScripts}
use Rattle.html_serialize.specs.declared.known_tags.TheConstants.{ATTRIBUTES, END_TAGS, MANNERS, START_TAGS}

unfoldable pub manners : List Manner
manners = MANNERS

unfoldable pub start_tags : List (List ℕ)
start_tags = map (λ tag. tag.now) START_TAGS

unfoldable pub end_tags : List (List ℕ)
end_tags = map (λ tag. tag.now) END_TAGS

unfoldable pub attributes : List (List ℕ)
attributes = map (λ text. text.now) ATTRIBUTES

-- which known name a text is, or that it is none
pub record IsKnownAs (name : List ℕ) (known : Option KnownName) : Type 0 where
  pub found : IfSome known (λ known. IsNameAt known.place name)
  pub missing : IfNone known (list_any (bytes_eq name) names ≡ false)

abbrev pub is_void_in : Manner → Bool
is_void_in Void = true
is_void_in _ = false

abbrev pub is_raw_in : Bool → Manner → Bool
is_raw_in scripting Raw = true
is_raw_in scripting RawWithScripts = scripting
is_raw_in scripting _ = false

-- a manner says how what stands in the HTML element of that name is written
pub record IsMannerOf (name : List ℕ) (manner : Manner) : Type 0 where
  pub void : is_void_in manner ≡ is_among name void_names
  pub raw : (scripting : Bool) → is_raw_in scripting manner ≡ is_raw scripting name

-- the start tag of an element without attributes
abbrev pub bare_tag : List ℕ → List ℕ
bare_tag name = codes "<" ++ (name ++ codes ">")

-- all but the last
abbrev pub front_of : List ℕ → List ℕ
front_of bytes = take (length bytes - 1) bytes

-- what stands before the value of an attribute, by the prefix and the name
abbrev pub before_value : List ℕ → List ℕ → List ℕ
before_value prefix local = codes " " ++ (prefix ++ (local ++ codes "=\""))

abbrev pub attribute_front : QualName → List ℕ
attribute_front name = encode_utf8_all (before_value (attribute_prefix name) name.local)
