-- What the code's attributes are in the definitions.
use Rattle.std.specs.Option.{option_map, option_copied}
use Rattle.html_encodings.specs.Prescan as prescan
use Rattle.html_encodings.specs.declared.attributes.Attribute.{Attribute}
use Rattle.html_encodings.specs.declared.attributes.Attempt.{Attempt}
use Rattle.html_encodings.specs.declared.attributes.Meta.{Meta}
use Rattle.html_encodings.specs.declared.attributes.Tag.{Tag}

abbrev pub attribute_view : Attribute → prescan.Attribute
attribute_view attribute = record { name = attribute.name.now; value = attribute.value.now }

abbrev pub attempt_view : Attempt → prescan.Attempt
attempt_view attempt = record { attribute = option_map attribute_view attempt.attribute; rest = attempt.rest.now }

abbrev pub meta_view : Meta → prescan.Meta
meta_view meta = record {
  http_equiv = option_copied meta.http_equiv;
  content = option_copied meta.content;
  charset = option_copied meta.charset;
}

abbrev pub tag_view : Tag → prescan.Tag
tag_view tag = record { meta = meta_view tag.meta; rest = tag.rest.now }
