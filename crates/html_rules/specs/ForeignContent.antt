-- The steps of foreign content (HTML Standard, sections 13.2.6 and 13.2.6.5).
use Rattle.std.specs.Prelude.{ℕ, Bool, true, false, ◌||◌, ◌&&◌, not, map, List, [], ◌∷◌, Option, Some, None, codes}
use Rattle.std.specs.Char.{to_ascii_lowercase}
use Rattle.std.specs.Str.{bytes_eq}
use Rattle.markup.specs.declared.attributes.Attribute.{Attribute}
use Rattle.markup.specs.TreeLaws.{with_errors}
use Rattle.html_tokens.specs.declared.tags.Tag.{Tag}
use Rattle.html_tokens.specs.declared.tags.TagKind.{TagKind}
use Rattle.html_tokens.specs.declared.tags.TagKind.TheVariants.{StartTag, EndTag}
use Rattle.html_tokens.specs.declared.token.Token.{Token}
use Rattle.html_tokens.specs.declared.token.Token.TheVariants.{TagToken, CharacterTokens, NullCharacterToken, EOFToken}
use Rattle.html_rules.specs.Choice.{choose}
use Rattle.html_rules.specs.Names.{Namespace, is_html}
use Rattle.html_rules.specs.Places.{insert_element, put_element}
use Rattle.html_rules.specs.Renames.{adjust_attributes, adjust_tag_name}
use Rattle.html_rules.specs.Sets.{by_rules, is_among, names_of}
use Rattle.html_rules.specs.Stack.{pop_until_current}
use Rattle.html_rules.specs.State.{Open, State, adjusted_current_node, is_in}
use Rattle.html_rules.specs.declared.tag_set.TagSet.TheVariants as set

-- whether an element is HTML's
abbrev pub is_html_element : Open → Bool
is_html_element x = is_html x.namespace

abbrev pub is_start_tag : TagKind → Bool
is_start_tag StartTag = true
is_start_tag EndTag = false

abbrev pub is_end_tag : TagKind → Bool
is_end_tag StartTag = false
is_end_tag EndTag = true

-- text, U+0000 and start tags whose names pass
abbrev pub is_text_or_start : (List ℕ → Bool) → Token → Bool
is_text_or_start p (CharacterTokens cs) = true
is_text_or_start p NullCharacterToken = true
is_text_or_start p (TagToken tag) = is_start_tag tag.kind && p tag.name
is_text_or_start p _ = false

-- the start tag `svg`
abbrev pub is_svg_start : Token → Bool
is_svg_start (TagToken tag) = is_start_tag tag.kind && bytes_eq tag.name (codes "svg")
is_svg_start _ = false

-- tokens that the rules of HTML take in an element of MathML or SVG ("tree construction dispatcher", section 13.2.6)
abbrev pub is_html_there : State → Open → Token → Bool
is_html_there s x t =
    (is_in set.MathmlTextIntegrationPoint x && is_text_or_start (λ name. not (is_among name (names_of set.MglyphMalignmark))) t)
    || (is_in set.SvgHtmlIntegrationPoint x && is_text_or_start (λ name. true) t)
    || (is_in set.AnnotationXml x
    && (is_svg_start t || (is_text_or_start (λ name. true) t && s.answers.integration_point (with_errors 0 s.forest) x.number)))

abbrev pub is_foreign_at : State → Option Open → Token → Bool
is_foreign_at s None t = false
is_foreign_at s (Some x) t = not (is_html_element x) && not (is_html_there s x t)

-- whether the rules of foreign content hold for a token
unfoldable pub is_foreign : State → Token → Bool
is_foreign s EOFToken = false
is_foreign s t = is_foreign_at s (adjusted_current_node s) t

-- whether "<![CDATA[" opens a section: the adjusted current node is there and not HTML's
abbrev pub asks_cdata_at : Option Open → Bool
asks_cdata_at None = false
asks_cdata_at (Some x) = not (is_html_element x)

abbrev pub asks_cdata : State → Bool
asks_cdata s = asks_cdata_at (adjusted_current_node s)

-- an element of that namespace, and opened unless it closes itself
unfoldable pub enter_foreign : Namespace → Tag → State → State
enter_foreign namespace tag s =
    choose tag.self_closing
    (λ _. put_element namespace tag.name (adjust_attributes namespace tag.attrs) tag.had_duplicate_attributes s)
    (λ _. insert_element namespace tag.name (adjust_attributes namespace tag.attrs) tag.had_duplicate_attributes s)

abbrev pub foreign_start_at : Option Open → Tag → State → State
foreign_start_at None tag s = s
foreign_start_at (Some x) tag s = enter_foreign x.namespace (record tag { name = adjust_tag_name x.namespace tag.name }) s

-- the same, in the namespace of the adjusted current node, with the names of that namespace
unfoldable pub foreign_start : Tag → State → State
foreign_start tag s = foreign_start_at (adjusted_current_node s) tag s

-- whether foreign content ends here: HTML, and where HTML may stand
abbrev pub ends_foreign : Open → Bool
ends_foreign x = is_html_element x || is_in set.MathmlTextIntegrationPoint x || is_in set.SvgHtmlIntegrationPoint x

-- the same by the rules of a state: for the Standard, HTML may stand in some of MathML's `annotation-xml`
abbrev pub ends_foreign_in : State → Open → Bool
ends_foreign_in s x = ends_foreign x || (by_rules s.opts.rules false (is_in set.AnnotationXml x)
    && s.answers.integration_point (with_errors 0 s.forest) x.number)

unfoldable pub pop_foreign : State → State
pop_foreign s = pop_until_current (ends_foreign_in s) s

-- an attribute of `font` that ends foreign content
abbrev pub is_font_attribute : Attribute → Bool
is_font_attribute attribute = bytes_eq attribute.name.local (codes "color") || bytes_eq attribute.name.local
    (codes "face") || bytes_eq attribute.name.local (codes "size")

-- what an end tag in foreign content comes to: it is dropped, the rules of the mode hold, or elements leave the stack
pub data ForeignEnd : Type 0 where
  Dropped : ForeignEnd
  AsInMode : ForeignEnd
  Closed : (left : List Open) → ForeignEnd

-- whether an element has that name in any case
abbrev pub is_named_any_case : List ℕ → Open → Bool
is_named_any_case name x = bytes_eq (map to_ascii_lowercase x.name) (map to_ascii_lowercase name)

-- from the current node back; of HTML's elements the current node alone is looked at
abbrev pub foreign_end_from : Bool → List ℕ → List Open → ForeignEnd
foreign_end_from first name [] = Dropped
foreign_end_from first name (x ∷ []) = Dropped
foreign_end_from first name (x ∷ y ∷ ys) =
    choose (not first && is_html_element x) (λ _. AsInMode)
    (λ _. choose (is_named_any_case name x) (λ _. Closed (y ∷ ys)) (λ _. foreign_end_from false name (y ∷ ys)))

unfoldable pub foreign_end : List ℕ → State → ForeignEnd
foreign_end name s = foreign_end_from true name s.open_elems

abbrev pub is_as_in_mode : ForeignEnd → Bool
is_as_in_mode AsInMode = true
is_as_in_mode _ = false

abbrev pub close_foreign_by : ForeignEnd → State → State
close_foreign_by (Closed left) s = record s { open_elems = left }
close_foreign_by _ s = s

-- the elements leave that an end tag closes, if it closes any
unfoldable pub close_foreign : List ℕ → State → State
close_foreign name s = close_foreign_by (foreign_end name s) s

-- an end tag in foreign content is an error unless the current node has its name, or is the root
abbrev pub is_foreign_end_error : List ℕ → List Open → Bool
is_foreign_end_error name [] = false
is_foreign_end_error name (x ∷ []) = false
is_foreign_end_error name (x ∷ y ∷ ys) = not (is_named_any_case name x)
