-- What decides whether the rules of foreign content hold for a token.
use Rattle.std.specs.Prelude.{◌≡◌, ℕ, Bool, true, false, ◌||◌, ◌&&◌, not, Option, Some, None, ⊤}
use Rattle.html_tokens.specs.declared.token.Token.{Token}
use Rattle.html_tokens.specs.declared.token.Token.TheVariants.{DoctypeToken, TagToken, CommentToken, CharacterTokens}
use Rattle.html_tokens.specs.declared.token.Token.TheVariants.{NullCharacterToken, EOFToken, ParseError}
use Rattle.html_rules.specs.ForeignContent.{is_html_element, is_start_tag}
use Rattle.html_rules.specs.Names.{Html}
use Rattle.html_rules.specs.Sets.{is_among, names_of}
use Rattle.html_rules.specs.State.{Open, is_in}
use Rattle.html_rules.specs.declared.tag_set.TagSet.TheVariants as set
use Rattle.html_names.specs.Classes.{IsClassOf}
use Rattle.html_stack.specs.declared.dispatching.TokenShape.{TokenShape}
use Rattle.html_stack.specs.declared.dispatching.TokenShape.TheVariants.{Text, StartTag, EndOfFile, Other}

-- the name of a start tag comes with its class
abbrev pub IsShaped : TokenShape → Type 0
IsShaped (StartTag class name) = IsClassOf Html name.now class
IsShaped _ = ⊤

-- a token has a shape
abbrev pub HasShape : Token → TokenShape → Type 0
HasShape (CharacterTokens text) Text = ⊤
HasShape NullCharacterToken Text = ⊤
HasShape (TagToken tag) (StartTag class name) = (is_start_tag tag.kind ≡ true) × (tag.name ≡ name.now)
HasShape (TagToken tag) Other = is_start_tag tag.kind ≡ false
HasShape (CommentToken text) Other = ⊤
HasShape (DoctypeToken doctype) Other = ⊤
HasShape (ParseError message) Other = ⊤
HasShape EOFToken EndOfFile = ⊤
HasShape t shape = ⊥

-- whether a token goes by HTML's rules in an element, by whether the sink says that HTML may stand in it
abbrev pub is_html_for : Bool → Open → TokenShape → Bool
is_html_for point x Text = is_in set.MathmlTextIntegrationPoint x || is_in set.SvgHtmlIntegrationPoint x
    || (is_in set.AnnotationXml x && point)
is_html_for point x (StartTag class name) =
    (is_in set.MathmlTextIntegrationPoint x && not (is_among name.now (names_of set.MglyphMalignmark)))
    || is_in set.SvgHtmlIntegrationPoint x
    || (is_in set.AnnotationXml x && (is_among name.now (names_of set.Svg) || point))
is_html_for point x EndOfFile = true
is_html_for point x Other = false

-- whether the rules of foreign content hold for a token, by the adjusted current node
abbrev pub is_foreign_for : (ℕ → Bool) → Option Open → TokenShape → Bool
is_foreign_for points None shape = false
is_foreign_for points (Some x) shape = not (is_html_element x) && not (is_html_for (points x.number) x shape)
