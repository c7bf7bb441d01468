-- Tokens as the rules take them.
use Rattle.std.specs.Prelude.{◌≡◌, Bool, true, false, ◌&&◌}
use Rattle.std.specs.Str.{chars}
use Rattle.html_tokens.specs.declared.tags.TagKind.{TagKind}
use Rattle.html_tokens.specs.declared.token.Token as tokens
use Rattle.html_tokens.specs.declared.token.Token.TheVariants.{TagToken, DoctypeToken, CharacterTokens, NullCharacterToken, CommentToken, EOFToken}
use Rattle.html_rules.specs.Names.{Html}
use Rattle.html_rules.specs.Sets.{is_among, names_of}
use Rattle.html_rules.specs.Tokens.{name_of}
use Rattle.html_rules.specs.Formatting.{same_kind}
use Rattle.html_rules.specs.declared.tag_set.TagSet.{TagSet}
use Rattle.html_rules.specs.declared.insertion_mode.InsertionMode.{InsertionMode}
use Rattle.html_rules.specs.declared.insertion_mode.InsertionMode.TheVariants.{Text}
use Rattle.html_names.specs.Classes.{IsClassOf}
use Rattle.html_tree_builder.specs.declared.told.Content.{Content}
use Rattle.html_tree_builder.specs.declared.told.Content.TheVariants.{Tag, Characters, Null, Comment, Doctype, EndOfFile}
use Rattle.html_tree_builder.specs.declared.told.NamedToken.{NamedToken}

-- the token that is lent
abbrev pub token_of : Content → tokens.Token
token_of (Tag tag) = TagToken tag.now
token_of (Characters text) = CharacterTokens (chars text.now)
token_of Null = NullCharacterToken
token_of (Comment text) = CommentToken text.now
token_of (Doctype d) = DoctypeToken d.now
token_of EndOfFile = EOFToken

-- the name is the token's, and the class is of that name
pub record IsTold (told : NamedToken) : Type 0 where
  pub name : told.name.now ≡ name_of (token_of told.content)
  pub class : IsClassOf Html told.name.now told.class

-- whether a token is a tag of a kind, and whether its name is in a set
abbrev pub is_tag : TagKind → tokens.Token → Bool
is_tag kind (TagToken tag) = same_kind tag.kind kind
is_tag kind t = false

abbrev pub is_tag_in : TagKind → TagSet → tokens.Token → Bool
is_tag_in kind set (TagToken tag) = same_kind tag.kind kind && is_among tag.name (names_of set)
is_tag_in kind set t = false

-- whether the input ends within the text of an element
abbrev pub cuts_off_text : tokens.Token → InsertionMode → Bool
cuts_off_text EOFToken Text = true
cuts_off_text t mode = false
