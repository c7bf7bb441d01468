-- The tokens that are written of a tree, as the rules take them.
use Rattle.std.specs.Prelude.{◌≡◌, Bool, false, ◌&&◌, [], ◌∷◌, Option, Some, None}
use denote.Bor.{Bor}
use Rattle.std.specs.Str.{chars}
use Rattle.html_tokens.specs.declared.tags.Tag as declared
use Rattle.html_tokens.specs.declared.tags.TagKind.{TagKind}
use Rattle.html_faithful.specs.Harmless.{Made, for_start}
use Rattle.html_tokens.specs.declared.token.Token as tokens
use Rattle.html_tokens.specs.declared.token.Token.TheVariants.{TagToken, CharacterTokens, CommentToken}
use Rattle.html_rules.specs.Names.{Html}
use Rattle.html_rules.specs.Sets.{is_among, names_of}
use Rattle.html_rules.specs.Tokens.{name_of}
use Rattle.html_rules.specs.Formatting.{same_kind}
use Rattle.html_rules.specs.declared.tag_set.TagSet.{TagSet}
use Rattle.html_names.specs.Classes.{IsClassOf}
use Rattle.html_faithful_judge.specs.declared.tokens.Content.{Content}
use Rattle.html_faithful_judge.specs.declared.tokens.Content.TheVariants.{Tag, Character, Comment}
use Rattle.html_faithful_judge.specs.declared.tokens.NamedToken.{NamedToken}

-- the token
abbrev pub token_of : Content → tokens.Token
token_of (Tag tag) = TagToken tag.now
token_of (Character c) = CharacterTokens (c ∷ [])
token_of (Comment text) = CommentToken (chars text.now)

-- the name is the token's, and the class is of that name
pub record IsNamed (token : NamedToken) : Type 0 where
  pub name : token.name.now ≡ name_of (token_of token.content)
  pub class : IsClassOf Html token.name.now token.class

-- the tag of a token that is a start tag and does not close itself
abbrev pub IsStart : tokens.Token → Option (Bor declared.Tag) → Type 0
IsStart t None = (step : declared.Tag → Made → Option Made) (made : Made) → for_start step t made ≡ None
IsStart t (Some tag) = (step : declared.Tag → Made → Option Made) (made : Made) → for_start step t made ≡ step tag.now made

-- whether a token is a tag of a kind, and whether its name is in a set
abbrev pub is_tag : TagKind → tokens.Token → Bool
is_tag kind (TagToken tag) = same_kind tag.kind kind
is_tag kind t = false

abbrev pub is_tag_in : TagKind → TagSet → tokens.Token → Bool
is_tag_in kind set (TagToken tag) = same_kind tag.kind kind && is_among tag.name (names_of set)
is_tag_in kind set t = false
