-- Foreign content, where no sink says that HTML may stand in it.
use Rattle.std.proofs.Common.{◌≡◌, List, [], ◌∷◌, None, refl}
use Rattle.html_tokens.specs.declared.token.Token.{Token}
use Rattle.html_tokens.specs.declared.token.Token.TheVariants.{TagToken, CharacterTokens, CommentToken}
use Rattle.std.specs.Str.{chars}
use Rattle.html_rules.specs.ForeignContent.{is_foreign, is_foreign_at}
use Rattle.html_rules.specs.State.{Open, adjusted_by, current_is}
use Rattle.html_faithful.specs.Spots.{Spot, hollow}
use Rattle.html_faithful_judge.specs.Spots.{is_foreign_in}
use Rattle.html_faithful_judge.specs.Tokens.{token_of}
use Rattle.html_faithful_judge.specs.declared.tokens.Content.{Content}
use Rattle.html_faithful_judge.specs.declared.tokens.Content.TheVariants.{Tag, Character, Comment}

foreign-by : (p : Spot) (t : Token) (xs : List Open) → is_foreign_at (hollow p) (adjusted_by None xs) t ≡ current_is (is_foreign_in t) xs
foreign-by p t [] = refl
foreign-by p t (x ∷ xs) = refl

pub foreign-is : (p : Spot) (content : Content)
    → is_foreign (hollow p) (token_of content) ≡ current_is (is_foreign_in (token_of content)) p.path
unfolding is_foreign
foreign-is p (Tag tag) = foreign-by p (TagToken tag.now) p.path
foreign-is p (Character c) = foreign-by p (CharacterTokens (c ∷ [])) p.path
foreign-is p (Comment text) = foreign-by p (CommentToken (chars text.now)) p.path
