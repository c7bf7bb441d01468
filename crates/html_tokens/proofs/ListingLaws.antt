-- The listing sink joins texts.
use Rattle.std.proofs.Common.{◌≡◌, ℕ, List, [], ◌∷◌, ◌++◌, Ok, refl, ap, append_assoc}
use Rattle.html_tokens.specs.declared.replies.TokenSinkResult.{TokenSinkResult}
use Rattle.html_tokens.specs.declared.replies.TokenSinkResult.TheVariants.{Continue}
use Rattle.html_tokens.specs.declared.tags.Tag.{Tag}
use Rattle.html_tokens.specs.declared.token.Token.{Token}
use Rattle.html_tokens.specs.declared.token.Token.TheVariants.{DoctypeToken, TagToken, CommentToken, CharacterTokens}
use Rattle.html_tokens.specs.declared.token.Token.TheVariants.{NullCharacterToken, EOFToken, ParseError}
use Rattle.html_tokens.specs.Laws.{JoinsText}
use Rattle.html_tokens.specs.Listing.{joined, step}

joined-pieces : (told : List (Token × ℕ)) (a b : List ℕ) (k l m : ℕ) → joined b l (joined a k told) ≡ joined (a ++ b) m told
joined-pieces [] a b k l m = refl
joined-pieces ((CharacterTokens f, n) ∷ r) a b k l m = ap (λ t. (CharacterTokens t, 0) ∷ r) (append_assoc f a b)
joined-pieces ((DoctypeToken x, n) ∷ r) a b k l m = refl
joined-pieces ((TagToken x, n) ∷ r) a b k l m = refl
joined-pieces ((CommentToken x, n) ∷ r) a b k l m = refl
joined-pieces ((NullCharacterToken, n) ∷ r) a b k l m = refl
joined-pieces ((EOFToken, n) ∷ r) a b k l m = refl
joined-pieces ((ParseError x, n) ∷ r) a b k l m = refl

pub listing-joins : {H : Type 0} (replies : Tag → TokenSinkResult H) → JoinsText (λ _. Unit {0}) (step replies)
listing-joins replies = record {
  keeps = λ s h a k. tt;
  pieces = λ s h a b k l m. ap (λ t. Ok (record s { told = t }, Continue)) (joined-pieces s.told a b k l m);
  goes_on = λ s h a k. refl;
}
