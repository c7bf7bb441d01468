-- What is noted of a sink where written forms are read.
use Rattle.std.proofs.Common.{◌≡◌, ◌∙◌, ℕ, Bool, true, false, List, ◌++◌, Result, Ok, Err, refl, sym, ap}
use Rattle.std.specs.Prelude.{IfOk, ◌&&◌}
use Rattle.html_tokens.specs.declared.replies.TokenSinkResult.{TokenSinkResult}
use Rattle.html_tokens.specs.declared.replies.TokenSinkResult.TheVariants.{Continue}
use Rattle.html_tokens.specs.declared.token.Token.{Token}
use Rattle.html_tokens.specs.declared.token.Token.TheVariants.{CharacterTokens}
use Rattle.html_tokens.specs.Laws.{JoinsText}
use Rattle.html_tokens.specs.Notes.{Notes, paused, heard, noting, noted as noted_step}
use Rattle.html_tokens.specs.Reading.{◌>>=◌}
use Rattle.html_tokens.specs.Table.{Row}

and-true : (b : Bool) → (b && true) ≡ b
and-true true = refl
and-true false = refl

module _ {S H F : Type 0} (step : S → Token → ℕ → Result (S × TokenSinkResult H) F) (quiet : S → Token → Bool)
    (cdata : S → Bool) (ends : S → S) (rows : List Row) where
  -- text in two pieces is quiet exactly if both are
  abbrev pub IsQuietJoined : (S → Type 0) → Type 0
  IsQuietJoined is_sound = (s : S) → is_sound s → (a b : List ℕ) (line : ℕ) → IfOk (step s (CharacterTokens a) line)
      (λ p. quiet s (CharacterTokens (a ++ b)) ≡ (quiet s (CharacterTokens a) && quiet p.0 (CharacterTokens b)))

  noted-keeps : (is_sound : S → Type 0) (notes : Notes H) (r : Result (S × TokenSinkResult H) F)
      → IfOk r (λ p. is_sound p.0) → IfOk (noted_step notes r) (λ p. is_sound p.0.0)
  noted-keeps is_sound notes (Ok p) h = h
  noted-keeps is_sound notes (Err e) h = tt

  noted-goes_on : (notes : Notes H) (r : Result (S × TokenSinkResult H) F) → IfOk r (λ p. p.1 ≡ Continue)
      → IfOk (noted_step notes r) (λ p. p.1 ≡ Continue)
  noted-goes_on notes (Ok p) h = h
  noted-goes_on notes (Err e) h = tt

  and-assoc : (a b c : Bool) → ((a && b) && c) ≡ (a && (b && c))
  and-assoc true b c = refl
  and-assoc false b c = refl

  -- the second of two pieces, after a first that went on
  noted-second : (notes : Notes H) (qa qb q : Bool) (reply : TokenSinkResult H)
      (r : Result (S × TokenSinkResult H) F) → reply ≡ Continue → q ≡ (qa && qb)
      → noted_step (heard qb (record (heard qa notes) { pauses = paused notes.pauses reply })) r ≡ noted_step (heard q notes) r
  noted-second notes qa qb q reply r e k = rw (e, k, and-assoc notes.is_quiet qa qb) refl

  err-same : (notes : Notes H) (qa q : Bool) (r : Result (S × TokenSinkResult H) F) (e : F) → Err e ≡ r
      → Err (e, notes.errors) ≡ noted_step (heard q notes) r
  err-same notes qa q r e h = rw (sym h) refl

  noted-pieces : (notes : Notes H) (a b : List ℕ) (l : ℕ) (qa q : Bool) (r whole : Result (S × TokenSinkResult H) F)
      → IfOk r (λ p. p.1 ≡ Continue) → IfOk r (λ p. q ≡ (qa && quiet p.0 (CharacterTokens b)))
      → (r >>= λ p. step p.0 (CharacterTokens b) l) ≡ whole
      → (noted_step (heard qa notes) r >>= λ p. noting step quiet p.0 (CharacterTokens b) l) ≡ noted_step (heard q notes) whole
  noted-pieces notes a b l qa q (Ok p) whole e k h =
      noted-second notes qa (quiet p.0 (CharacterTokens b)) q p.1 (step p.0 (CharacterTokens b) l) e k ∙ ap (noted_step (heard q notes)) h
  noted-pieces notes a b l qa q (Err x) whole e k h = err-same notes qa q whole x h

  -- a sink that takes text in pieces does so where this is noted
  pub noting-joins : (is_sound : S → Type 0) → JoinsText is_sound step → IsQuietJoined is_sound
      → JoinsText (λ (s : S × Notes H). is_sound s.0) (noting step quiet)
  noting-joins is_sound joins even = record {
    keeps = λ s h a k. noted-keeps is_sound (heard (quiet s.0 (CharacterTokens a)) s.1)
        (step s.0 (CharacterTokens a) k) (joins.keeps s.0 h a k);
    pieces = λ s h a b k l m.
        noted-pieces s.1 a b l (quiet s.0 (CharacterTokens a)) (quiet s.0 (CharacterTokens (a ++ b)))
        (step s.0 (CharacterTokens a) k) (step s.0 (CharacterTokens (a ++ b)) m) (joins.goes_on s.0 h a k)
        (even s.0 h a b k) (joins.pieces s.0 h a b k l m);
    goes_on = λ s h a k. noted-goes_on (heard (quiet s.0 (CharacterTokens a)) s.1) (step s.0 (CharacterTokens a) k)
        (joins.goes_on s.0 h a k);
  }
