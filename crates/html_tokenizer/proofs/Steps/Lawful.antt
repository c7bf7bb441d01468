-- What the laws of a sink say of readings of which something is noted.
use Rattle.std.proofs.Common.{◌≡◌, ◌∙◌, ℕ, List, ◌++◌, Result, Ok, Err, refl, sym, ap}
use Rattle.std.specs.Prelude.{IfOk, Bool, true, false, ◌&&◌, Option, Some, None}
use Rattle.std.proofs.lemmas.Result.{IfOk-weaker}
use Rattle.html_tokens.specs.declared.replies.TokenSinkResult.TheVariants.{Continue}
use Rattle.html_tokens.specs.declared.token.Token.{Token}
use Rattle.html_tokens.specs.declared.token.Token.TheVariants.{TagToken, CharacterTokens}
use Rattle.html_tokens.specs.Item.{Fault, Grave, Slight}
use Rattle.html_tokens.specs.Notes.{Notes, NotedStep, noted, heard, noting, noting_error, paused}
use Rattle.html_tokens.specs.Reading.{◌>>=◌, erred_by}
use Rattle.html_tokens.specs.Sink.{Step, Reply, Refusal, SinkLaws, IsReplyTo}
use Rattle.html_tokenizer.specs.Steps.{IsNoTag, owed_for, more}

-- what a reading needs of a sink's steps, from each sound state
pub record Lawful {T : Type 0} (sound : T → Type 0) (step : NotedStep T) : Type 0 where
  -- sound states lead to sound states
  pub keeps : (s : T) → sound s → (token : Token) (line : ℕ) → IfOk (step s token line) (λ p. sound p.0)
  -- text in two pieces is as in one, on whatever lines
  pub pieces : (s : T) → sound s → (a b : List ℕ) (k l m : ℕ)
      → (step s (CharacterTokens a) k >>= λ p. step p.0 (CharacterTokens b) l) ≡ step s (CharacterTokens (a ++ b)) m
  -- whatever is no tag gets no reply but to go on
  pub goes_on : (s : T) → sound s → (token : Token) → IsNoTag token → (line : ℕ) → IfOk (step s token line) (λ p. p.1 ≡ Continue)

bind-within : {A B F : Type 0} (r : Result A F) (f g : A → Result B F) → IfOk r (λ x. f x ≡ g x) → (r >>= f) ≡ (r >>= g)
bind-within (Ok x) f g h = h
bind-within (Err e) f g h = refl

-- both of two, where they are one
both : (a b c d : Bool) → d ≡ (b && c) → ((a && b) && c) ≡ (a && d)
both true b c d e = sym e
both false b c d e = refl

pub reply-to : (token : Token) (reply : Reply) → IsNoTag token → IsReplyTo token reply → reply ≡ Continue
reply-to (TagToken tag) reply h r = absurd h
reply-to _ reply h r = r

noted-if : {S : Type 0} (notes : Notes ℕ) (r : Result (S × Reply) Refusal) (P : (S × Notes ℕ) × Reply → Type 0)
    → IfOk r (λ p. P ((p.0, record notes { pauses = paused notes.pauses p.1 }), p.1)) → IfOk (noted notes r) P
noted-if notes (Ok p) P h = h
noted-if notes (Err e) P h = tt

-- where an item has a fault, that is noted
pub erred-more : {S : Type 0} (fault : Option Fault) (s : S × Notes ℕ) → erred_by noting_error fault s ≡ (s.0, more (owed_for fault) s.1)
erred-more None s = refl
erred-more (Some Grave) s = refl
erred-more (Some Slight) s = refl

pub erred-sound : {S : Type 0} (sound : S → Type 0) (fault : Option Fault) (s : S × Notes ℕ) → sound s.0
    → sound (erred_by noting_error fault s).0
erred-sound sound None s h = h
erred-sound sound (Some fault) s h = h

-- what is slight beside a fault is nothing more
pub slight-absorbed : {S : Type 0} (fault : Fault) (s : S × Notes ℕ) → noting_error fault (noting_error Slight s) ≡ noting_error fault s
slight-absorbed Grave s = refl
slight-absorbed Slight s = refl

module _ {S : Type 0} (step : Step S) (quiet : S → Token → Bool) where
  -- text that is noted, and then text that is heard as this after it
  noted-then : (notes : Notes ℕ) (r : Result (S × Reply) Refusal) (token : Token) (line : ℕ) (all : Bool)
      → IfOk r (λ p. p.1 ≡ Continue) → IfOk r (λ p. (notes.is_quiet && quiet p.0 token) ≡ all)
      → (noted notes r >>= λ p. noting step quiet p.0 token line) ≡ noted (record notes { is_quiet = all }) (r >>= λ p. step p.0 token line)
  noted-then notes (Ok p) token line all h k =
      ap (λ reply. noted (heard (quiet p.0 token) (record notes { pauses = paused notes.pauses reply }))
      (step p.0 token line)) h ∙ ap (λ q. noted (record notes { is_quiet = q }) (step p.0 token line)) k
  noted-then notes (Err e) token line all h k = refl

module _ {S : Type 0} (is_sound : S → Type 0) (step : Step S) (ended : S → S) (quiet : S → Token → Bool)
    (laws : SinkLaws is_sound step ended quiet) where
  goes_on-token : (s : S) → is_sound s → (token : Token) → IsNoTag token → (line : ℕ) → IfOk (step s token line) (λ p. p.1 ≡ Continue)
  goes_on-token s h token none line = IfOk-weaker (step s token line) _ _ (λ p r. reply-to token p.1 none r) (laws.replies s h token line)

  any_line : (s : S) → is_sound s → (a b : List ℕ) (k l m : ℕ)
      → (step s (CharacterTokens a) k >>= λ p. step p.0 (CharacterTokens b) l) ≡ step s (CharacterTokens (a ++ b)) m
  any_line s h a b k l m =
      bind-within (step s (CharacterTokens a) k) (λ p. step p.0 (CharacterTokens b) l)
      (λ p. step p.0 (CharacterTokens b) k)
      (IfOk-weaker (step s (CharacterTokens a) k) _ _ (λ p e. laws.lines p.0 e b l k) (laws.keeps s h (CharacterTokens a) k))
      ∙ (laws.pieces s h a b k ∙ laws.lines s h (a ++ b) k m)

  -- where a text is quiet, and one after it, both are
  both-quiet : (notes : Notes ℕ) (s : S) → is_sound s → (a b : List ℕ) (line : ℕ)
      → IfOk (step s (CharacterTokens a) line)
      (λ p. ((notes.is_quiet && quiet s (CharacterTokens a)) && quiet p.0 (CharacterTokens b)) ≡
      (notes.is_quiet && quiet s (CharacterTokens (a ++ b))))
  both-quiet notes s h a b line = IfOk-weaker (step s (CharacterTokens a) line) _ _
      (λ p e. both notes.is_quiet _ _ _ e) (laws.quiet s h a b line)

  -- a sink of which something is noted is lawful
  pub noting-lawful : Lawful (λ (s : S × Notes ℕ). is_sound s.0) (noting step quiet)
  noting-lawful = record {
    keeps = λ s h token line. noted-if (heard (quiet s.0 token) s.1) (step s.0 token line) (λ p. is_sound p.0.0)
        (laws.keeps s.0 h token line);
    pieces = λ s h a b k l m.
        noted-then step quiet (heard (quiet s.0 (CharacterTokens a)) s.1) (step s.0 (CharacterTokens a) k)
        (CharacterTokens b) l _ (goes_on-token s.0 h (CharacterTokens a) tt k) (both-quiet s.1 s.0 h a b k)
        ∙ ap (noted (heard (quiet s.0 (CharacterTokens (a ++ b))) s.1)) (any_line s.0 h a b k l m);
    goes_on = λ s h token none line. noted-if (heard (quiet s.0 token) s.1) (step s.0 token line)
        (λ p. p.1 ≡ Continue) (goes_on-token s.0 h token none line);
  }
