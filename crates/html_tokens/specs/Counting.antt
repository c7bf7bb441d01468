-- What a sink stands for that counts the tags that go to another.
use Rattle.std.specs.Prelude.{◌≡◌, ℕ, Bool, List, ◌++◌, ◌&&◌, Result, Ok, Err, IfOk, IsErr, refl}
use Rattle.std.proofs.Common.{ap, sym, subst, ◌∙◌}
use Rattle.html_tokens.specs.Sink.{◌>>=◌, Step, Reply, Refusal, SinkLaws, IsIdle, IsReplyTo, one_more}
use Rattle.html_tokens.specs.declared.token.Token.{Token}
use Rattle.html_tokens.specs.declared.token.Token.TheVariants.{TagToken, CharacterTokens}

-- a number of tags after a token
abbrev pub tags_after : Token → ℕ → ℕ
tags_after (TagToken _) tags = one_more tags
tags_after _ tags = tags

-- the same, with a number beside the state
abbrev pub with_tags : {S : Type 0} → ℕ → Result (S × Reply) Refusal → Result ((S × ℕ) × Reply) Refusal
with_tags tags (Ok p) = Ok ((p.0, tags), p.1)
with_tags tags (Err refusal) = Err refusal

abbrev pub counted : {S : Type 0} → Step S → Step (S × ℕ)
counted step s t line = with_tags (tags_after t s.1) (step s.0 t line)

module _ {S : Type 0} (is_sound : S → Type 0) (step : Step S) (ended : S → S) (is_quiet : S → Token → Bool)
    (laws : SinkLaws is_sound step ended is_quiet) where
  bind_with_tags : (tags : ℕ) (r : Result (S × Reply) Refusal) (b : List ℕ) (line : ℕ)
      → (with_tags tags r >>= λ p. counted step p.0 (CharacterTokens b) line) ≡ with_tags tags
      (r >>= λ p. step p.0 (CharacterTokens b) line)
  bind_with_tags tags (Ok p) b line = refl
  bind_with_tags tags (Err refusal) b line = refl

  -- what holds of the inner state and the reply
  IfOk-with_tags : (P : S × Reply → Type 0) (tags : ℕ) (r : Result (S × Reply) Refusal) → IfOk r P
      → IfOk (with_tags tags r) (λ p. P (p.0.0, p.1))
  IfOk-with_tags P tags (Ok p) h = h
  IfOk-with_tags P tags (Err refusal) h = tt

  IsErr-with_tags : (tags : ℕ) (r : Result (S × Reply) Refusal) → IsErr r → IsErr (with_tags tags r)
  IsErr-with_tags tags (Ok p) h = h
  IsErr-with_tags tags (Err refusal) h = refl

  with_tags-IsErr : (tags : ℕ) (r : Result (S × Reply) Refusal) → IsErr (with_tags tags r) → IsErr r
  with_tags-IsErr tags (Ok p) h = h
  with_tags-IsErr tags (Err refusal) h = refl

  idle : (s : S) (tags : ℕ) (r : Result (S × Reply) Refusal) → IfOk r (λ p. p.0 ≡ s) → IfOk (with_tags tags r) (λ p. p.0 ≡ (s, tags))
  idle s tags (Ok p) h = ap (λ t. (t, tags)) h
  idle s tags (Err refusal) h = tt

  tags_after-idle : (t : Token) → IsIdle t → (tags : ℕ) → tags_after t tags ≡ tags
  tags_after-idle (TagToken _) h tags = absurd h
  tags_after-idle _ h tags = refl

  pub counted_laws : SinkLaws (λ s. is_sound s.0) (counted step) (λ s. (ended s.0, s.1)) (λ s t. is_quiet s.0 t)
  counted_laws = record {
    keeps = λ s h t line. IfOk-with_tags (λ p. is_sound p.0) (tags_after t s.1) (step s.0 t line) (laws.keeps s.0 h t line);
    ends = λ s h. laws.ends s.0 h;
    pieces = λ s h a b line. bind_with_tags s.1 (step s.0 (CharacterTokens a) line) b line ∙ ap (with_tags s.1)
        (laws.pieces s.0 h a b line);
    lines = λ s h a line other. ap (with_tags s.1) (laws.lines s.0 h a line other);
    idle = λ s h t i line. subst (λ tags. IfOk (with_tags tags (step s.0 t line)) (λ p. p.0 ≡ s))
        (sym (tags_after-idle t i s.1)) (idle s.0 s.1 (step s.0 t line) (laws.idle s.0 h t i line));
    idle_refused = λ s h t i line r any other. IsErr-with_tags (tags_after any s.1) (step s.0 any other)
        (laws.idle_refused s.0 h t i line (with_tags-IsErr (tags_after t s.1) (step s.0 t line) r) any other);
    replies = λ s h t line. IfOk-with_tags (λ p. IsReplyTo t p.1) (tags_after t s.1) (step s.0 t line) (laws.replies s.0 h t line);
    quiet = λ s h a b line. IfOk-with_tags
        (λ p. is_quiet s.0 (CharacterTokens (a ++ b)) ≡ (is_quiet s.0 (CharacterTokens a)
        && is_quiet p.0 (CharacterTokens b))) s.1 (step s.0 (CharacterTokens a) line) (laws.quiet s.0 h a b line);
  }
