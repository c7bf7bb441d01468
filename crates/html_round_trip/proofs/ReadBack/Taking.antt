-- From what a token comes to, to what it means that it is taken quietly.
use Rattle.std.proofs.Common.{◌≡◌, ◌∙◌, ℕ, Bool, true, false, List, [], ◌∷◌, None, refl, sym, ap}
use Rattle.html_rules.specs.Actions.{set_ignore_lf}
use Rattle.html_rules.specs.Rules.{Again, Finished, Replied, Settled, is_self_closing, one_more_turn, settle, settled_with}
use Rattle.html_rules.specs.Rules.{turn, turn_of, within}
use Rattle.html_rules.specs.Shape.{is_fit}
use Rattle.html_rules.specs.State.{State, hushed}
use Rattle.html_rules.specs.Step.{is_barred, is_idle, is_quiet, refusal_of, step, taken, taken_by}
use Rattle.html_tokens.specs.Notes.{paused}
use Rattle.html_tokens.specs.Sink.{Reply}
use Rattle.html_tokens.specs.Table.{Row}
use Rattle.html_tokens.specs.declared.replies.TokenSinkResult.TheVariants.{Continue}
use Rattle.html_tokens.specs.declared.tags.Tag.{Tag}
use Rattle.html_tokens.specs.declared.token.Token.{Token}
use Rattle.html_tokens.specs.declared.token.Token.TheVariants.{TagToken, CharacterTokens, CommentToken, EOFToken}
use Rattle.html_round_trip.specs.ReadBack.Runs.{TakesQuietly}

-- a state in which nothing stands against a token, and no error was told
pub record IsReady (s : State) (t : Token) : Type 0 where
  pub goes_on : s.has_ended ≡ false
  pub fit : is_fit s ≡ true
  pub free : is_barred s.mode t ≡ false
  pub keeps_lf : s.ignore_lf ≡ false
  pub silent : s.forest.errors ≡ 0

hushed-same : (s : State) → s.forest.errors ≡ 0 → hushed s ≡ s
hushed-same s e = ap (λ (n : ℕ). record s { forest = record s.forest { errors = n } }) (sym e)

ignore-same : (s : State) → s.ignore_lf ≡ false → set_ignore_lf false s ≡ s
unfolding set_ignore_lf
ignore-same s e = ap (λ (b : Bool). record s { ignore_lf = b }) (sym e)

none-refused : (s : State) (t : Token) → IsReady s t → is_idle t ≡ false → refusal_of t s ≡ None
none-refused s t ready idle = rw (ready.fit, idle, ready.free, ready.goes_on) refl

-- a text of one character is that token
one-character : (lf : Bool) (s : State) (c : ℕ) → lf ≡ false
    → ((taken_by lf (CharacterTokens (c ∷ [])) s).state ≡ (settle (CharacterTokens (c ∷ [])) s).state)
    × ((taken_by lf (CharacterTokens (c ∷ [])) s).reply ≡ (settle (CharacterTokens (c ∷ [])) s).reply)
one-character false s c e = (refl, refl)
one-character true s c e = absurd (cc)

module _ (rows : List Row) where
  -- a token that is not idle
  pub takes-from : (s new : State) (t : Token) (reply : Reply) → IsReady s t → is_idle t ≡ false
      → (taken t s).state ≡ new → (taken t s).reply ≡ reply → new.forest.errors ≡ 0
      → ((pauses : List Reply) → paused pauses reply ≡ pauses) → TakesQuietly rows s t new reply
  unfolding step is_quiet
  takes-from s new t reply ready idle e r silent goes_on line =
      let same = hushed-same s ready.silent in
      record {
        gives = rw (none-refused s t ready idle, idle, same, e, r, hushed-same new silent) refl;
        is_quiet = rw (same, e, silent) refl;
        goes_on = goes_on;
      }

  pub tag-takes : (s new : State) (tag : Tag) (reply : Reply) → IsReady s (TagToken tag)
      → (settle (TagToken tag) s).state ≡ new → (settle (TagToken tag) s).reply ≡ reply → new.forest.errors ≡ 0
      → ((pauses : List Reply) → paused pauses reply ≡ pauses) → TakesQuietly rows s (TagToken tag) new reply
  unfolding taken
  tag-takes s new tag reply ready e r silent goes_on =
      let same = ignore-same s ready.keeps_lf in
      takes-from s new (TagToken tag) reply ready refl (ap (λ s. (settle (TagToken tag) s).state) same ∙ e)
      (ap (λ s. (settle (TagToken tag) s).reply) same ∙ r) silent goes_on

  pub character-takes : (s new : State) (c : ℕ) → IsReady s (CharacterTokens (c ∷ []))
      → (settle (CharacterTokens (c ∷ [])) s).state ≡ new → (settle (CharacterTokens (c ∷ [])) s).reply ≡ Continue
      → new.forest.errors ≡ 0 → TakesQuietly rows s (CharacterTokens (c ∷ [])) new Continue
  unfolding taken
  character-takes s new c ready e r silent =
      let same = ignore-same s ready.keeps_lf in
      let t = CharacterTokens (c ∷ []) in
      let one = one-character s.ignore_lf s c ready.keeps_lf in
      takes-from s new t Continue ready refl (ap (λ left. (taken_by s.ignore_lf t left).state) same ∙ (one.0 ∙ e))
      (ap (λ left. (taken_by s.ignore_lf t left).reply) same ∙ (one.1 ∙ r)) silent (λ pauses. refl)

-- how a token is settled: in one turn, or in two
pub settled-once : (t : Token) (s new : State) (b : Bool) → is_self_closing t ≡ false → turn t s ≡ turn_of new
    (Finished b) → settle t s ≡ settled_with new Continue
unfolding settle within
settled-once t s new true plain e = rw e refl
settled-once t s new false plain e = rw (e, plain) refl

pub settled-twice : (t : Token) (s mid new : State) (b : Bool) → is_self_closing t ≡ false
    → turn t s ≡ turn_of mid Again → turn t mid ≡ turn_of new (Finished b) → settle t s ≡ one_more_turn (settled_with new Continue)
unfolding settle within
settled-twice t s mid new true plain e k = rw (e, k) refl
settled-twice t s mid new false plain e k = rw (e, k, plain) refl

module _ (rows : List Row) where
  -- a tag that is taken in one turn, or in two
  pub tag-once : (s new : State) (tag : Tag) (b : Bool) → IsReady s (TagToken tag)
      → is_self_closing (TagToken tag) ≡ false → turn (TagToken tag) s ≡ turn_of new (Finished b)
      → new.forest.errors ≡ 0 → TakesQuietly rows s (TagToken tag) new Continue
  tag-once s new tag b ready plain e silent =
      let made = settled-once (TagToken tag) s new b plain e in
      tag-takes rows s new tag Continue ready (ap (λ (m : Settled). m.state) made)
      (ap (λ (m : Settled). m.reply) made) silent (λ pauses. refl)

  pub tag-twice : (s mid new : State) (tag : Tag) (b : Bool) → IsReady s (TagToken tag)
      → is_self_closing (TagToken tag) ≡ false → turn (TagToken tag) s ≡ turn_of mid Again
      → turn (TagToken tag) mid ≡ turn_of new (Finished b) → new.forest.errors ≡ 0 → TakesQuietly rows s (TagToken tag) new Continue
  tag-twice s mid new tag b ready plain e k silent =
      let made = settled-twice (TagToken tag) s mid new b plain e k in
      tag-takes rows s new tag Continue ready (ap (λ (m : Settled). m.state) made)
      (ap (λ (m : Settled). m.reply) made) silent (λ pauses. refl)

  -- so a character
  pub character-once : (s new : State) (c : ℕ) (b : Bool) → IsReady s (CharacterTokens (c ∷ []))
      → turn (CharacterTokens (c ∷ [])) s ≡ turn_of new (Finished b) → new.forest.errors ≡ 0 → TakesQuietly rows s
      (CharacterTokens (c ∷ [])) new Continue
  character-once s new c b ready e silent =
      let made = settled-once (CharacterTokens (c ∷ [])) s new b refl e in
      character-takes rows s new c ready (ap (λ (m : Settled). m.state) made) (ap (λ (m : Settled). m.reply) made) silent

  pub character-twice : (s mid new : State) (c : ℕ) (b : Bool) → IsReady s (CharacterTokens (c ∷ []))
      → turn (CharacterTokens (c ∷ [])) s ≡ turn_of mid Again → turn (CharacterTokens (c ∷ [])) mid ≡ turn_of new
      (Finished b) → new.forest.errors ≡ 0 → TakesQuietly rows s (CharacterTokens (c ∷ [])) new Continue
  character-twice s mid new c b ready e k silent =
      let made = settled-twice (CharacterTokens (c ∷ [])) s mid new b refl e k in
      character-takes rows s new c ready (ap (λ (m : Settled). m.state) made) (ap (λ (m : Settled). m.reply) made) silent

pub settled-replied : (t : Token) (s new : State) (reply : Reply) → turn t s ≡ turn_of new (Replied reply)
    → settle t s ≡ settled_with new reply
unfolding settle within
settled-replied t s new reply e = rw e refl

-- a tag that is answered
pub tag-replied : (rows : List Row) (s new : State) (tag : Tag) (reply : Reply) → IsReady s (TagToken tag)
    → turn (TagToken tag) s ≡ turn_of new (Replied reply) → new.forest.errors ≡ 0
    → ((pauses : List Reply) → paused pauses reply ≡ pauses) → TakesQuietly rows s (TagToken tag) new reply
tag-replied rows s new tag reply ready e silent goes_on =
    let made = settled-replied (TagToken tag) s new reply e in
    tag-takes rows s new tag reply ready (ap (λ (m : Settled). m.state) made) (ap (λ (m : Settled). m.reply) made) silent goes_on

-- a comment
pub comment-once : (rows : List Row) (s new : State) (text : List ℕ) (b : Bool) → IsReady s (CommentToken text)
    → turn (CommentToken text) s ≡ turn_of new (Finished b) → new.forest.errors ≡ 0 → TakesQuietly rows s (CommentToken text) new Continue
unfolding taken
comment-once rows s new text b ready e silent =
    let t = CommentToken text in
    let made = settled-once t s new b refl e in
    let same = ignore-same s ready.keeps_lf in
    takes-from rows s new t Continue ready refl
    (ap (λ s. (settle t s).state) same ∙ ap (λ (m : Settled). m.state) made)
    (ap (λ s. (settle t s).reply) same ∙ ap (λ (m : Settled). m.reply) made) silent (λ pauses. refl)

-- the end of a text
pub end-takes : (rows : List Row) (s new : State) (b : Bool) → IsReady s EOFToken → turn EOFToken s ≡ turn_of new
    (Finished b) → new.forest.errors ≡ 0 → TakesQuietly rows s EOFToken new Continue
unfolding taken
end-takes rows s new b ready e silent =
    let made = settled-once EOFToken s new b refl e in
    let same = ignore-same s ready.keeps_lf in
    takes-from rows s new EOFToken Continue ready refl (ap (λ s. (settle EOFToken s).state) same
    ∙ ap (λ (m : Settled). m.state) made) (ap (λ s. (settle EOFToken s).reply) same
    ∙ ap (λ (m : Settled). m.reply) made) silent (λ pauses. refl)
