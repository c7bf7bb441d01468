-- How comments are read, and what the machine's states make of them.
use Rattle.std.proofs.Common.{◌≡◌, ◌∙◌, ℕ, ◌+◌, Bool, true, false, nat_eq, List, [], ◌∷◌, ◌++◌, take, drop, Some, None, Result}
use Rattle.std.proofs.Common.{refl, sym, ap, append_assoc, Option}
use Rattle.std.specs.Prelude.{codes, is_some}
use Rattle.std.specs.Result.{IsErrAnd}
use Rattle.std.proofs.lemmas.Bool.{eqb-true}
use Rattle.markup.specs.declared.fault.ParseFault.{ParseFault}
use Rattle.html_tokens.specs.declared.replies.ProcessResult.{ProcessResult}
use Rattle.html_tokens.specs.declared.replies.ProcessResult.TheVariants as flow
use Rattle.html_tokens.specs.declared.states.State.{State}
use Rattle.html_tokens.specs.declared.states.State.TheVariants as state
use Rattle.html_tokens.specs.declared.token.Token.TheVariants.{CommentToken}
use Rattle.html_tokens.specs.declared.sink.TokenSink.{Ghosts}
use Rattle.html_tokens.specs.Characters.{shown}
use Rattle.html_tokens.specs.Comments.{is_odd_in_comment, comment_end, comment_by, comment_at, comment_after, bogus_by, bogus_comment_after}
use Rattle.html_tokens.specs.Item.{Stand, Item, InData, longer, marked, token_item, Fault, Grave, Slight, slight_if, and_slight}
use Rattle.html_tokens.specs.Notes.{Notes, noting, noting_error}
use Rattle.html_tokens.specs.Reading.{erred_by, line_number, line_break, line_breaks}
use Rattle.html_tokens.specs.Sink.{◌>>=◌, SinkLaws}
use Rattle.html_tokens.proofs.CleanComments.{begun-by, end-mark, end-none}
use Rattle.html_tokenizer.specs.declared.tokenizer.Tokenizer.{Tokenizer}
use Rattle.html_tokenizer.specs.Rest.{rows_of, standing, held_at}
use Rattle.html_tokenizer.specs.Steps.{owed_for, Owed, IsAt, more, Falls, Emitted, Took, Keeps, nothing_owed, a_fault, reads, plays}
use Rattle.html_tokenizer.proofs.Steps.Lawful.{slight-absorbed}
use Rattle.html_tokenizer.proofs.Steps.Readings.{play-is, play-odd}
use Rattle.html_tokenizer.proofs.Steps.TokenEnds.{EndSays, end-says, emitted-took, emitted-failed, same-text, behind-one, item-absorbs}
use Rattle.html_tokenizer.proofs.Steps.Keeping.{Absorbs, at, took, took_odd, keeps_odd, keeps_silent, state-absorbs, no-break}
use Rattle.html_tokenizer.specs.Listeners.{listening}

-- ITEMS

comment-goes_on : (st : Stand) (front : List ℕ) (c : ℕ) (t : List ℕ) → comment_end (c ∷ t) ≡ None
    → comment_after st front (c ∷ t) ≡ marked (is_odd_in_comment c) (longer (comment_after st (front ++ shown c ∷ []) t))
comment-goes_on st front c t e = rw e refl

end-dash : (c : ℕ) (t : List ℕ) → nat_eq c 45 ≡ false → comment_end (45 ∷ c ∷ t) ≡ None
end-dash c [] e = rw e refl
end-dash c (a ∷ []) e = rw e refl
end-dash c (a ∷ b ∷ t) e = rw e refl

end-dashes : (c : ℕ) (t : List ℕ) → nat_eq c 62 ≡ false → nat_eq c 33 ≡ false → comment_end (45 ∷ 45 ∷ c ∷ t) ≡ None
end-dashes c [] e f = rw (e, f) refl
end-dashes c (a ∷ t) e f = rw (e, f) refl

end-bang : (c : ℕ) (t : List ℕ) → nat_eq c 62 ≡ false → comment_end (45 ∷ 45 ∷ 33 ∷ c ∷ t) ≡ None
end-bang c t e = rw e refl

-- after one dash, or two, or two and "!", that end nothing
dash-letter : (st : Stand) (front : List ℕ) (c : ℕ) (t : List ℕ) → nat_eq c 45 ≡ false → comment_after st front
    (45 ∷ c ∷ t) ≡ marked true (longer (comment_after st (front ++ 45 ∷ []) (c ∷ t)))
dash-letter st front c t e = comment-goes_on st front 45 (c ∷ t) (end-dash c t e)

at-dash : (st : Stand) (c : ℕ) (t : List ℕ) → nat_eq 62 c ≡ false → nat_eq c 45 ≡ false
    → comment_at st (45 ∷ c ∷ t) ≡ marked true (longer (comment_after st (45 ∷ []) (c ∷ t)))
at-dash st c t e f = rw e (dash-letter st [] c t f)

-- an item after a hyphen that ends nothing
abbrev dashed : Item → Item
dashed i = marked true (longer i)

dashes-letter : (st : Stand) (front : List ℕ) (c : ℕ) (t : List ℕ) → nat_eq c 62 ≡ false → nat_eq c 33 ≡ false
    → nat_eq c 45 ≡ false → comment_after st front (45 ∷ 45 ∷ c ∷ t) ≡ dashed (dashed (comment_after st (front ++ codes "--") (c ∷ t)))
dashes-letter st front c t e f g =
    comment-goes_on st front 45 (45 ∷ c ∷ t) (end-dashes c t e f)
    ∙ ap dashed (dash-letter st (front ++ 45 ∷ []) c t g ∙ ap (λ x. dashed (comment_after st x (c ∷ t)))
    (append_assoc front (45 ∷ []) (45 ∷ [])))

bang-letter : (st : Stand) (front : List ℕ) (c : ℕ) (t : List ℕ) → nat_eq c 62 ≡ false → comment_after st front
    (45 ∷ 45 ∷ 33 ∷ c ∷ t) ≡ dashed (dashed (longer (comment_after st (front ++ codes "--!") (c ∷ t))))
bang-letter st front c t e =
    comment-goes_on st front 45 (45 ∷ 33 ∷ c ∷ t) (end-bang c t e)
    ∙ ap dashed (comment-goes_on st (front ++ 45 ∷ []) 45 (33 ∷ c ∷ t) (end-dash 33 (c ∷ t) refl)
    ∙ ap dashed (comment-goes_on st ((front ++ 45 ∷ []) ++ 45 ∷ []) 33 (c ∷ t) (end-none 33 (c ∷ t) refl)
    ∙ ap (λ x. longer (comment_after st x (c ∷ t))) (append_assoc (front ++ 45 ∷ []) (45 ∷ []) (33 ∷ [])
    ∙ append_assoc front (45 ∷ []) (codes "-!"))))

-- FAULTS

slight-some : (fault : Option Fault) → is_some (and_slight fault) ≡ true
slight-some None = refl
slight-some (Some fault) = refl

-- what is marked has a fault
marked-some : (odd : Bool) (i : Item) → odd ≡ true → is_some (marked odd i).fault ≡ true
marked-some odd i e = rw e (slight-some i.fault)

comment-fault_by : (end : Option ℕ) (faulty odd : Bool) (st : Stand) (front : List ℕ) (go : Unit {0} → Item)
    → faulty ≡ true → odd ≡ true → is_some (comment_by end faulty odd st front go).fault ≡ true
comment-fault_by (Some n) faulty odd st front go e f = rw e refl
comment-fault_by None faulty odd st front go e f = marked-some odd (longer (go tt)) f

-- a comment with U+0000 has a fault
null-fault : (st : Stand) (front : List ℕ) (c : ℕ) (t : List ℕ) → nat_eq c 0 ≡ true → is_some (comment_after st front (c ∷ t)).fault ≡ true
null-fault st front c t e =
    let null : c ≡ 0 = eqb-true c 0 e in
    ap (λ i. is_some i.fault) (comment-goes_on st front c t (end-none c t (ap (λ d. nat_eq d 45) null)))
    ∙ marked-some (is_odd_in_comment c) (longer (comment_after st (front ++ shown c ∷ []) t)) (ap is_odd_in_comment null)

-- and so has one in which "--" stands, and no ">" after it
dashes-fault : (st : Stand) (front : List ℕ) (c : ℕ) (t : List ℕ) → nat_eq 62 c ≡ false
    → is_some (comment_after st front (45 ∷ 45 ∷ c ∷ t)).fault ≡ true
dashes-fault st front c t e = comment-fault_by (comment_end (45 ∷ 45 ∷ c ∷ t)) _ true st front
    (λ _. comment_after st (front ++ 45 ∷ []) (45 ∷ c ∷ t)) (rw e refl) refl

bogus-fault_by : (ends : Bool) (st : Stand) (front : List ℕ) (go : Unit {0} → Item) → is_some (go tt).fault ≡ true
    → is_some (bogus_by ends st front go).fault ≡ true
bogus-fault_by true st front go h = refl
bogus-fault_by false st front go h = h

-- every bogus comment has a fault
bogus-fault : (st : Stand) (front t : List ℕ) → is_some (bogus_comment_after st front t).fault ≡ true
bogus-fault st front [] = refl
bogus-fault st front (c ∷ t) = bogus-fault_by (nat_eq c 62) st front
    (λ _. bogus_comment_after st (front ++ shown c ∷ []) t) (bogus-fault st (front ++ shown c ∷ []) t)

-- STATES

module _ {K H : Type 0} (Sink : Ghosts K H) (laws : SinkLaws Sink.is_sound Sink.step Sink.ended Sink.is_quiet) where
  -- the machine once its comment is told
  abbrev emitted : Tokenizer K → Tokenizer K
  emitted k = record k { comment = []; state = state.Data }

  -- the machine with a comment of which it holds so much
  abbrev holding : Tokenizer K → List ℕ → State → Tokenizer K
  holding k front st = record k { comment = front; state = st }

  -- A comment is told next, after its error if it is fault, and ">" ends it.
  abbrev pub CommentSays : State → Tokenizer K → Owed → List ℕ → Type 0
  CommentSays st old owed front = EndSays Sink laws st old (emitted old) owed (CommentToken front)

  comment-says : (fault : Option Fault) (old : Tokenizer K) (b : ℕ) (s : Sink.State × Notes ℕ) → Sink.is_sound s.0
      → (front t u : List ℕ) (n : ℕ) (i : Item) → i ≡ token_item fault (CommentToken front) n (standing old InData)
      → line_breaks (take n u) ≡ 0 → drop n u ≡ t
      → plays Sink (rows_of old) i b s u ≡ (noting Sink.step Sink.is_quiet (s.0, more (owed_for fault) s.1)
      (CommentToken front) (line_number b) >>= λ p. reads Sink (rows_of old) (standing old InData) (b + 0) p.0 t)
  comment-says fault old b s h front t u n i is unbroken left = end-says Sink laws fault old b s h
      (CommentToken front) t u n i tt is unbroken left

  pub bogus-says : (old : Tokenizer K) → CommentSays state.BogusComment old a_fault old.comment
  unfolding held_at
  bogus-says old b s h t = comment-says (Some Grave) old b s h old.comment t (62 ∷ t) 1 _ refl refl refl

  pub start-says : (old : Tokenizer K) → CommentSays state.CommentStart old a_fault []
  unfolding held_at
  start-says old b s h t = comment-says (Some Grave) old b s h [] t (62 ∷ t) 1 _ refl refl refl

  pub start_dash-says : (old : Tokenizer K) → CommentSays state.CommentStartDash old a_fault []
  unfolding held_at
  start_dash-says old b s h t = comment-says (Some Grave) old b s h [] t (45 ∷ 62 ∷ t) 2 _ refl refl refl

  pub end_state-says : (old : Tokenizer K) → CommentSays state.CommentEnd old nothing_owed old.comment
  unfolding held_at
  end_state-says old b s h t = comment-says None old b s h old.comment t (45 ∷ 45 ∷ 62 ∷ t) 3
      (comment_after (standing old InData) old.comment (45 ∷ 45 ∷ 62 ∷ t)) (rw (end-mark t) refl) refl refl

  pub end_bang-says : (old : Tokenizer K) → CommentSays state.CommentEndBang old a_fault old.comment
  unfolding held_at
  end_bang-says old b s h t = comment-says (Some Grave) old b s h old.comment t (45 ∷ 45 ∷ 33 ∷ 62 ∷ t) 4 _ refl refl refl

  -- The comment was told, or could not be told.
  pub comment-took : {owed : Owed} (old new : Tokenizer K) (c : ℕ) (st : State) (front : List ℕ) → c ≡ 62
      → IsAt old st → Sink.is_sound (Sink.view old.sink) → Emitted Sink owed (CommentToken front) (emitted old) new
      → CommentSays st old owed front → Took Sink old new c flow.Continue
  comment-took old new c st front e from ok told says = emitted-took Sink laws old (emitted old) new c st
      (CommentToken front) e from ok refl refl (record { state = refl; fresh = from.fresh }) told says

  pub comment-failed : (owed : Owed) (old new : Tokenizer K) (c : ℕ) (st : State) (front : List ℕ)
      (result : Result (ProcessResult H) ParseFault) (fault : ParseFault) → c ≡ 62 → IsAt old st
      → Sink.is_sound (Sink.view old.sink) → IsErrAnd result (λ y. y ≡ fault)
      → Falls Sink old.sink new.sink
      (Sink.step (Sink.view old.sink) (CommentToken front) (line_number old.stream.breaks)) fault
      → CommentSays st old owed front → Keeps Sink old new c result
  comment-failed owed old new c st front result fault e from ok is fails says = emitted-failed Sink laws owed old
      (emitted old) new c st (CommentToken front) result fault e from ok is fails says

  -- What is slight before a comment changes nothing.
  module _ (old : Tokenizer K) (c : ℕ) where
    pub bogus-absorbs : IsAt old state.BogusComment → Absorbs Sink old c
    unfolding held_at
    bogus-absorbs from = state-absorbs Sink old c state.BogusComment from
        (λ b s t. item-absorbs Sink laws old (bogus_comment_after (standing old InData) old.comment (c ∷ t)) b s
        (c ∷ t) (bogus-fault (standing old InData) old.comment (c ∷ t)))

    pub comment-absorbs : IsAt old state.Comment → nat_eq c 0 ≡ true → Absorbs Sink old c
    unfolding held_at
    comment-absorbs from e = state-absorbs Sink old c state.Comment from
        (λ b s t. item-absorbs Sink laws old (comment_after (standing old InData) old.comment (c ∷ t)) b s (c ∷ t)
        (null-fault (standing old InData) old.comment c t e))

    pub end-absorbs : IsAt old state.CommentEnd → nat_eq 62 c ≡ false → Absorbs Sink old c
    unfolding held_at
    end-absorbs from e = state-absorbs Sink old c state.CommentEnd from
        (λ b s t. item-absorbs Sink laws old (comment_after (standing old InData) old.comment (45 ∷ 45 ∷ c ∷ t)) b s
        (45 ∷ 45 ∷ c ∷ t) (dashes-fault (standing old InData) old.comment c t e))

  -- A character more of the comment is held, or of what may end it.
  module _ (old : Tokenizer K) (c : ℕ) (ok : Sink.is_sound (Sink.view old.sink)) where
    moves : (st st' : State) (front : List ℕ) → IsAt old st
        → ((b : ℕ) (s : Sink.State × Notes ℕ) (t : List ℕ) → at Sink st old b s (c ∷ t) ≡ at Sink st'
        (holding old front st') (b + line_break (nat_eq c 10)) s t)
        → Took Sink old (holding old front st') c flow.Continue
    moves st st' front from law = took Sink old (holding old front st') c st st' from
        (record { state = refl; fresh = from.fresh }) refl refl ok law

    -- the same where the machine stays in its state, and the character may be odd
    grows : (odd : Bool) (st : State) (front : List ℕ) → IsAt old st
        → ((b : ℕ) (s : Sink.State × Notes ℕ) (t : List ℕ) → at Sink st old b s (c ∷ t) ≡ at Sink st
        (record old { comment = front }) (b + line_break (nat_eq c 10)) (erred_by noting_error (slight_if odd) s) t)
        → Took Sink old (record old { comment = front }) c flow.Continue
    grows odd st front from law = took_odd Sink odd old (record old { comment = front }) c st st from
        (record { state = from.state; fresh = from.fresh }) refl refl ok law

    pub bogus-push : (front : List ℕ) → IsAt old state.BogusComment → nat_eq c 62 ≡ false → front ≡ old.comment
        ++ shown c ∷ [] → Took Sink old (record old { comment = front }) c flow.Continue
    unfolding held_at
    bogus-push front from e is = rw is (grows false state.BogusComment (old.comment ++ shown c ∷ []) from
        (λ b s t. play-is (listening Sink) (rows_of old) _ _ b s c t (rw e refl)))

    pub comment-push : (front : List ℕ) → IsAt old state.Comment → nat_eq c 45 ≡ false → front ≡ old.comment
        ++ shown c ∷ [] → Took Sink old (record old { comment = front }) c flow.Continue
    unfolding held_at
    comment-push front from e is =
        rw is (grows (is_odd_in_comment c) state.Comment (old.comment ++ shown c ∷ []) from
        (λ b s t. play-odd (listening Sink) (rows_of old) slight-absorbed (is_odd_in_comment c) _ _ b s c t
        (comment-goes_on (standing old InData) old.comment c t (end-none c t e))))

  -- A dash or "!" is held beside the comment.
  module _ (old : Tokenizer K) (ok : Sink.is_sound (Sink.view old.sink)) where
    pub start-dash : IsAt old state.CommentStart → Took Sink old (record old { state = state.CommentStartDash }) 45 flow.Continue
    unfolding held_at
    start-dash from = moves old 45 ok state.CommentStart state.CommentStartDash old.comment from
        (λ b s t. same-text Sink laws old _ b s (45 ∷ t))

    pub start_dash-dash : (front : List ℕ) → front ≡ [] → IsAt old state.CommentStartDash
        → Took Sink old (holding old front state.CommentEnd) 45 flow.Continue
    unfolding held_at
    start_dash-dash front is from =
        rw is (moves old 45 ok state.CommentStartDash state.CommentEnd [] from (λ b s t. same-text Sink laws old _ b s (45 ∷ 45 ∷ t)))

    pub comment-dash : IsAt old state.Comment → Took Sink old (record old { state = state.CommentEndDash }) 45 flow.Continue
    unfolding held_at
    comment-dash from = moves old 45 ok state.Comment state.CommentEndDash old.comment from
        (λ b s t. same-text Sink laws old _ b s (45 ∷ t))

    pub end_dash-dash : IsAt old state.CommentEndDash → Took Sink old (record old { state = state.CommentEnd }) 45 flow.Continue
    unfolding held_at
    end_dash-dash from = moves old 45 ok state.CommentEndDash state.CommentEnd old.comment from
        (λ b s t. same-text Sink laws old _ b s (45 ∷ 45 ∷ t))

    pub end-bang_held : IsAt old state.CommentEnd → Took Sink old (record old { state = state.CommentEndBang }) 33 flow.Continue
    unfolding held_at
    end-bang_held from = moves old 33 ok state.CommentEnd state.CommentEndBang old.comment from
        (λ b s t. same-text Sink laws old _ b s (45 ∷ 45 ∷ 33 ∷ t))

    pub end-dash_more : (front : List ℕ) → front ≡ old.comment ++ 45 ∷ [] → IsAt old state.CommentEnd
        → Took Sink old (record old { comment = front }) 45 flow.Continue
    unfolding held_at
    end-dash_more front is from = rw is (grows old 45 ok true state.CommentEnd (old.comment ++ 45 ∷ []) from (λ b s t.
        play-odd (listening Sink) (rows_of old) slight-absorbed true _ _ b s 45 (45 ∷ 45 ∷ t)
        (comment-goes_on (standing old InData) old.comment 45 (45 ∷ 45 ∷ t) (end-dashes 45 t refl refl))))

  -- an item after a hyphen that ends nothing, which is slight
  behind-dash : (old : Tokenizer K) (i j : Item) (b : ℕ) (s : Sink.State × Notes ℕ) (u : List ℕ) → i ≡ dashed j
      → plays Sink (rows_of old) i b s (45 ∷ u) ≡ plays Sink (rows_of old) j b (noting_error Slight s) u
  behind-dash old i j b s u is = play-odd (listening Sink) (rows_of old) slight-absorbed true i j b s 45 u is
      ∙ ap (λ x. plays Sink (rows_of old) j x (noting_error Slight s) u) (no-break b 45 refl)

  -- What was held ends nothing, and the character is of the comment. Where a hyphen was held, that is slight.
  module _ (old new : Tokenizer K) (c : ℕ) (result : Result (ProcessResult H) ParseFault) (front : List ℕ)
      (keeps : Keeps Sink (holding old front state.Comment) new c result) where
    goes-on : (odd : Bool) (st : State) → IsAt old st
        → ((b : ℕ) (s : Sink.State × Notes ℕ) (t : List ℕ) → at Sink st old b s (c ∷ t) ≡ at Sink state.Comment
        (holding old front state.Comment) b (erred_by noting_error (slight_if odd) s) (c ∷ t)) → Keeps Sink old new c result
    goes-on odd st from law = keeps_odd Sink odd old (holding old front state.Comment) new c st state.Comment result
        from (record { state = refl; fresh = from.fresh }) refl refl law keeps

    pub start-other : IsAt old state.CommentStart → front ≡ [] → nat_eq 62 c ≡ false → nat_eq 45 c ≡ false → Keeps Sink old new c result
    unfolding held_at
    start-other from is e f = goes-on false state.CommentStart from (λ b s t.
        ap (λ i. plays Sink (rows_of old) i b s (c ∷ t)) (begun-by (standing old InData) c t e f)
        ∙ ap (λ x. plays Sink (rows_of old) (comment_after (standing old InData) x (c ∷ t)) b s (c ∷ t)) (sym is))

    pub start_dash-other : IsAt old state.CommentStartDash → front ≡ 45 ∷ [] → nat_eq 62 c ≡ false
        → nat_eq c 45 ≡ false → Keeps Sink old new c result
    unfolding held_at
    start_dash-other from is e f = goes-on true state.CommentStartDash from (λ b s t.
        behind-dash old (comment_at (standing old InData) (45 ∷ c ∷ t))
        (comment_after (standing old InData) (45 ∷ []) (c ∷ t)) b s (c ∷ t) (at-dash (standing old InData) c t e f)
        ∙ ap (λ x. plays Sink (rows_of old) (comment_after (standing old InData) x (c ∷ t)) b (noting_error Slight s) (c ∷ t)) (sym is))

    pub end_dash-other : IsAt old state.CommentEndDash → front ≡ old.comment ++ 45 ∷ [] → nat_eq c 45 ≡ false → Keeps Sink old new c result
    unfolding held_at
    end_dash-other from is e = goes-on true state.CommentEndDash from (λ b s t.
        behind-dash old _ _ b s (c ∷ t) (dash-letter (standing old InData) old.comment c t e)
        ∙ ap (λ x. plays Sink (rows_of old) (comment_after (standing old InData) x (c ∷ t)) b (noting_error Slight s) (c ∷ t)) (sym is))

    pub end-other : IsAt old state.CommentEnd → front ≡ old.comment ++ codes "--" → nat_eq c 62 ≡ false
        → nat_eq c 33 ≡ false → nat_eq c 45 ≡ false → Keeps Sink old new c result
    unfolding held_at
    end-other from is e f h = goes-on true state.CommentEnd from (λ b s t.
        let left : Item = comment_after (standing old InData) (old.comment ++ codes "--") (c ∷ t) in
        behind-dash old (comment_after (standing old InData) old.comment (45 ∷ 45 ∷ c ∷ t)) (dashed left) b s
        (45 ∷ c ∷ t) (dashes-letter (standing old InData) old.comment c t e f h)
        ∙ behind-dash old (dashed left) left b (noting_error Slight s) (c ∷ t) refl
        ∙ ap (λ x. plays Sink (rows_of old) (comment_after (standing old InData) x (c ∷ t)) b (noting_error Slight s) (c ∷ t)) (sym is))

    pub bang-other : IsAt old state.CommentEndBang → front ≡ old.comment ++ codes "--!" → nat_eq c 62 ≡ false → Keeps Sink old new c result
    unfolding held_at
    bang-other from is e = goes-on true state.CommentEndBang from (λ b s t.
        let left : Item = comment_after (standing old InData) (old.comment ++ codes "--!") (c ∷ t) in
        behind-dash old (comment_after (standing old InData) old.comment (45 ∷ 45 ∷ 33 ∷ c ∷ t))
        (dashed (longer left)) b s (45 ∷ 33 ∷ c ∷ t) (bang-letter (standing old InData) old.comment c t e)
        ∙ behind-dash old (dashed (longer left)) (longer left) b (noting_error Slight s) (33 ∷ c ∷ t) refl
        ∙ behind-one Sink laws old 33 refl (longer left) left b (noting_error Slight s) (c ∷ t) refl
        ∙ ap (λ x. plays Sink (rows_of old) (comment_after (standing old InData) x (c ∷ t)) b (noting_error Slight s) (c ∷ t)) (sym is))

  -- States within a comment that are never entered are read as those that they stand for.
  module _ (old new : Tokenizer K) (c : ℕ) (result : Result (ProcessResult H) ParseFault) where
    stands-for : (st st' : State) → IsAt old st
        → ((b : ℕ) (s : Sink.State × Notes ℕ) (t : List ℕ) → at Sink st old b s (c ∷ t) ≡ at Sink st'
        (record old { state = st' }) b s (c ∷ t))
        → Keeps Sink (record old { state = st' }) new c result → Keeps Sink old new c result
    stands-for st st' from law keeps = keeps_silent Sink old (record old { state = st' }) new c st st' result from
        (record { state = refl; fresh = from.fresh }) refl refl law keeps

    pub less-than-kept : IsAt old state.CommentLessThanSign → Keeps Sink (record old { state = state.Comment }) new
        c result → Keeps Sink old new c result
    unfolding held_at
    less-than-kept from keeps = stands-for state.CommentLessThanSign state.Comment from (λ b s t. refl) keeps

    pub less-than-bang_kept : IsAt old state.CommentLessThanSignBang
        → Keeps Sink (record old { state = state.Comment }) new c result → Keeps Sink old new c result
    unfolding held_at
    less-than-bang_kept from keeps = stands-for state.CommentLessThanSignBang state.Comment from (λ b s t. refl) keeps

    pub less-than-dash_kept : IsAt old state.CommentLessThanSignBangDash
        → Keeps Sink (record old { state = state.CommentEndDash }) new c result → Keeps Sink old new c result
    unfolding held_at
    less-than-dash_kept from keeps = stands-for state.CommentLessThanSignBangDash state.CommentEndDash from (λ b s t. refl) keeps

    pub less-than-dashes_kept : IsAt old state.CommentLessThanSignBangDashDash
        → Keeps Sink (record old { state = state.CommentEnd }) new c result → Keeps Sink old new c result
    unfolding held_at
    less-than-dashes_kept from keeps = stands-for state.CommentLessThanSignBangDashDash state.CommentEnd from (λ b s t. refl) keeps
