-- What the calls of a tokenizer leave: what is still to come of its sink, for each further text.
use Rattle.std.specs.Prelude.{◌≡◌, ℕ, ◌<◌, ◌≤◌, Bool, true, false, ◌&&◌, not, is_none, List, [], ◌∷◌, ◌++◌, length, Option}
use Rattle.std.specs.Prelude.{Some, None, Result, Ok, Err}
use Rattle.markup.specs.declared.fault.ParseFault.{ParseFault}
use Rattle.markup.specs.declared.tokenizer_result.TokenizerResult.{TokenizerResult}
use Rattle.markup.specs.declared.tokenizer_result.TokenizerResult.TheVariants.{Done, Script, EncodingIndicator}
use Rattle.html_queue.specs.Queue.{Queue, Takes}
use Rattle.html_tokens.specs.declared.replies.ProcessResult.{ProcessResult}
use Rattle.html_tokens.specs.declared.replies.ProcessResult.TheVariants as flow
use Rattle.html_tokens.specs.declared.replies.TokenSinkResult.TheVariants as reply
use Rattle.html_tokens.specs.declared.states.RawKind.{RawKind}
use Rattle.html_tokens.specs.declared.states.State.{State}
use Rattle.html_tokens.specs.declared.states.State.TheVariants as state
use Rattle.html_tokens.specs.declared.token.Token.TheVariants.{EOFToken}
use Rattle.html_tokens.specs.declared.options.TokenizerOpts.{TokenizerOpts}
use Rattle.html_tokens.specs.declared.sink.TokenSink.{Ghosts}
use Rattle.html_tokens.specs.Item.{TextPlace}
use Rattle.html_tokens.specs.NormalText.{normal_text}
use Rattle.html_tokens.specs.Table.{Row}
use Rattle.html_tokens.specs.TextState.{is_text_state}
use Rattle.html_tokens.specs.Notes.{Notes, noting, noting_end}
pub use Rattle.html_tokens.specs.Owed.{owed_for_text}
use Rattle.html_tokens.specs.Reading.{◌>>=◌, line_number, first_place, first_stand}
use Rattle.html_tokens.specs.Sink.{Reply, Refusal}
use Rattle.html_tokenizer_parts.specs.CharRefs.{BeginsReference, fits_in}
use Rattle.html_tokenizer_parts.specs.declared.held_reference.Ampersand.{Ampersand}
use Rattle.html_tokenizer_parts.specs.declared.held_reference.Ampersand.TheVariants.{Held, Unknown}
use Rattle.html_tokenizer_parts.specs.declared.stream.Stream.{Stream}
use Rattle.html_tokenizer.specs.declared.tokenizer.Tokenizer.{Tokenizer}
pub use Rattle.html_tokenizer_parts.specs.Input.{last_of}
use Rattle.html_tokenizer_parts.specs.Input.{ComesAsRun}
use Rattle.html_tokenizer.specs.Stops.{stops_of}
use Rattle.html_queue.specs.declared.set.SmallCharSet.{SmallCharSet}
use Rattle.html_tokenizer.specs.Rest.{rest, rows_of, standing, coming}
use Rattle.html_tokenizer.specs.Untold.{Untold}
use Rattle.html_tokenizer_parts.specs.Words.{BeginsEnd, FittingEnd}
use Rattle.html_tokenizer.specs.Steps.{Read, FailsOver, IsAt, Owed, together, more, paused_by, Rises, now, Stays, Fell, Fails}
use Rattle.html_tokenizer.specs.Steps.{FailsAmong, Replied, reads}
pub use Rattle.html_tokenizer_parts.specs.Refusals.{refused_by, refusal, Refuses}
use Rattle.html_tokenizer.specs.Listeners.{listening}

-- the pauses so far, and the one with which a call of `feed` hands back control
abbrev pub paused_with : {H : Type 0} → (H → ℕ) → List Reply → TokenizerResult H → List Reply
paused_with number pauses Done = pauses
paused_with number pauses (Script handle) = pauses ++ reply.Script (number handle) ∷ []
paused_with number pauses (EncodingIndicator label) = pauses ++ reply.EncodingIndicator label ∷ []

-- what a step gave that left its answer at a place of its own
abbrev pub answered : {H : Type 0} → ProcessResult H → Result (Unit {0}) ParseFault → Result (ProcessResult H) ParseFault
answered answer (Ok x) = Ok answer
answered answer (Err fault) = Err fault

-- what was noted, with what is owed after it and that pause
abbrev pub noted_with : {H : Type 0} → (H → ℕ) → Owed → Notes ℕ → TokenizerResult H → Notes ℕ
noted_with number owed notes result = record (more owed notes) { pauses = paused_with number notes.pauses result }

-- The next of the characters that come are this run, of which none is a stop where the machine stands.
pub record ComesAsRunAt {K : Type 0} (k : Tokenizer K) (new : Stream) (from to : Queue) (run : List ℕ) : Type 0 where
  pub stops : SmallCharSet
  pub are : stops_of k.stream.exact_errors k.char_ref k.state ≡ Some stops
  pub comes : ComesAsRun stops.bits k.stream new from to run

-- the same of a tokenizer
abbrev pub refusal_of : {K : Type 0} → Tokenizer K → Option ParseFault
refusal_of k = refusal k.stream

-- whether the end of the input was told
abbrev pub has_ended : {K : Type 0} → Tokenizer K → Bool
has_ended k = k.stream.has_ended

-- the text state in which a tokenizer with nothing pending stands
abbrev pub text_place : {K : Type 0} → Tokenizer K → TextPlace
text_place k = first_place (Some k.state)

-- whether a tokenizer stands in text, holds no part of an item, and neither ended nor failed
abbrev pub is_nothing_pending : {K : Type 0} → Tokenizer K → Bool
is_nothing_pending k = not k.stream.has_ended && not k.stream.has_failed && is_none k.char_ref && is_text_state k.state

-- whether a state reads the value of an attribute
abbrev pub is_value : State → Bool
is_value (state.AttributeValue kind) = true
is_value _ = false

-- what is held of a reference, if something is, begins one
abbrev pub HeldIn : List Row → State → Option Ampersand → Type 0
HeldIn rows st None = Unit {0}
HeldIn rows st (Some (Held cs)) = BeginsReference (is_value st) rows cs
HeldIn rows st (Some Unknown) = Unit {0}

-- the letters that are held after "</" in raw text, if they are, begin the name of the end tag that ends it
abbrev pub EndHeldIn : State → FittingEnd → Type 0
EndHeldIn st e = (kind : RawKind) → st ≡ state.RawEndTagName kind → BeginsEnd e.name e.letters

module _ {K H : Type 0} (Sink : Ghosts K H) where
  -- what a further text makes of the sink and of what was noted
  abbrev pub to_come : Tokenizer K → Notes ℕ → List ℕ → Result (Sink.State × Notes ℕ) (Refusal × ℕ)
  to_come k notes t = rest (listening Sink) k (Sink.view k.sink, notes) t

  -- what the end of the input makes of the sink
  abbrev pub at_end : ℕ → Sink.State × Notes ℕ → Result (Sink.State × Notes ℕ) (Refusal × ℕ)
  at_end b s = noting Sink.step Sink.is_quiet s EOFToken (line_number b) >>= λ p. Ok (noting_end Sink.ended p.0)

  -- A character was taken, its line counted, which owed what it owes on its own besides.
  abbrev pub Passed : Tokenizer K → Tokenizer K → ℕ → ProcessResult H → Type 0
  Passed old new c result = Read Sink (c ∷ [])
      (λ owed. together owed (owed_for_text old.stream.exact_errors (c ∷ []))) new.stream.breaks
      (record old.stream { breaks = new.stream.breaks }) old new result

  abbrev pub Passes : Tokenizer K → Tokenizer K → ℕ → Result (ProcessResult H) ParseFault → Type 0
  Passes old new c (Ok result) = Passed old new c result
  Passes old new c (Err fault) = FailsOver Sink (c ∷ []) old new.sink fault

  -- A run of text was taken, of which no character ends a line.
  abbrev pub TookRun : Tokenizer K → Tokenizer K → List ℕ → Type 0
  TookRun old new run = Read Sink run (λ owed. owed) old.stream.breaks old.stream old new flow.Continue

  abbrev pub KeepsRun : Tokenizer K → Tokenizer K → List ℕ → Result (Unit {0}) ParseFault → Type 0
  KeepsRun old new run (Ok x) = TookRun old new run
  KeepsRun old new run (Err fault) = FailsOver Sink run old new.sink fault

  -- All that was held is told, which owed this: what the end of the input makes of the sink is the end alone.
  pub record Closed (old new : Tokenizer K) : Type 0 where
    pub owed : Owed
    pub rises : Rises Sink.errors owed old.sink new.sink
    pub same : (notes : Notes ℕ) → now Sink old old.stream.breaks (Sink.view old.sink, notes)
        [] ≡ at_end old.stream.breaks (Sink.view new.sink, more owed notes)
    pub stream : new.stream ≡ old.stream
    pub sound : Sink.is_sound (Sink.view new.sink)
    pub stays : Stays Sink old.sink new.sink

  abbrev pub Closes : Tokenizer K → Tokenizer K → Result (Unit {0}) ParseFault → Type 0
  Closes old new (Ok x) = Closed old new
  Closes old new (Err fault) = Fell Sink old.sink new.sink
      × ((notes : Notes ℕ) → Fails Sink old.sink new.sink (now Sink old old.stream.breaks (Sink.view old.sink, notes) []) fault)

  -- What a tokenizer needs at a call: a sink in a sound state, and a reference held only where one may stand.
  pub record IsReady (k : Tokenizer K) : Type 0 where
    pub sound : Sink.is_sound (Sink.view k.sink)
    pub fits : fits_in (rows_of k) k.char_ref k.state ≡ true

  -- Where a step ends so: after some characters; with an empty queue; or, where it hands back control, after the ">" of a tag,
  -- of which this is the reply, with data to come and nothing held.
  abbrev pub Leaves : ProcessResult H → Tokenizer K → List ℕ → Queue → Type 0
  Leaves flow.Continue new taken to = 0 < length taken
  Leaves flow.Suspend new taken to = to.characters ≡ []
  Leaves (flow.Script handle) new taken to = (last_of taken ≡ 62) × IsAt new state.Data × Replied Sink new.sink
      (reply.Script (Sink.number handle))
  Leaves (flow.EncodingIndicator label) new taken to = (last_of taken ≡ 62) × IsAt new state.Data
      × Replied Sink new.sink (reply.EncodingIndicator label)

  -- Some characters were taken from the queue, each once, these pauses were added, and the tokenizer stands where this is so of the
  -- characters taken.
  pub record HasMoved (pauses_after : List Reply → List Reply) (leaves : List ℕ → Type 0) (old new : Tokenizer K)
      (from to : Queue) : Type 0 where
    pub taken : List ℕ
    pub takes : Takes taken from to
    -- the characters that came of them, and what the items that ended with these owed, besides what they owed on their own
    pub came : List ℕ
    pub comes : (t : List ℕ) → coming old (taken ++ t) ≡ came ++ coming new t
    pub owed : Owed
    pub rises : Rises Sink.errors (together owed (owed_for_text old.stream.exact_errors came)) old.sink new.sink
    -- for each further text, what was to come over the characters taken and that text is what is now to come over that text
    pub same : (notes : Notes ℕ) (t : List ℕ) → to_come old notes (taken ++ t) ≡ to_come new
        (record (more owed notes) { pauses = pauses_after notes.pauses }) t
    pub ready : IsReady new
    pub stays : Stays Sink old.sink new.sink
    pub ended : new.stream.has_ended ≡ old.stream.has_ended
    pub failed : new.stream.has_failed ≡ old.stream.has_failed
    pub exact : new.stream.exact_errors ≡ old.stream.exact_errors
    pub left : leaves taken

  -- A step was made, which ends so.
  abbrev pub Moved : Tokenizer K → Tokenizer K → Queue → Queue → ProcessResult H → Type 0
  Moved old new from to result = HasMoved (λ pauses. paused_by Sink.number pauses result)
      (λ taken. Leaves result new taken to) old new from to

  -- A step failed, which left the sink so, and lost some characters of the queue: what was to come over these, whatever follows, is
  -- refused.
  pub record IsStuck (old : Tokenizer K) (left : K) (from to : Queue) (fault : ParseFault) : Type 0 where
    pub lost : List ℕ
    pub takes : Takes lost from to
    pub fell : Fell Sink old.sink left
    pub fails : (notes : Notes ℕ) (t : List ℕ) → Fails Sink old.sink left (to_come old notes (lost ++ t)) fault

  abbrev pub Moves : Tokenizer K → Tokenizer K → Queue → Queue → Result (ProcessResult H) ParseFault → Type 0
  Moves old new from to (Ok result) = Moved old new from to result
  Moves old new from to (Err fault) = IsStuck old new.sink from to fault

  -- Where a call ends so: with an empty queue, where of a reference no more is held than the front of one, of the end tag of raw text
  -- no more than letters that begin its name, and of all else no more than the front of one item; or, at a pause, after the ">" of a
  -- tag, of which this is the reply, with data to come and nothing held.
  abbrev pub Rests : TokenizerResult H → Tokenizer K → List ℕ → Queue → Type 0
  Rests Done new taken to = (to.characters ≡ []) × HeldIn (rows_of new) new.state new.char_ref
      × EndHeldIn new.state new.raw_end × Untold (Sink.State × Notes ℕ) new.state new
  Rests (Script handle) new taken to = (last_of taken ≡ 62) × IsAt new state.Data × Replied Sink new.sink
      (reply.Script (Sink.number handle))
  Rests (EncodingIndicator label) new taken to = (last_of taken ≡ 62) × IsAt new state.Data × Replied Sink new.sink
      (reply.EncodingIndicator label)

  -- The input was read, or read up to a pause.
  abbrev pub Fed : Tokenizer K → Tokenizer K → Queue → Queue → TokenizerResult H → Type 0
  Fed old new from to result = HasMoved (λ pauses. paused_with Sink.number pauses result)
      (λ taken. Rests result new taken to) old new from to

  -- Some characters were taken, and after them the tokenizer stood where a step failed, which left the sink so.
  pub record HasFailed (old : Tokenizer K) (left : K) (from to : Queue) (fault : ParseFault) : Type 0 where
    pub at : Tokenizer K
    pub via : Queue
    pub moved : HasMoved (λ pauses. pauses) (λ taken. Unit {0}) old at from via
    pub stuck : IsStuck at left via to fault

  abbrev pub Runs : Tokenizer K → Tokenizer K → Queue → Queue → Result (TokenizerResult H) ParseFault → Type 0
  Runs old new from to (Ok result) = Fed old new from to result
  Runs old new from to (Err fault) = HasFailed old new.sink from to fault

  -- The end was told, after what was owed: what was to come over no further text is what the sink is now.
  pub record HasEnded (old new : Tokenizer K) : Type 0 where
    pub owed : Owed
    -- the sink before it was told that all tokens were, and what that made of it
    pub told : K
    pub rises : Rises Sink.errors owed old.sink told
    pub ended : Sink.view new.sink ≡ Sink.ended (Sink.view told)
    pub counts : Sink.errors new.sink ≡ Sink.errors_ended (Sink.view told) (Sink.errors told)
    pub kept : Sink.errors told ≤ Sink.errors new.sink
    pub same : (notes : Notes ℕ) → to_come old notes [] ≡ Ok (Sink.view new.sink, more owed notes)
    pub sound : Sink.is_sound (Sink.view new.sink)
    pub stays : Stays Sink old.sink new.sink
    pub stream : new.stream ≡ record old.stream { has_ended = true }

  -- The end was told, and the sink was not yet told that it was.
  pub record ToldEnd (old new : Tokenizer K) : Type 0 where
    pub owed : Owed
    pub rises : Rises Sink.errors owed old.sink new.sink
    pub same : (notes : Notes ℕ) → to_come old notes [] ≡ Ok (Sink.ended (Sink.view new.sink), more owed notes)
    pub stream : new.stream ≡ old.stream
    pub sound : Sink.is_sound (Sink.view new.sink)
    pub stays : Stays Sink old.sink new.sink

  -- What is held, or the end, could not be told: what was to come over no further text is refused.
  pub record FailsToEnd (old new : Tokenizer K) (fault : ParseFault) : Type 0 where
    pub fell : Fell Sink old.sink new.sink
    pub fails : (notes : Notes ℕ) → FailsAmong Sink (λ token. Unit {0}) old.sink new.sink (to_come old notes []) fault

  abbrev pub TellsEnd : Tokenizer K → Tokenizer K → Result (Unit {0}) ParseFault → Type 0
  TellsEnd old new (Ok x) = ToldEnd old new
  TellsEnd old new (Err fault) = FailsToEnd old new fault

  -- what a call asks of a tokenizer, if nothing stands against the call
  abbrev pub IsReadyIf : Option ParseFault → Tokenizer K → Type 0
  IsReadyIf None k = IsReady k
  IsReadyIf (Some fault) k = Unit {0}

  -- A call with this input gives this where nothing stands against it; where it fails, the tokenizer has failed.
  abbrev pub FeedGives : Option ParseFault → Tokenizer K → Tokenizer K → Queue → Queue → Result (TokenizerResult H) ParseFault → Type 0
  FeedGives None old new from to (Ok result) = Fed old new from to result
  FeedGives None old new from to (Err fault) = (new.stream.has_failed ≡ true) × Runs old new from to (Err fault)
  FeedGives (Some fault) old new from to result = (result ≡ Err fault) × (new ≡ old) × (to ≡ from)

  abbrev pub EndGives : Option ParseFault → Tokenizer K → Tokenizer K → Result (Unit {0}) ParseFault → Type 0
  EndGives None old new (Ok x) = HasEnded old new
  EndGives None old new (Err fault) = (new.stream.has_failed ≡ true) × FailsToEnd old new fault
  EndGives (Some fault) old new result = (result ≡ Err fault) × (new ≡ old)

  -- A sink whose state was sound is in a sound state, unless it has failed.
  abbrev pub KeepsSound : K → K → Type 0
  KeepsSound old new = (Sink.has_failed old ≡ false → Sink.is_sound (Sink.view old)) → Sink.has_failed new ≡ false
      → Sink.is_sound (Sink.view new)

  -- A new tokenizer: what is to come is the reading of all the text.
  pub record IsNew (k : Tokenizer K) (sink : K) (opts : TokenizerOpts) (table : List Row) : Type 0 where
    pub over : k.sink ≡ sink
    pub same : (notes : Notes ℕ) (t : List ℕ)
        → to_come k notes t ≡ reads Sink table (first_stand opts.initial_state opts.last_start_tag_name) 0
        (Sink.view sink, notes) (normal_text opts.discard_bom t)
    pub ready : IsReady k
    pub begun : refusal_of k ≡ None
    pub exact : k.stream.exact_errors ≡ opts.exact_errors
    pub comes : (t : List ℕ) → coming k t ≡ normal_text opts.discard_bom t

  -- A tokenizer in a text state, with no part of an item held: what is to come is the reading of what comes, from that text on.
  abbrev pub ReadsAt : TextPlace → Tokenizer K → Type 0
  ReadsAt place k = (notes : Notes ℕ) (t : List ℕ) → to_come k notes t ≡ reads Sink (rows_of k) (standing k place)
      k.stream.breaks (Sink.view k.sink, notes) (coming k t)
