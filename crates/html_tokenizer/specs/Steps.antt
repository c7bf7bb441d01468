-- What the machine's functions leave: whatever follows, they have made of it what the machine would have made of it.
use Rattle.std.specs.Prelude.{◌≡◌, ℕ, zero, suc, ◌+◌, ◌≤◌, min, Bool, true, false, ◌&&◌, nat_eq, List, [], ◌∷◌, ◌++◌, Option}
use Rattle.std.specs.Prelude.{Some, None, Result, Ok, Err, IsErr}
use Rattle.markup.specs.declared.fault.ParseFault.{ParseFault}
use Rattle.markup.specs.declared.fault.ParseFault.TheVariants.{Memory, TokenInText, Ended, Shape, Failed}
use Rattle.html_tokens.specs.declared.replies.ProcessResult.{ProcessResult}
use Rattle.html_tokens.specs.declared.replies.ProcessResult.TheVariants as flow
use Rattle.html_tokens.specs.declared.replies.TokenSinkResult.{TokenSinkResult}
use Rattle.html_tokens.specs.declared.replies.TokenSinkResult.TheVariants as reply
use Rattle.html_tokens.specs.declared.states.State.{State}
use Rattle.html_tokens.specs.declared.states.State.TheVariants as state
use Rattle.html_tokens.specs.declared.tags.Tag.{Tag}
use Rattle.html_tokens.specs.declared.token.Token.{Token}
use Rattle.html_tokens.specs.declared.token.Token.TheVariants.{TagToken, ParseError, EOFToken}
use Rattle.html_tokens.specs.declared.sink.TokenSink.{Ghosts}
use Rattle.html_tokens.specs.Item.{Fault, Grave, Slight, grave_if, InData, Stand, Item}
use Rattle.html_tokens.specs.Notes.{Notes, noting}
pub use Rattle.html_tokens.specs.Owed.{Owed, how_many, nothing_owed, owed_for_each}
use Rattle.html_tokens.specs.Reading.{◌>>=◌, line_break, line_number, next_stand}
use Rattle.html_tokens.specs.Sink.{Reply, Refusal, InText, AfterEnd, Unfit}
use Rattle.html_tokens.specs.Table.{Row}
use Rattle.html_tokens.specs.Tags.{after_tag, is_faulty_tag}
use Rattle.html_tokenizer_parts.specs.CharRefs.{fits_in}
use Rattle.html_tokenizer.specs.declared.tokenizer.Tokenizer.{Tokenizer}
use Rattle.html_tokenizer_parts.specs.declared.stream.Stream.{Stream}
use Rattle.html_tokenizer_parts.specs.Input.{last_of}
use Rattle.html_tokenizer.specs.Rest.{rows_of, standing, held}
use Rattle.html_tokenizer.specs.Listeners.{listening, emitted_text, emitted_item}

-- the machine is in this state, and holds no reference
pub record IsAt {K : Type 0} (k : Tokenizer K) (st : State) : Type 0 where
  pub state : k.state ≡ st
  pub fresh : k.char_ref ≡ None

-- a token that is neither a tag nor an error
abbrev pub IsNoTag : Token → Type 0
IsNoTag (TagToken tag) = ⊥
IsNoTag (ParseError message) = ⊥
IsNoTag _ = Unit {0}

-- a token of the text: any but the end of the input
abbrev pub IsOfText : Token → Type 0
IsOfText EOFToken = ⊥
IsOfText _ = Unit {0}

-- the pauses so far, and the one with which a call hands back control
abbrev pub paused_by : {H : Type 0} → (H → ℕ) → List Reply → ProcessResult H → List Reply
paused_by number pauses flow.Continue = pauses
paused_by number pauses flow.Suspend = pauses
paused_by number pauses (flow.Script handle) = pauses ++ reply.Script (number handle) ∷ []
paused_by number pauses (flow.EncodingIndicator label) = pauses ++ reply.EncodingIndicator label ∷ []

-- what a fault owes, if there is one
abbrev pub owed_for : Option Fault → Owed
owed_for None = nothing_owed
owed_for (Some Grave) = record { faults = 1; is_quiet = false }
owed_for (Some Slight) = record { faults = 0; is_quiet = false }

-- what one faulty item owes
abbrev pub a_fault : Owed
a_fault = owed_for (Some Grave)

-- what is owed, and what a token owes that is quiet or is not
abbrev pub and_heard : Bool → Owed → Owed
and_heard heard owed = record owed { is_quiet = owed.is_quiet && heard }

-- what characters owe, and those before them
abbrev pub together : Owed → Owed → Owed
together owed before = record { faults = owed.faults + before.faults; is_quiet = owed.is_quiet && before.is_quiet }

-- n and so many more, counted one by one
abbrev pub and_more : ℕ → ℕ → ℕ
and_more zero n = n
and_more (suc faults) n = suc (and_more faults n)

-- what was noted, and this after it
abbrev pub more : Owed → Notes ℕ → Notes ℕ
more owed notes = record notes { errors = and_more owed.faults notes.errors; is_quiet = owed.is_quiet && notes.is_quiet }

-- the same, with the pause with which a call hands back control
abbrev pub noted_by : {H : Type 0} → (H → ℕ) → Owed → Notes ℕ → ProcessResult H → Notes ℕ
noted_by number owed notes result = record (more owed notes) { pauses = paused_by number notes.pauses result }

-- The number of errors rose by so many at least, or is at u64::MAX; where nothing is owed it did not rise.
pub record Rises {K : Type 0} (errors : K → ℕ) (owed : Owed) (before after : K) : Type 0 where
  pub enough : min (errors before + owed.faults) 0xffff_ffff_ffff_ffff ≤ errors after
  pub stays : owed.is_quiet ≡ true → errors after ≡ errors before

-- where the machine goes by the reply to a tag
abbrev pub state_after : {H : Type 0} → TokenSinkResult H → State
state_after reply.Continue = state.Data
state_after (reply.Script handle) = state.Data
state_after reply.Plaintext = state.Plaintext
state_after (reply.RawData kind) = state.RawData kind
state_after (reply.EncodingIndicator label) = state.Data

-- with what it hands back control
abbrev pub answer_to : {H : Type 0} → TokenSinkResult H → ProcessResult H
answer_to reply.Continue = flow.Continue
answer_to (reply.Script handle) = flow.Script handle
answer_to reply.Plaintext = flow.Continue
answer_to (reply.RawData kind) = flow.Continue
answer_to (reply.EncodingIndicator label) = flow.EncodingIndicator label

module _ {K H : Type 0} (Sink : Ghosts K H) where
  -- what a text makes of the sink and of what was noted, from a stand on
  abbrev pub reads : List Row → Stand → ℕ → Sink.State × Notes ℕ → List ℕ → Result (Sink.State × Notes ℕ) (Refusal × ℕ)
  reads rows st b s t = emitted_text (listening Sink) rows st b s t

  -- the same, where an item stands at its front
  abbrev pub plays : List Row → Item → ℕ → Sink.State × Notes ℕ → List ℕ → Result (Sink.State × Notes ℕ) (Refusal × ℕ)
  plays rows i b s t = emitted_item (listening Sink) rows i b s t

  -- what the characters t make of the sink and of what was noted
  abbrev pub now : Tokenizer K → ℕ → Sink.State × Notes ℕ → List ℕ → Result (Sink.State × Notes ℕ) (Refusal × ℕ)
  now k b s t = held (listening Sink) k b s t

  -- What stays of a sink: it had failed before where it has failed, and it works through the same loans.
  pub record Stays (old new : K) : Type 0 where
    pub failed : Sink.has_failed new ≡ true → Sink.has_failed old ≡ true
    pub loans : Sink.references new ≡ Sink.references old

  -- The same where a call failed, and that the sink is in a sound state unless it has failed.
  pub record Fell (old new : K) : Type 0 where
    pub sound : Sink.has_failed new ≡ false → Sink.is_sound (Sink.view new)
    pub loans : Sink.references new ≡ Sink.references old

  -- in this state some such token is so refused
  pub record IsRefused (among : Token → Type 0) (state : Sink.State) (refusal : Refusal) : Type 0 where
    pub token : Token
    pub is_among : among token
    pub line : ℕ
    pub is : Sink.step state token line ≡ Err refusal

  -- A call with the sink old, which left it as new and was to give this, has failed so: a refusal is the sink's, which stands
  -- before the token that it refuses, and what was to be given is refused too; and the sink had failed before where it so answered.
  abbrev pub FailsAmong : (Token → Type 0) → K → K → {A F : Type 0} → Result A F → ParseFault → Type 0
  FailsAmong among old new given Memory = Unit {0}
  FailsAmong among old new given TokenInText = IsErr given × IsRefused among (Sink.view new) InText
  FailsAmong among old new given Ended = IsErr given × IsRefused among (Sink.view new) AfterEnd
  FailsAmong among old new given Shape = IsErr given × IsRefused among (Sink.view new) Unfit
  FailsAmong among old new given Failed = Sink.has_failed old ≡ true

  -- the same where the token is one of the text
  abbrev pub Fails : K → K → {A F : Type 0} → Result A F → ParseFault → Type 0
  Fails old new given fault = FailsAmong IsOfText old new given fault

  -- A call failed so, and left its sink so.
  abbrev pub Falls : K → K → {A F : Type 0} → Result A F → ParseFault → Type 0
  Falls old new given fault = Fell old new × Fails old new given fault

  -- The same of a call that was to emit an error: every token fails so.
  abbrev pub FallsAll : K → K → ParseFault → Type 0
  FallsAll old new fault = Fell old new × ((token : Token) (line : ℕ) → Fails old new (Sink.step (Sink.view old) token line) fault)

  -- The sink stands where a tag led it, to which it gave this reply.
  pub record Replied (new : K) (answer : Reply) : Type 0 where
    pub before : Sink.State
    pub sound : Sink.is_sound before
    pub tag : Tag
    pub line : ℕ
    pub is : Sink.step before (TagToken tag) line ≡ Ok (Sink.view new, answer)

  -- Where a character hands back control: it is the ">" of a tag, of which this is the reply, after which comes data, and nothing
  -- is held.
  abbrev pub PausesAt : ProcessResult H → ℕ → Tokenizer K → Type 0
  PausesAt flow.Continue c k = Unit {0}
  PausesAt flow.Suspend c k = ⊥
  PausesAt (flow.Script handle) c k = (c ≡ 62) × IsAt k state.Data × Replied k.sink (reply.Script (Sink.number handle))
  PausesAt (flow.EncodingIndicator label) c k = (c ≡ 62) × IsAt k state.Data × Replied k.sink (reply.EncodingIndicator label)

  -- The token has gone to the sink, which answered only that reading goes on, after what is owed. Nothing else changes.
  pub record Emitted (owed : Owed) (token : Token) (old new : Tokenizer K) : Type 0 where
    pub gives : (line : ℕ) → line ≡ line_number old.stream.breaks → Sink.step (Sink.view old.sink) token line ≡ Ok
        (Sink.view new.sink, reply.Continue)
    pub changed : new ≡ record old { sink = new.sink }
    pub sound : Sink.is_sound (Sink.view new.sink)
    pub stays : Stays old.sink new.sink
    pub rises : Rises Sink.errors (and_heard (Sink.is_quiet (Sink.view old.sink) token) owed) old.sink new.sink

  abbrev pub TellsAmong : (Token → Type 0) → Owed → Token → Tokenizer K → Tokenizer K → Result (Unit {0}) ParseFault → Type 0
  TellsAmong among owed token old new (Ok x) = Emitted owed token old new
  TellsAmong among owed token old new (Err fault) = Fell old.sink new.sink × FailsAmong among old.sink new.sink
      (Sink.step (Sink.view old.sink) token (line_number old.stream.breaks)) fault

  abbrev pub Tells : Owed → Token → Tokenizer K → Tokenizer K → Result (Unit {0}) ParseFault → Type 0
  Tells owed token old new result = TellsAmong IsOfText owed token old new result

  -- The same of a call that then goes on to the next character.
  abbrev pub TakesAs : Owed → Token → Tokenizer K → Tokenizer K → Result (ProcessResult H) ParseFault → Type 0
  TakesAs owed token old new (Ok flow.Continue) = Emitted owed token old new
  TakesAs owed token old new (Ok _) = ⊥
  TakesAs owed token old new (Err fault) = Falls old.sink new.sink
      (Sink.step (Sink.view old.sink) token (line_number old.stream.breaks)) fault

  -- What is owed has been told, which changes nothing that the sink stands for.
  pub record Erred (owed : Owed) (old new : Tokenizer K) : Type 0 where
    pub sink : Sink.view new.sink ≡ Sink.view old.sink
    pub changed : new ≡ record old { sink = new.sink }
    pub stays : Stays old.sink new.sink
    pub rises : Rises Sink.errors owed old.sink new.sink

  abbrev pub Errs : Owed → Tokenizer K → Tokenizer K → Result (Unit {0}) ParseFault → Type 0
  Errs owed old new (Ok x) = Erred owed old new
  Errs owed old new (Err fault) = FallsAll old.sink new.sink fault

  -- Characters were read: whatever follows, the machine makes of it what it would have made of it after them. They owed this, and
  -- what they owe besides. The last of them may hand back control.
  pub record Read (chars : List ℕ) (besides : Owed → Owed) (breaks : ℕ) (left : Stream) (old new : Tokenizer K)
      (result : ProcessResult H) : Type 0 where
    pub owed : Owed
    pub same : (notes : Notes ℕ) (t : List ℕ) → now old old.stream.breaks (Sink.view old.sink, notes)
        (chars ++ t) ≡ now new breaks (Sink.view new.sink, noted_by Sink.number owed notes result) t
    pub rises : Rises Sink.errors (besides owed) old.sink new.sink
    pub stream : new.stream ≡ left
    pub sound : Sink.is_sound (Sink.view new.sink)
    pub fits : fits_in (rows_of new) new.char_ref new.state ≡ true
    pub stays : Stays old.sink new.sink
    pub paused : PausesAt result (last_of chars) new

  -- A call failed, which left its sink so: what was to come over these characters is refused, whatever follows.
  abbrev pub FailsOver : List ℕ → Tokenizer K → K → ParseFault → Type 0
  FailsOver chars old left fault = Fell old.sink left
      × ((notes : Notes ℕ) (t : List ℕ) → Fails old.sink left (now old old.stream.breaks (Sink.view old.sink, notes) (chars ++ t)) fault)

  -- One character was taken, whose line the caller counts.
  abbrev pub Took : Tokenizer K → Tokenizer K → ℕ → ProcessResult H → Type 0
  Took old new c result = Read (c ∷ []) (λ owed. owed) (old.stream.breaks + line_break (nat_eq c 10)) old.stream old new result

  abbrev pub Keeps : Tokenizer K → Tokenizer K → ℕ → Result (ProcessResult H) ParseFault → Type 0
  Keeps old new c (Ok result) = Took old new c result
  Keeps old new c (Err fault) = FailsOver (c ∷ []) old new.sink fault

  -- what a tag owes
  abbrev pub owed_by : Tokenizer K → Owed
  owed_by k = and_heard (Sink.is_quiet (Sink.view k.sink) (TagToken k.tag)) (owed_for (grave_if (is_faulty_tag k.tag)))

  -- The tag has gone to the sink after its error, if it has one, and the machine is where the reply has it.
  pub record EndedTag (old new : Tokenizer K) (result : ProcessResult H) : Type 0 where
    pub same : (notes : Notes ℕ) (t : List ℕ)
        → (noting Sink.step Sink.is_quiet
        (Sink.view old.sink, more (owed_for (grave_if (is_faulty_tag old.tag))) notes) (TagToken old.tag)
        (line_number old.stream.breaks) >>= λ p. reads (rows_of old)
        (next_stand (after_tag (standing old InData) old.tag) p.1) old.stream.breaks p.0 t)
        ≡ now new old.stream.breaks (Sink.view new.sink, noted_by Sink.number (owed_by old) notes result) t
    pub rises : Rises Sink.errors (owed_by old) old.sink new.sink
    pub stream : new.stream ≡ old.stream
    pub sound : Sink.is_sound (Sink.view new.sink)
    pub fits : fits_in (rows_of new) new.char_ref new.state ≡ true
    pub stays : Stays old.sink new.sink
    pub paused : PausesAt result 62 new

  abbrev pub EndsTag : Tokenizer K → Tokenizer K → Result (ProcessResult H) ParseFault → Type 0
  EndsTag old new (Ok result) = EndedTag old new result
  EndsTag old new (Err fault) = Falls old.sink new.sink
      (Sink.step (Sink.view old.sink) (TagToken old.tag) (line_number old.stream.breaks)) fault
