-- A tag that was read is told, and the machine goes where the reply has it.
use Rattle.std.proofs.Common.{◌≡◌, ◌∙◌, ℕ, List, Option, Some, None, Result, Ok, refl, sym, ap, subst}
use Rattle.std.specs.Result.{IsErrAnd}
use Rattle.std.proofs.lemmas.Result.{err_from_is_err_and}
use Rattle.markup.specs.declared.fault.ParseFault.{ParseFault}
use Rattle.html_tokens.specs.declared.replies.ProcessResult.{ProcessResult}
use Rattle.html_tokens.specs.declared.replies.TokenSinkResult.{TokenSinkResult}
use Rattle.html_tokens.specs.declared.replies.TokenSinkResult.TheVariants as reply
use Rattle.html_tokens.specs.declared.tags.Tag.{Tag}
use Rattle.html_tokens.specs.declared.tags.TagKind.TheVariants.{EndTag, StartTag}
use Rattle.html_tokens.specs.declared.token.Token.TheVariants.{TagToken}
use Rattle.html_tokens.specs.declared.sink.TokenSink.{Ghosts}
use Rattle.html_tokens.specs.Item.{grave_if, InData, Stand}
use Rattle.html_tokens.specs.Notes.{Notes, noted, paused, noting, noting_error, heard}
use Rattle.html_tokens.specs.Reading.{◌>>=◌, erred_by, line_number, next_stand}
use Rattle.html_tokens.specs.Sink.{numbered}
use Rattle.html_tokens.specs.Tags.{last_name, after_tag, is_faulty_tag}
use Rattle.html_tokenizer.specs.declared.tokenizer.Tokenizer.{Tokenizer}
use Rattle.html_tokenizer.specs.Rest.{rows_of, standing, held_at}
use Rattle.html_tokenizer_parts.specs.Words.{FittingEnd}
use Rattle.html_tokenizer.specs.Steps.{owed_for, IsAt, PausesAt, more, noted_by, Rises, state_after, answer_to, FailsAmong}
use Rattle.html_tokenizer.specs.Steps.{FallsAll, Fell, Stays, IsOfText, Erred, EndedTag, EndsTag, nothing_owed, owed_by}
use Rattle.html_tokenizer.specs.Steps.{and_heard, reads}
use Rattle.html_tokenizer.proofs.Steps.Keeping.{at, fits-at, now-at, stays-then, fell-behind, fails-before}
use Rattle.html_tokenizer.proofs.Errors.Rises.{heard-more, rises-heard}
use Rattle.html_tokenizer.proofs.Steps.Lawful.{erred-more}

-- the name that a start tag leaves as that of the last start tag, and an end tag
pub start-name : (tag : Tag) (last : Option (List ℕ)) → tag.kind ≡ StartTag → last_name tag.kind tag.name last ≡ Some tag.name
start-name tag last is = ap (λ kind. last_name kind tag.name last) is

pub end-name : (tag : Tag) (last : Option (List ℕ)) → tag.kind ≡ EndTag → last_name tag.kind tag.name last ≡ last
end-name tag last is = ap (λ kind. last_name kind tag.name last) is

module _ {K H : Type 0} (Sink : Ghosts K H) where
  -- a tag's fault is noted
  pub noted-tag : (k : Tokenizer K) (tag : Tag) (st : Stand) (b : ℕ) (s : Sink.State × Notes ℕ) (t : List ℕ)
      → (noting Sink.step Sink.is_quiet (erred_by noting_error (grave_if (is_faulty_tag tag)) s) (TagToken tag)
      (line_number b) >>= λ p. reads Sink (rows_of k) (next_stand st p.1) b p.0 t)
      ≡ (noting Sink.step Sink.is_quiet (s.0, more (owed_for (grave_if (is_faulty_tag tag))) s.1) (TagToken tag)
      (line_number b) >>= λ p. reads Sink (rows_of k) (next_stand st p.1) b p.0 t)
  noted-tag k tag st b s t = ap (λ q. noting Sink.step Sink.is_quiet q (TagToken tag) (line_number b)
      >>= λ p. reads Sink (rows_of k) (next_stand st p.1) b p.0 t) (erred-more (grave_if (is_faulty_tag tag)) s)

  -- the error that goes before a tag was refused, so the tag would be
  pub tag-failed : (old new : Tokenizer K) (result : Result (ProcessResult H) ParseFault) (fault : ParseFault)
      → IsErrAnd result (λ y. y ≡ fault)
      → FallsAll Sink old.sink new.sink fault → EndsTag Sink old new result
  tag-failed old new result fault is fails =
      let p = err_from_is_err_and result is in
      rw (p.1, p.2) (fails.0, fails.1 (TagToken old.tag) (line_number old.stream.breaks))

  -- what is read after a tag is what the machine reads where the reply has it
  reads-behind : (k : Tokenizer K) (reply : TokenSinkResult H) (b : ℕ) (s : Sink.State) (notes : Notes ℕ) (t : List ℕ)
      → reads Sink (rows_of k) (next_stand (standing k InData) (numbered Sink.number reply)) b
      (s, record notes { pauses = paused notes.pauses (numbered Sink.number reply) }) t
      ≡ at Sink (state_after reply) k b (s, noted_by Sink.number nothing_owed notes (answer_to reply)) t
  unfolding held_at
  reads-behind k reply.Continue b s notes t = refl
  reads-behind k (reply.Script handle) b s notes t = refl
  reads-behind k reply.Plaintext b s notes t = refl
  reads-behind k (reply.RawData kind) b s notes t = refl
  reads-behind k (reply.EncodingIndicator label) b s notes t = refl

  behind : (old new : Tokenizer K) → new.raw_end.name ≡ last_name old.tag.kind old.tag.name old.raw_end.name
      → after_tag (standing old InData) old.tag ≡ standing new InData
  behind old new h = rw h refl

  -- a reply that hands back control does so in data
  paused-behind : (answer : TokenSinkResult H) (k : Tokenizer K) (before : Sink.State) (tag : Tag) (line : ℕ)
      → IsAt k (state_after answer) → Sink.is_sound before → Sink.step before (TagToken tag) line ≡ Ok
      (Sink.view k.sink, numbered Sink.number answer) → PausesAt Sink (answer_to answer) 62 k
  paused-behind reply.Continue k before tag line at ok is = tt
  paused-behind (reply.Script handle) k before tag line at ok is =
      (refl, at, record { before = before; sound = ok; tag = tag; line = line; is = is })
  paused-behind reply.Plaintext k before tag line at ok is = tt
  paused-behind (reply.RawData kind) k before tag line at ok is = tt
  paused-behind (reply.EncodingIndicator label) k before tag line at ok is =
      (refl, at, record { before = before; sound = ok; tag = tag; line = line; is = is })

  ended : (old new : Tokenizer K) (reply : TokenSinkResult H) → Sink.is_sound (Sink.view old.sink)
      → IsAt new (state_after reply) → new.stream ≡ old.stream → new.raw_end.name ≡ last_name old.tag.kind old.tag.name old.raw_end.name
      → Sink.step (Sink.view old.sink) (TagToken old.tag) (line_number old.stream.breaks) ≡ Ok
      (Sink.view new.sink, numbered Sink.number reply) → Sink.is_sound (Sink.view new.sink)
      → Stays Sink old.sink new.sink → Rises Sink.errors (owed_by Sink old) old.sink new.sink
      → EndedTag Sink old new (answer_to reply)
  ended old new reply sound to stream last gives ok stays rises =
      let fault = owed_for (grave_if (is_faulty_tag old.tag)) in
      let owed = owed_by Sink old in
      record {
        rises = rises;
        same = λ notes t.
            ap (λ r. noted (heard (Sink.is_quiet (Sink.view old.sink) (TagToken old.tag)) (more fault notes)) r
            >>= λ p. reads Sink (rows_of old) (next_stand (after_tag (standing old InData) old.tag) p.1)
            old.stream.breaks p.0 t) gives
            ∙ ap (λ n. reads Sink (rows_of old)
            (next_stand (after_tag (standing old InData) old.tag) (numbered Sink.number reply))
            old.stream.breaks (
              Sink.view new.sink,
              record n { pauses = paused notes.pauses (numbered Sink.number reply) },
            ) t)
            (heard-more (Sink.is_quiet (Sink.view old.sink) (TagToken old.tag)) fault notes)
            ∙ ap (λ st. reads Sink (rows_of old) (next_stand st (numbered Sink.number reply)) old.stream.breaks (
              Sink.view new.sink,
              record (more owed notes)
                  { pauses = paused notes.pauses (numbered Sink.number reply) },
            ) t) (behind old new last)
            ∙ ap (λ x. reads Sink x.table (next_stand (standing new InData) (numbered Sink.number reply))
            old.stream.breaks (
              Sink.view new.sink,
              record (more owed notes)
                  { pauses = paused notes.pauses (numbered Sink.number reply) },
            ) t) (sym stream)
            ∙ reads-behind new reply old.stream.breaks (Sink.view new.sink) (more owed notes) t
            ∙ sym (now-at Sink new (state_after reply) old.stream.breaks
            (Sink.view new.sink, noted_by Sink.number owed notes (answer_to reply)) t to);
        stream = stream;
        sound = ok;
        fits = fits-at new (state_after reply) to;
        stays = stays;
        paused = paused-behind reply new (Sink.view old.sink) old.tag (line_number old.stream.breaks) to sound gives;
      }

  -- The tag was told after its error, if it has one. What is left of it is anything.
  pub tag-ended : (old mid new : Tokenizer K) (after : K) (last : FittingEnd) (left : Tag) (line : ℕ)
      (reply : TokenSinkResult H) (result : ProcessResult H) → old.char_ref ≡ None
      → Sink.is_sound (Sink.view old.sink) → Erred Sink (owed_for (grave_if (is_faulty_tag old.tag))) old mid
      → last.name ≡ last_name old.tag.kind old.tag.name old.raw_end.name → line ≡ line_number mid.stream.breaks
      → Sink.step (Sink.view mid.sink) (TagToken mid.tag) line ≡ Ok (Sink.view after, numbered Sink.number reply)
      → Sink.is_sound (Sink.view after) → Stays Sink mid.sink after
      → Rises Sink.errors (and_heard (Sink.is_quiet (Sink.view mid.sink) (TagToken mid.tag)) nothing_owed) mid.sink after
      → new ≡ record mid { sink = after; state = state_after reply; raw_end = last; tag = left } → result ≡ answer_to reply
      → EndedTag Sink old new result
  tag-ended old mid new after last left line reply result fresh sound erred is_last is_line gives ok stays rises is answer =
      let gives' : Sink.step (Sink.view old.sink) (TagToken old.tag) (line_number old.stream.breaks) ≡ Ok
      (Sink.view after, numbered Sink.number reply) =
      ap (λ s. Sink.step s (TagToken old.tag) (line_number old.stream.breaks)) (sym erred.sink)
      ∙ ap (λ (k : Tokenizer K). Sink.step (Sink.view mid.sink) (TagToken k.tag) (line_number k.stream.breaks)) (sym erred.changed)
      ∙ ap (λ n. Sink.step (Sink.view mid.sink) (TagToken mid.tag) n) (sym is_line)
      ∙ gives in
      let same_quiet : Sink.is_quiet (Sink.view mid.sink) (TagToken mid.tag) ≡ Sink.is_quiet (Sink.view old.sink) (TagToken old.tag) =
      ap (λ (k : Tokenizer K). Sink.is_quiet (Sink.view mid.sink) (TagToken k.tag)) erred.changed
      ∙ ap (λ s. Sink.is_quiet s (TagToken old.tag)) erred.sink in
      rw (is, answer) (ended old (record mid { sink = after; state = state_after reply; raw_end = last; tag = left }) reply sound
      (record { state = refl; fresh = ap (λ (k : Tokenizer K). k.char_ref) erred.changed ∙ fresh })
      (ap (λ (k : Tokenizer K). k.stream) erred.changed) is_last gives' ok
      (stays-then Sink old.sink mid.sink after erred.stays stays)
      (subst (λ q. Rises Sink.errors (and_heard q (owed_for (grave_if (is_faulty_tag old.tag)))) old.sink after)
      same_quiet (rises-heard Sink.errors (Sink.is_quiet (Sink.view mid.sink) (TagToken mid.tag)) old.sink
      mid.sink after erred.rises rises)))

  -- The tag was refused, after its error if it has one.
  pub tag-refused : (old mid new : Tokenizer K) (line : ℕ) (result : Result (ProcessResult H) ParseFault)
      (fault : ParseFault) → Erred Sink (owed_for (grave_if (is_faulty_tag old.tag))) old mid
      → line ≡ line_number mid.stream.breaks → IsErrAnd result (λ y. y ≡ fault)
      → Fell Sink mid.sink new.sink → FailsAmong Sink IsOfText mid.sink new.sink
      (Sink.step (Sink.view mid.sink) (TagToken mid.tag) line) fault → EndsTag Sink old new result
  tag-refused old mid new line result fault erred is_line is fell fails =
      let p = err_from_is_err_and result is in
      let same : Sink.step (Sink.view mid.sink) (TagToken mid.tag) line ≡ Sink.step (Sink.view old.sink)
      (TagToken old.tag) (line_number old.stream.breaks) =
      ap (λ (k : Tokenizer K). Sink.step (Sink.view mid.sink) (TagToken k.tag) line) erred.changed
      ∙ ap (λ n. Sink.step (Sink.view mid.sink) (TagToken old.tag) n)
      (is_line ∙ ap (λ (k : Tokenizer K). line_number k.stream.breaks) erred.changed)
      ∙ ap (λ s. Sink.step s (TagToken old.tag) (line_number old.stream.breaks)) erred.sink in
      rw (p.1, p.2) (
        fell-behind Sink old.sink mid.sink new.sink erred.stays fell,
        fails-before Sink old.sink mid.sink new.sink _ fault erred.stays (rw same at fails),
      )
