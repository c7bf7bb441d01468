-- What a refused error says of every token.
use Rattle.std.proofs.Common.{◌≡◌, ◌∙◌, ℕ, false, Result, Ok, Err, refl, ap, sym, subst}
use Rattle.std.specs.Prelude.{is_err, IfOk}
use Rattle.std.specs.Result.{IsErrAnd}
use Rattle.std.proofs.lemmas.Result.{err_from_is_err_and}
use Rattle.markup.specs.declared.fault.ParseFault.{ParseFault}
use Rattle.markup.specs.declared.fault.ParseFault.TheVariants.{Memory, TokenInText, Ended, Shape, Failed}
use Rattle.html_tokens.specs.declared.replies.TokenSinkResult.{TokenSinkResult}
use Rattle.html_tokens.specs.declared.token.Token.{Token}
use Rattle.html_tokens.specs.Reading.{line_number}
use Rattle.html_tokens.specs.Sink.{Reply, Gives, OnRefused, Counts, IsIdle, IsReplyTo, SinkLaws, tells_failed, numbered}
use Rattle.html_tokens.specs.declared.replies.TokenSinkResult.TheVariants as reply
use Rattle.html_tokens.specs.declared.sink.TokenSink.{Ghosts}
use Rattle.html_tokenizer.specs.declared.tokenizer.Tokenizer.{Tokenizer}
use Rattle.html_tokenizer.specs.Steps.{IsNoTag, Owed, FailsAmong, Fails, Falls, Fell, Stays, IsOfText, Emitted, TellsAmong}
use Rattle.html_tokenizer.specs.Steps.{Tells, Erred, Errs, nothing_owed, Rises, and_heard}
use Rattle.html_tokenizer.proofs.Steps.Keeping.{stays-then, fell-behind, fails-before}
use Rattle.html_tokenizer.proofs.Errors.Rises.{IsNoMore, no-more-heard, rises-heard, rises-less, rises-told}
use Rattle.html_tokenizer.proofs.Steps.Lawful.{reply-to}

module _ {K H : Type 0} (Sink : Ghosts K H) (laws : SinkLaws Sink.is_sound Sink.step Sink.ended Sink.is_quiet) where
  -- a sink refused a token, and stands before it
  pub refused-now : (among : Token → Type 0) (old new : K) (token : Token) → among token
      → (line : ℕ) (fault : ParseFault) → Gives Sink.number (Sink.step (Sink.view old) token line) (Err fault)
      (Sink.view new) → OnRefused {R = TokenSinkResult H} (Err fault) (Sink.view new ≡ Sink.view old)
      → tells_failed {R = TokenSinkResult H} (Err fault) ≡ Sink.has_failed old
      → FailsAmong Sink among old new (Sink.step (Sink.view old) token line) fault
  refused-now among old new token is_among line Memory given same failed = tt
  refused-now among old new token is_among line TokenInText given same failed =
      (ap is_err given, record { token = token; is_among = is_among; line = line; is = rw same given })
  refused-now among old new token is_among line Ended given same failed =
      (ap is_err given, record { token = token; is_among = is_among; line = line; is = rw same given })
  refused-now among old new token is_among line Shape given same failed =
      (ap is_err given, record { token = token; is_among = is_among; line = line; is = rw same given })
  refused-now among old new token is_among line Failed given same failed = sym failed

  -- where a sink refuses what is idle, it refuses every token
  idle-fails : (old new : K) → Sink.is_sound (Sink.view old) → (idle : Token) → IsIdle idle → IsOfText idle
      → (own : ℕ) (fault : ParseFault) → Gives Sink.number (Sink.step (Sink.view old) idle own) (Err fault)
      (Sink.view new) → OnRefused {R = TokenSinkResult H} (Err fault) (Sink.view new ≡ Sink.view old)
      → tells_failed {R = TokenSinkResult H} (Err fault) ≡ Sink.has_failed old
      → (token : Token) (line : ℕ) → Fails Sink old new (Sink.step (Sink.view old) token line) fault
  idle-fails old new h idle is of own Memory given same failed token line = tt
  idle-fails old new h idle is of own TokenInText given same failed token line = (
    laws.idle_refused (Sink.view old) h idle is own (ap is_err given) token line,
    record { token = idle; is_among = of; line = own; is = rw same given },
  )
  idle-fails old new h idle is of own Ended given same failed token line = (
    laws.idle_refused (Sink.view old) h idle is own (ap is_err given) token line,
    record { token = idle; is_among = of; line = own; is = rw same given },
  )
  idle-fails old new h idle is of own Shape given same failed token line = (
    laws.idle_refused (Sink.view old) h idle is own (ap is_err given) token line,
    record { token = idle; is_among = of; line = own; is = rw same given },
  )
  idle-fails old new h idle is of own Failed given same failed token line = sym failed

  pub errs-failed : (owed : Owed) (old new : Tokenizer K) → Sink.is_sound (Sink.view old.sink) → (idle : Token)
      → IsIdle idle → IsOfText idle → (own : ℕ) (fault : ParseFault) (result : Result (Unit {0}) ParseFault) → Fell Sink old.sink new.sink
      → Gives Sink.number (Sink.step (Sink.view old.sink) idle own) (Err fault) (Sink.view new.sink)
      → OnRefused {R = TokenSinkResult H} (Err fault) (Sink.view new.sink ≡ Sink.view old.sink)
      → tells_failed {R = TokenSinkResult H} (Err fault) ≡ Sink.has_failed old.sink
      → IsErrAnd result (λ y. y ≡ fault) → Errs Sink owed old new result
  errs-failed owed old new h idle is of own fault result fell given same failed e =
      let p = err_from_is_err_and result e in
      rw (p.1, p.2) (fell, idle-fails old.sink new.sink h idle is of own fault given same failed)

  -- a token was refused
  pub untold : (among : Token → Type 0) (owed : Owed) (old new : Tokenizer K) (token : Token) → among token
      → (line : ℕ) → line ≡ line_number old.stream.breaks → (fault : ParseFault)
      (result : Result (Unit {0}) ParseFault) → Fell Sink old.sink new.sink
      → Gives Sink.number (Sink.step (Sink.view old.sink) token line) (Err fault) (Sink.view new.sink)
      → OnRefused {R = TokenSinkResult H} (Err fault) (Sink.view new.sink ≡ Sink.view old.sink)
      → tells_failed {R = TokenSinkResult H} (Err fault) ≡ Sink.has_failed old.sink
      → IsErrAnd result (λ y. y ≡ fault) → TellsAmong Sink among owed token old new result
  untold among owed old new token is_among line here fault result fell given same failed e =
      let p = err_from_is_err_and result e in
      rw (p.1, p.2, ← here) (fell, refused-now among old.sink new.sink token is_among line fault given same failed)

  -- an error was told, and then a token
  pub tells-erred : (owed : Owed) (old mid new : Tokenizer K) (token : Token)
      (result : Result (Unit {0}) ParseFault) → Erred Sink owed old mid → Tells Sink nothing_owed token mid new
      result → Tells Sink owed token old new result
  tells-erred owed old mid new token (Ok x) h told = record {
    gives = λ line e. ap (λ s. Sink.step s token line) (sym h.sink)
        ∙ told.gives line (e ∙ ap (λ k. line_number k.stream.breaks) (sym h.changed));
    changed = told.changed ∙ ap {A = Tokenizer K} (λ k. record k { sink = new.sink }) h.changed;
    sound = told.sound;
    stays = stays-then Sink old.sink mid.sink new.sink h.stays told.stays;
    rises = subst (λ s. Rises Sink.errors (and_heard (Sink.is_quiet s token) owed) old.sink new.sink) h.sink
        (rises-heard Sink.errors (Sink.is_quiet (Sink.view mid.sink) token) old.sink mid.sink new.sink h.rises told.rises);
  }
  tells-erred owed old mid new token (Err fault) h fails =
      let f : Falls Sink mid.sink new.sink (Sink.step (Sink.view old.sink) token (line_number old.stream.breaks))
      fault = rw (← h.sink) (rw (ap (λ k. line_number k.stream.breaks) h.changed) at fails) in
      (fell-behind Sink old.sink mid.sink new.sink h.stays f.0, fails-before Sink old.sink mid.sink new.sink _ fault h.stays f.1)

  -- the same where the machine changes besides, between the two, all but its sink
  pub tells-erred_besides : (owed : Owed) (said : Tokenizer K → Token) (next : Tokenizer K → Tokenizer K)
      → ((k : Tokenizer K) (s : K) → said (record k { sink = s }) ≡ said k)
      → ((k : Tokenizer K) (s : K) → next (record k { sink = s }) ≡ record (next k) { sink = s })
      → (old mid new : Tokenizer K) (result : Result (Unit {0}) ParseFault) → Erred Sink owed old mid
      → Tells Sink nothing_owed (said mid) (next mid) new result → Tells Sink owed (said old) (next old) new result
  tells-erred_besides owed said next says goes old mid new result h told =
      let own : (next old).sink ≡ old.sink = ap {A = Tokenizer K} (λ k. k.sink) (goes old old.sink) in
      tells-erred owed (next old) (record (next old) { sink = mid.sink }) new (said old) result
      (record {
        sink = h.sink ∙ ap Sink.view (sym own);
        changed = refl;
        stays = subst (λ s. Stays Sink s mid.sink) (sym own) h.stays;
        rises = subst (λ s. Rises Sink.errors owed s mid.sink) (sym own) h.rises;
      })
      (subst (λ k. Tells Sink nothing_owed (said old) k new result) (ap next h.changed ∙ goes old mid.sink)
      (subst (λ token. Tells Sink nothing_owed token (next mid) new result) (ap said h.changed ∙ says old mid.sink) told))

  -- what told what is owed told what says no more
  pub tells-less : (owed less : Owed) (old new : Tokenizer K) (token : Token)
      (result : Result (Unit {0}) ParseFault) → IsNoMore less owed → Tells Sink owed token old new result
      → Tells Sink less token old new result
  tells-less owed less old new token (Ok x) no_more told = record {
    gives = told.gives;
    changed = told.changed;
    sound = told.sound;
    stays = told.stays;
    rises = rises-less Sink.errors old.sink new.sink
        (no-more-heard (Sink.is_quiet (Sink.view old.sink) token) less owed no_more) told.rises;
  }
  tells-less owed less old new token (Err fault) no_more fails = fails

  pub tells-failed : (owed : Owed) (old mid new : Tokenizer K) (token : Token) (fault : ParseFault)
      (result : Result (Unit {0}) ParseFault) → Errs Sink nothing_owed old new (Err fault)
      → IsErrAnd result (λ y. y ≡ fault) → Tells Sink owed token old new result
  tells-failed owed old mid new token fault result h e =
      let p = err_from_is_err_and result e in
      rw (p.1, p.2) (h.0, h.1 token (line_number old.stream.breaks))

  -- a sink that took a token has not failed
  pub took-stays : (old new : K) → Sink.has_failed new ≡ false → Sink.references new ≡ Sink.references old → Stays Sink old new
  took-stays old new works loans = record { failed = λ h. absurd cc; loans = loans }

  goes-on : (s : Sink.State) → Sink.is_sound s → (token : Token) → IsNoTag token → (line : ℕ) (new : Sink.State)
      (answer : Reply) → Sink.step s token line ≡ Ok (new, answer) → Sink.step s token line ≡ Ok (new, reply.Continue)
  goes-on s ok token none line new answer is =
      is ∙ ap (λ x. Ok (new, x))
      (reply-to token answer none (subst (λ r. IfOk r (λ p. IsReplyTo token p.1)) is (laws.replies s ok token line)))

  -- a token that is neither a tag nor an error was told
  pub told-alone : (old : Tokenizer K) (sink : K) (token : Token) (line : ℕ) (answer : TokenSinkResult H)
      → IsNoTag token → Sink.is_sound (Sink.view old.sink) → line ≡ line_number old.stream.breaks
      → Gives Sink.number (Sink.step (Sink.view old.sink) token line) (Ok answer) (Sink.view sink)
      → Sink.is_sound (Sink.view sink) → Sink.has_failed sink ≡ false → Sink.references sink ≡ Sink.references old.sink
      → Counts (Sink.is_quiet (Sink.view old.sink) token) token (Ok answer) (Sink.errors old.sink)
      (Sink.errors sink) → Emitted Sink nothing_owed token old (record old { sink = sink })
  told-alone old sink token line answer none ok here given kept works loans counts = record {
    gives = λ l e. ap (Sink.step (Sink.view old.sink) token) (e ∙ sym here) ∙ goes-on (Sink.view old.sink) ok token
        none line (Sink.view sink) (numbered Sink.number answer) given;
    changed = refl;
    sound = kept;
    stays = took-stays old.sink sink works loans;
    rises = rises-told Sink.errors (Sink.is_quiet (Sink.view old.sink) token) token none answer old.sink sink counts;
  }
