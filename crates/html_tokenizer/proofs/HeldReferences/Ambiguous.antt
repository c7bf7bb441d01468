-- How the machine goes on after "&" and an unknown name.
use Rattle.std.proofs.Common.{◌≡◌, ◌∙◌, ℕ, ◌+◌, Bool, true, false, nat_eq, List, [], ◌∷◌, ◌++◌, Some, None, Result, Ok, Err}
use Rattle.std.proofs.Common.{refl, sym, ap, subst}
use Rattle.std.specs.Prelude.{◌&&◌, OnOk}
use Rattle.markup.specs.declared.fault.ParseFault.{ParseFault}
use Rattle.html_tokens.specs.declared.replies.ProcessResult.{ProcessResult}
use Rattle.html_tokens.specs.declared.replies.ProcessResult.TheVariants as flow
use Rattle.html_tokens.specs.declared.states.State.{State}
use Rattle.html_tokens.specs.declared.token.Token.{Token}
use Rattle.html_tokens.specs.declared.sink.TokenSink.{Ghosts}
use Rattle.html_tokens.specs.Item.{Slight, grave_if}
use Rattle.html_tokens.specs.Notes.{Notes}
use Rattle.html_tokens.specs.Reading.{line_break}
use Rattle.html_tokenizer.specs.Calls.{at_end, Closes, KeepsRun, TookRun}
use Rattle.html_tokenizer_parts.specs.CharRefs.{may_hold}
use Rattle.html_tokenizer_parts.specs.declared.held_reference.Ampersand.TheVariants.{Held, Unknown}
use Rattle.html_tokenizer.specs.declared.tokenizer.Tokenizer.{Tokenizer}
use Rattle.html_tokenizer.specs.Steps.{Owed, and_heard, and_more, together, owed_for, IsAt, more, Erred, Emitted, FailsOver}
use Rattle.html_tokenizer.specs.Steps.{Took, Keeps, now}
use Rattle.html_tokenizer.proofs.Steps.Keeping.{Absorbs, fails-along, keeps-behind, keeps_erred, now-at, stays-same}
use Rattle.html_tokenizer.proofs.HeldReferences.Holding.{Resolves, held-other_reference, now-resolved}
use Rattle.html_tokenizer.proofs.Errors.Rises.{more-more, rises-slight, rises-then}

and-false : (b : Bool) → (b && false) ≡ false
and-false true = refl
and-false false = refl

-- what is slight is noted before what is owed as after it
slight-behind : (owed : Owed) (notes : Notes ℕ) → more owed (more (owed_for (Some Slight)) notes) ≡ more
    (owed_for (Some Slight)) (more owed notes)
slight-behind owed notes = ap (λ q. record notes { errors = and_more owed.faults notes.errors; is_quiet = q }) (and-false owed.is_quiet)

-- after what is not quiet it changes nothing
pub slight-again : (owed : Owed) (notes : Notes ℕ) → owed.is_quiet ≡ false → more owed notes ≡ more
    (owed_for (Some Slight)) (more owed notes)
slight-again owed notes e = ap (λ q. record notes { errors = and_more owed.faults notes.errors; is_quiet = q && notes.is_quiet }) e

module _ {K H : Type 0} (Sink : Ghosts K H) where
  -- what is to come after an unknown name
  pub now-unknown : (k : Tokenizer K) (b : ℕ) (s : Sink.State × Notes ℕ) (t : List ℕ) → k.char_ref ≡ None → may_hold k.state ≡ true
      → now Sink (record k { char_ref = Some Unknown }) b s t ≡ now Sink k b (s.0, more (owed_for (Some Slight)) s.1) t
  now-unknown k b s t fresh holds =
      held-other_reference Sink k.state holds k (Some Unknown) b (s.0, more (owed_for (Some Slight)) s.1) t
      ∙ sym (now-at Sink k k.state b (s.0, more (owed_for (Some Slight)) s.1) t (record { state = refl; fresh = fresh }))

  -- The character is taken as where no name stands before it.
  pub keeps-unknown : (old new : Tokenizer K) (c : ℕ) (result : Result (ProcessResult H) ParseFault)
      → old.char_ref ≡ None → may_hold old.state ≡ true
      → Keeps Sink old new c result → Keeps Sink (record old { char_ref = Some Unknown }) new c result
  keeps-unknown old new c result fresh holds h =
      keeps-behind Sink (owed_for (Some Slight)) (record old { char_ref = Some Unknown }) old new c result refl
      (stays-same Sink old.sink old.sink refl) (rises-slight Sink.errors true old.sink old.sink refl)
      (λ notes t. now-unknown old old.stream.breaks (Sink.view old.sink, notes) (c ∷ t) fresh holds) h

  -- A character more of the name was taken.
  pub took-unknown : (old mid : Tokenizer K) (c : ℕ) (st : State) → IsAt old st → IsAt mid st → may_hold st ≡ true
      → Took Sink old mid c flow.Continue → Took Sink (record old { char_ref = Some Unknown })
      (record mid { char_ref = Some Unknown }) c flow.Continue
  took-unknown old mid c st from to fits h = record {
    owed = h.owed;
    rises = h.rises;
    same = λ notes t.
        now-unknown old old.stream.breaks (Sink.view old.sink, notes) (c ∷ t) from.fresh (ap may_hold from.state ∙ fits)
        ∙ h.same (more (owed_for (Some Slight)) notes) t
        ∙ ap (λ n. now Sink mid (old.stream.breaks + line_break (nat_eq c 10)) (Sink.view mid.sink, n) t) (slight-behind h.owed notes)
        ∙ sym (now-unknown mid (old.stream.breaks + line_break (nat_eq c 10))
        (Sink.view mid.sink, more h.owed notes) t to.fresh (ap may_hold to.state ∙ fits));
    stream = h.stream;
    sound = h.sound;
    fits = ap may_hold to.state ∙ fits;
    stays = h.stays;
    paused = tt;
  }

  -- A run more of it was taken.
  took-run_unknown : (old mid : Tokenizer K) (run : List ℕ) (st : State) → IsAt old st → IsAt mid st → may_hold st ≡ true
      → TookRun Sink old mid run → TookRun Sink (record old { char_ref = Some Unknown }) (record mid { char_ref = Some Unknown }) run
  took-run_unknown old mid run st from to fits h = record {
    owed = h.owed;
    rises = h.rises;
    same = λ notes t.
        now-unknown old old.stream.breaks (Sink.view old.sink, notes) (run ++ t) from.fresh (ap may_hold from.state ∙ fits)
        ∙ h.same (more (owed_for (Some Slight)) notes) t
        ∙ ap (λ n. now Sink mid old.stream.breaks (Sink.view mid.sink, n) t) (slight-behind h.owed notes)
        ∙ sym (now-unknown mid old.stream.breaks (Sink.view mid.sink, more h.owed notes) t to.fresh (ap may_hold to.state ∙ fits));
    stream = h.stream;
    sound = h.sound;
    fits = ap may_hold to.state ∙ fits;
    stays = h.stays;
    paused = tt;
  }

  -- the machine without the name before it
  abbrev pub unnamed : Tokenizer K → Tokenizer K
  unnamed k = record k { char_ref = None }

  pub unnamed-at : (k : Tokenizer K) → IsAt (unnamed k) k.state
  unnamed-at k = record { state = refl; fresh = refl }

  named-again : (k : Tokenizer K) → k.char_ref ≡ Some Unknown → record (unnamed k) { char_ref = Some Unknown } ≡ k
  named-again k e = ap (λ r. record k { char_ref = r }) (sym e)

  -- A run is taken as where no name stands before it, and the name stands still.
  pub run-kept_unknown : (old new : Tokenizer K) (run : List ℕ) (result : Result (Unit {0}) ParseFault)
      → old.char_ref ≡ Some Unknown → may_hold old.state ≡ true → OnOk result ((new.state ≡ old.state) × (new.char_ref ≡ Some Unknown))
      → KeepsRun Sink (unnamed old) (unnamed new) run result → KeepsRun Sink old new run result
  run-kept_unknown old new run (Ok x) e holds still h =
      subst (λ k. TookRun Sink k new run) (named-again old e)
      (subst (λ k. TookRun Sink (record (unnamed old) { char_ref = Some Unknown }) k run) (named-again new still.1)
      (took-run_unknown (unnamed old) (unnamed new) run old.state (unnamed-at old) (record { state = still.0; fresh = refl }) holds h))
  run-kept_unknown old new run (Err fault) e holds still h =
      subst (λ k. FailsOver Sink run k new.sink fault) (named-again old e) (
        h.0,
        λ notes t. fails-along Sink old.sink new.sink _ _ fault
            (now-unknown (unnamed old) old.stream.breaks (Sink.view old.sink, notes) (run ++ t) refl holds)
            (h.1 (more (owed_for (Some Slight)) notes) t),
      )

  -- what is slight before such a name changes nothing
  unknown-absorbs : (old : Tokenizer K) (c : ℕ) → old.char_ref ≡ None → may_hold old.state ≡ true
      → Absorbs Sink (record old { char_ref = Some Unknown }) c
  unknown-absorbs old c fresh holds b s t =
      now-unknown old b s (c ∷ t) fresh holds
      ∙ sym (now-unknown old b (s.0, more (owed_for (Some Slight)) s.1) (c ∷ t) fresh holds)

  -- The name has ended, and its error was told, if it has one.
  pub unknown-ended : (told : Bool) (old mid new : Tokenizer K) (c : ℕ)
      (result : Result (ProcessResult H) ParseFault) → old.char_ref ≡ None → may_hold old.state ≡ true
      → Erred Sink (owed_for (grave_if told)) old mid → Keeps Sink mid new c result
      → Keeps Sink (record old { char_ref = Some Unknown }) new c result
  unknown-ended told old mid new c result fresh holds h k =
      keeps_erred Sink told (record old { char_ref = Some Unknown }) (record mid { char_ref = Some Unknown }) new c result
      (record {
        sink = h.sink;
        changed = ap {A = Tokenizer K} (λ k. record k { char_ref = Some Unknown }) h.changed;
        stays = h.stays;
        rises = h.rises;
      })
      (λ e. unknown-absorbs old c fresh holds)
      (keeps-unknown mid new c result (ap (λ k. k.char_ref) h.changed ∙ fresh) (ap (λ k. may_hold k.state) h.changed ∙ holds) k)

  -- What was held was told, and is an unknown name.
  pub keeps-resolved_unknown : {owed : Owed} (old mid new : Tokenizer K) (cs : List ℕ) (c : ℕ) (st : State)
      (token : Token) (result : Result (ProcessResult H) ParseFault) → IsAt old st → may_hold st ≡ true → Sink.is_sound (Sink.view old.sink)
      → owed.is_quiet ≡ false → Emitted Sink owed token old mid → Resolves Sink st old cs c owed token
      → Keeps Sink (record mid { char_ref = Some Unknown }) new c result
      → Keeps Sink (record old { char_ref = Some (Held cs) }) new c result
  keeps-resolved_unknown {owed} old mid new cs c st token result from fits ok wrong told law h =
      let heard = and_heard (Sink.is_quiet (Sink.view old.sink) token) owed in
      keeps-behind Sink heard (record old { char_ref = Some (Held cs) }) (record mid { char_ref = Some Unknown })
      new c result (ap (λ k. k.stream) told.changed) told.stays told.rises (λ notes t.
      now-resolved Sink old mid cs c st token from fits ok told law notes t
      ∙ ap (λ n. now Sink mid old.stream.breaks (Sink.view mid.sink, n) (c ∷ t))
      (slight-again heard notes (ap (λ q. q && Sink.is_quiet (Sink.view old.sink) token) wrong))
      ∙ sym (now-unknown mid old.stream.breaks (Sink.view mid.sink, more heard notes) (c ∷ t)
      (ap (λ k. k.char_ref) told.changed ∙ from.fresh) (ap (λ k. may_hold k.state) told.changed ∙ (ap may_hold from.state ∙ fits)))) h

  -- The input ends after an unknown name as where none stands before.
  pub unknown-closes : (old new : Tokenizer K) (result : Result (Unit {0}) ParseFault) → old.char_ref ≡ None → may_hold old.state ≡ true
      → Closes Sink old new result → Closes Sink (record old { char_ref = Some Unknown }) new result
  unknown-closes old new (Ok x) fresh holds h = record {
    owed = together h.owed (owed_for (Some Slight));
    rises = rises-then Sink.errors old.sink old.sink new.sink (rises-slight Sink.errors true old.sink old.sink refl) h.rises;
    same = λ notes.
        now-unknown old old.stream.breaks (Sink.view old.sink, notes) [] fresh holds
        ∙ h.same (more (owed_for (Some Slight)) notes)
        ∙ ap (λ n. at_end Sink old.stream.breaks (Sink.view new.sink, n)) (more-more h.owed (owed_for (Some Slight)) notes);
    stream = h.stream;
    sound = h.sound;
    stays = h.stays;
  }
  unknown-closes old new (Err fault) fresh holds h = (
    h.0,
    λ notes. fails-along Sink old.sink new.sink _ _ fault
        (now-unknown old old.stream.breaks (Sink.view old.sink, notes) [] fresh holds) (h.1 (more (owed_for (Some Slight)) notes)),
  )
