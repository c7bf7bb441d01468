-- The end of a reference in an attribute's value.
use Rattle.std.proofs.Common.{◌≡◌, ◌∙◌, ℕ, Bool, true, false, List, [], ◌∷◌, ◌++◌, Option, Some, Result, refl, sym, ap, append-nil}
use Rattle.std.specs.Prelude.{is_some}
use Rattle.std.specs.List.{list_all}
use Rattle.markup.specs.declared.fault.ParseFault.{ParseFault}
use Rattle.html_tokens.specs.declared.replies.ProcessResult.{ProcessResult}
use Rattle.html_tokens.specs.declared.states.AttrValueKind.{AttrValueKind}
use Rattle.html_tokens.specs.declared.states.AttrValueKind.TheVariants as value
use Rattle.html_tokens.specs.declared.states.State.TheVariants as state
use Rattle.html_tokens.specs.declared.sink.TokenSink.{Ghosts}
use Rattle.html_tokens.specs.Item.{Slight, grave_if, slight_if, InData}
use Rattle.html_tokens.specs.Notes.{Notes}
use Rattle.html_tokens.specs.Reference.{Reference, fault_of_reference, goes_on_at, reference_at}
use Rattle.html_tokens.specs.Table.{Row}
use Rattle.html_tokenizer_parts.specs.CharRefs.{IsDecided, decided, is_faulty, is_held, is_unknown, may_hold, resolved, resolved_by}
use Rattle.html_tokenizer_parts.specs.declared.held_reference.Ampersand.TheVariants.{Held, Unknown}
use Rattle.html_tokenizer.specs.declared.tokenizer.Tokenizer.{Tokenizer}
use Rattle.html_tokenizer.specs.Rest.{rows_of, standing, held_at}
use Rattle.html_tokenizer.specs.Steps.{owed_for, more, now, IsAt, Erred, Keeps}
use Rattle.html_tokenizer_parts.proofs.CharRefs.{fault-decided, faulty-some, reference-decided, reference-end, unknown-slight}
use Rattle.html_tokenizer.proofs.HeldReferences.Ambiguous.{now-unknown, slight-again}
use Rattle.html_tokenizer.proofs.Steps.Keeping.{Absorbs, at, at_erred, keeps-behind, keeps_erred, now-at, stays-same}
use Rattle.html_tokenizer.proofs.HeldReferences.Holding.{now-held}
use Rattle.html_tokenizer.proofs.HeldReferences.Values.{play-unquoted, play-double, play-single}
use Rattle.html_tokenizer.proofs.Steps.Lawful.{erred-more, slight-absorbed}
use Rattle.html_tokenizer.proofs.Errors.Rises.{rises-slight}
use Rattle.html_tokenizer.specs.Listeners.{listening}

-- what was pushed after the value
pub value-pushed : (rows : List Row) (text front cs : List ℕ) (o : Option Reference) (follows : Bool) (c : ℕ)
    → text ≡ front ++ resolved_by o cs → o ≡ decided true rows cs follows → follows ≡ goes_on_at (c ∷ [])
    → text ≡ front ++ resolved true rows cs (goes_on_at (c ∷ []))
value-pushed rows text front cs o follows c e f g = e ∙ ap (λ o. front ++ resolved_by o cs) f ∙ ap (λ b. front ++ resolved true rows cs b) g

-- something slight that is noted twice is noted once
slight-twice : (wrong : Bool) (notes : Notes ℕ) → wrong ≡ true → more (owed_for (slight_if wrong)) notes ≡ more
    (owed_for (slight_if wrong)) (more (owed_for (Some Slight)) notes)
slight-twice true notes e = refl
slight-twice false notes e = absurd cc

module _ {K H : Type 0} (Sink : Ghosts K H) where
  -- what is noted of what was held
  abbrev pub wronged_by : Tokenizer K → List ℕ → Sink.State × Notes ℕ → Sink.State × Notes ℕ
  wronged_by k cs s = (s.0, more (owed_for (slight_if (is_some (fault_of_reference (rows_of k) cs)))) s.1)

  -- what was held and what follows is read as what was held after the value, and then what follows
  pub value-resolves : (kind : AttrValueKind) (old : Tokenizer K) (cs u : List ℕ) (follows : Bool)
      → list_all is_held cs ≡ true → reference_at true (rows_of old) (cs ++ u) ≡ decided true (rows_of old) cs
      follows → fault_of_reference (rows_of old) (cs ++ u) ≡ fault_of_reference (rows_of old) cs → (b : ℕ) (s : Sink.State × Notes ℕ)
      → at Sink (state.AttributeValue kind) old b s (38 ∷ cs ++ u)
      ≡ at Sink (state.AttributeValue kind)
      (record old { attribute_value = old.attribute_value ++ resolved true (rows_of old) cs follows }) b (wronged_by old cs s) u
  unfolding held_at
  value-resolves value.Unquoted old cs u follows h e f b s =
      play-unquoted (listening Sink) (rows_of old) (λ fault s. slight-absorbed fault s) (standing old InData)
      old.tag old.attribute_name old.attribute_value cs u follows b s h e f
      ∙ ap (λ q. at Sink (state.AttributeValue value.Unquoted)
      (record old { attribute_value = old.attribute_value ++ resolved true (rows_of old) cs follows }) b q u)
      (erred-more (slight_if (is_some (fault_of_reference (rows_of old) cs))) s)
  value-resolves value.SingleQuoted old cs u follows h e f b s =
      play-single (listening Sink) (rows_of old) (λ fault s. slight-absorbed fault s) (standing old InData) old.tag
      old.attribute_name old.attribute_value cs u follows b s h e f
      ∙ ap (λ q. at Sink (state.AttributeValue value.SingleQuoted)
      (record old { attribute_value = old.attribute_value ++ resolved true (rows_of old) cs follows }) b q u)
      (erred-more (slight_if (is_some (fault_of_reference (rows_of old) cs))) s)
  value-resolves value.DoubleQuoted old cs u follows h e f b s =
      play-double (listening Sink) (rows_of old) (λ fault s. slight-absorbed fault s) (standing old InData) old.tag
      old.attribute_name old.attribute_value cs u follows b s h e f
      ∙ ap (λ q. at Sink (state.AttributeValue value.DoubleQuoted)
      (record old { attribute_value = old.attribute_value ++ resolved true (rows_of old) cs follows }) b q u)
      (erred-more (slight_if (is_some (fault_of_reference (rows_of old) cs))) s)

  -- the same where the input ends
  pub value-at_end : (kind : AttrValueKind) (old : Tokenizer K) (cs : List ℕ) → list_all is_held cs ≡ true
      → (b : ℕ) (s : Sink.State × Notes ℕ)
      → at Sink (state.AttributeValue kind) old b s (38 ∷ cs ++ [])
      ≡ at Sink (state.AttributeValue kind)
      (record old { attribute_value = old.attribute_value ++ resolved true (rows_of old) cs false }) b (wronged_by old cs s) []
  value-at_end kind old cs h b s = value-resolves kind old cs [] false h
      (ap (reference_at true (rows_of old)) (append-nil cs) ∙ reference-end true (rows_of old) cs)
      (ap (fault_of_reference (rows_of old)) (append-nil cs)) b s

  -- what is to come where a reference is held in a value that is decided before this character
  value-comes : (old : Tokenizer K) (kind : AttrValueKind) (cs : List ℕ) (c : ℕ)
      → IsAt old (state.AttributeValue kind) → IsDecided (rows_of old) cs c → (b : ℕ) (s : Sink.State × Notes ℕ) (t : List ℕ)
      → now Sink (record old { char_ref = Some (Held cs) }) b s (c ∷ t)
      ≡ at Sink (state.AttributeValue kind)
      (record old {
        attribute_value = old.attribute_value ++ resolved true (rows_of old) cs
            (goes_on_at (c ∷ []));
      }) b (wronged_by old cs s) (c ∷ t)
  value-comes old kind cs c from d b s t =
      now-held Sink old (state.AttributeValue kind) cs b s (c ∷ t) from.state refl
      ∙ value-resolves kind old cs (c ∷ t) (goes_on_at (c ∷ [])) d.held
      (reference-decided true (rows_of old) cs c t d.checked d.front d.ends)
      (fault-decided (rows_of old) cs c t d.checked d.front d.ends) b s

  -- the machine with what was held put after the value
  abbrev with_resolved : Tokenizer K → List ℕ → ℕ → Tokenizer K
  with_resolved k cs c = record k { attribute_value = k.attribute_value ++ resolved true (rows_of k) cs (goes_on_at (c ∷ [])) }

  now-resolved : (old : Tokenizer K) (kind : AttrValueKind) (cs : List ℕ) (c : ℕ)
      → IsAt old (state.AttributeValue kind) → IsDecided (rows_of old) cs c → (notes : Notes ℕ) (t : List ℕ)
      → now Sink (record old { char_ref = Some (Held cs) }) old.stream.breaks (Sink.view old.sink, notes) (c ∷ t)
      ≡ now Sink (with_resolved old cs c) old.stream.breaks (wronged_by old cs (Sink.view old.sink, notes)) (c ∷ t)
  now-resolved old kind cs c from d notes t =
      value-comes old kind cs c from d old.stream.breaks (Sink.view old.sink, notes) t
      ∙ sym (now-at Sink (with_resolved old cs c) (state.AttributeValue kind) old.stream.breaks
      (wronged_by old cs (Sink.view old.sink, notes)) (c ∷ t) (record { state = from.state; fresh = from.fresh }))

  -- what was held is put after the value, and the character is taken there
  value-ended : (old new : Tokenizer K) (kind : AttrValueKind) (cs text : List ℕ) (c : ℕ)
      (result : Result (ProcessResult H) ParseFault) → IsAt old (state.AttributeValue kind) → IsDecided (rows_of old) cs c
      → text ≡ old.attribute_value ++ resolved true (rows_of old) cs (goes_on_at (c ∷ []))
      → Keeps Sink (record old { attribute_value = text }) new c result → Keeps Sink (record old { char_ref = Some (Held cs) }) new c result
  value-ended old new kind cs text c result from d is h =
      let wrong = is_some (fault_of_reference (rows_of old) cs) in
      keeps-behind Sink (owed_for (slight_if wrong)) (record old { char_ref = Some (Held cs) })
      (with_resolved old cs c) new c result refl (stays-same Sink old.sink old.sink refl)
      (rises-slight Sink.errors wrong old.sink old.sink refl)
      (now-resolved old kind cs c from d) (rw is at h)

  -- the same of an unknown name
  value-ended_unknown : (old new : Tokenizer K) (kind : AttrValueKind) (cs text : List ℕ) (c : ℕ)
      (result : Result (ProcessResult H) ParseFault) → IsAt old (state.AttributeValue kind)
      → IsDecided (rows_of old) cs c → is_unknown (rows_of old) cs c ≡ true
      → text ≡ old.attribute_value ++ resolved true (rows_of old) cs (goes_on_at (c ∷ []))
      → Keeps Sink (record old { attribute_value = text; char_ref = Some Unknown }) new c result
      → Keeps Sink (record old { char_ref = Some (Held cs) }) new c result
  value-ended_unknown old new kind cs text c result from d unknown is h =
      let wrong = is_some (fault_of_reference (rows_of old) cs) in
      let mid = with_resolved old cs c in
      let loud : (owed_for (slight_if wrong)).is_quiet ≡ false =
      ap (λ fault. (owed_for (slight_if (is_some fault))).is_quiet) (unknown-slight (rows_of old) cs c unknown) in
      keeps-behind Sink (owed_for (slight_if wrong)) (record old { char_ref = Some (Held cs) })
      (record mid { char_ref = Some Unknown }) new c result refl (stays-same Sink old.sink old.sink refl)
      (rises-slight Sink.errors wrong old.sink old.sink refl) (λ notes t.
      now-resolved old kind cs c from d notes t
      ∙ ap (λ n. now Sink mid old.stream.breaks (Sink.view old.sink, n) (c ∷ t)) (slight-again (owed_for (slight_if wrong)) notes loud)
      ∙ sym (now-unknown Sink mid old.stream.breaks (wronged_by old cs (Sink.view old.sink, notes))
      (c ∷ t) from.fresh (ap may_hold from.state))) (rw is at h)

  -- what is slight before a reference with which something is wrong changes nothing
  value-absorbs : (old : Tokenizer K) (kind : AttrValueKind) (cs : List ℕ) (c : ℕ)
      → IsAt old (state.AttributeValue kind) → IsDecided (rows_of old) cs c → is_some (fault_of_reference (rows_of old) cs) ≡ true
      → Absorbs Sink (record old { char_ref = Some (Held cs) }) c
  value-absorbs old kind cs c from d wrong = λ b s t.
      value-comes old kind cs c from d b s t
      ∙ ap (λ notes. at Sink (state.AttributeValue kind)
      (record old {
        attribute_value = old.attribute_value ++ resolved true (rows_of old) cs
            (goes_on_at (c ∷ []));
      }) b (s.0, notes) (c ∷ t)) (slight-twice _ s.1 wrong)
      ∙ sym (value-comes old kind cs c from d b (s.0, more (owed_for (Some Slight)) s.1) t)

  -- the error that the Standard names was told, if it names one
  value-named : (told follows : Bool) (old mid new : Tokenizer K) (kind : AttrValueKind) (cs : List ℕ) (c : ℕ)
      (result : Result (ProcessResult H) ParseFault) → IsAt old (state.AttributeValue kind)
      → IsDecided (rows_of old) cs c → told ≡ is_faulty true (rows_of old) cs follows
      → Erred Sink (owed_for (grave_if told)) old mid
      → Keeps Sink (record mid { char_ref = Some (Held cs) }) new c result
      → Keeps Sink (record old { char_ref = Some (Held cs) }) new c result
  value-named told follows old mid new kind cs c result from d named h k =
      keeps_erred Sink told (record old { char_ref = Some (Held cs) }) (record mid { char_ref = Some (Held cs) }) new c result
      (record {
        sink = h.sink;
        changed = ap {A = Tokenizer K} (λ k. record k { char_ref = Some (Held cs) })
            h.changed;
        stays = h.stays;
        rises = h.rises;
      })
      (λ e. value-absorbs old kind cs c from d (faulty-some true (rows_of old) cs follows (sym named ∙ e))) k

  -- what was held is put after the value after that error
  pub value-erred : (told follows : Bool) (old mid new : Tokenizer K) (kind : AttrValueKind) (cs text : List ℕ)
      (c : ℕ) (result : Result (ProcessResult H) ParseFault) → IsAt old (state.AttributeValue kind)
      → IsDecided (rows_of old) cs c → told ≡ is_faulty true (rows_of old) cs follows
      → Erred Sink (owed_for (grave_if told)) old mid → text ≡ mid.attribute_value ++ resolved true (rows_of old) cs (goes_on_at (c ∷ []))
      → Keeps Sink (record mid { attribute_value = text }) new c result → Keeps Sink (record old { char_ref = Some (Held cs) }) new c result
  value-erred told follows old mid new kind cs text c result from d named h is k =
      let rows : rows_of mid ≡ rows_of old = ap (λ k. rows_of k) h.changed in
      value-named told follows old mid new kind cs c result from d named h
      (value-ended mid new kind cs text c result (at_erred Sink old mid (state.AttributeValue kind) h from) (rw rows d) (rw rows is) k)

  -- the same of an unknown name
  pub value-erred_unknown : (told follows : Bool) (old mid new : Tokenizer K) (kind : AttrValueKind)
      (cs text : List ℕ) (c : ℕ) (result : Result (ProcessResult H) ParseFault)
      → IsAt old (state.AttributeValue kind) → IsDecided (rows_of old) cs c → told ≡ is_faulty true (rows_of old) cs follows
      → is_unknown (rows_of old) cs c ≡ true → Erred Sink (owed_for (grave_if told)) old mid
      → text ≡ mid.attribute_value ++ resolved true (rows_of old) cs (goes_on_at (c ∷ []))
      → Keeps Sink (record mid { attribute_value = text; char_ref = Some Unknown }) new c result
      → Keeps Sink (record old { char_ref = Some (Held cs) }) new c result
  value-erred_unknown told follows old mid new kind cs text c result from d named unknown h is k =
      let rows : rows_of mid ≡ rows_of old = ap (λ k. rows_of k) h.changed in
      value-named told follows old mid new kind cs c result from d named h
      (value-ended_unknown mid new kind cs text c result (at_erred Sink old mid (state.AttributeValue kind) h from)
      (rw rows d) (rw rows unknown) (rw rows is) k)
