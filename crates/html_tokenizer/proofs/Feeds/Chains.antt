-- Calls of one tokenizer make of all that they take what the tokenizer was to make of it.
use Rattle.std.proofs.Common.{◌≡◌, ◌∙◌, ℕ, ◌+◌, ◌≤◌, Bool, List, [], ◌∷◌, ◌++◌, Result, Ok, Err, sym, ap, subst, append_assoc}
use Rattle.std.proofs.Common.{append-nil, arith, refl, true, false}
use Rattle.std.specs.Prelude.{◌&&◌, min}
use Rattle.std.proofs.lemmas.Bool.{and_parts, and_from}
use Rattle.html_tokens.specs.Notes.{Notes, no_notes, errors_of, was_quiet, noted_reading}
use Rattle.html_tokens.specs.declared.options.TokenizerOpts.{TokenizerOpts}
use Rattle.html_tokens.specs.declared.sink.TokenSink.{Ghosts}
use Rattle.html_tokens.specs.NormalText.{newlines_after, without_mark}
use Rattle.html_tokens.specs.Reading.{first_stand}
use Rattle.html_tokens.specs.Table.{Row}
use Rattle.html_tokens.proofs.CleanItems.{reading-clean}
use Rattle.html_tokens.specs.Sink.{Refusal}
use Rattle.html_tokenizer.specs.declared.tokenizer.Tokenizer.{Tokenizer}
use Rattle.html_tokenizer.specs.Calls.{to_come, noted_with, HasEnded, IsNew, owed_for_text}
use Rattle.html_tokenizer.specs.Steps.{Owed, more, together, Rises}
use Rattle.html_tokenizer.proofs.Errors.Rises.{more-sum, none-no-more, rises-same, rises-less, rises-besides}
use Rattle.html_tokenizer.specs.Laws.{Call, text_of, IsChain, taken_by, noted_after, AreCallsChained, IsAnyPieces, IsChainEnded}
use Rattle.html_tokenizer.specs.Laws.{IsSameRoad, IsEachFaultTold, IsCleanTextQuiet}
use Rattle.html_tokenizer.specs.Rest.{coming}

-- two values that are given as one
abbrev given : {A B : Type 0} → A → B → Result (A × B) (Refusal × ℕ)
given a p = Ok (a, p)

-- what is given, or something else
abbrev given-or : {A : Type 0} → A → Result A (Refusal × ℕ) → A
given-or other (Ok x) = x
given-or other (Err e) = other

-- the first and the second of them
ok-first : {A B : Type 0} (a b : A) (p q : B) → given a p ≡ given b q → a ≡ b
ok-first {A} {B} a b p q h = ap (λ r. (given-or {A = A × B} (a, p) r).0) h

ok-second : {A B : Type 0} (a b : A) (p q : B) → given a p ≡ given b q → p ≡ q
ok-second {A} {B} a b p q h = ap (λ r. (given-or {A = A × B} (a, p) r).1) h

-- what was noted, as what is owed
abbrev owed_in : Notes ℕ → Owed
owed_in notes = record { faults = notes.errors; is_quiet = notes.is_quiet }

-- what is owed after what was noted is noted with it
owed-more : (owed : Owed) (notes : Notes ℕ) → owed_in (more owed notes) ≡ together owed (owed_in notes)
owed-more owed notes = ap (λ n. record { faults = n; is_quiet = owed.is_quiet && notes.is_quiet }) (more-sum owed.faults notes.errors)

told-enough : (a b c d m n o : ℕ) → min (a + (m + o)) 0xffff_ffff_ffff_ffff ≤ b
    → min (b + n) 0xffff_ffff_ffff_ffff ≤ c → c ≤ d → min (a + ((n + m) + o)) 0xffff_ffff_ffff_ffff ≤ d
told-enough a b c d m n o h k l = omega arith

no-text : (cr mark : Bool) → newlines_after cr (without_mark mark []) ≡ []
no-text cr true = refl
no-text cr false = refl

-- of nothing that is taken nothing comes
nothing-comes : {K : Type 0} (k : Tokenizer K) → coming k [] ≡ []
nothing-comes k = no-text k.stream.ignore_lf k.stream.discard_bom

module _ {K H : Type 0} (Sink : Ghosts K H) where
  pub chain : AreCallsChained Sink
  chain k new [] notes t h = ap (λ x. to_come Sink x notes t) h
  chain k new (c ∷ cs) notes t h =
      ap (λ u. to_come Sink k notes u) (append_assoc c.fed.taken (taken_by Sink cs) t)
      ∙ ap (λ x. to_come Sink x notes (c.fed.taken ++ (taken_by Sink cs ++ t))) h.0
      ∙ c.fed.same notes (taken_by Sink cs ++ t)
      ∙ chain c.after new cs (noted_with Sink.number c.fed.owed notes c.result) t h.1

  pub chain-ended : IsChainEnded Sink
  chain-ended k new ended cs h e =
      ap (λ u. to_come Sink k no_notes u) (sym (append-nil (taken_by Sink cs)))
      ∙ chain k new cs no_notes [] h
      ∙ e.same (noted_after Sink no_notes cs)

  pub any-pieces : IsAnyPieces Sink
  any-pieces k new ended other new' ended' cs cs' same h h' text e e' =
      let both = sym (chain-ended k new ended cs h e) ∙ same no_notes (taken_by Sink cs)
      ∙ ap (λ u. to_come Sink other no_notes u) text ∙ chain-ended other new' ended' cs' h' e' in
      (ok-first _ _ _ _ both, ap (λ notes. notes.pauses) (ok-second _ _ _ _ both))

  pub same-road : IsSameRoad Sink
  same-road k other sink sink' opts exact_errors table h h' same = λ notes t. h.same notes t ∙ rw same (sym (h'.same notes t))

  -- the characters that came in the calls
  abbrev came_by : List (Call Sink) → List ℕ
  came_by [] = []
  came_by (c ∷ cs) = c.fed.came ++ came_by cs

  -- of all that was taken
  chain-comes : (k new : Tokenizer K) (cs : List (Call Sink)) (t : List ℕ) → IsChain Sink k cs new
      → coming k (taken_by Sink cs ++ t) ≡ came_by cs ++ coming new t
  chain-comes k new [] t h = ap (λ x. coming x t) h
  chain-comes k new (c ∷ cs) t h =
      ap (coming k) (append_assoc c.fed.taken (taken_by Sink cs) t)
      ∙ ap (λ x. coming x (c.fed.taken ++ (taken_by Sink cs ++ t))) h.0
      ∙ c.fed.comes (taken_by Sink cs ++ t)
      ∙ ap (λ u. c.fed.came ++ u) (chain-comes c.after new cs t h.1)
      ∙ sym (append_assoc c.fed.came (came_by cs) (coming new t))

  -- what each call's errors rose by comes to what was noted, and what the characters owe on their own
  chain-rises : (k new : Tokenizer K) (cs : List (Call Sink)) (notes : Notes ℕ) (before : List ℕ) (first : K)
      (exact : Bool) → IsChain Sink k cs new → k.stream.exact_errors ≡ exact
      → Rises Sink.errors (together (owed_in notes) (owed_for_text exact before)) first k.sink
      → Rises Sink.errors (together (owed_in (noted_after Sink notes cs)) (owed_for_text exact (before ++ came_by cs))) first new.sink
  chain-rises k new [] notes before first exact h same r =
      let r' : Rises Sink.errors (together (owed_in notes) (owed_for_text exact before)) first new.sink = rw (← h) r in
      subst (λ t. Rises Sink.errors (together (owed_in notes) (owed_for_text exact t)) first new.sink) (sym (append-nil before)) r'
  chain-rises k new (c ∷ cs) notes before first exact h same r =
      let r' : Rises Sink.errors (together (owed_in notes) (owed_for_text exact before)) first c.before.sink = rw (← h.0) r in
      let same' : c.before.stream.exact_errors ≡ exact = ap (λ (k : Tokenizer K). k.stream.exact_errors) (sym h.0) ∙ same in
      let call : Rises Sink.errors (together c.fed.owed (owed_for_text exact c.fed.came)) c.before.sink
      c.after.sink = subst (λ b. Rises Sink.errors (together c.fed.owed (owed_for_text b c.fed.came))
      c.before.sink c.after.sink) same' c.fed.rises in
      let both : Rises Sink.errors
      (together (together c.fed.owed (owed_in notes)) (owed_for_text exact (before ++ c.fed.came))) first
      c.after.sink = rises-besides Sink.errors exact (owed_in notes) c.fed.owed before c.fed.came first
      c.before.sink c.after.sink r' call in
      let noted : Rises Sink.errors (together (owed_in (noted_with Sink.number c.fed.owed notes c.result))
      (owed_for_text exact (before ++ c.fed.came))) first c.after.sink =
      subst (λ o. Rises Sink.errors (together o (owed_for_text exact (before ++ c.fed.came))) first c.after.sink)
      (sym (owed-more c.fed.owed notes)) both in
      subst (λ t. Rises Sink.errors
      (together (owed_in (noted_after Sink (noted_with Sink.number c.fed.owed notes c.result) cs))
      (owed_for_text exact t)) first new.sink) (append_assoc before c.fed.came (came_by cs))
      (chain-rises c.after new cs (noted_with Sink.number c.fed.owed notes c.result) (before ++ c.fed.came) first
      exact h.1 (c.fed.exact ∙ same') noted)

  -- from a new tokenizer on, by the text of all that was taken
  new-rises : (k new : Tokenizer K) (cs : List (Call Sink)) (sink : K) (opts : TokenizerOpts) (table : List Row)
      → IsNew Sink k sink opts table → IsChain Sink k cs new
      → Rises Sink.errors (together (owed_in (noted_after Sink no_notes cs))
      (owed_for_text opts.exact_errors (text_of Sink opts cs))) sink new.sink
  new-rises k new cs sink opts table is h =
      let text : text_of Sink opts cs ≡ came_by cs =
      sym (is.comes (taken_by Sink cs))
      ∙ (ap (coming k) (sym (append-nil (taken_by Sink cs)))
      ∙ (chain-comes k new cs [] h ∙ (ap (λ u. came_by cs ++ u) (nothing-comes new) ∙ append-nil (came_by cs)))) in
      subst (λ t. Rises Sink.errors
      (together (owed_in (noted_after Sink no_notes cs)) (owed_for_text opts.exact_errors t)) sink new.sink) (sym text)
      (chain-rises k new cs no_notes [] sink opts.exact_errors h is.exact
      (rises-less Sink.errors sink k.sink (none-no-more opts.exact_errors) (rises-same Sink.errors sink k.sink is.over)))

  -- what is noted of all the text
  all-noted : (k new ended : Tokenizer K) (cs : List (Call Sink)) (sink : K) (opts : TokenizerOpts)
      (table : List Row) → IsNew Sink k sink opts table → IsChain Sink k cs new → (e : HasEnded Sink new ended)
      → noted_reading Sink.step Sink.is_quiet Sink.asks_cdata Sink.ended table
      (first_stand opts.initial_state opts.last_start_tag_name) 0 (Sink.view sink, no_notes)
      (text_of Sink opts cs) ≡ Ok (Sink.view ended.sink, more e.owed (noted_after Sink no_notes cs))
  all-noted k new ended cs sink opts table is h e = sym (is.same no_notes (taken_by Sink cs)) ∙ chain-ended k new ended cs h e

  pub each-fault : IsEachFaultTold Sink
  each-fault k new ended cs sink opts table is h e =
      let noted = noted_after Sink no_notes cs in
      let rises = new-rises k new cs sink opts table is h in
      let count = ap errors_of (all-noted k new ended cs sink opts table is h e) ∙ more-sum e.owed.faults noted.errors in
      rw count (told-enough (Sink.errors sink) (Sink.errors new.sink) (Sink.errors e.told) (Sink.errors ended.sink)
      noted.errors e.owed.faults (owed_for_text opts.exact_errors (text_of Sink opts cs)).faults rises.enough e.rises.enough e.kept)

  pub clean-quiet : IsCleanTextQuiet Sink
  clean-quiet k new ended cs sink opts table is h e plain clean =
      let noted = noted_after Sink no_notes cs in
      let rises = new-rises k new cs sink opts table is h in
      let all = sym (ap was_quiet (all-noted k new ended cs sink opts table is h e))
      ∙ (reading-clean Sink.step Sink.is_quiet Sink.asks_cdata Sink.ended table
      (first_stand opts.initial_state opts.last_start_tag_name) 0 (Sink.view sink) (text_of Sink opts cs) clean).1 in
      let parts = and_parts e.owed.is_quiet noted.is_quiet all in
      e.counts ∙ ap (Sink.errors_ended (Sink.view e.told))
      (e.rises.stays parts.0 ∙ rises.stays
      (and_from noted.is_quiet (owed_for_text opts.exact_errors (text_of Sink opts cs)).is_quiet parts.1 plain))
