-- What the calls of a tokenizer come to, in whatever pieces the text came.
use Rattle.std.specs.Prelude.{◌≡◌, ℕ, ◌+◌, ◌≤◌, min, Bool, true, List, [], ◌∷◌, ◌++◌, Result, Ok}
use Rattle.markup.specs.declared.tokenizer_result.TokenizerResult.{TokenizerResult}
use Rattle.html_queue.specs.Queue.{Queue}
use Rattle.html_tokens.specs.Notes.{Notes, no_notes, errors_of, owed}
use Rattle.html_tokens.specs.Clean.{is_clean_reading}
use Rattle.html_tokens.specs.declared.options.TokenizerOpts.{TokenizerOpts}
use Rattle.html_tokens.specs.declared.sink.TokenSink.{Ghosts}
use Rattle.html_tokens.specs.Sink.{Refusal}
use Rattle.html_tokens.specs.Table.{Row}
use Rattle.html_tokens.specs.NormalText.{normal_text}
use Rattle.html_tokens.specs.Reading.{first_stand}
use Rattle.html_tokenizer.specs.declared.tokenizer.Tokenizer.{Tokenizer}
use Rattle.html_tokenizer.specs.Calls.{to_come, noted_with, owed_for_text, Fed, HasEnded, IsNew}
use Rattle.html_tokenizer.specs.Steps.{more}

module _ {K H : Type 0} (Sink : Ghosts K H) where
  -- a call of `feed` that succeeded, over whatever queue
  pub record Call : Type 0 where
    pub before : Tokenizer K
    pub after : Tokenizer K
    pub from : Queue
    pub to : Queue
    pub result : TokenizerResult H
    pub fed : Fed Sink before after from to result

  -- calls of one tokenizer, one after the other
  abbrev pub IsChain : Tokenizer K → List Call → Tokenizer K → Type 0
  IsChain k [] new = k ≡ new
  IsChain k (c ∷ cs) new = (k ≡ c.before) × IsChain c.after cs new

  -- the characters that they took from their queues, in order
  abbrev pub taken_by : List Call → List ℕ
  taken_by [] = []
  taken_by (c ∷ cs) = c.fed.taken ++ taken_by cs

  -- what was noted, and then the faulty items of the calls and the pauses with which they handed back control
  abbrev pub noted_after : Notes ℕ → List Call → Notes ℕ
  noted_after notes [] = notes
  noted_after notes (c ∷ cs) = noted_after (noted_with Sink.number c.fed.owed notes c.result) cs

  -- Whatever follows, two tokenizers make the same of it.
  abbrev pub HaveSameRests : Tokenizer K → Tokenizer K → Type 0
  HaveSameRests k other = (notes : Notes ℕ) (t : List ℕ) → to_come Sink k notes t ≡ to_come Sink other notes t

  -- New tokenizers over sinks of one state, with one table and options that differ at most in whether control characters are
  -- told, make the same of whatever follows.
  abbrev pub IsSameRoad : Type 0
  IsSameRoad = (k other : Tokenizer K) (sink sink' : K) (opts : TokenizerOpts) (exact_errors : Bool) (table : List Row)
      → IsNew Sink k sink opts table → IsNew Sink other sink' (record opts { exact_errors = exact_errors }) table
      → Sink.view sink ≡ Sink.view sink' → HaveSameRests k other

  -- the text of all that was taken
  abbrev pub text_of : TokenizerOpts → List Call → List ℕ
  text_of opts cs = normal_text opts.discard_bom (taken_by cs)

  -- what is noted of what is to come for a further text
  abbrev pub noted_to_come : Tokenizer K → List ℕ → Result (Sink.State × Notes ℕ) (Refusal × ℕ)
  noted_to_come k t = to_come Sink k no_notes t

  -- how many errors a tokenizer owes for a further text: as many as what is to come has faulty items, up to a refusal
  abbrev pub owes : Tokenizer K → List ℕ → ℕ
  owes k t = errors_of (noted_to_come k t)

  -- Whatever follows, what was to come over all that the calls took is what is to come after them.
  abbrev pub AreCallsChained : Type 0
  AreCallsChained = (k new : Tokenizer K) (cs : List Call) (notes : Notes ℕ) (t : List ℕ) → IsChain k cs new
      → to_come Sink k notes (taken_by cs ++ t) ≡ to_come Sink new (noted_after notes cs) t

  -- What was to come over all that the calls took, and no more, is what the end leaves.
  abbrev pub IsChainEnded : Type 0
  IsChainEnded = (k new ended : Tokenizer K) (cs : List Call) → IsChain k cs new → (e : HasEnded Sink new ended)
      → noted_to_come k (taken_by cs) ≡ Ok (Sink.view ended.sink, more e.owed (noted_after no_notes cs))

  -- Two tokenizers that make the same of whatever follows, and that take the same text, in whatever pieces, put in at pauses too,
  -- leave the same state of the sink after their ends, and the same pauses.
  abbrev pub IsAnyPieces : Type 0
  IsAnyPieces = (k new ended other new' ended' : Tokenizer K) (cs cs' : List Call)
      → HaveSameRests k other → IsChain k cs new → IsChain other cs' new' → taken_by cs ≡ taken_by cs'
      → HasEnded Sink new ended → HasEnded Sink new' ended'
      → (Sink.view ended.sink ≡ Sink.view ended'.sink) × ((noted_after no_notes cs).pauses ≡ (noted_after no_notes cs').pauses)

  -- From a new tokenizer to the end of all that it took, the number of errors rises by as many as the text has faulty items, and
  -- control characters and noncharacters where these are told, at least, or is at u64::MAX.
  abbrev pub IsEachFaultTold : Type 0
  IsEachFaultTold = (k new ended : Tokenizer K) (cs : List Call) (sink : K) (opts : TokenizerOpts) (table : List Row)
      → IsNew Sink k sink opts table → IsChain k cs new → HasEnded Sink new ended
      → min (Sink.errors sink + (owed Sink.step Sink.is_quiet Sink.asks_cdata Sink.ended table
      (first_stand opts.initial_state opts.last_start_tag_name) 0 (Sink.view sink) (text_of opts cs) +
      (owed_for_text opts.exact_errors (text_of opts cs)).faults)) 0xffff_ffff_ffff_ffff ≤ Sink.errors ended.sink

  -- A text that is read without anything that is not clean, and without an error of the sink, tells no error, where control
  -- characters and noncharacters are not told, or it has none: after it is what the sink's own end makes of the number before it.
  abbrev pub IsCleanTextQuiet : Type 0
  IsCleanTextQuiet = (k new ended : Tokenizer K) (cs : List Call) (sink : K) (opts : TokenizerOpts) (table : List Row)
      → IsNew Sink k sink opts table → IsChain k cs new → (e : HasEnded Sink new ended)
      → (owed_for_text opts.exact_errors (text_of opts cs)).is_quiet ≡ true
      → is_clean_reading Sink.step Sink.is_quiet Sink.asks_cdata table
      (first_stand opts.initial_state opts.last_start_tag_name) 0 (Sink.view sink) (text_of opts cs) ≡ true
      → Sink.errors ended.sink ≡ Sink.errors_ended (Sink.view e.told) (Sink.errors sink)

  -- What was owed for the characters that a call took and those that follow was owed for items that ended, so many of which errors
  -- were told, or is owed after the call. What was owed at the end was told.
  abbrev pub IsOwing : Type 0
  IsOwing =
      ((c : Call) (t : List ℕ) → owes c.before (c.fed.taken ++ t) ≡ c.fed.owed.faults + owes c.after t)
      × ((old new : Tokenizer K) (e : HasEnded Sink old new) → owes old [] ≡ e.owed.faults)
