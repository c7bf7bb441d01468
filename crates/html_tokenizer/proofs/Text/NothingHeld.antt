-- A tokenizer that stands in text with nothing held reads what comes from there.
use Rattle.std.proofs.Common.{◌≡◌, ◌∙◌, ℕ, true, false, List, Option, Some, None, refl}
use Rattle.std.specs.Prelude.{is_none}
use Rattle.html_tokens.specs.declared.options.TokenizerOpts.{TokenizerOpts}
use Rattle.html_tokens.specs.declared.states.State.{State}
use Rattle.html_tokens.specs.declared.states.State.TheVariants as state
use Rattle.html_tokens.specs.declared.sink.TokenSink.{Ghosts}
use Rattle.html_tokens.specs.Reading.{first_place}
use Rattle.html_tokens.specs.TextState.{is_text_state}
use Rattle.html_tokenizer.specs.Calls.{IsNew, ReadsAt}
use Rattle.html_tokenizer_parts.specs.declared.held_reference.Ampersand.{Ampersand}
use Rattle.html_tokenizer.specs.declared.tokenizer.Tokenizer.{Tokenizer}
use Rattle.html_tokenizer.specs.Rest.{rows_of, standing, coming, held_at}
use Rattle.html_tokenizer.proofs.Steps.Keeping.{now-at}
use Rattle.html_tokenizer.specs.Listeners.{Listener, listening, emitted_text}

module _ {K T : Type 0} (to : Listener T) where
  text-reads : (st : State) (k : Tokenizer K) (b : ℕ) (s : T) (t : List ℕ) → is_text_state st ≡ true
      → held_at to st k b s t ≡ emitted_text to (rows_of k) (standing k (first_place (Some st))) b s t
  unfolding held_at
  text-reads state.Data k b s t h = refl
  text-reads state.Plaintext k b s t h = refl
  text-reads (state.RawData kind) k b s t h = refl
  text-reads _ k b s t h = absurd cc

is-fresh : (r : Option Ampersand) → is_none r ≡ true → r ≡ None
is-fresh None h = refl
is-fresh (Some behind) h = absurd cc

module _ {K H : Type 0} (Sink : Ghosts K H) where
  pub reads-text : (k : Tokenizer K) → is_none k.char_ref ≡ true → is_text_state k.state ≡ true
      → ReadsAt Sink (first_place (Some k.state)) k
  reads-text k none text = λ notes t.
      now-at Sink k k.state k.stream.breaks (Sink.view k.sink, notes) (coming k t)
      (record { state = refl; fresh = is-fresh k.char_ref none })
      ∙ text-reads (listening Sink) k.state k k.stream.breaks (Sink.view k.sink, notes) (coming k t) text

  -- the same of a new tokenizer, from where its options have it
  pub is-new : (k : Tokenizer K) (sink : K) (opts : TokenizerOpts) → k.sink ≡ sink → k.stream.breaks ≡ 0
      → k.stream.ignore_lf ≡ false → k.stream.discard_bom ≡ opts.discard_bom → k.stream.has_ended ≡ false
      → k.stream.has_failed ≡ false → k.stream.exact_errors ≡ opts.exact_errors
      → k.char_ref ≡ None → k.raw_end.name ≡ opts.last_start_tag_name → is_text_state k.state ≡ true
      → first_place opts.initial_state ≡ first_place (Some k.state) → Sink.is_sound (Sink.view sink)
      → IsNew Sink k sink opts k.stream.table
  is-new k sink opts over breaks unread marked begun works exact none last text place ok = record {
    over = over;
    same = λ notes t.
        reads-text k (rw none refl) text notes t
        ∙ rw (over, breaks, unread, marked, last, place) refl;
    ready = record { sound = rw over ok; fits = rw none refl };
    begun = rw (begun, works) refl;
    exact = exact;
    comes = λ t. rw (unread, marked) refl;
  }
