-- A call that ends the input and fails remembers the fault.
use Rattle.std.proofs.Common.{◌≡◌, true, Option, Some, None, Ok, Err, refl}
use Rattle.markup.specs.declared.fault.ParseFault.{ParseFault}
use Rattle.html_tokens.specs.declared.sink.TokenSink.{Ghosts}
use Rattle.html_tokenizer.specs.declared.tokenizer.Tokenizer.{Tokenizer}
use Rattle.html_tokenizer.specs.Calls.{EndGives, FailsToEnd, Refuses}

module _ {K H : Type 0} (Sink : Ghosts K H) where
  pub end-failed : (refusal : Option ParseFault) (old new failed : Tokenizer K) (fault told : ParseFault)
      → Refuses refusal (Ok tt) → FailsToEnd Sink old new fault
      → failed ≡ record new { stream = record new.stream { has_failed = true } } → told ≡ fault
      → EndGives Sink refusal old failed (Err told)
  end-failed None old new failed fault told none fails is same =
      rw (is, same) (refl, record { fell = fails.fell; fails = fails.fails })
  end-failed (Some refused) old new failed fault told none fails is same = absurd cc
