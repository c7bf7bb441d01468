-- Texts that are read one after the other, by anything that reads.
use Rattle.std.proofs.Common.{◌≡◌, ◌∙◌, ℕ, ◌+◌, List, [], ◌++◌, sym, ap, arith, append_assoc, append-nil}
use Rattle.html_rules.specs.ForeignContent.{asks_cdata}
use Rattle.html_rules.specs.State.{State}
use Rattle.html_rules.specs.Step.{ended, is_quiet, step}
use Rattle.html_round_trip.specs.Slices.Slices.{IsReader, IsSpelled}
use Rattle.html_tokens.specs.Item.{Stand}
use Rattle.html_tokens.specs.Reading.{line_breaks, line_number, next_stand}
use Rattle.html_tokens.specs.Sink.{Reply}
use Rattle.html_tokens.specs.Table.{Row}
use Rattle.html_tokens.specs.declared.token.Token.{Token}
use Rattle.html_tokens.proofs.TextLaws.{line_breaks-append}
use Rattle.html_round_trip.specs.ReadBack.Runs.{NoText, Reads, TokenFirst, TakesQuietly}

module _ (rows : List Row) where
  -- a text that is the same
  pub reads-same : {st last : Stand} {s left : State} (t u : List ℕ) → t ≡ u → Reads rows st s t last left → Reads rows st s u last left
  reads-same t u e h = rw (← e) h

  -- one token
  pub reads-one : (st next : Stand) (s new : State) (slice : List ℕ) (token : Token) (reply : Reply)
      → IsSpelled rows st slice token next → TakesQuietly rows s token new reply → Reads rows st s slice (next_stand next reply) new
  reads-one st next s new slice token reply spelled takes = reads-same (slice ++ []) slice (append-nil slice)
      (TokenFirst next new slice [] token reply spelled takes NoText)

  -- one text, and then another
  pub reads-both : (st mid last : Stand) (s m left : State) (t u : List ℕ) → Reads rows st s t mid m
      → Reads rows mid m u last left → Reads rows st s (t ++ u) last left
  reads-both st mid last s m left t u NoText h = h
  reads-both st mid last s m left t u (TokenFirst next new slice rest token reply spelled takes more) h =
      reads-same (slice ++ (rest ++ u)) ((slice ++ rest) ++ u) (sym (append_assoc slice rest u))
      (TokenFirst next new slice (rest ++ u) token reply spelled takes (reads-both _ mid last new m left rest u more h))

  -- each reader reads so
  pub reader-reads : {X : Type 0} (read : Stand → ℕ → State → List ℕ → X) → IsReader step is_quiet asks_cdata ended
      rows read → (st last : Stand) (s left : State) (t u : List ℕ) (breaks : ℕ)
      → Reads rows st s t last left → read st breaks s (t ++ u) ≡ read last (breaks + line_breaks t) left u
  reader-reads read reader st last s left t u breaks NoText = ap (λ n. read st n s u) (let e : breaks ≡ breaks + 0 = omega arith in e)
  reader-reads read reader st last s left t u breaks (TokenFirst next new slice rest token reply spelled takes more) =
      ap (read st breaks s) (append_assoc slice rest u)
      ∙ (reader st next slice token spelled breaks s new reply (rest ++ u) (takes (line_number (breaks + line_breaks slice)))
      ∙ (reader-reads read reader (next_stand next reply) last new left rest u (breaks + line_breaks slice) more
      ∙ ap (λ n. read last n left u) (let e : (breaks + line_breaks slice) + line_breaks rest ≡ breaks + line_breaks
      (slice ++ rest) = omega (arith, line_breaks-append slice rest) in e)))
