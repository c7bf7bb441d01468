-- What is noted of a reading: its pauses, how many faulty items it has, and whether it is quiet.
use Rattle.std.specs.Prelude.{ℕ, suc, Bool, true, false, ◌&&◌, List, [], ◌∷◌, ◌++◌, Result, Ok, Err}
use Rattle.html_tokens.specs.declared.replies.TokenSinkResult.{TokenSinkResult}
use Rattle.html_tokens.specs.declared.replies.TokenSinkResult.TheVariants.{Continue, Script, Plaintext, RawData, EncodingIndicator}
use Rattle.html_tokens.specs.declared.token.Token.{Token}
use Rattle.html_tokens.specs.Item.{Fault, Grave, Slight, Stand}
use Rattle.html_tokens.specs.Reading.{reading}
use Rattle.html_tokens.specs.Sink.{Reply, Refusal}
use Rattle.html_tokens.specs.Table.{Row}

-- the replies that handed control back, in their order, how many items were faulty, and whether no item had a fault and the
-- sink no error of its own
pub record Notes (H : Type 0) : Type 0 where
  pub pauses : List (TokenSinkResult H)
  pub errors : ℕ
  pub is_quiet : Bool

abbrev pub no_notes : {H : Type 0} → Notes H
no_notes = record { pauses = []; errors = 0; is_quiet = true }

-- 1 for what is so, 0 for what is not
abbrev pub one_if : Bool → ℕ
one_if true = 1
one_if false = 0

-- a list of pauses after one reply more
abbrev pub paused : {H : Type 0} → List (TokenSinkResult H) → TokenSinkResult H → List (TokenSinkResult H)
paused pauses Continue = pauses
paused pauses (Script handle) = pauses ++ Script handle ∷ []
paused pauses Plaintext = pauses
paused pauses (RawData kind) = pauses
paused pauses (EncodingIndicator label) = pauses ++ EncodingIndicator label ∷ []

-- what a step gives, with its pause noted; a refusal keeps the number of faulty items
abbrev pub noted : {S H F : Type 0} → Notes H → Result (S × TokenSinkResult H) F → Result ((S × Notes H) × TokenSinkResult H) (F × ℕ)
noted notes (Ok p) = Ok ((p.0, record notes { pauses = paused notes.pauses p.1 }), p.1)
noted notes (Err e) = Err (e, notes.errors)

-- what was noted, after a token that is quiet or is not
abbrev pub heard : {H : Type 0} → Bool → Notes H → Notes H
heard quiet notes = record notes { is_quiet = notes.is_quiet && quiet }

-- a sink of which this is noted
abbrev pub noting : {S H F : Type 0} → (S → Token → ℕ → Result (S × TokenSinkResult H) F) → (S → Token → Bool) → S
    × Notes H → Token → ℕ → Result ((S × Notes H) × TokenSinkResult H) (F × ℕ)
noting step quiet s token line = noted (heard (quiet s.0 token) s.1) (step s.0 token line)

-- what was noted, after a fault
abbrev pub wronged : {H : Type 0} → Fault → Notes H → Notes H
wronged Grave notes = record notes { errors = suc notes.errors; is_quiet = false }
wronged Slight notes = record notes { is_quiet = false }

abbrev pub noting_error : {S H : Type 0} → Fault → S × Notes H → S × Notes H
noting_error fault s = (s.0, wronged fault s.1)

abbrev pub noting_cdata : {S N : Type 0} → (S → Bool) → S × N → Bool
noting_cdata cdata s = cdata s.0

abbrev pub noting_end : {S N : Type 0} → (S → S) → S × N → S × N
noting_end ends s = (ends s.0, s.1)

-- what a token makes of a state in which this is noted, where handles stand as their numbers
abbrev pub NotedStep : Type 0 → Type 0
NotedStep T = T → Token → ℕ → Result (T × Reply) (Refusal × ℕ)

-- what is given, without what was noted
abbrev pub without_notes : {S N F : Type 0} → Result (S × N) (F × ℕ) → Result S F
without_notes (Ok p) = Ok p.0
without_notes (Err e) = Err e.0

abbrev pub pauses_of : {S H F : Type 0} → Result (S × Notes H) F → Result (List (TokenSinkResult H)) F
pauses_of (Ok p) = Ok p.1.pauses
pauses_of (Err e) = Err e

abbrev pub errors_of : {S H F : Type 0} → Result (S × Notes H) (F × ℕ) → ℕ
errors_of (Ok p) = p.1.errors
errors_of (Err e) = e.1

-- whether all was quiet; of what was refused that is not noted
abbrev pub was_quiet : {S H F : Type 0} → Result (S × Notes H) F → Bool
was_quiet (Ok p) = p.1.is_quiet
was_quiet (Err e) = true

module _ {S H F : Type 0} (step : S → Token → ℕ → Result (S × TokenSinkResult H) F) (quiet : S → Token → Bool)
    (cdata : S → Bool) (ends : S → S) (rows : List Row) where
  -- what a text makes of a sink and of what was noted before
  abbrev pub noted_reading : Stand → ℕ → S × Notes H → List ℕ → Result (S × Notes H) (F × ℕ)
  noted_reading st breaks s t = reading (noting step quiet) noting_error (noting_cdata cdata) (noting_end ends) rows st breaks s t

  -- the pauses of a reading, in their order
  abbrev pub pauses : Stand → ℕ → S → List ℕ → Result (List (TokenSinkResult H)) (F × ℕ)
  pauses st breaks s t = pauses_of (noted_reading st breaks (s, no_notes) t)

  -- whether no item of a text has a fault and the sink finds no error of its own; of a refused text nothing is noted
  abbrev pub is_quiet_reading : Stand → ℕ → S → List ℕ → Bool
  is_quiet_reading st breaks s t = was_quiet (noted_reading st breaks (s, no_notes) t)

  -- how many errors a text owes at least: its faulty items, up to a refusal
  abbrev pub owed : Stand → ℕ → S → List ℕ → ℕ
  owed st breaks s t = errors_of (noted_reading st breaks (s, no_notes) t)
