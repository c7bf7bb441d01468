-- Ready policies as text, and the command as a whole.
use Rattle.std.specs.Prelude.{◌≡◌, ℕ, true, false, cond, List, [], ◌∷◌, codes, encode_utf8_all, Option, Some, None, Result, Ok, Err}
use Rattle.std.specs.Str.{bytes_eq}
use Rattle.html_normal.specs.declared.fault.NormalFault.{NormalFault}
use Rattle.html_normal.specs.declared.fault.NormalFault.TheVariants.{Memory, NotUtf8, Read, Refused, Write}
use Rattle.html_normal_program.specs.Program.{Files}
use Rattle.html_normal_program.specs.Streams.{IsPut}
use Rattle.html_policy_text.specs.ReadyRules.{ready_named, rules_of_ready}
use Rattle.html_policy_text.specs.Written.{policy_text}
use Rattle.html_policy_text.specs.declared.ready.Ready.{Ready}
use Rattle.html_clean_program.specs.Program.{IsOutcome, Stream}
use Rattle.html_clean_program.specs.declared.fault.CleanFault.{CleanFault}
use Rattle.html_clean_program.specs.declared.fault.CleanFault.TheVariants.{Normal, Usage}

-- the name of the policy that is to be printed, if the words ask for one
abbrev pub printed_name : List (List ℕ) → Option (List ℕ)
printed_name (option ∷ (name ∷ [])) = cond (bytes_eq option (codes "--print-policy")) (Some name) None
printed_name words = None

-- the bytes of a ready policy
abbrev pub ready_bytes : Ready → List ℕ
ready_bytes ready = encode_utf8_all (policy_text (rules_of_ready ready))

-- all of a text was written, a beginning of it where a write failed, or nothing where memory was short
abbrev pub IsWrittenOr : List ℕ → (old new : Stream) → NormalFault → Type 0
IsWrittenOr text old new Write = IsPut text old new true
IsWrittenOr text old new Memory = new ≡ old
IsWrittenOr text old new (NotUtf8 at) = ⊥
IsWrittenOr text old new Read = ⊥
IsWrittenOr text old new Refused = ⊥

abbrev pub IsPrinted : Ready → (old new : Stream) → Result (Unit {0}) CleanFault → Type 0
IsPrinted ready old new (Ok done) = IsPut (ready_bytes ready) old new false
IsPrinted ready old new (Err (Normal fault)) = IsWrittenOr (ready_bytes ready) old new fault
IsPrinted ready old new (Err fault) = ⊥

-- a ready policy was printed, if there is one
abbrev pub IsPrintedBy : Option Ready → (old new : Stream) → Result (Unit {0}) CleanFault → Type 0
IsPrintedBy None old new result = (result ≡ Err Usage) × (new ≡ old)
IsPrintedBy (Some ready) old new result = IsPrinted ready old new result

module _ (files : Files) (words : List (List ℕ)) (left left' old new errors errors' : Stream) (result : Result (Unit {0}) CleanFault) where
  abbrev pub IsObeyedBy : Option (List ℕ) → Type 0
  IsObeyedBy None = IsOutcome files words left left' old new errors errors' result
  IsObeyedBy (Some name) = (left' ≡ left) × (errors' ≡ errors) × IsPrintedBy (ready_named name) old new result

  -- what the command does
  abbrev pub IsObeyed : Type 0
  IsObeyed = IsObeyedBy (printed_name words)
