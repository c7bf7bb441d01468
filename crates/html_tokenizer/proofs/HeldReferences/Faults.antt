-- What is told of a reference that was held, and what is owed for it.
use Rattle.std.proofs.Common.{◌≡◌, ◌∙◌, ℕ, Bool, true, false, List, Option, Some, None, refl, sym, arith}
use Rattle.std.specs.Option.{is_some}
use Rattle.html_tokens.specs.Item.{Fault, Grave, Slight, grave_if}
use Rattle.html_tokens.specs.Reference.{fault_of_reference}
use Rattle.html_tokens.specs.declared.table.ReferenceRow.{ReferenceRow}
use Rattle.html_tokenizer_parts.specs.CharRefs.{is_faulty}
use Rattle.html_tokenizer.specs.Steps.{owed_for}
use Rattle.html_tokenizer_parts.proofs.CharRefs.{faulty-some, grave-faulty}
use Rattle.html_tokenizer.proofs.Errors.Rises.{IsNoMore}

-- of a fault no more is owed than is told, if something is told only of a fault, and always of a grave one
no-more : (fault : Option Fault) (told : Bool) → (told ≡ true → is_some fault ≡ true)
    → (fault ≡ Some Grave → told ≡ true) → IsNoMore (owed_for fault) (owed_for (grave_if told))
no-more None true h g = let e = h refl in absurd cc
no-more None false h g = record { faults = omega arith; quiet = λ e. e }
no-more (Some Grave) true h g = record { faults = omega arith; quiet = λ e. e }
no-more (Some Grave) false h g = let e = g refl in absurd cc
no-more (Some Slight) told h g = record { faults = omega arith; quiet = λ e. absurd cc }

-- of a reference no more is owed than is told
pub fault-within : (in_value : Bool) (rows : List ReferenceRow) (cs : List ℕ) (follows told : Bool)
    → told ≡ is_faulty in_value rows cs follows → IsNoMore (owed_for (fault_of_reference rows cs)) (owed_for (grave_if told))
fault-within in_value rows cs follows told e = no-more (fault_of_reference rows cs) told
    (λ h. faulty-some in_value rows cs follows (sym e ∙ h)) (λ h. e ∙ grave-faulty in_value rows cs follows h)
