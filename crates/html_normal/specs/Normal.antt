-- What a normalisation writes and tells.
use Rattle.std.specs.Prelude.{◌≡◌, ℕ, ◌≤◌, ◌^◌, Bool, true, false, List, [], ◌++◌, length, take, Option, Some, Result, Err, ◌⊎◌}
use Rattle.std.specs.Io.KnownBytes.{append_known}
use Rattle.std.specs.Str.{chars}
use Rattle.devices.specs.Devices.{count_after}
use Rattle.markup.specs.Forest.{Forest}
use Rattle.html_input.specs.Reading.{HasBegun, ShowsNotUtf8}
use Rattle.html_plain.specs.Grammar.{is_plain_forest}
use Rattle.html_rules.specs.declared.rules.Rules.{Rules}
use Rattle.html_rules.specs.declared.rules.Rules.TheVariants.{Html5ever}
use Rattle.html_tokens.specs.Laws.{ReadsEscapes}
use Rattle.html_tokens.specs.Table.{Row}
use Rattle.html_normal.specs.Again.{IsNormal}
use Rattle.html_normal.specs.Document.{CountsErrors, CountsErrorsBy, IsDocument, IsDocumentBy, document_bytes, document_trees}
use Rattle.html_normal.specs.declared.fault.NormalFault.{NormalFault}
use Rattle.html_normal.specs.declared.fault.NormalFault.TheVariants.{NotUtf8, Read, Write, Memory, Refused}
use Rattle.html_normal.specs.declared.report.Report.{Report}

-- All of the input was read, this is its document, and so many errors were counted.
pub record IsReadBy (rules : Rules) (table : List Row) (exact : Bool) (whole : List ℕ) (left : Option (List ℕ)) (document : Forest)
    (errors : ℕ) : Type 0 where
  pub input : IsDocumentBy rules table whole document
  pub taken : left ≡ Some []
  pub counts : CountsErrorsBy rules table exact (chars whole) errors

abbrev pub IsRead : List Row → Bool → List ℕ → Option (List ℕ) → Forest → ℕ → Type 0
IsRead table exact whole left document errors = IsReadBy Html5ever table exact whole left document errors

-- All of the input was read, its document was written after what was written before, and the report is of that document, and of the
-- errors that were counted. `exact` is whether the tokenizer tells characters.
pub record IsNormalisedBy (rules : Rules) (table : List Row) (exact : Bool) (whole : List ℕ) (left old new : Option (List ℕ))
    (report : Report) : Type 0 where
  pub document : Forest
  pub input : IsDocumentBy rules table whole document
  pub taken : left ≡ Some []
  pub output : new ≡ append_known old (document_bytes document)
  pub plain : report.plain ≡ is_plain_forest document
  pub quirks : report.quirks ≡ document.quirks
  pub errors : CountsErrorsBy rules table exact (chars whole) report.errors

-- The same by html5ever's rules.
pub record IsNormalised (table : List Row) (exact : Bool) (whole : List ℕ) (left old new : Option (List ℕ)) (report : Report) : Type 0 where
  pub document : Forest
  pub input : IsDocument table whole document
  pub taken : left ≡ Some []
  pub output : new ≡ append_known old (document_bytes document)
  pub plain : report.plain ≡ is_plain_forest document
  pub quirks : report.quirks ≡ document.quirks
  pub errors : CountsErrors table exact (chars whole) report.errors
  -- read again, by whatever table that reads what escaping writes, a plain document's text is that document, and is written the same
  pub again : report.plain ≡ true → (other : List Row) → ReadsEscapes other
      → IsNormal other (document_trees document) (document_bytes document)

-- A beginning of the document was written.
pub record IsBegunBy (rules : Rules) (table : List Row) (whole : List ℕ) (old new : Option (List ℕ)) : Type 0 where
  pub document : Forest
  pub input : IsDocumentBy rules table whole document
  pub count : ℕ
  pub within : count ≤ length (document_bytes document)
  pub output : new ≡ append_known old (take count (document_bytes document))

-- More bytes were read than can be counted.
pub record IsTooLong (whole left : List ℕ) : Type 0 where
  pub read : List ℕ
  pub moved : whole ≡ read ++ left
  pub long : 2 ^ 64 ≤ length read

-- What a fault of reading says of the bytes of the input that were left before and are left now; what it says of a refused token
-- is given.
abbrev pub IsInputFault : Type 0 → (old new : Option (List ℕ)) → NormalFault → Type 0
IsInputFault refused old new (NotUtf8 at) = (whole left : List ℕ) → old ≡ Some whole → new ≡ Some left → ShowsNotUtf8 whole left at
IsInputFault refused old new Read = (whole left : List ℕ) → old ≡ Some whole → new ≡ Some left → HasBegun whole left ⊎ IsTooLong whole left
IsInputFault refused old new Write = ⊥
IsInputFault refused old new Memory = Unit {0}
IsInputFault refused old new Refused = refused

-- What a fault says of the bytes of the input that were left before and are left now, and of those written before and now.
abbrev pub IsFailedBy : Rules → List Row → (left left' old new : Option (List ℕ)) → NormalFault → Type 0
IsFailedBy rules table left left' old new (NotUtf8 at) =
    (new ≡ old) × ((whole rest : List ℕ) → left ≡ Some whole → left' ≡ Some rest → ShowsNotUtf8 whole rest at)
IsFailedBy rules table left left' old new Read =
    (new ≡ old) × ((whole rest : List ℕ) → left ≡ Some whole → left' ≡ Some rest → HasBegun whole rest ⊎ IsTooLong whole rest)
IsFailedBy rules table left left' old new Write = (whole : List ℕ) → left ≡ Some whole → IsBegunBy rules table whole old new
IsFailedBy rules table left left' old new Memory = (new ≡ old)
    ⊎ ((whole : List ℕ) → left ≡ Some whole → IsBegunBy rules table whole old new)
IsFailedBy rules table left left' old new Refused = ⊥

abbrev pub IsFailed : List Row → (left left' old new : Option (List ℕ)) → NormalFault → Type 0
IsFailed table left left' old new fault = IsFailedBy Html5ever table left left' old new fault

-- A reader that tells its bytes told more than can be counted.
pub record HasTooMany (left left' : Option (List ℕ)) : Type 0 where
  pub whole : List ℕ
  pub rest : List ℕ
  pub before : left ≡ Some whole
  pub after : left' ≡ Some rest
  pub long : IsTooLong whole rest

-- How often a reader has failed, by how often it had: once more where it is told that reading failed, unless it tells too many bytes.
abbrev pub CountsReads : {T : Type 0} → Result T NormalFault → (left left' : Option (List ℕ)) (failures failures' : Option ℕ) → Type 0
CountsReads (Err Read) left left' failures failures' = (failures' ≡ count_after true failures)
    ⊎ ((failures' ≡ failures) × HasTooMany left left')
CountsReads result left left' failures failures' = failures' ≡ failures

-- Whether the writer failed.
abbrev pub is_write_fault : {T : Type 0} → Result T NormalFault → Bool
is_write_fault (Err Write) = true
is_write_fault result = false
