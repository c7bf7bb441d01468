-- What a call answers, and what that says of the caller's room.
use Rattle.std.specs.Prelude.{◌≡◌, ℕ, ◌<◌, true, List, [], ◌++◌, Some, length, drop}
use Rattle.std.specs.Str.{IsValidUpTo}
use Rattle.markup.specs.Forest.{Forest}
use Rattle.html_input.specs.TableFault.{HasBadLine, HasBadRow, IsTableFile}
use Rattle.html_input.specs.declared.table.TableFileFault.{TableFileFault}
use Rattle.html_input.specs.declared.table.TableFileFault.TheVariants as file
use Rattle.html_tokens.specs.Table.{Row}
use Rattle.html_tokens.specs.declared.table.TableFault.{TableFault}
use Rattle.html_tokens.specs.declared.table.TableFault.TheVariants as table
use Rattle.html_normal.specs.declared.fault.NormalFault.{NormalFault}
use Rattle.html_normal.specs.declared.fault.NormalFault.TheVariants as normal
use Rattle.html_policy_text.specs.declared.reading.PolicyFault.{PolicyFault}
use Rattle.html_policy_text.specs.declared.reading.PolicyFault.TheVariants as policy
use Rattle.html_selector_text.specs.declared.fault.SelectorError.{SelectorError}
use Rattle.html_selector_text.specs.declared.fault.SelectorError.TheVariants as errors
use Rattle.html_image_reader.specs.declared.read.ReadFault.{ReadFault}
use Rattle.html_image_reader.specs.declared.read.ReadFault.TheVariants as read
use Rattle.html_tree_image.specs.Image.{is_too_large}
use Rattle.html_tree_image.specs.declared.image.ImageFault.{ImageFault}
use Rattle.html_tree_image.specs.declared.image.ImageFault.TheVariants as image
use Rattle.html_ffi.specs.declared.answer.Answer.{Answer}
use Rattle.html_ffi.specs.declared.answer.Answer.TheVariants.{Done, NotUtf8, TooShort, Memory, TooLarge, TableNotUtf8}
use Rattle.html_ffi.specs.declared.answer.Answer.TheVariants.{TableLine, TableName, TableDuplicate, TableValue}
use Rattle.html_ffi.specs.declared.answer.Answer.TheVariants.{SelectorNotUtf8, Selector, NotAnImage, NoNode}
use Rattle.html_ffi.specs.declared.answer.Answer.TheVariants.{PolicyNotUtf8, PolicyLine, NeverKept, NoPolicy, ContextNotUtf8}
use Rattle.html_ffi.specs.declared.answer.Failure.{Failure}

-- ANSWERS

-- the number that C gets
abbrev pub number_of : Answer → ℕ
number_of Done = 0
number_of NotUtf8 = 1
number_of TooShort = 2
number_of Memory = 3
number_of TooLarge = 4
number_of TableNotUtf8 = 16
number_of TableLine = 17
number_of TableName = 18
number_of TableDuplicate = 19
number_of TableValue = 20
number_of SelectorNotUtf8 = 32
number_of Selector = 33
number_of NotAnImage = 48
number_of NoNode = 49
number_of PolicyNotUtf8 = 64
number_of PolicyLine = 65
number_of NeverKept = 66
number_of NoPolicy = 67
number_of ContextNotUtf8 = 80

abbrev pub failure : Answer → ℕ → Failure
failure answer at = record { answer = answer; at = at }

-- of a page: reading from memory doesn't fail, and writing to memory fails only for want of it
abbrev pub failure_of : NormalFault → Failure
failure_of (normal.NotUtf8 at) = failure NotUtf8 at
failure_of normal.Read = failure Memory 0
failure_of normal.Write = failure Memory 0
failure_of normal.Memory = failure Memory 0
failure_of normal.Refused = failure Memory 0

-- of the image of a tree
abbrev pub image_failure_of : ImageFault → Failure
image_failure_of image.Memory = failure Memory 0
image_failure_of image.TooLarge = failure TooLarge 0

-- of a block of bytes that is to be an image
abbrev pub read_failure_of : ReadFault → Failure
read_failure_of read.Memory = failure Memory 0
read_failure_of read.NotAnImage = failure NotAnImage 0

-- of a text of selectors
abbrev pub selector_failure_of : SelectorError → Failure
selector_failure_of errors.Memory = failure Memory 0
selector_failure_of (errors.Syntax fault at) = failure Selector at

-- of a policy's text
abbrev pub policy_failure_of : PolicyFault → Failure
policy_failure_of policy.Memory = failure Memory 0
policy_failure_of (policy.Line number problem) = failure PolicyLine number

-- of the rows of a table
abbrev pub row_failure_of : TableFault → Failure
row_failure_of (table.BadName at) = failure TableName at
row_failure_of (table.Duplicate at) = failure TableDuplicate at
row_failure_of (table.BadValue at) = failure TableValue at
row_failure_of table.Memory = failure Memory 0

-- of a table's bytes
abbrev pub table_failure_of : TableFileFault → Failure
table_failure_of (file.NotUtf8 at) = failure TableNotUtf8 at
table_failure_of file.Read = failure Memory 0
table_failure_of (file.BadLine at) = failure TableLine at
table_failure_of (file.Table fault) = row_failure_of fault
table_failure_of file.Memory = failure Memory 0

-- What the answer of a call that has no text says of the table's bytes and the page, with the place that it tells.
abbrev pub Fails : (file page : List ℕ) → Answer → ℕ → Type 0
Fails file page Done at = ⊥
Fails file page NotUtf8 at = IsValidUpTo page at
Fails file page TooShort at = ⊥
Fails file page Memory at = at ≡ 0
Fails file page TooLarge at = ⊥
Fails file page TableNotUtf8 at = IsValidUpTo file at
Fails file page TableLine at = HasBadLine file at
Fails file page TableName at = HasBadRow file (table.BadName at)
Fails file page TableDuplicate at = HasBadRow file (table.Duplicate at)
Fails file page TableValue at = HasBadRow file (table.BadValue at)
Fails file page SelectorNotUtf8 at = ⊥
Fails file page Selector at = ⊥
Fails file page NotAnImage at = ⊥
Fails file page NoNode at = ⊥
Fails file page PolicyNotUtf8 at = ⊥
Fails file page PolicyLine at = ⊥
Fails file page NeverKept at = ⊥
Fails file page NoPolicy at = ⊥
Fails file page ContextNotUtf8 at = ⊥

-- The image of a forest that a page has by a table's rows, as `Of` says.
module _ (Of : List Row → List ℕ → Forest → Type 0) (file page : List ℕ) where
  -- It has a part that is longer than 32 bits can say.
  pub record IsTooLarge : Type 0 where
    pub rows : List Row
    pub table : IsTableFile file (Some []) rows
    pub forest : Forest
    pub is : Of rows page forest
    pub large : is_too_large forest ≡ true

  -- What the answer of a call that has no image says of the table's bytes and the page, with the place in the report.
  abbrev pub FailsAsTree : Answer → ℕ → Type 0
  FailsAsTree TooLarge at = (at ≡ 0) × IsTooLarge
  FailsAsTree answer at = Fails file page answer at

-- why there is no image of a forest, with the place in the report
abbrev pub FailsOver : Forest → Answer → ℕ → Type 0
FailsOver f Memory at = at ≡ 0
FailsOver f TooLarge at = (at ≡ 0) × (is_too_large f ≡ true)
FailsOver f answer at = ⊥

-- THE ROOM

-- A text was put in front of the room, of which nothing else changed; or the room is too short for it, and nothing changed.
abbrev pub IsPut : (text old new : List ℕ) → Answer → Type 0
IsPut text old new Done = new ≡ text ++ drop (length text) old
IsPut text old new NotUtf8 = ⊥
IsPut text old new TooShort = (length old < length text) × (new ≡ old)
IsPut text old new Memory = ⊥
IsPut text old new TooLarge = ⊥
IsPut text old new TableNotUtf8 = ⊥
IsPut text old new TableLine = ⊥
IsPut text old new TableName = ⊥
IsPut text old new TableDuplicate = ⊥
IsPut text old new TableValue = ⊥
IsPut text old new SelectorNotUtf8 = ⊥
IsPut text old new Selector = ⊥
IsPut text old new NotAnImage = ⊥
IsPut text old new NoNode = ⊥
IsPut text old new PolicyNotUtf8 = ⊥
IsPut text old new PolicyLine = ⊥
IsPut text old new NeverKept = ⊥
IsPut text old new NoPolicy = ⊥
IsPut text old new ContextNotUtf8 = ⊥

-- What an answer says: of a text that `Makes` says is the one that is asked for, or of why there is none, and then `None`.
module _ (Makes : List ℕ → Type 0) (None : Type 0) (Why : Answer → Type 0) (old new : List ℕ) where
  -- The text stands in front of the room, of which nothing else changed.
  pub record IsWritten : Type 0 where
    pub text : List ℕ
    pub made : Makes text
    pub front : new ≡ text ++ drop (length text) old

  -- The room is too short for the text, and nothing changed.
  pub record IsTooShort : Type 0 where
    pub text : List ℕ
    pub made : Makes text
    pub short : length old < length text
    pub same : new ≡ old

  -- There is no text, and nothing changed.
  pub record HasNone (answer : Answer) : Type 0 where
    pub why : Why answer
    pub none : None
    pub same : new ≡ old

  abbrev pub Means : Answer → Type 0
  Means Done = IsWritten
  Means NotUtf8 = HasNone NotUtf8
  Means TooShort = IsTooShort
  Means Memory = HasNone Memory
  Means TooLarge = HasNone TooLarge
  Means TableNotUtf8 = HasNone TableNotUtf8
  Means TableLine = HasNone TableLine
  Means TableName = HasNone TableName
  Means TableDuplicate = HasNone TableDuplicate
  Means TableValue = HasNone TableValue
  Means SelectorNotUtf8 = HasNone SelectorNotUtf8
  Means Selector = HasNone Selector
  Means NotAnImage = HasNone NotAnImage
  Means NoNode = HasNone NoNode
  Means PolicyNotUtf8 = HasNone PolicyNotUtf8
  Means PolicyLine = HasNone PolicyLine
  Means NeverKept = HasNone NeverKept
  Means NoPolicy = HasNone NoPolicy
  Means ContextNotUtf8 = HasNone ContextNotUtf8

-- The number that C gets is that of an answer, which says this.
pub record IsAnswer (Says : Answer → Type 0) (number : ℕ) : Type 0 where
  pub answer : Answer
  pub is : number ≡ number_of answer
  pub says : Says answer
