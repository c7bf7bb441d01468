-- The bytes of a page, and its text, by how its bytes are read.
use Rattle.std.specs.Prelude.{◌≡◌, ◌⊎◌, ℕ, Bool, true, false, List, Option, codes, option_map}
use Rattle.std.specs.Prelude.{IsUtf8}
use Rattle.std.specs.Bool.{MatchBool}
use Rattle.std.specs.Io.KnownBytes.{IsAtEnd, prepend_known}
use Rattle.std.specs.Str.{bytes_eq}
use Rattle.std.specs.Str.Lossy.{utf8_lossy, utf8_valid_len}
use Rattle.std.specs.String.{string_bytes}
use Rattle.figpliers.specs.Encoding.{Encoding}
use Rattle.figpliers.specs.Encoding.TheVariants as encoding
use Rattle.figpliers.specs.Forest.{Forest}
use Rattle.figpliers.specs.Pages.{IsPage}
use Rattle.html_places.specs.declared.noted.NotedForest.{NotedForest}
use Rattle.figpliers.specs.Sniffed.{Sniffed}
use Rattle.figpliers.specs.Sniffing.{sniffed}
use Rattle.figpliers.specs.Table.{Row}
use Rattle.html_decoded_pages.specs.DecodedPages.{encoding_of, text_in, unmarked}
use Rattle.html_normal_program.specs.Program.{Files}
use Rattle.html_normal_program.specs.Streams.{IsMissing, IsOpened}
use Rattle.figpliers_program.specs.declared.command.Reading.{Reading}
use Rattle.figpliers_program.specs.declared.command.Reading.TheVariants.{Found, Lossy, Utf8}
use Rattle.figpliers_program.specs.declared.faults.PageFault.{PageFault}
use Rattle.figpliers_program.specs.declared.faults.PageFault.TheVariants.{Memory, NotUtf8, Open, Read}

-- TEXTS

-- the encoding of bytes of which nothing says which it is: that of bytes in UTF-8 is UTF-8, as that of most files (HTML Standard, section
-- 13.2.3.2)
abbrev pub IsFallback : (bytes : List ℕ) → Encoding → Type 0
IsFallback bytes fallback = (IsUtf8 bytes × (fallback ≡ encoding.Utf8)) ⊎ ((IsUtf8 bytes → ⊥) × (fallback ≡ encoding.Windows1252))

-- the text of bytes in the encoding that was found, unless a `meta` of its document says otherwise
abbrev pub text_by : List Row → Sniffed → (bytes : List ℕ) → List ℕ
text_by table found bytes = text_in (encoding_of table found (unmarked found bytes)) (unmarked found bytes)

-- the text of bytes in the encoding that is found by a label, if there is one, or by what they say (section 13.2.3)
abbrev pub IsFoundText : List Row → Option (List ℕ) → (bytes text : List ℕ) → Type 0
IsFoundText table label bytes text = (fallback : Encoding) × IsFallback bytes fallback
    × (text ≡ text_by table (sniffed bytes label fallback) bytes)

abbrev pub IsTextOf : List Row → Reading → (bytes text : List ℕ) → Type 0
IsTextOf table Utf8 bytes text = text ≡ bytes
IsTextOf table Lossy bytes text = text ≡ utf8_lossy bytes
IsTextOf table (Found label) bytes text = IsFoundText table (option_map string_bytes label) bytes text

-- why bytes have no text: they are to be UTF-8 and are not, from this place on; or memory ran out
abbrev pub HasNoText : Reading → (bytes : List ℕ) → PageFault → Type 0
HasNoText reading bytes (NotUtf8 at) = (reading ≡ Utf8) × (IsUtf8 bytes → ⊥) × (at ≡ utf8_valid_len bytes)
HasNoText reading bytes Memory = Unit {0}
HasNoText reading bytes fault = ⊥

-- a forest is the document of the text of bytes
abbrev pub IsDocumentOf : List Row → Reading → (bytes : List ℕ) → Forest → Type 0
IsDocumentOf table reading bytes document = (text : List ℕ) × IsTextOf table reading bytes text × IsPage table false text document

-- a forest that keeps its errors is the document of the text of bytes
abbrev pub IsNotedOf : List Row → Reading → (bytes : List ℕ) → NotedForest → Type 0
IsNotedOf table reading bytes noted = (text : List ℕ) × IsTextOf table reading bytes text × IsPage table true text noted.forest

-- BYTES

-- a source was read to its end, and these are its bytes
abbrev pub IsReadFrom : (left left' : Option (List ℕ)) → (bytes : List ℕ) → Type 0
IsReadFrom left left' bytes = (left ≡ prepend_known bytes left') × IsAtEnd left'

-- why a source was not
abbrev pub IsUnread : PageFault → Type 0
IsUnread Read = Unit {0}
IsUnread Memory = Unit {0}
IsUnread fault = ⊥

-- FILES, by what is stated of the file of a name

abbrev pub IsFileRead : Option (Option (List ℕ)) → (bytes : List ℕ) → Type 0
IsFileRead stated bytes = (left : Option (List ℕ)) × (left' : Option (List ℕ)) × IsOpened stated left × IsReadFrom left left' bytes

abbrev pub IsFileUnread : Option (Option (List ℕ)) → PageFault → Type 0
IsFileUnread stated (Open why) = IsMissing stated
IsFileUnread stated fault = (left : Option (List ℕ)) × IsOpened stated left × IsUnread fault

-- PAGES: the name - is that of standard input

abbrev pub is_input : List ℕ → Bool
is_input name = bytes_eq name (codes "-")

-- the page of that name was read, and these are its bytes
abbrev pub IsRead : Files → (name : List ℕ) → (left left' : Option (List ℕ)) → (bytes : List ℕ) → Type 0
IsRead files name left left' bytes = MatchBool (is_input name) (IsReadFrom left left' bytes)
    ((left' ≡ left) × IsFileRead (files name) bytes)

-- it was not
abbrev pub IsNotRead : Files → (name : List ℕ) → (left left' : Option (List ℕ)) → PageFault → Type 0
IsNotRead files name left left' fault = MatchBool (is_input name) (IsUnread fault)
    ((left' ≡ left) × IsFileUnread (files name) fault)
