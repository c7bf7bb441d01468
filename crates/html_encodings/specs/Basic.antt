-- The decoders that need no large index.
use Rattle.std.specs.Prelude.{ℕ, Bool, true, false, cond, Option, Some, None, List, []}
use Rattle.html_encodings.specs.Handlers.{Step, silent, writes}
use Rattle.html_encodings.specs.SingleByte.{single_byte_item, user_defined_item}
use Rattle.html_encodings.specs.Utf8.{ready, utf_8_step, utf_8_end}
use Rattle.html_encodings.specs.Utf16.{utf_16_step, utf_16_end}
use Rattle.html_encodings.specs.declared.names.Encoding.{Encoding}
use Rattle.html_encodings.specs.declared.names.Encoding.TheVariants as encodings
use Rattle.html_encodings.specs.declared.basic.Basic.{Basic}
use Rattle.html_encodings.specs.declared.basic.Basic.TheVariants.{SingleByte, XUserDefined, Replacement, Utf8, Utf16}

-- the same in the larger type
abbrev pub within : {S T : Type 0} → (S → T) → Step S → Step T
within inject step = record { written = step.written; state = inject step.state }

-- "replacement decoder's handler" (14.1): one error for any input that is not empty
abbrev pub replacement_step : Bool → Step Basic
replacement_step told = cond told (silent (Replacement true)) (writes None (Replacement true))

abbrev pub basic_step : Basic → ℕ → Step Basic
basic_step (SingleByte encoding) byte = writes (single_byte_item encoding byte) (SingleByte encoding)
basic_step XUserDefined byte = writes (user_defined_item byte) XUserDefined
basic_step (Replacement told) byte = replacement_step told
basic_step (Utf8 state) byte = within Utf8 (utf_8_step state byte)
basic_step (Utf16 state) byte = within Utf16 (utf_16_step state byte)

abbrev pub basic_end : Basic → List (Option ℕ)
basic_end (SingleByte encoding) = []
basic_end XUserDefined = []
basic_end (Replacement told) = []
basic_end (Utf8 state) = utf_8_end state
basic_end (Utf16 state) = utf_16_end state

-- the decoder of an encoding at the start of its input; none where a large index is needed
abbrev pub basic_start : Encoding → Option Basic
basic_start encodings.Big5 = None
basic_start encodings.EucJp = None
basic_start encodings.EucKr = None
basic_start encodings.Gb18030 = None
basic_start encodings.Gbk = None
basic_start encodings.Iso2022Jp = None
basic_start encodings.ShiftJis = None
basic_start encodings.Replacement = Some (Replacement false)
basic_start encodings.Utf8 = Some (Utf8 ready)
basic_start encodings.Utf16be = Some (Utf16 (record { is_big = true; lead_byte = None; lead_surrogate = None }))
basic_start encodings.Utf16le = Some (Utf16 (record { is_big = false; lead_byte = None; lead_surrogate = None }))
basic_start encodings.XUserDefined = Some XUserDefined
basic_start encoding = Some (SingleByte encoding)
