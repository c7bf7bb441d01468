-- Single-byte encodings (Encoding Standard, section 9), and x-user-defined (14.5).
use Rattle.std.specs.Prelude.{ℕ, ◌+◌, ◌-◌, Option, Some, List, [], cond, nat_lt, slice_index}
use Rattle.html_encodings.specs.Handlers.{entry_item, code_point}
use Rattle.html_encodings.specs.declared.names.Encoding.{Encoding}
use Rattle.html_encodings.specs.declared.names.Encoding.TheVariants as encodings
use Rattle.html_encodings.specs.declared.tables.TheConstants as tables

-- the index of a single-byte encoding: what the bytes from 128 on are. Other encodings have none.
unfoldable pub index_of : Encoding → List ℕ
index_of encodings.Ibm866 = tables.IBM866
index_of encodings.Iso8859_2 = tables.ISO_8859_2
index_of encodings.Iso8859_3 = tables.ISO_8859_3
index_of encodings.Iso8859_4 = tables.ISO_8859_4
index_of encodings.Iso8859_5 = tables.ISO_8859_5
index_of encodings.Iso8859_6 = tables.ISO_8859_6
index_of encodings.Iso8859_7 = tables.ISO_8859_7
index_of encodings.Iso8859_8 = tables.ISO_8859_8
index_of encodings.Iso8859_8I = tables.ISO_8859_8
index_of encodings.Iso8859_10 = tables.ISO_8859_10
index_of encodings.Iso8859_13 = tables.ISO_8859_13
index_of encodings.Iso8859_14 = tables.ISO_8859_14
index_of encodings.Iso8859_15 = tables.ISO_8859_15
index_of encodings.Iso8859_16 = tables.ISO_8859_16
index_of encodings.Koi8R = tables.KOI8_R
index_of encodings.Koi8U = tables.KOI8_U
index_of encodings.Macintosh = tables.MACINTOSH
index_of encodings.Windows874 = tables.WINDOWS_874
index_of encodings.Windows1250 = tables.WINDOWS_1250
index_of encodings.Windows1251 = tables.WINDOWS_1251
index_of encodings.Windows1252 = tables.WINDOWS_1252
index_of encodings.Windows1253 = tables.WINDOWS_1253
index_of encodings.Windows1254 = tables.WINDOWS_1254
index_of encodings.Windows1255 = tables.WINDOWS_1255
index_of encodings.Windows1256 = tables.WINDOWS_1256
index_of encodings.Windows1257 = tables.WINDOWS_1257
index_of encodings.Windows1258 = tables.WINDOWS_1258
index_of encodings.XMacCyrillic = tables.X_MAC_CYRILLIC
index_of _ = []

-- "single-byte decoder's handler"
abbrev pub single_byte_item : Encoding → ℕ → Option ℕ
single_byte_item encoding byte = cond (nat_lt byte 128) (Some byte) (entry_item (slice_index (index_of encoding) (byte - 128)))

-- "x-user-defined decoder's handler"
abbrev pub user_defined_item : ℕ → Option ℕ
user_defined_item byte = cond (nat_lt byte 128) (Some byte) (code_point (0xF780 + (byte - 128)))
