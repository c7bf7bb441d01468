-- A page in any encoding as UTF-8.
use Rattle.std.specs.declared.alloc.Global.{Global}
use Rattle.std.specs.Prelude.{◌≡◌, ℕ, List, [], Some, String, length, string_bytes}
use Rattle.html_decoded_pages.specs.DecodedPages.{IsDecodedText, unmarked}
use Rattle.html_decoded_pages.specs.declared.page.DecodedPage.{DecodedPage}
use Rattle.html_encodings.specs.Sniffing.{sniffed}
use Rattle.html_encodings.specs.declared.names.Encoding.{Encoding}
use Rattle.html_encodings.specs.declared.names.Encoding.TheVariants.{Big5, EucJp, EucKr, Gb18030, Gbk, Ibm866, Iso2022Jp, Iso8859_2}
use Rattle.html_encodings.specs.declared.names.Encoding.TheVariants.{Iso8859_3, Iso8859_4, Iso8859_5, Iso8859_6, Iso8859_7, Iso8859_8, Iso8859_8I, Iso8859_10}
use Rattle.html_encodings.specs.declared.names.Encoding.TheVariants.{Iso8859_13, Iso8859_14, Iso8859_15, Iso8859_16, Koi8R, Koi8U, Macintosh, Replacement}
use Rattle.html_encodings.specs.declared.names.Encoding.TheVariants.{ShiftJis, Utf8, Utf16be, Utf16le, Windows874, Windows1250, Windows1251, Windows1252}
use Rattle.html_encodings.specs.declared.names.Encoding.TheVariants.{Windows1253, Windows1254, Windows1255, Windows1256, Windows1257, Windows1258, XMacCyrillic, XUserDefined}
use Rattle.html_encodings.specs.declared.sniffing.Why.{Why}
use Rattle.html_encodings.specs.declared.sniffing.Why.TheVariants.{ByteOrderMark, Transport, Declaration, Fallback}
use Rattle.html_input.specs.TableFault.{IsTableFile}
use Rattle.html_tokens.specs.Table.{Row}
use Rattle.html_ffi.specs.Answers.{Fails, Means}
use Rattle.html_ffi.specs.declared.answer.Answer.{Answer}
use Rattle.html_ffi.specs.declared.report.FigDecoded.{FigDecoded}

-- the number of an encoding (Encoding Standard, section 4.2) in C
abbrev pub encoding_number : Encoding → ℕ
encoding_number Big5 = 0
encoding_number EucJp = 1
encoding_number EucKr = 2
encoding_number Gb18030 = 3
encoding_number Gbk = 4
encoding_number Ibm866 = 5
encoding_number Iso2022Jp = 6
encoding_number Iso8859_2 = 7
encoding_number Iso8859_3 = 8
encoding_number Iso8859_4 = 9
encoding_number Iso8859_5 = 10
encoding_number Iso8859_6 = 11
encoding_number Iso8859_7 = 12
encoding_number Iso8859_8 = 13
encoding_number Iso8859_8I = 14
encoding_number Iso8859_10 = 15
encoding_number Iso8859_13 = 16
encoding_number Iso8859_14 = 17
encoding_number Iso8859_15 = 18
encoding_number Iso8859_16 = 19
encoding_number Koi8R = 20
encoding_number Koi8U = 21
encoding_number Macintosh = 22
encoding_number Replacement = 23
encoding_number ShiftJis = 24
encoding_number Utf8 = 25
encoding_number Utf16be = 26
encoding_number Utf16le = 27
encoding_number Windows874 = 28
encoding_number Windows1250 = 29
encoding_number Windows1251 = 30
encoding_number Windows1252 = 31
encoding_number Windows1253 = 32
encoding_number Windows1254 = 33
encoding_number Windows1255 = 34
encoding_number Windows1256 = 35
encoding_number Windows1257 = 36
encoding_number Windows1258 = 37
encoding_number XMacCyrillic = 38
encoding_number XUserDefined = 39

-- how it was found out
abbrev pub why_number : Why → ℕ
why_number ByteOrderMark = 0
why_number Transport = 1
why_number Declaration = 2
why_number Fallback = 3

-- the report of a page that was decoded to so many bytes
abbrev pub decoded_report : ℕ → DecodedPage (String Global) → FigDecoded
decoded_report count page = record {
  length = count;
  errors = page.errors;
  at = 0;
  encoding = encoding_number page.encoding;
  why = why_number page.sniffed.why;
}

-- the report of a page that was not decoded, with the place of the fault
abbrev pub nothing_decoded : ℕ → FigDecoded
nothing_decoded at = record { length = 0; errors = 0; at = at; encoding = 0; why = 0 }

-- A page was decoded, with a label that came with it, by the table of references that a file's bytes hold: where nothing says the encoding,
-- as windows-1252.
pub record IsDecodedBy (file label page : List ℕ) (made : DecodedPage (String Global)) : Type 0 where
  pub rows : List Row
  pub table : IsTableFile file (Some []) rows
  pub is : let found = sniffed page (Some label) Windows1252 in IsDecodedText rows found (unmarked found page) made

-- Bytes are the text of a page, with the report of it.
pub record IsDecodedReport (file label page : List ℕ) (report : FigDecoded) (bytes : List ℕ) : Type 0 where
  pub made : DecodedPage (String Global)
  pub decoded : IsDecodedBy file label page made
  pub text : bytes ≡ string_bytes made.content
  pub report_is : report ≡ decoded_report (length bytes) made

-- what an answer says of the table's bytes, the label and the page, the room before and after the call, and the report
abbrev pub MeansDecoded : (file label page old new : List ℕ) → FigDecoded → Answer → Type 0
MeansDecoded file label page old new report = Means (IsDecodedReport file label page report) (report ≡ nothing_decoded report.at)
    (λ answer. Fails file page answer report.at) old new
