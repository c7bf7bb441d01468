-- The decoders of all encodings.
use Rattle.std.specs.Prelude.{ℕ, false, Option, Some, None, List}
use Rattle.html_encodings.specs.Handlers.{Step, characters}
use Rattle.html_encodings.specs.Decoders.{decoding}
use Rattle.html_encodings.specs.Basic.{within, basic_step, basic_end, basic_start}
use Rattle.html_encodings.specs.declared.names.Encoding.{Encoding}
use Rattle.html_encodings.specs.declared.names.Encoding.TheVariants as encodings
use Rattle.html_encodings.specs.declared.basic.Basic as basic
use Rattle.html_encodings_multibyte.specs.Pairs.{held_end}
use Rattle.html_encodings_multibyte.specs.Chinese.{euc_kr_step, big5_step, gb18030_step, gb18030_end, gb18030_state}
use Rattle.html_encodings_multibyte.specs.Japanese.{euc_jp_step, euc_jp_state, shift_jis_step}
use Rattle.html_encodings_multibyte.specs.Iso2022Jp.{iso_2022_jp_step, iso_2022_jp_end, iso_2022_jp_ready}
use Rattle.html_encodings_multibyte.specs.declared.every.Every.{Every}
use Rattle.html_encodings_multibyte.specs.declared.every.Every.TheVariants.{Basic, Gb18030, Big5, EucKr, EucJp, ShiftJis, Iso2022Jp}

abbrev pub every_step : Every → ℕ → Step Every
every_step (Basic state) byte = within Basic (basic_step state byte)
every_step (Gb18030 state) byte = within Gb18030 (gb18030_step state byte)
every_step (Big5 state) byte = within Big5 (big5_step state byte)
every_step (EucKr state) byte = within EucKr (euc_kr_step state byte)
every_step (EucJp state) byte = within EucJp (euc_jp_step state byte)
every_step (ShiftJis state) byte = within ShiftJis (shift_jis_step state byte)
every_step (Iso2022Jp state) byte = within Iso2022Jp (iso_2022_jp_step state byte)

abbrev pub every_end : Every → List (Option ℕ)
every_end (Basic state) = basic_end state
every_end (Gb18030 state) = gb18030_end state
every_end (Big5 state) = held_end state.lead
every_end (EucKr state) = held_end state.lead
every_end (EucJp state) = held_end state.lead
every_end (ShiftJis state) = held_end state.lead
every_end (Iso2022Jp state) = iso_2022_jp_end state

-- a decoder with a large index at the start of its input
abbrev pub indexed_start : Encoding → Every
indexed_start encodings.Big5 = Big5 (record { lead = 0 })
indexed_start encodings.EucJp = EucJp (euc_jp_state 0 false)
indexed_start encodings.EucKr = EucKr (record { lead = 0 })
indexed_start encodings.Iso2022Jp = Iso2022Jp iso_2022_jp_ready
indexed_start encodings.ShiftJis = ShiftJis (record { lead = 0 })
indexed_start encoding = Gb18030 (gb18030_state 0 0 0)

-- the decoder of an encoding at the start of its input
abbrev pub start_by : Option basic.Basic → Encoding → Every
start_by (Some state) encoding = Basic state
start_by None encoding = indexed_start encoding

abbrev pub every_start : Encoding → Every
every_start encoding = start_by (basic_start encoding) encoding

-- "decode without BOM": the characters that bytes are in an encoding, with U+FFFD for each error
abbrev pub decoded : Encoding → List ℕ → List ℕ
decoded encoding bytes = characters (decoding every_step every_end (every_start encoding) bytes)
