-- EUC-JP and Shift_JIS (Encoding Standard, section 12).
use Rattle.std.specs.Prelude.{ℕ, ◌+◌, ◌-◌, ◌*◌, Bool, true, false, cond, ◌&&◌, ◌||◌, Option, Some, None, nat_le, nat_lt}
use Rattle.std.specs.Prelude.{◌==◌, not}
use Rattle.html_encodings.specs.Handlers.{Step, silent, writes}
use Rattle.html_encodings_multibyte.specs.Indexes.{jis0208_index, jis0212_index, item_at}
use Rattle.html_encodings_multibyte.specs.Pairs.{is_within, second_items}
use Rattle.html_encodings_multibyte.specs.declared.euc_jp.EucJp.{EucJp}
use Rattle.html_encodings_multibyte.specs.declared.shift_jis.ShiftJis.{ShiftJis}

-- a pointer of rows of 94
abbrev pub row_pointer : ℕ → ℕ → ℕ
row_pointer lead byte = (lead - 0xA1) * 94 + (byte - 0xA1)

-- "EUC-JP decoder's handler" (12.1.1)

abbrev pub euc_jp_state : ℕ → Bool → EucJp
euc_jp_state lead is_jis0212 = record { lead = lead; is_jis0212 = is_jis0212 }

abbrev pub euc_jp_item : Bool → ℕ → ℕ → Option ℕ
euc_jp_item is_jis0212 lead byte = cond (is_within 0xA1 0xFE lead && is_within 0xA1 0xFE byte)
    (cond is_jis0212 (item_at jis0212_index (row_pointer lead byte)) (item_at jis0208_index (row_pointer lead byte))) None

abbrev pub euc_jp_second : Bool → ℕ → ℕ → Step EucJp
euc_jp_second is_jis0212 lead byte =
    cond ((lead == 0x8E) && is_within 0xA1 0xDF byte) (writes (Some (0xFF61 + (byte - 0xA1))) (euc_jp_state 0 is_jis0212))
    (cond ((lead == 0x8F) && is_within 0xA1 0xFE byte) (silent (euc_jp_state byte true))
    (record { written = second_items (euc_jp_item is_jis0212 lead byte) byte; state = euc_jp_state 0 false }))

abbrev pub euc_jp_lead : EucJp → ℕ → Step EucJp
euc_jp_lead state byte =
    cond (nat_lt byte 128) (writes (Some byte) state)
    (cond (is_within 0x8E 0x8F byte || is_within 0xA1 0xFE byte) (silent (euc_jp_state byte state.is_jis0212)) (writes None state))

abbrev pub euc_jp_step : EucJp → ℕ → Step EucJp
euc_jp_step state byte = cond (not (state.lead == 0)) (euc_jp_second state.is_jis0212 state.lead byte) (euc_jp_lead state byte)

-- "Shift_JIS decoder's handler" (12.3.1)

abbrev pub shift_jis_pointer : ℕ → ℕ → ℕ
shift_jis_pointer lead byte = (lead - cond (nat_lt lead 0xA0) 0x81 0xC1) * 188 + (byte - cond (nat_lt byte 0x7F) 0x40 0x41)

-- what stands between the rows of jis0208 is in the private use area
abbrev pub shift_jis_item_at : ℕ → Option ℕ
shift_jis_item_at pointer = cond (is_within 8836 10715 pointer) (Some (0xE000 + (pointer - 8836))) (item_at jis0208_index pointer)

abbrev pub shift_jis_item : ℕ → ℕ → Option ℕ
shift_jis_item lead byte = cond (is_within 0x40 0x7E byte || is_within 0x80 0xFC byte)
    (shift_jis_item_at (shift_jis_pointer lead byte)) None

abbrev pub shift_jis_step : ShiftJis → ℕ → Step ShiftJis
shift_jis_step state byte =
    cond (not (state.lead == 0)) (record { written = second_items (shift_jis_item state.lead byte) byte; state = record { lead = 0 } })
    (cond (nat_le byte 128) (writes (Some byte) state)
    (cond (is_within 0xA1 0xDF byte) (writes (Some (0xFF61 + (byte - 0xA1))) state)
    (cond (is_within 0x81 0x9F byte || is_within 0xE0 0xFC byte) (silent (record { lead = byte })) (writes None state))))
