-- GBK, gb18030, Big5 and EUC-KR (Encoding Standard, sections 10, 11 and 13).
use Rattle.std.specs.Prelude.{ℕ, ◌+◌, ◌-◌, ◌*◌, cond, ◌&&◌, ◌||◌, Option, Some, None, List, [], ◌∷◌, nat_lt, ◌==◌, not}
use Rattle.html_encodings.specs.Handlers.{Step, silent, writes, past}
use Rattle.html_encodings_multibyte.specs.Indexes.{gb18030_index, big5_index, euc_kr_index, item_at, ranges_item}
use Rattle.html_encodings_multibyte.specs.Pairs.{is_within, second_items}
use Rattle.html_encodings_multibyte.specs.declared.gb18030.Gb18030.{Gb18030}
use Rattle.html_encodings_multibyte.specs.declared.big5.Big5.{Big5}
use Rattle.html_encodings_multibyte.specs.declared.euc_kr.EucKr.{EucKr}

-- "EUC-KR decoder's handler" (13.1.1)
abbrev pub euc_kr_item : ℕ → ℕ → Option ℕ
euc_kr_item lead byte = cond (is_within 0x41 0xFE byte) (item_at euc_kr_index ((lead - 0x81) * 190 + (byte - 0x41))) None

abbrev pub euc_kr_step : EucKr → ℕ → Step EucKr
euc_kr_step state byte =
    cond (not (state.lead == 0)) (record { written = second_items (euc_kr_item state.lead byte) byte; state = record { lead = 0 } })
    (cond (nat_lt byte 128) (writes (Some byte) state)
    (cond (is_within 0x81 0xFE byte) (silent (record { lead = byte })) (writes None state)))

-- "Big5 decoder's handler" (11.1.1)
abbrev pub big5_pointer : ℕ → ℕ → ℕ
big5_pointer lead byte = (lead - 0x81) * 157 + (byte - cond (nat_lt byte 0x7F) 0x40 0x62)

abbrev pub big5_items_at : ℕ → ℕ → List (Option ℕ)
big5_items_at pointer byte =
    cond (pointer == 1133) (Some 0xCA ∷ Some 0x304 ∷ [])
    (cond (pointer == 1135) (Some 0xCA ∷ Some 0x30C ∷ [])
    (cond (pointer == 1164) (Some 0xEA ∷ Some 0x304 ∷ [])
    (cond (pointer == 1166) (Some 0xEA ∷ Some 0x30C ∷ [])
    (second_items (item_at big5_index pointer) byte))))

abbrev pub big5_items : ℕ → ℕ → List (Option ℕ)
big5_items lead byte = cond (is_within 0x40 0x7E byte || is_within 0xA1 0xFE byte) (big5_items_at (big5_pointer lead byte) byte)
    (second_items None byte)

abbrev pub big5_step : Big5 → ℕ → Step Big5
big5_step state byte =
    cond (not (state.lead == 0)) (record { written = big5_items state.lead byte; state = record { lead = 0 } })
    (cond (nat_lt byte 128) (writes (Some byte) state)
    (cond (is_within 0x81 0xFE byte) (silent (record { lead = byte })) (writes None state)))

-- "gb18030 decoder's handler" (10.2.1), which is that of GBK too

abbrev pub gb18030_state : ℕ → ℕ → ℕ → Gb18030
gb18030_state first second third = record { first = first; second = second; third = third }

-- a byte where none is held
abbrev pub gb18030_lead : ℕ → Step Gb18030
gb18030_lead byte =
    cond (nat_lt byte 128) (writes (Some byte) (gb18030_state 0 0 0))
    (cond (byte == 0x80) (writes (Some 0x20AC) (gb18030_state 0 0 0))
    (cond (byte == 0xFF) (writes None (gb18030_state 0 0 0)) (silent (gb18030_state byte 0 0))))

abbrev pub gb18030_pair_item : ℕ → ℕ → Option ℕ
gb18030_pair_item first byte = cond (is_within 0x40 0x7E byte || is_within 0x80 0xFE byte)
    (item_at gb18030_index ((first - 0x81) * 190 + (byte - cond (nat_lt byte 0x7F) 0x40 0x41))) None

abbrev pub gb18030_second : ℕ → ℕ → Step Gb18030
gb18030_second first byte = cond (is_within 0x30 0x39 byte) (silent (gb18030_state first byte 0))
    (record { written = second_items (gb18030_pair_item first byte) byte; state = gb18030_state 0 0 0 })

-- the second byte, which is a digit, is put back with the third
unfoldable pub gb18030_third : ℕ → ℕ → ℕ → Step Gb18030
gb18030_third first second byte = cond (is_within 0x81 0xFE byte) (silent (gb18030_state first second byte))
    (past (None ∷ Some second ∷ []) (gb18030_lead byte))

abbrev pub gb18030_four_item : ℕ → ℕ → ℕ → ℕ → Option ℕ
gb18030_four_item first second third byte =
    ranges_item ((((first - 0x81) * 10 + (second - 0x30)) * 126 + (third - 0x81)) * 10 + (byte - 0x30))

-- the second byte, which is a digit, is put back with the third, which is held again, and the fourth
unfoldable pub gb18030_fourth : ℕ → ℕ → ℕ → ℕ → Step Gb18030
gb18030_fourth first second third byte =
    cond (is_within 0x30 0x39 byte) (writes (gb18030_four_item first second third byte) (gb18030_state 0 0 0))
    (past (None ∷ Some second ∷ []) (gb18030_second third byte))

abbrev pub gb18030_step : Gb18030 → ℕ → Step Gb18030
gb18030_step state byte =
    cond (not (state.third == 0)) (gb18030_fourth state.first state.second state.third byte)
    (cond (not (state.second == 0)) (gb18030_third state.first state.second byte)
    (cond (not (state.first == 0)) (gb18030_second state.first byte) (gb18030_lead byte)))

abbrev pub gb18030_end : Gb18030 → List (Option ℕ)
gb18030_end state = cond (((state.first == 0) && (state.second == 0)) && (state.third == 0)) [] (None ∷ [])
