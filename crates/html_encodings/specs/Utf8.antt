-- UTF-8 (Encoding Standard, section 8.1.1: "UTF-8 decoder's handler").
use Rattle.std.specs.Prelude.{ℕ, ◌+◌, ◌-◌, ◌*◌, ◌%◌, ◌^◌, cond, Option, Some, None, List, [], ◌∷◌, nat_le, nat_lt, ◌==◌}
use Rattle.html_encodings.specs.Handlers.{Step, silent, writes, past, code_point}
use Rattle.html_encodings.specs.declared.utf_8.Utf8.{Utf8}

-- no byte is needed
abbrev pub ready : Utf8
ready = record { code = 0; needed = 0; lower = 0x80; upper = 0xBF }

-- so many bytes are needed, the next one within bounds
abbrev pub needing : ℕ → ℕ → ℕ → ℕ → Step Utf8
needing code needed lower upper = silent (record { code = code; needed = needed; lower = lower; upper = upper })

-- a byte where none is needed
abbrev pub lead_step : Utf8 → ℕ → Step Utf8
lead_step state byte =
    cond (nat_le byte 0x7F) (writes (Some byte) state)
    (cond (nat_le byte 0xC1) (writes None state)
    (cond (nat_le byte 0xDF) (needing (byte - 0xC0) 1 0x80 0xBF)
    (cond (nat_le byte 0xEF) (needing (byte - 0xE0) 2 (cond (byte == 0xE0) 0xA0 0x80) (cond (byte == 0xED) 0x9F 0xBF))
    (cond (nat_le byte 0xF4) (needing (byte - 0xF0) 3 (cond (byte == 0xF0) 0x90 0x80) (cond (byte == 0xF4) 0x8F 0xBF))
    (writes None state)))))

-- six bits more, in 32 bits
abbrev pub more_bits : ℕ → ℕ → ℕ
more_bits code byte = (code * 64 % 2 ^ 32 + byte % 64) % 2 ^ 32

abbrev pub utf_8_step : Utf8 → ℕ → Step Utf8
utf_8_step state byte =
    cond (state.needed == 0) (lead_step state byte)
    (cond (nat_lt byte state.lower) (past (None ∷ []) (lead_step ready byte))
    (cond (nat_lt state.upper byte) (past (None ∷ []) (lead_step ready byte))
    (cond (state.needed == 1) (writes (code_point (more_bits state.code byte)) ready)
    (needing (more_bits state.code byte) (state.needed - 1) 0x80 0xBF))))

abbrev pub utf_8_end : Utf8 → List (Option ℕ)
utf_8_end state = cond (state.needed == 0) [] (None ∷ [])
