-- UTF-16 (Encoding Standard, section 14.2: "shared UTF-16 decoder's handler").
use Rattle.std.specs.Prelude.{ℕ, ◌+◌, ◌-◌, ◌*◌, Bool, cond, ◌&&◌, Option, Some, None, List, [], ◌∷◌, nat_le, is_some, ◌||◌}
use Rattle.html_encodings.specs.Handlers.{Step, silent, writes, past, code_point}
use Rattle.html_encodings.specs.declared.utf_16.Utf16.{Utf16}

abbrev pub is_lead : ℕ → Bool
is_lead unit = nat_le 0xD800 unit && nat_le unit 0xDBFF

abbrev pub is_trail : ℕ → Bool
is_trail unit = nat_le 0xDC00 unit && nat_le unit 0xDFFF

-- a code unit where no surrogate stands before: a lead surrogate is held, a trail surrogate is an error
abbrev pub lone_unit : Bool → ℕ → Step Utf16
lone_unit is_big unit = cond (is_lead unit)
    (silent (record { is_big = is_big; lead_byte = None; lead_surrogate = Some unit }))
    (writes (code_point unit) (record { is_big = is_big; lead_byte = None; lead_surrogate = None }))

-- two surrogates are a code point
abbrev pub pair_item : ℕ → ℕ → Option ℕ
pair_item lead trail = code_point (0x10000 + (lead - 0xD800) * 0x400 + (trail - 0xDC00))

-- a code unit
abbrev pub unit_step : Bool → Option ℕ → ℕ → Step Utf16
unit_step is_big None unit = lone_unit is_big unit
unit_step is_big (Some lead) unit = cond (is_trail unit)
    (writes (pair_item lead unit) (record { is_big = is_big; lead_byte = None; lead_surrogate = None }))
    (past (None ∷ []) (lone_unit is_big unit))

-- two bytes are a code unit
abbrev pub unit_of : Bool → ℕ → ℕ → ℕ
unit_of is_big one two = cond is_big (one * 256 + two) (two * 256 + one)

abbrev pub byte_step : Bool → Option ℕ → Option ℕ → ℕ → Step Utf16
byte_step is_big None surrogate byte = silent (record { is_big = is_big; lead_byte = Some byte; lead_surrogate = surrogate })
byte_step is_big (Some one) surrogate byte = unit_step is_big surrogate (unit_of is_big one byte)

abbrev pub utf_16_step : Utf16 → ℕ → Step Utf16
utf_16_step state byte = byte_step state.is_big state.lead_byte state.lead_surrogate byte

abbrev pub utf_16_end : Utf16 → List (Option ℕ)
utf_16_end state = cond (is_some state.lead_byte || is_some state.lead_surrogate) (None ∷ []) []
