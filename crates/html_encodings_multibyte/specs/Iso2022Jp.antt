-- ISO-2022-JP (Encoding Standard, section 12.2.1: "ISO-2022-JP decoder's handler").
use Rattle.std.specs.Prelude.{ℕ, ◌+◌, ◌-◌, ◌*◌, true, false, cond, ◌&&◌, ◌||◌, Option, Some, None, List, [], ◌∷◌, ◌++◌}
use Rattle.std.specs.Prelude.{nat_lt, ◌==◌, not}
use Rattle.html_encodings.specs.Handlers.{Step, silent, writes, past}
use Rattle.html_encodings_multibyte.specs.Indexes.{jis0208_index, item_at}
use Rattle.html_encodings_multibyte.specs.Pairs.{is_within}
use Rattle.html_encodings_multibyte.specs.declared.iso_2022_jp.Mode.{Mode}
use Rattle.html_encodings_multibyte.specs.declared.iso_2022_jp.Mode.TheVariants.{Ascii, Roman, Katakana, LeadByte, TrailByte, EscapeStart}
use Rattle.html_encodings_multibyte.specs.declared.iso_2022_jp.Mode.TheVariants.{Escape}
use Rattle.html_encodings_multibyte.specs.declared.iso_2022_jp.Iso2022Jp.{Iso2022Jp}

-- an error or a character is written, which is output
abbrev pub outputs : Option ℕ → Iso2022Jp → Step Iso2022Jp
outputs item state = writes item (record { state = state.state; output_state = state.output_state; lead = state.lead; has_output = false })

abbrev pub turns_to : Mode → Iso2022Jp → Iso2022Jp
turns_to mode state = record { state = mode; output_state = state.output_state; lead = state.lead; has_output = state.has_output }

-- a byte that is no control of shifting, in ASCII
abbrev pub ascii_item : ℕ → Option ℕ
ascii_item byte = cond (nat_lt byte 128 && not ((byte == 0x0E) || (byte == 0x0F))) (Some byte) None

abbrev pub roman_item : ℕ → Option ℕ
roman_item byte = cond (byte == 0x5C) (Some 0xA5) (cond (byte == 0x7E) (Some 0x203E) (ascii_item byte))

abbrev pub katakana_item : ℕ → Option ℕ
katakana_item byte = cond (is_within 0x21 0x5F byte) (Some (0xFF61 + (byte - 0x21))) None

abbrev pub trail_item : ℕ → ℕ → Option ℕ
trail_item lead byte = cond (is_within 0x21 0x7E byte) (item_at jis0208_index ((lead - 0x21) * 94 + (byte - 0x21))) None

abbrev pub lead_step : Iso2022Jp → ℕ → Step Iso2022Jp
lead_step state byte = cond (is_within 0x21 0x7E byte)
    (silent (record { state = TrailByte; output_state = state.output_state; lead = byte; has_output = false }))
    (outputs None state)

-- a byte that begins no escape, outside of escapes
abbrev pub shown_step : Mode → Iso2022Jp → ℕ → Step Iso2022Jp
shown_step Ascii state byte = outputs (ascii_item byte) state
shown_step Roman state byte = outputs (roman_item byte) state
shown_step Katakana state byte = outputs (katakana_item byte) state
shown_step LeadByte state byte = lead_step state byte
shown_step TrailByte state byte = writes (trail_item state.lead byte) (turns_to LeadByte state)
shown_step EscapeStart state byte = silent state
shown_step Escape state byte = silent state

-- an escape begins; within a character it is an error
abbrev pub escape_items : Mode → List (Option ℕ)
escape_items TrailByte = None ∷ []
escape_items mode = []

-- a byte outside of escapes
abbrev pub plain_step : Iso2022Jp → ℕ → Step Iso2022Jp
plain_step state byte = cond (byte == 0x1B) (record { written = escape_items state.state; state = turns_to EscapeStart state })
    (shown_step state.state state byte)

-- what was no escape is put back, and read in the output state
abbrev pub back_in : Iso2022Jp → Iso2022Jp
back_in state = record { state = state.output_state; output_state = state.output_state; lead = 0; has_output = false }

abbrev pub back_in_with : Iso2022Jp → Iso2022Jp
back_in_with state = record { state = state.output_state; output_state = state.output_state; lead = state.lead; has_output = false }

abbrev pub start_step : Iso2022Jp → ℕ → Step Iso2022Jp
start_step state byte = cond ((byte == 0x24) || (byte == 0x28))
    (silent (record { state = Escape; output_state = state.output_state; lead = byte; has_output = state.has_output }))
    (past (None ∷ []) (plain_step (back_in_with state) byte))

-- what an escape turns to
abbrev pub escaped : ℕ → ℕ → Option Mode
escaped lead byte =
    cond ((lead == 0x28) && (byte == 0x42)) (Some Ascii)
    (cond ((lead == 0x28) && (byte == 0x4A)) (Some Roman)
    (cond ((lead == 0x28) && (byte == 0x49)) (Some Katakana)
    (cond ((lead == 0x24) && ((byte == 0x40) || (byte == 0x42))) (Some LeadByte) None)))

-- the two bytes of no escape are read in the output state
abbrev pub two_steps : Iso2022Jp → ℕ → ℕ → Step Iso2022Jp
two_steps state lead byte = let first = plain_step state lead in past first.written (plain_step first.state byte)

-- an escape turns to another state, which is an error where nothing was output since the last one
abbrev pub escape_to : Option Mode → Iso2022Jp → ℕ → Step Iso2022Jp
escape_to (Some mode) state byte = record {
  written = cond state.has_output (None ∷ []) [];
  state = record { state = mode; output_state = mode; lead = 0; has_output = true };
}
escape_to None state byte = past (None ∷ []) (two_steps (back_in state) state.lead byte)

abbrev pub iso_2022_jp_by : Mode → Iso2022Jp → ℕ → Step Iso2022Jp
iso_2022_jp_by EscapeStart state byte = start_step state byte
iso_2022_jp_by Escape state byte = escape_to (escaped state.lead byte) state byte
iso_2022_jp_by mode state byte = plain_step state byte

abbrev pub iso_2022_jp_step : Iso2022Jp → ℕ → Step Iso2022Jp
iso_2022_jp_step state byte = iso_2022_jp_by state.state state byte

-- the end of the input within a character or an escape is an error; a byte that is put back is read once more before it
abbrev pub held_items : Mode → List (Option ℕ)
held_items TrailByte = None ∷ []
held_items mode = []

abbrev pub end_by : Mode → Iso2022Jp → List (Option ℕ)
end_by EscapeStart state = None ∷ []
end_by Escape state = let first = plain_step (back_in state) state.lead in (None ∷ []) ++ (first.written ++ held_items first.state.state)
end_by mode state = held_items mode

abbrev pub iso_2022_jp_end : Iso2022Jp → List (Option ℕ)
iso_2022_jp_end state = end_by state.state state

abbrev pub iso_2022_jp_ready : Iso2022Jp
iso_2022_jp_ready = record { state = Ascii; output_state = Ascii; lead = 0; has_output = false }
