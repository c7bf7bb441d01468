-- The text that is tokenized (HTML Standard, sections 13.2.3.5 and 13.2.5; Infra Standard, "normalize newlines").
use Rattle.std.specs.Prelude.{ℕ, Bool, true, false, ◌&&◌, nat_eq, List, [], ◌∷◌}

abbrev pub newline_by : Bool → Bool → ℕ → (Bool → List ℕ) → List ℕ
newline_by true after c go = 10 ∷ go true
newline_by false true c go = go false
newline_by false false c go = c ∷ go false

-- a text after a carriage return, or after none: CR LF and CR are one LF each
abbrev pub newlines_after : Bool → List ℕ → List ℕ
newlines_after cr [] = []
newlines_after cr (c ∷ t) = newline_by (nat_eq c 13) (cr && nat_eq c 10) c (λ b. newlines_after b t)

abbrev pub newlines : List ℕ → List ℕ
newlines t = newlines_after false t

abbrev pub without_mark_by : Bool → ℕ → List ℕ → List ℕ
without_mark_by true c t = t
without_mark_by false c t = c ∷ t

-- a text without a byte order mark at its front, where that is to be dropped
abbrev pub without_mark : Bool → List ℕ → List ℕ
without_mark discard_bom [] = []
without_mark discard_bom (c ∷ t) = without_mark_by (discard_bom && nat_eq c 0xFEFF) c t

-- the normalised text of a whole stream
abbrev pub normal_text : Bool → List ℕ → List ℕ
normal_text discard_bom t = newlines (without_mark discard_bom t)
