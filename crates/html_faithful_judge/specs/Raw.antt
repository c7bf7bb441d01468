-- Raw text, by its bytes.
use Rattle.std.specs.Prelude.{◌≡◌, ◌<◌, ℕ, Bool, true, false, ◌&&◌, ◌||◌, not, nat_eq, List, [], ◌∷◌, Option, MatchOption, length, slice_index}
use Rattle.html_tokens.specs.RawText.{ends_at_tag, next_kind, slash_name}
use Rattle.html_tokens.specs.declared.states.RawKind.{RawKind}
use Rattle.html_tokens.specs.declared.states.RawKind.TheVariants.{ScriptDataEscaped}

-- whether a hyphen may change how text of a kind goes on
abbrev pub has_hyphens : RawKind → Bool
has_hyphens (ScriptDataEscaped kind) = true
has_hyphens kind = false

-- whether text of a kind may end at a byte, or go on in another way
abbrev pub is_sign : RawKind → ℕ → Bool
is_sign kind b = nat_eq b 60 || (has_hyphens kind && nat_eq b 45)

-- the place of the first such byte
abbrev pub IsFirstSign : RawKind → List ℕ → Option ℕ → Type 0
IsFirstSign kind bytes found =
    MatchOption found ((k : ℕ) → k < length bytes → is_sign kind (slice_index bytes k) ≡ false)
    (λ at. (at < length bytes) × ((k : ℕ) → k < at → is_sign kind (slice_index bytes k) ≡ false))

-- whether raw text ends with an element's end tag after it, and not before; no end and no escape begins in it and goes on in that tag
abbrev pub goes_on_here : RawKind → List ℕ → List ℕ → Bool
goes_on_here kind name [] = ends_at_tag kind
goes_on_here kind name (b ∷ bs) = not (nat_eq b 0x3C && ends_at_tag kind && slash_name name bs) && goes_on_here (next_kind kind b bs) name bs
