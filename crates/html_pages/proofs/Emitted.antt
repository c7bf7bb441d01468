-- A text without control characters and noncharacters has none when it is normalised either, so that it owes the same errors however
-- exactly errors are reported.
use Rattle.std.proofs.Common.{◌≡◌, ℕ, ◌+◌, ◌≤◌, Bool, true, false, ◌&&◌, nat_eq, min, List, [], ◌∷◌, refl, sym, subst}
use Rattle.std.specs.List.{list_any}
use Rattle.std.specs.Str.{chars}
use Rattle.std.proofs.lemmas.Bool.{or_parts}
use Rattle.html_tokens.specs.Forbidden.{is_forbidden}
use Rattle.html_tokens.specs.NormalText.{newline_by, newlines_after, normal_text, without_mark, without_mark_by}
use Rattle.html_tokens.specs.Owed.{Owed, how_many, nothing_owed, owed_for_text}
use Rattle.html_tokens.specs.Table.{Row}
use Rattle.markup.specs.Forest.{Forest}
use Rattle.html_normal.specs.Document.{CountsErrors, faults_of}
use Rattle.html_pages.specs.Pages.{IsPage}

module _ (passes : ℕ → Bool) where
  counts-none : (t : List ℕ) → list_any passes t ≡ false → how_many passes t ≡ 0
  counts-none [] none = refl
  counts-none (c ∷ t) none =
      let parts = or_parts (passes c) (list_any passes t) none in
      rw (parts.0, counts-none t parts.1) refl

  unmarked-none : (discard_bom : Bool) (t : List ℕ) → list_any passes t ≡ false → list_any passes (without_mark discard_bom t) ≡ false
  unmarked-none discard_bom [] none = refl
  unmarked-none discard_bom (c ∷ t) none = by (discard_bom && nat_eq c 0xFEFF)
    where
      by : (is : Bool) → list_any passes (without_mark_by is c t) ≡ false
      by true = (or_parts (passes c) (list_any passes t) none).1
      by false = none

  newline-none : passes 10 ≡ false → (is second : Bool) (c : ℕ) (go : Bool → List ℕ) → passes c ≡ false
      → ((b : Bool) → list_any passes (go b) ≡ false) → list_any passes (newline_by is second c go) ≡ false
  newline-none feed true second c go first rest = rw (feed, rest true) refl
  newline-none feed false true c go first rest = rest false
  newline-none feed false false c go first rest = rw (first, rest false) refl

  newlines-none : passes 10 ≡ false → (cr : Bool) (t : List ℕ) → list_any passes t ≡ false → list_any passes (newlines_after cr t) ≡ false
  newlines-none feed cr [] none = refl
  newlines-none feed cr (c ∷ t) none =
      let parts = or_parts (passes c) (list_any passes t) none in
      newline-none feed (nat_eq c 13) (cr && nat_eq c 10) c (λ b. newlines_after b t) parts.0
      (λ b. newlines-none feed b t parts.1)

pub owes-nothing : (discard_bom : Bool) (t : List ℕ) → list_any is_forbidden t ≡ false
    → owed_for_text true (normal_text discard_bom t) ≡ nothing_owed
owes-nothing discard_bom t none =
    let normal = newlines-none is_forbidden refl false (without_mark discard_bom t) (unmarked-none is_forbidden discard_bom t none) in
    let zero = counts-none is_forbidden (normal_text discard_bom t) normal in
    rw zero refl

-- so a number of errors counts all that there are, where control characters and noncharacters are reported if the text has any
counts-all : (table : List Row) (exact : Bool) (text : List ℕ) (errors : ℕ) → exact ≡ list_any is_forbidden text
    → CountsErrors table exact text errors → CountsErrors table true text errors
counts-all table true text errors is counts = counts
counts-all table false text errors is counts =
    let nothing : owed_for_text true (normal_text true text) ≡ nothing_owed = owes-nothing true text (sym is) in
    record {
      enough = subst (λ (owed : Owed). min (faults_of table text + owed.faults) 0xffff_ffff_ffff_ffff ≤ errors) (sym nothing) counts.enough;
      none = λ quiet free. counts.none quiet refl;
    }

pub page-of-all : (table : List Row) (exact : Bool) (bytes : List ℕ) (f : Forest) → exact ≡ list_any is_forbidden (chars bytes)
    → IsPage table exact bytes f → IsPage table true bytes f
page-of-all table exact bytes f is page = record {
  document = page.document;
  counts = counts-all table exact (chars bytes) f.errors is page.counts;
}
