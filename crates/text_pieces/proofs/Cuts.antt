-- Texts that are cut.
use Rattle.std.proofs.Common.{◌≡◌, ◌∙◌, ℕ, List, ◌++◌, take, drop, sym, ap}
use Rattle.std.specs.Prelude.{IsUtf8}
use Rattle.std.specs.Str.{chars}
use Rattle.std.proofs.lemmas.List.{take-append-drop}
use Rattle.std.proofs.lemmas.Str.{chars-append}

-- the characters of a text that is cut are those of both parts
pub chars-cut : (bs : List ℕ) (n : ℕ) → IsUtf8 (take n bs) → chars bs ≡ chars (take n bs) ++ chars (drop n bs)
chars-cut bs n front = ap chars (sym (take-append-drop n bs)) ∙ chars-append (take n bs) (drop n bs) front
