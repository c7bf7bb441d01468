-- Known names have few bytes.
use Rattle.std.proofs.Common.{◌≡◌, ℕ, ◌<◌, ◌≤◌, Bool, true, false, List, [], ◌∷◌, length, refl, ap, arith}
use Rattle.std.specs.Prelude.{nat_le}
use Rattle.std.specs.List.{list_all, list_any}
use Rattle.std.specs.Str.{bytes_eq}
use Rattle.std.proofs.lemmas.Bool.{and_parts, leb-true}
use Rattle.std.proofs.lemmas.Slice.Eq.{bytes_eq-Decides}
use Rattle.markup.specs.KnownNames.{names}

names-short : list_all (λ name. nat_le (length name) 31) names ≡ true
unfolding names
names-short = refl

differ : (bytes name : List ℕ) (b : Bool) → bytes_eq bytes name ≡ b → length name ≤ 31 → 31 < length bytes → b ≡ false
differ bytes name false e short long = refl
differ bytes name true e short long =
    let same : length bytes ≡ length name = ap length ((bytes_eq-Decides bytes name).0 e) in
    absurd (omega (arith, same, short, long))

none_among : (bytes : List ℕ) (texts : List (List ℕ)) → list_all (λ name. nat_le (length name) 31) texts ≡ true
    → 31 < length bytes → list_any (bytes_eq bytes) texts ≡ false
none_among bytes [] h long = refl
none_among bytes (text ∷ texts) h long =
    let parts = and_parts _ _ h in
    rw (differ bytes text _ refl (leb-true (length text) 31 parts.0) long) (none_among bytes texts parts.1 long)

-- what is longer is no known name
pub none_long : (bytes : List ℕ) → 31 < length bytes → list_any (bytes_eq bytes) names ≡ false
none_long bytes long = none_among bytes names names-short long
