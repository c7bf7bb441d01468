-- What the encodings' runs end before, and what a text begins with.
use Rattle.std.proofs.Common.{◌≡◌, ℕ, ◌<◌, ◌≤◌, true, false, List, refl, arith, nat_eq}
use Rattle.std.specs.Str.{IsUtf8}
use Rattle.std.proofs.lemmas.Bool.Decides.{nat_tests}
use Rattle.html_tokens.specs.Characters.{run}
use Rattle.html_rules.specs.Encodings.{is_space}
use Rattle.html_names.specs.Stops.{stops}
use Rattle.html_names.specs.declared.encodings.Stop.{Stop}
use Rattle.html_names.specs.declared.encodings.Stop.TheVariants.{Dark, DoubleQuote, SingleQuote, ValueEnd}
use Rattle.html_names.proofs.Runs.{IsRunOf, IsRunOf-run}

space-high : (c : ℕ) → 128 ≤ c → is_space c ≡ false
space-high c h = grind (arith, nat_tests)

other : (q c : ℕ) → q < 128 → 128 ≤ c → nat_eq q c ≡ false
other q c l h = grind (arith, nat_tests)

not_semicolon : (c : ℕ) → 128 ≤ c → nat_eq c 59 ≡ false
not_semicolon c h = grind (arith, nat_tests)

-- each stop is told by an ASCII character, or tells all others
pub stops-run : (stop : Stop) (bs : List ℕ) → IsUtf8 bs → IsRunOf (stops stop) bs (run (stops stop) bs)
stops-run Dark bs u = IsRunOf-run (stops Dark) true (record { above = λ c h. rw (space-high c h) refl }) bs u
stops-run DoubleQuote bs u = IsRunOf-run (stops DoubleQuote) false (record { above = λ c h. other 34 c (omega arith) h }) bs u
stops-run SingleQuote bs u = IsRunOf-run (stops SingleQuote) false (record { above = λ c h. other 39 c (omega arith) h }) bs u
stops-run ValueEnd bs u = IsRunOf-run (stops ValueEnd) false (record { above = λ c h. rw (space-high c h) (not_semicolon c h) }) bs u
