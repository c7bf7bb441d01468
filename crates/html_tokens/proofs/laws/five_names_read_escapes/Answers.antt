use Rattle.std.proofs.Common.{Bool, true, false, refl}
use Rattle.html_tokens.proofs.laws.five_names_read_escapes.Goals as goal

-- in text and in a value
either : (P : Bool → Type 0) → P false → P true → (in_value : Bool) → P in_value
either P text value false = text
either P text value true = value

pub returns : goal.returns
returns c = record {
  amp = either _ (λ t. refl) (λ t. refl);
  lt = either _ (λ t. refl) (λ t. refl);
  gt = either _ (λ t. refl) (λ t. refl);
  quot = either _ (λ t. refl) (λ t. refl);
  nbsp = either _ (λ t. refl) (λ t. refl);
}
