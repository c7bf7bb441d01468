-- Sets of characters.
use Rattle.std.proofs.Common.{◌≡◌, ◌≢◌, ℕ, true, false, nat_eq, ap, sym, ◌∙◌}
use Rattle.std.proofs.lemmas.Bool.{ne_eqb}
use Rattle.html_queue.specs.Set.{has}

-- a character that is not in a set is none of the set
pub differs : (bits c d : ℕ) → has bits d ≡ true → has bits c ≡ false → c ≢ d
differs bits c d within lacks = λ e. let clash : true ≡ false = sym within ∙ ap (has bits) (sym e) ∙ lacks in cc

pub not-member : (bits c d : ℕ) → has bits d ≡ true → has bits c ≡ false → nat_eq c d ≡ false
not-member bits c d within lacks = ne_eqb c d (differs bits c d within lacks)
