use Rattle.std.proofs.Common.{◌≡◌, ◌∙◌, List, ℕ, Bool, true, ap, sym, codes}
use Rattle.std.specs.Prelude.{◌&&◌}
use Rattle.std.specs.Str.{bytes_eq}
use Rattle.html_extracts.proofs.Spelled.{bytes_of}
use Rattle.html_extracts.proofs.lines.is_template.Goals as goal

both : (a b r : Bool) → a ≡ true → r ≡ b → r ≡ (a && b)
both a b r h e = rw h e

pub returns-then-is_known : goal.returns-then-is_known
returns-then-is_known c =
    both _ _ _ (sym c.is_known.ensures ∙ c.if-is_known.true)
    (c.eq.ensures ∙ ap (λ (bytes : List ℕ). bytes_eq bytes (codes "template"))
    (bytes_of c.as_str.result.now _ c.as_str.utf8 c.as_str.ensures))
