use Rattle.std.proofs.Common.{◌≡◌, ◌∙◌, ℕ, List, [], ◌∷◌, ◌++◌, ap, arith}
use Rattle.std.proofs.lemmas.Grind.{common_steps}
use Rattle.html_extracts.proofs.lines.push_doctype.Goals as goal

chained : (old head name ids one two three four : List ℕ) → one ≡ old ++ head → two ≡ one ++ name → three ≡ two
    ++ ids → four ≡ three ++ (62 ∷ 10 ∷ [])
    → four ≡ old ++ (head ++ (((name ++ ids) ++ (62 ∷ [])) ++ (10 ∷ [])))
chained old head name ids one two three four e1 e2 e3 e4 = grind (arith, common_steps)

pub returns-clause-ok : goal.returns-clause-ok
returns-clause-ok c =
    chained _ (124 ∷ 32 ∷ 60 ∷ 33 ∷ 68 ∷ 79 ∷ 67 ∷ 84 ∷ 89 ∷ 80 ∷ 69 ∷ 32 ∷ []) _ _ _ _ _ _ c.in_ok-extend_from_slice.ensures.items
    (c.in_ok-extend_from_slice-2.ensures.items ∙ ap (λ (bytes : List ℕ). c.extend_from_slice.new.self.items
    ++ bytes) c.as_bytes.ensures.value)
    c.in_ok-push_identifiers.ensures.ok c.in_ok-extend_from_slice-3.ensures.items
