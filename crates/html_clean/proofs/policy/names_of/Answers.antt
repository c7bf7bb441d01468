use Rattle.std.proofs.Common.{◌∙◌, Bor, List, ℕ, [], ◌∷◌, ◌++◌, ap, map}
use Rattle.std.specs.Str.{chars}
use Rattle.std.proofs.lemmas.List.{take_all}
use Rattle.html_clean.proofs.Mapped.{mapped-more}
use Rattle.html_clean.proofs.policy.names_of.Goals as goal

pub loop-name-preserved : goal.loop-name-preserved
loop-name-preserved c =
    c.in_ok-push.ensures.items
    ∙ (ap (λ made. made ++ c.in_ok-from_str.field-0 ∷ []) c.loop-name.invariant
    ∙ mapped-more (λ (text : Bor (List ℕ)). chars text.now) c.args.list.now c.loop-name.name-index _
    c.in_ok-from_str.field-0 c.loop-name-test.true c.in_ok-from_str.ensures.ok)

pub returns-clause-ok : goal.returns-clause-ok
returns-clause-ok c = c.loop-name.invariant ∙ ap (map (λ (text : Bor (List ℕ)). chars text.now))
    (take_all c.loop-name.name-index c.args.list.now c.loop-name-test.false)
