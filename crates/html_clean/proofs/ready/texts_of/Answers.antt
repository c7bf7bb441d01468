use Rattle.std.proofs.Common.{◌∙◌, Bor, List, ℕ, [], ◌∷◌, ◌++◌, ap, map}
use Rattle.std.specs.Str.{chars}
use Rattle.std.proofs.lemmas.List.{take_all}
use Rattle.html_clean.proofs.Mapped.{mapped-more}
use Rattle.html_clean.proofs.ready.texts_of.Goals as goal

pub loop-text-preserved : goal.loop-text-preserved
loop-text-preserved c =
    c.in_ok-push.ensures.items
    ∙ (ap (λ made. made ++ c.in_ok-from_str.field-0 ∷ []) c.loop-text.invariant
    ∙ mapped-more (λ (text : Bor (List ℕ)). chars text.now) c.args.list.now c.loop-text.text-index _
    c.in_ok-from_str.field-0 c.loop-text-test.true c.in_ok-from_str.ensures.ok)

pub returns-clause-ok : goal.returns-clause-ok
returns-clause-ok c = c.loop-text.invariant ∙ ap (map (λ (text : Bor (List ℕ)). chars text.now))
    (take_all c.loop-text.text-index c.args.list.now c.loop-text-test.false)
