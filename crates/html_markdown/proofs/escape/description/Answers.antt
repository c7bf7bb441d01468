use Rattle.std.proofs.Common.{◌∙◌, ◌++◌, ℕ, List, ap, map-id, sym}
use Rattle.std.proofs.lemmas.Iterator.{YieldsList-from_chars}
use Rattle.std.proofs.lemmas.Iterator.Consumers.{YieldsList-end}
use Rattle.html_markdown.specs.Description as spec
use Rattle.html_markdown.proofs.Describing.{description-more}
use Rattle.html_markdown.proofs.escape.description.Goals as goal

pub loop-character-preserved : goal.loop-character-preserved
loop-character-preserved c =
    c.in_ok-push_described.ensures.ok
    ∙ (ap (λ (l : List ℕ). l ++ spec.described c.in-Some.character) c.loop-character.invariant
    ∙ sym (description-more c.loop-character.yielded c.in-Some.character))

pub returns-clause-ok : goal.returns-clause-ok
returns-clause-ok c =
    let all = YieldsList-end (YieldsList-from_chars c.args.text.now c.utf8.text cc) c.loop-character.yielded _
    c.loop-character.yielded_by _ _ c.in-None.is c.next.ensures.steps in
    c.loop-character.invariant ∙ ap spec.description (sym (map-id c.loop-character.yielded) ∙ all.0)
