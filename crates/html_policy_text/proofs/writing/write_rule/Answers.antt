use Rattle.std.proofs.Common.{◌∙◌, ℕ, List, [], ◌∷◌, ◌++◌, ap}
use Rattle.std.specs.Prelude.{codes}
use Rattle.std.specs.Str.{chars}
use Rattle.html_policy_text.specs.Written.{spaced}
use Rattle.html_policy_text.proofs.Writes.{line-with, on-ok}
use Rattle.html_policy_text.proofs.writing.write_rule.Goals as goal

pub returns-clause-ok : goal.returns-clause-ok
unfolding chars
returns-clause-ok c =
    let text = c.args.text.now in
    let element = c.args.rule.now.element in
    let attributes = c.args.rule.now.attributes.items in
    on-ok c.push.result _ _ c.push.ensures.ok (λ ok. ok
    ∙ (ap (λ (t : List ℕ). t ++ 10 ∷ []) (c.in_ok-push_names.ensures.ok
    ∙ (ap (λ (names : List (List ℕ)). c.push_spaced.new.text ++ spaced names) c.deref.ensures.value
    ∙ ap (λ (t : List ℕ). t ++ spaced attributes) (c.in_ok-push_spaced.ensures.ok
    ∙ (ap (λ (word : List ℕ). c.push_str.new.self ++ 32 ∷ word) c.as_str.ensures
    ∙ ap (λ (t : List ℕ). t ++ 32 ∷ element) c.in_ok-push_str.ensures.ok))))
    ∙ line-with text (codes "keep") element (spaced attributes)))
