use Rattle.std.proofs.Common.{◌∙◌, ℕ, List, [], ◌∷◌, ◌++◌, ap}
use Rattle.std.specs.Prelude.{codes}
use Rattle.std.specs.Str.{chars}
use Rattle.html_policy_text.specs.Written.{spaced}
use Rattle.html_policy_text.proofs.Writes.{line-with-two, on-ok}
use Rattle.html_policy_text.proofs.writing.write_addition.Goals as goal

pub returns-clause-ok : goal.returns-clause-ok
unfolding chars
returns-clause-ok c =
    let text = c.args.text.now in
    let element = c.args.addition.now.element in
    let name = c.args.addition.now.name in
    let words = c.args.words.now in
    on-ok c.push.result _ _ c.push.ensures.ok (λ ok. ok
    ∙ (ap (λ (t : List ℕ). t ++ 10 ∷ []) (c.in_ok-push_words.ensures.ok
    ∙ ap (λ (t : List ℕ). t ++ spaced words) (c.in_ok-push_spaced-2.ensures.ok
    ∙ (ap (λ (word : List ℕ). c.push_spaced.new.text ++ 32 ∷ word) c.as_str-2.ensures
    ∙ ap (λ (t : List ℕ). t ++ 32 ∷ name) (c.in_ok-push_spaced.ensures.ok
    ∙ (ap (λ (word : List ℕ). c.push_str.new.self ++ 32 ∷ word) c.as_str.ensures
    ∙ ap (λ (t : List ℕ). t ++ 32 ∷ element) c.in_ok-push_str.ensures.ok)))))
    ∙ line-with-two text (codes "add") element name (spaced words)))
