use Rattle.std.proofs.Common.{◌∙◌, List, ℕ, ◌++◌, ap, append_assoc, map, sym}
use Rattle.html_policy_text.specs.Written.{marked, spaced}
use Rattle.html_policy_text.proofs.Writes.{on-ok, spaced-append}
use Rattle.html_policy_text.proofs.writing.push_parts.Goals as goal

pub returns-clause-ok : goal.returns-clause-ok
returns-clause-ok c =
    let text = c.args.text.now in
    let words = c.args.words.now in
    let marks = map marked c.args.beginnings.now in
    on-ok c.push_beginnings.result _ _ c.push_beginnings.ensures.ok (λ ok. ok
    ∙ (ap (λ (t : List ℕ). t ++ spaced marks) c.in_ok-push_words.ensures.ok
    ∙ (append_assoc text (spaced words) (spaced marks) ∙ ap (λ (l : List ℕ). text ++ l) (sym (spaced-append words marks)))))
