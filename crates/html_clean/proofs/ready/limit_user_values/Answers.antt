use Rattle.std.proofs.Common.{[], ◌∷◌, None, Some, append-nil, map, sym}
use Rattle.std.specs.Prelude.{codes}
use Rattle.std.specs.Str.{chars}
use Rattle.html_clean.specs.Limits.{limit_parts}
use Rattle.html_clean.specs.Limits.Limit.{Parts, Texts}
use Rattle.html_clean.proofs.UserContent.{limit-more}
use Rattle.html_clean.proofs.ready.limit_user_values.Goals as goal

pub returns-clause-ok : goal.returns-clause-ok
unfolding chars
returns-clause-ok c =
    let base = map limit_parts c.args.policy.now.values.items in
    let one = limit-more base [] c.args.policy.now.values.items c.limit.new.self.values.items (Some (codes "code")) (codes "class")
    c.in_ok-classes.classes (Parts [] (codes "language-" ∷ [])) c.in_ok-limit.ensures.ok c.in_ok-classes.ensures.ok
    (sym (append-nil base)) in
    let two = limit-more base _ c.limit.new.self.values.items c.limit-2.new.self.values.items None (codes "dir")
    c.in_ok-directions.directions (Texts (codes "auto" ∷ codes "ltr" ∷ codes "rtl" ∷ [])) c.in_ok-limit-2.ensures.ok
    c.in_ok-directions.ensures.ok one in
    limit-more base _ c.limit-2.new.self.values.items c.limit-3.new.self.values.items (Some (codes "ol")) (codes "type")
    c.in_ok-kinds.kinds (Texts (codes "1" ∷ codes "a" ∷ codes "i" ∷ [])) c.in_ok-limit-3.ensures.ok c.in_ok-kinds.ensures.ok two
