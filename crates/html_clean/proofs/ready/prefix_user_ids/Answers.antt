use Rattle.std.proofs.Common.{[], None, Some, append-nil, map, sym}
use Rattle.std.specs.Prelude.{codes}
use Rattle.std.specs.Str.{chars}
use Rattle.html_clean.specs.Limits.{limit_parts}
use Rattle.html_clean.specs.Limits.Limit.{Prefixed}
use Rattle.html_clean.specs.declared.policy.IdForm.TheVariants.{Name, Names, Link}
use Rattle.html_clean.proofs.UserContent.{limit-more}
use Rattle.html_clean.proofs.ready.prefix_user_ids.Goals as goal

pub returns-clause-ok : goal.returns-clause-ok
unfolding chars
returns-clause-ok c =
    let base = map limit_parts c.args.policy.now.values.items in
    let prefix = codes "user-content-" in
    let one = limit-more base [] c.args.policy.now.values.items c.limit.new.self.values.items None (codes "id")
    c.in_ok-id.id (Prefixed Name prefix) c.in_ok-limit.ensures.ok c.in_ok-id.ensures.ok (sym (append-nil base)) in
    let two = limit-more base _ c.limit.new.self.values.items c.limit-2.new.self.values.items (Some (codes "a")) (codes "name")
    c.in_ok-name.name (Prefixed Name prefix) c.in_ok-limit-2.ensures.ok c.in_ok-name.ensures.ok one in
    let three = limit-more base _ c.limit-2.new.self.values.items c.limit-3.new.self.values.items None (codes "href")
    c.in_ok-link.link (Prefixed Link prefix) c.in_ok-limit-3.ensures.ok c.in_ok-link.ensures.ok two in
    limit-more base _ c.limit-3.new.self.values.items c.limit-4.new.self.values.items None (codes "headers")
    c.in_ok-headers.headers (Prefixed Names prefix) c.in_ok-limit-4.ensures.ok c.in_ok-headers.ensures.ok three
