use Rattle.std.proofs.Common.{◌∙◌, [], ◌∷◌, ◌++◌, ap, map}
use Rattle.std.specs.Prelude.{codes}
use Rattle.std.specs.Str.{chars}
use Rattle.html_clean.specs.Limits.{limit_parts}
use Rattle.html_clean.specs.Ready.{addition_parts, rule_names, user_additions, user_ids, user_rules, user_values}
use Rattle.html_clean.specs.declared.policy.Policy.{Policy}
use Rattle.html_clean.proofs.policy.Policy.user_content.Goals as goal

pub returns-clause-ok : goal.returns-clause-ok
unfolding chars
returns-clause-ok c =
    let ready = c.in_ok-policy.ensures.ok in
    let same = c.in_ok-push_additions.ensures.same in
    let same2 = c.in_ok-prefix_user_ids.ensures.same in
    let same1 = c.in_ok-limit_user_values.ensures.same in
    let dir = c.in_ok-push.ensures.items
    ∙ (ap (λ name. c.in_ok-policy.policy.everywhere.items ++ name ∷ []) c.in_ok-from_str.ensures.ok
    ∙ ap (λ list. list ++ codes "dir" ∷ []) ready.everywhere) in
    let everywhere = c.in_ok-push-2.ensures.items
    ∙ (ap (λ name. c.push.new.self.items ++ name ∷ []) c.in_ok-from_str-2.ensures.ok
    ∙ ap (λ list. list ++ codes "id" ∷ []) dir) in
    record {
      kept = ap (λ (p : Policy). map rule_names p.kept.items) same
          ∙ (ap (λ (p : Policy). map rule_names p.kept.items) same2
          ∙ (ap (λ (p : Policy). map rule_names p.kept.items) same1
          ∙ (c.in_ok-push_rules.ensures.ok ∙ ap (λ list. list ++ user_rules) ready.kept)));
      dropped = ap (λ (p : Policy). p.dropped.items) same
          ∙ (ap (λ (p : Policy). p.dropped.items) same2
          ∙ (ap (λ (p : Policy). p.dropped.items) same1 ∙ ready.dropped));
      everywhere = ap (λ (p : Policy). p.everywhere.items) same
          ∙ (ap (λ (p : Policy). p.everywhere.items) same2
          ∙ (ap (λ (p : Policy). p.everywhere.items) same1 ∙ everywhere));
      beginnings = ap (λ (p : Policy). p.beginnings.items) same
          ∙ (ap (λ (p : Policy). p.beginnings.items) same2
          ∙ (ap (λ (p : Policy). p.beginnings.items) same1 ∙ ready.beginnings));
      values = ap (λ (p : Policy). map limit_parts p.values.items) same
          ∙ (c.in_ok-prefix_user_ids.ensures.ok
          ∙ ap (λ list. list ++ user_ids) (c.in_ok-limit_user_values.ensures.ok
          ∙ ap (λ list. map limit_parts list ++ user_values) ready.values));
      added = c.in_ok-push_additions.ensures.ok ∙ ap (λ list. list ++ user_additions)
          (ap (λ (p : Policy). map addition_parts p.added.items) same2
          ∙ (ap (λ (p : Policy). map addition_parts p.added.items) same1 ∙ ap (map addition_parts) ready.added));
      urls = ap (λ (p : Policy). p.urls.items) same
          ∙ (ap (λ (p : Policy). p.urls.items) same2
          ∙ (ap (λ (p : Policy). p.urls.items) same1 ∙ ready.urls));
      schemes = ap (λ (p : Policy). p.schemes.items) same
          ∙ (ap (λ (p : Policy). p.schemes.items) same2
          ∙ (ap (λ (p : Policy). p.schemes.items) same1 ∙ ready.schemes));
      relative = ap (λ (p : Policy). p.allows_relative) same
          ∙ (ap (λ (p : Policy). p.allows_relative) same2
          ∙ (ap (λ (p : Policy). p.allows_relative) same1 ∙ ready.relative));
      hosts = ap (λ (p : Policy). p.allows_hosts) same
          ∙ (ap (λ (p : Policy). p.allows_hosts) same2
          ∙ (ap (λ (p : Policy). p.allows_hosts) same1 ∙ ready.hosts));
    }
