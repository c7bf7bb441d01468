use Rattle.std.proofs.Common.{List, ℕ, map, refl}
use Rattle.std.specs.Prelude.{codes}
use Rattle.std.specs.Str.{chars}
use Rattle.html_clean.specs.Ready.{addition_parts, rule_names}
use Rattle.html_clean.specs.declared.policy.Addition.{Addition}
use Rattle.html_clean.specs.declared.policy.Rule.{Rule}
use Rattle.html_clean.specs.declared.policy.ValueRule.{ValueRule}
use Rattle.html_clean.specs.Limits.{limit_parts}
use Rattle.html_policy_text.specs.Written.{addition_text, flag_text, limit_text, list_text, rule_text, texts_of}
use Rattle.html_policy_text.proofs.Writes.{piece-more}
use Rattle.html_policy_text.proofs.writing.write_lines.Goals as goal

abbrev rule_lines : List Rule → List ℕ
rule_lines rules = texts_of rule_text (map rule_names rules)

abbrev limit_lines : List ValueRule → List ℕ
limit_lines rules = texts_of limit_text (map limit_parts rules)

abbrev addition_lines : List Addition → List ℕ
addition_lines added = texts_of addition_text (map addition_parts added)

pub returns-clause-ok : goal.returns-clause-ok
unfolding chars
returns-clause-ok c =
    let policy = c.args.policy.now in
    let t1 = piece-more rule_lines c.empty-text.result _ c.write_rules.new.text c.deref.result.now policy.kept.items
    c.in_ok-write_rules.ensures.ok c.empty-text.ensures c.deref.ensures.value in
    let t2 = piece-more (list_text (codes "drop")) c.write_rules.new.text _ c.write_names.new.text c.deref-2.result.now policy.dropped.items
    c.in_ok-write_names.ensures.ok t1 c.deref-2.ensures.value in
    let t3 = piece-more (list_text (codes "attribute")) c.write_names.new.text _ c.write_names-2.new.text c.deref-3.result.now policy.everywhere.items
    c.in_ok-write_names-2.ensures.ok t2 c.deref-3.ensures.value in
    let t4 = piece-more (list_text (codes "beginning")) c.write_names-2.new.text _ c.write_words.new.text c.deref-4.result.now policy.beginnings.items
    c.in_ok-write_words.ensures.ok t3 c.deref-4.ensures.value in
    let t5 = piece-more limit_lines c.write_words.new.text _ c.write_limits.new.text c.deref-5.result.now policy.values.items
    c.in_ok-write_limits.ensures.ok t4 c.deref-5.ensures.value in
    let t6 = piece-more addition_lines c.write_limits.new.text _ c.write_additions.new.text c.deref-6.result.now policy.added.items
    c.in_ok-write_additions.ensures.ok t5 c.deref-6.ensures.value in
    let t7 = piece-more (list_text (codes "url")) c.write_additions.new.text _ c.write_names-3.new.text c.deref-7.result.now policy.urls.items
    c.in_ok-write_names-3.ensures.ok t6 c.deref-7.ensures.value in
    let t8 = piece-more (list_text (codes "scheme")) c.write_names-3.new.text _ c.write_words-2.new.text c.deref-8.result.now policy.schemes.items
    c.in_ok-write_words-2.ensures.ok t7 c.deref-8.ensures.value in
    let t9 = piece-more (flag_text (codes "relative")) c.write_words-2.new.text _ c.write_flag.new.text policy.allows_relative
    policy.allows_relative c.in_ok-write_flag.ensures.ok t8 refl in
    piece-more (flag_text (codes "host")) c.write_flag.new.text _ c.write_flag-2.new.text policy.allows_hosts policy.allows_hosts
    c.in_ok-write_flag-2.ensures.ok t9 refl
