use Rattle.std.proofs.Common.{◌∙◌, ◌++◌, Bor, List, ℕ, ap, append-nil, map, sym}
use Rattle.std.specs.Str.{chars}
use Rattle.std.proofs.lemmas.List.{take_all}
use Rattle.html_clean.specs.Ready.{rule_names}
use Rattle.html_clean.proofs.Mapped.{pushed-more}
use Rattle.html_clean.proofs.ready.push_rules.Goals as goal

pub loop-name-init : goal.loop-name-init
loop-name-init c = sym (append-nil (map rule_names c.args.rules.now.items))

pub loop-name-preserved : goal.loop-name-preserved
loop-name-preserved c =
    ap (map rule_names) c.in_ok-push.ensures.items
    ∙ pushed-more rule_names (λ (row : Bor (List ℕ) × Bor (List (Bor (List ℕ)))).
    (chars row.0.now, map (λ (name : Bor (List ℕ)). chars name.now) row.1.now)) c.loop-name.rules.items
    (map rule_names c.args.rules.now.items) c.args.list.now c.loop-name.name-index _ c.in_ok-new.field-0
    c.loop-name.invariant c.loop-name-test.true c.in_ok-new.ensures.ok

pub returns-clause-ok : goal.returns-clause-ok
returns-clause-ok c =
    c.loop-name.invariant
    ∙ ap (λ (list : List _). map rule_names c.args.rules.now.items
    ++ map (λ (row : Bor (List ℕ) × Bor (List (Bor (List ℕ)))).
    (chars row.0.now, map (λ (name : Bor (List ℕ)). chars name.now) row.1.now)) list)
    (take_all c.loop-name.name-index c.args.list.now c.loop-name-test.false)
