use Rattle.std.proofs.Common.{refl, ◌≡◌, ◌∙◌, ◌+◌, take, drop, [], ◌∷◌, ◌++◌, sym, ap, subst}
use Rattle.html_plain.specs.Grammar.{are_distinct}
use Rattle.html_plain.proofs.Parts.{HasNames, HasNames-more, distinct-more, new-name, old-name, repeated, split-at, take-at}
use Rattle.html_plain.proofs.attributes.are_many_distinct.Goals as goal

pub returns-then-not-branch-clause-ok : goal.returns-then-not-branch-clause-ok
returns-then-not-branch-clause-ok c =
    let front = take c.loop-attribute.attribute-index c.args.attributes.now in
    let x = c.attribute-item.result in
    let rest = drop (c.loop-attribute.attribute-index + 1) c.args.attributes.now in
    let whole : c.args.attributes.now ≡ front ++ x ∷ rest = split-at _ c.loop-attribute.attribute-index x
    c.loop-attribute-test.true (sym c.attribute-item.is) in
    let old = old-name c.loop-attribute.names c.in_ok-name.name front x _ c.in_ok-name.ensures.ok
    c.loop-attribute.invariant.0 c.in_ok-insert.ensures.added c.if-not-branch.true in
    sym (ap are_distinct whole ∙ repeated front x rest old)

pub loop-attribute-preserved : goal.loop-attribute-preserved
loop-attribute-preserved c =
    let front = take c.loop-attribute.attribute-index c.args.attributes.now in
    let x = c.attribute-item.result in
    let more : take (c.loop-attribute.attribute-index + 1) c.args.attributes.now ≡ front ++ x ∷
    [] = take-at _ c.loop-attribute.attribute-index x c.loop-attribute-test.true (sym c.attribute-item.is) in
    let new = new-name c.loop-attribute.names c.in_ok-name.name front x _ c.in_ok-name.ensures.ok
    c.loop-attribute.invariant.0 c.in_ok-insert.ensures.added c.if-not-branch.false in (
      subst (HasNames c.insert.new.self) (sym more)
          (HasNames-more c.loop-attribute.names c.insert.new.self c.in_ok-name.name front x c.in_ok-name.ensures.ok
          c.loop-attribute.invariant.0 c.in_ok-insert.ensures.updates.0),
      ap are_distinct more ∙ (distinct-more front x ∙ rw (c.loop-attribute.invariant.1, new) refl),
    )
