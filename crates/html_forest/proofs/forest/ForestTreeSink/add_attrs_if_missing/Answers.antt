use Rattle.html_forest.proofs.Answers.{IsKept-given, given-shown}
use Rattle.html_forest.proofs.forest.ForestTreeSink.add_attrs_if_missing.Goals as goal

pub invariant_of-self : goal.invariant_of-self
invariant_of-self c =
    let there = rw (← c.self.view_is) at c.requires in
    rw c.add_attributes.ensures.links
    (record {
      kept = IsKept-given c.add_attributes.result _ _ _ _ c.args.target.now c.args.attributes c.self.invariant.kept
          there c.add_attributes.ensures.ok c.add_attributes.ensures.err;
      stored = c.add_attributes.ensures.stored;
    })

pub returns-clause-ok : goal.returns-clause-ok
returns-clause-ok c =
    let there = rw (← c.self.view_is) at c.requires in
    rw (← c.self.view_is, c.add_attributes.ensures.links)
    (given-shown c.add_attributes.result _ _ _ _ c.args.target.now c.args.attributes c.self.invariant.kept there
    c.add_attributes.ensures.ok)
