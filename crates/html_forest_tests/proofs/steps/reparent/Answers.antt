use Rattle.markup.proofs.Reparented.{not_above-child}
use Rattle.html_forest_tests.proofs.steps.reparent.Goals as goal

pub reparent_children-requires-clause-apart : goal.reparent_children-requires-clause-apart
reparent_children-requires-clause-apart c =
    not_above-child _ _ _ c.get_document-document.ensures.is_forest (c.may_be_above.ensures c.if-may_be_above.false)
