use Rattle.std.proofs.Common.{◌∙◌, ap}
use Rattle.html_rules.specs.Stack.{root_number}
use Rattle.markup.proofs.PutTexts.{IsParent-document}
use Rattle.html_rules_laws.proofs.TreePreserved.StandingTrees.{root-Parent}
use Rattle.html_stack.proofs.stack.Stack.root_or_document.Goals as goal

pub returns-clause-number : goal.returns-clause-number
returns-clause-number g c = c.root_or.ensures g.Sink.TreeSink.node c.get_document-document.ensures.document
    ∙ ap root_number c.open_elems.ensures

pub returns-clause-is_parent : goal.returns-clause-is_parent
returns-clause-is_parent g c f tree h = rw (returns-clause-number g c)
    (root-Parent f c.args.self.now.open_elems 0 (IsParent-document f tree.forest) h)
