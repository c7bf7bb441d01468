use Rattle.html_nodes.specs.Below.{below}
use Rattle.html_selector_matching.specs.Selects.{is_any, scope_of}
use Rattle.html_selectors.proofs.Finds.{found-next}
use Rattle.html_selectors.proofs.page_index.Index.select_first.Goals as goal

pub returns-clause-ok : goal.returns-clause-ok
returns-clause-ok c =
    let f = c.args.self.now.forest.now in
    found-next (is_any c.args.selectors.now f (scope_of f c.args.top)) (below f c.args.top) c.in_ok-each.each c.next.new.self
    c.next.result c.in_ok-each.ensures.ok c.next.ensures.steps
