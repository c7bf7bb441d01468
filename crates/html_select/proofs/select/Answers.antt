use Rattle.html_select.proofs.select.Goals as goal

pub returns-clause-ok : goal.returns-clause-ok
returns-clause-ok c = record {
  selectors = c.in_ok-selector.selector.selectors;
  text_is = c.in_ok-selector.ensures.exact;
  selected = cc (c.in_ok-select_all.ensures.ok);
}
