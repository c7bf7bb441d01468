use Rattle.html_ffi.proofs.errors.page_errors.Goals as goal

pub returns-clause-ok : goal.returns-clause-ok
returns-clause-ok c = record {
  rows = c.in_ok-table.table;
  table = c.in_ok-table.ensures.ok;
  document = c.in_ok-noted.noted.forest;
  is_page = c.in_ok-noted.ensures.ok;
  errors = c.in_ok-noted.noted.errors.items;
  each = c.in_ok-noted.ensures.all;
  lines = c.in_ok-made.ensures.lines;
  report_is = c.in_ok-made.ensures.report;
}
