use Rattle.html_ffi.proofs.clean.clean_fragment_text.Goals as goal

pub returns-clause-ok : goal.returns-clause-ok
returns-clause-ok c = record {
  rows = c.in_ok-table.table;
  table = c.in_ok-table.ensures.ok;
  policy = c.in_ok-policy.policy;
  ready = c.in_ok-policy.ensures.ok;
  cleaned = c.in_ok-made.ensures.ok;
}
