use Rattle.html_clean_program.proofs.cleaning.clean_one.Goals as goal

pub returns-in-Ok-clause-ok : goal.returns-in-Ok-clause-ok
returns-in-Ok-clause-ok g c = record {
  counts = c.in-Ok.counts;
  cleaned = c.in-Ok.ensures.ok;
  failed = c.tell_counts.ensures.0;
  line = c.tell_counts.ensures.1;
}
