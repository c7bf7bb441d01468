use Rattle.std.proofs.Common.{◌≡◌, ◌≤◌, drop}
use Rattle.html_markdown.specs.Fence.{longest_from, longest_run}
use Rattle.html_markdown.proofs.code.longest_run.Given as goal

abbrev pub invariant-loop-byte : goal.invariant-loop-byte
invariant-loop-byte l = record {
  same : longest_from l.longest l.run (drop l.byte-index l.byte-items) ≡ longest_run l.fn.text;
  short : l.run ≤ l.byte-index;
  long : l.longest ≤ l.byte-index;
}
