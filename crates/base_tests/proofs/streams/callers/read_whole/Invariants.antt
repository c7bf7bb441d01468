use Rattle.std.proofs.Common.{◌≡◌, ◌≤◌, length}
use Rattle.std.specs.Io.KnownBytes.{prepend_known}
use Rattle.base_tests.proofs.streams.callers.read_whole.Given as goal

abbrev pub invariant-loop-turn : goal.invariant-loop-turn
invariant-loop-turn g l = record {
  read : g.S.Source.left l.fn.source ≡ prepend_known l.bytes.items (g.S.Source.left l.source);
  none_failed : g.S.Source.failures l.source ≡ g.S.Source.failures l.fn.source;
  enough : l.turn ≤ length l.bytes.items;
}
