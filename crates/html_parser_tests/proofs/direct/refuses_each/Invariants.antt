use Rattle.std.proofs.Common.{◌≡◌, false}
use Rattle.html_parser_tests.proofs.direct.refuses_each.Given as goal

abbrev pub invariant-loop-given : goal.invariant-loop-given
invariant-loop-given g l = g.S.TokenSink.has_failed l.sink ≡ false → g.S.TokenSink.is_sound (g.S.TokenSink.view l.sink)
