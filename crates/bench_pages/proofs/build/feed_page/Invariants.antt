use Rattle.std.proofs.Common.{length}
use denote.Text.{Utf8}
use denote.Shadow.{shadow}
use Rattle.html_tokenizer.specs.Calls.{IsReadyIf, refusal}
use Rattle.bench_pages.proofs.build.feed_page.Given as goal

abbrev pub invariant-loop-rest : goal.invariant-loop-rest
invariant-loop-rest g l =
    let m = g.S.TokenSink in
    shadow (Utf8 l.rest) × IsReadyIf m (refusal l.tokenizer.stream) l.tokenizer

abbrev pub decreases-loop-rest : goal.decreases-loop-rest
decreases-loop-rest g l = length l.rest
