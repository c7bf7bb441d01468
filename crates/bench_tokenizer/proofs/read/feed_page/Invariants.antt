use Rattle.std.proofs.Common.{◌≡◌, [], length}
use Rattle.std.specs.Str.{chars}
use denote.Text.{Utf8}
use denote.Shadow.{shadow}
use Rattle.bench_tokenizer.specs.Readings.{ReadsPage, Takes}
use Rattle.bench_tokenizer.proofs.read.feed_page.Given as goal

abbrev pub invariant-loop-rest : goal.invariant-loop-rest
invariant-loop-rest l = shadow (Utf8 l.rest)
    × Takes l.tokenizer
    × ReadsPage l.fn.tokenizer l.tokenizer (chars l.fn.page) (chars l.rest)
    × (l.input.characters ≡ [])

abbrev pub decreases-loop-rest : goal.decreases-loop-rest
decreases-loop-rest l = length l.rest
