use Rattle.std.proofs.Common.{◌<◌, length}
use Rattle.examples.proofs.Feeds.{feeds-less, some-wait}
use Rattle.figpliers.specs.TokenizerCalls.{refusal_of}
use Rattle.examples.proofs.tags.feed_page.Goals as goal

pub loop-tokenizer-smaller : goal.loop-tokenizer-smaller
loop-tokenizer-smaller g c =
    let loop = c.loop-tokenizer in
    let new = c.feed.new in
    let some : 0 < length loop.input.characters = some-wait loop.input.characters c.is_empty.result
    c.is_empty.ensures c.loop-tokenizer-test.true in
    feeds-less g.Sink.TokenSink (refusal_of loop.tokenizer) loop.tokenizer new.self loop.input new.input
    c.in_ok-feed.field-0 some c.in_ok-feed.ensures.gives
