use Rattle.std.proofs.Common.{◌∙◌, ap, refl, sym}
use Rattle.std.specs.Str.{chars}
use Rattle.std.specs.String.{string_bytes}
use Rattle.html_queue.specs.Queue.{Queue}
use Rattle.html_tokenizer.specs.Calls.{refusal_of}
use Rattle.html_parser.proofs.Feeds.{not-failed, text-taken}
use Rattle.html_parser.proofs.feeding.consume_text.Goals as goal

pub returns-clause-gives : goal.returns-clause-gives
returns-clause-gives g c =
    let pushed = not-failed c.push_back.result c.push_back.ensures.ok (sym c.is_err.ensures.value ∙ c.if-is_err.false) in
    rw c.if-has_failed.false (text-taken g.Sink.TokenSink (refusal_of c.args.tokenizer.now)
    (refusal_of c.feed_all-2.new.tokenizer) c.args.tokenizer.now c.feed_all.new.tokenizer
    c.feed_all-2.new.tokenizer c.args.input.now c.feed_all.new.input c.push_back.new.self
    c.feed_all-2.new.input (chars (string_bytes c.args.text)) c.feed_all-2.result
    c.in_ok-feed_all.ensures.gives (ap (λ (q : Queue). q.characters) pushed) refl c.feed_all-2.ensures.gives)
