use Rattle.std.proofs.Common.{refl}
use Rattle.html_tokenizer.specs.Calls.{answered}
use Rattle.html_tokenizer.proofs.Feeds.Pieces.{moved-nowhere, moved-one}
use Rattle.html_tokenizer.proofs.tokenizer.Tokenizer.move_by_one.Goals as goal

pub returns-in-Some : goal.returns-in-Some
returns-in-Some g c =
    let m = g.Sink.TokenSink in
    moved-one m c.args.self.now (record c.args.self.now { stream = c.next_char.new.self }) c.take.new.self
    c.args.input.now c.next_char.new.input c.in-Some.c (answered c.take.new.answer c.take.result) refl
    (rw c.in-Some.is at c.next_char.ensures) c.take.ensures

pub returns-in-None : goal.returns-in-None
returns-in-None g c =
    let m = g.Sink.TokenSink in
    moved-nowhere m c.args.self.now (record c.args.self.now { stream = c.next_char.new.self }) c.args.input.now
    c.next_char.new.input refl (rw c.in-None.is at c.next_char.ensures) c.requires.ready
