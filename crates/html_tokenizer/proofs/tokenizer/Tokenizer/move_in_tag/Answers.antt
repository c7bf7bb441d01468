use Rattle.std.proofs.Common.{refl}
use Rattle.html_tokenizer.specs.Calls.{answered}
use Rattle.html_tokenizer.proofs.Feeds.Pieces.{moved-nowhere, moved-one}
use Rattle.html_tokenizer.proofs.Fronts.Runs.{in-tag-still, tag-passes}
use Rattle.html_tokenizer.proofs.tokenizer.Tokenizer.move_in_tag.Goals as goal

pub close_tag-requires-clause-at : goal.close_tag-requires-clause-at
close_tag-requires-clause-at g c = in-tag-still c.args.self.now c.next_char.new.self c.requires.at

pub returns-then-c-eq62 : goal.returns-then-c-eq62
returns-then-c-eq62 g c =
    let m = g.Sink.TokenSink in
    let mid = record c.args.self.now { stream = c.next_char.new.self } in
    moved-one m c.args.self.now mid c.close_tag.new.self c.args.input.now c.next_char.new.input c.in-Some.c
    (answered c.close_tag.new.answer c.close_tag.result) refl (rw c.in-Some.is at c.next_char.ensures)
    (tag-passes m mid c.close_tag.new.self c.in-Some.c (answered c.close_tag.new.answer c.close_tag.result)
    c.if-c-eq62.true c.close_tag.ensures)

pub returns : goal.returns
returns g c =
    let m = g.Sink.TokenSink in
    moved-one m c.args.self.now (record c.args.self.now { stream = c.next_char.new.self }) c.take.new.self
    c.args.input.now c.next_char.new.input c.in-Some.c (answered c.take.new.answer c.take.result) refl
    (rw c.in-Some.is at c.next_char.ensures) c.take.ensures

pub returns-in_default : goal.returns-in_default
returns-in_default g c =
    let m = g.Sink.TokenSink in
    moved-nowhere m c.args.self.now (record c.args.self.now { stream = c.next_char.new.self }) c.args.input.now
    c.next_char.new.input refl c.in_default.ensures c.requires.ready
