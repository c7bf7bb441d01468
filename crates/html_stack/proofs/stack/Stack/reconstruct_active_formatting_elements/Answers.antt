use Rattle.std.proofs.Common.{◌<◌, ◌≤◌, length, arith}
use Rattle.html_rules.specs.Formatting.{reconstruct_active_formatting_elements}
use Rattle.html_stack.proofs.Reopened.{reopens-count, reopens-end, reopens-more, reopens-start}
use Rattle.html_stack.proofs.stack.Stack.reconstruct_active_formatting_elements.Goals as goal

pub loop-place-init : goal.loop-place-init
loop-place-init g c = record {
  kept = c.requires;
  again = reopens-start c.args.foster c.args.self.now (g.Sink.TreeSink.forest c.args.sink.now)
      c.settled-settled.result c.settled-settled.ensures;
}

pub open_again-requires-clause-place : goal.open_again-requires-clause-place
open_again-requires-clause-place g c =
    let count = reopens-count c.args.foster c.args.self.now (g.Sink.TreeSink.forest c.args.sink.now)
    c.loop-place.self (g.Sink.TreeSink.forest c.loop-place.sink) c.loop-place.place c.loop-place.invariant.again in
    omega (arith, count, c.listed-listed.ensures)

pub loop-place-preserved : goal.loop-place-preserved
loop-place-preserved g c =
    let f = g.Sink.TreeSink.forest c.args.sink.now in
    let h = g.Sink.TreeSink.forest c.loop-place.sink in
    let count = reopens-count c.args.foster c.args.self.now f c.loop-place.self h c.loop-place.place c.loop-place.invariant.again in
    let less : c.loop-place.place < length c.loop-place.self.active_formatting = omega (arith, count, c.listed-listed.ensures) in
    record {
      kept = c.in_ok-open_again.ensures.kept;
      again = reopens-more c.args.foster c.args.self.now f c.loop-place.self c.open_again.new.self h
          (g.Sink.TreeSink.forest c.open_again.new.sink) c.loop-place.place c.loop-place.invariant.again less c.in_ok-open_again.ensures.ok;
    }

pub returns-clause-ok : goal.returns-clause-ok
unfolding reconstruct_active_formatting_elements
returns-clause-ok g c s on =
    let all : length c.args.self.now.active_formatting ≤ c.loop-place.place = omega (arith, c.listed-listed.ensures) in
    reopens-end c.args.foster c.args.self.now (g.Sink.TreeSink.forest c.args.sink.now) c.loop-place.self
    (g.Sink.TreeSink.forest c.loop-place.sink) c.loop-place.place c.loop-place.invariant.again all s on
