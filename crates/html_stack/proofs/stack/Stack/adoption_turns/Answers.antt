use Rattle.std.proofs.Common.{◌≡◌, ◌∙◌, suc, ◌-◌, true, false, sym, ap, arith}
use Rattle.html_rules.specs.Adoption.{adoption_turn, adoption_turns}
use Rattle.html_stack.specs.Adopting.{came_to}
use Rattle.html_stack.specs.Stacks.{joined}
use Rattle.html_stack.proofs.Agencies.{turns-end, turns-none, turns-on}
use Rattle.html_stack.proofs.stack.Stack.adoption_turns.Goals as goal

pub returns-then-not-branch-clause-ok : goal.returns-then-not-branch-clause-ok
returns-then-not-branch-clause-ok g c s on =
    let name = c.args.name.now in
    let before = joined s c.loop-left.self (g.Sink.TreeSink.forest c.loop-left.sink) in
    let after = joined s c.adoption_turn.new.self (g.Sink.TreeSink.forest c.adoption_turn.new.sink) in
    let left = c.loop-left.left in
    let more : left ≡ suc (left - 1) = omega (arith, c.loop-left-test.true) in
    let turn : came_to false after ≡ adoption_turn name before = rw c.if-not-branch.true at (c.in_ok-adoption_turn.ensures.ok s on) in
    turns-end (left - 1) name before after turn ∙ ap (λ n. adoption_turns n name before) (sym more) ∙ c.loop-left.invariant.turns s on

pub loop-left-preserved : goal.loop-left-preserved
loop-left-preserved g c = record {
  turns = λ s on.
      let name = c.args.name.now in
      let before = joined s c.loop-left.self (g.Sink.TreeSink.forest c.loop-left.sink) in
      let after = joined s c.adoption_turn.new.self (g.Sink.TreeSink.forest c.adoption_turn.new.sink) in
      let left = c.loop-left.left in
      let more : left ≡ suc (left - 1) = omega (arith, c.loop-left-test.true) in
      let turn : came_to true after ≡ adoption_turn name before = rw c.if-not-branch.false at (c.in_ok-adoption_turn.ensures.ok s on) in
      turns-on (left - 1) name before after turn ∙ ap (λ n. adoption_turns n name before) (sym more) ∙ c.loop-left.invariant.turns s on;
  kept = c.in_ok-adoption_turn.ensures.kept;
  grown = omega (arith, c.loop-left.invariant.grown, c.in_ok-adoption_turn.ensures.grows);
}

pub returns-clause-ok : goal.returns-clause-ok
returns-clause-ok g c s on =
    let name = c.args.name.now in
    let before = joined s c.loop-left.self (g.Sink.TreeSink.forest c.loop-left.sink) in
    let none : c.loop-left.left ≡ 0 = omega (arith, c.loop-left-test.false) in
    sym (turns-none name before) ∙ ap (λ n. adoption_turns n name before) (sym none) ∙ c.loop-left.invariant.turns s on
