use Rattle.std.proofs.Common.{◌≡◌, subst}
use Rattle.html_tokens.specs.Sink.{numbered}
use Rattle.html_rules.specs.Rules.{Again, Finished, Replied, settle, turn, turn_of}
use Rattle.html_tree_builder.specs.Rows.{ending_of}
use Rattle.html_tree_builder.specs.States.{built}
use Rattle.html_tree_builder.specs.Told.{token_of}
use Rattle.html_tree_builder.proofs.Acted.{its_answers}
use Rattle.html_tree_builder.proofs.MayTurns.{may-turn}
use Rattle.html_tree_builder.proofs.Settles.{all_turns, begins, comes-again, counted-again, counted-begins, counted-finishes}
use Rattle.html_tree_builder.proofs.Settles.{counted-most, counted-replies, fewer, finishes, goes-on, replies}
use Rattle.html_tree_builder.proofs.construction.Construction.settle.Goals as goal

pub loop-acknowledged-init : goal.loop-acknowledged-init
loop-acknowledged-init g c =
    let t = token_of c.args.told.now.content in
    record {
      stands = c.requires.stands;
      may = c.requires.may;
      on = begins t (built g.Sink.TreeSink c.args.self.now (g.Sink.TreeSink.forest c.args.sink.now)) c.requires.settled;
      counted = counted-begins t (built g.Sink.TreeSink c.args.self.now (g.Sink.TreeSink.forest c.args.sink.now)) c.args.turns.now.count;
    }

pub turn-requires-clause-stands : goal.turn-requires-clause-stands
turn-requires-clause-stands g c = c.loop-acknowledged.invariant.stands

pub turn-requires-clause-may : goal.turn-requires-clause-may
turn-requires-clause-may g c = may-turn (token_of c.args.told.now.content)
    (built g.Sink.TreeSink c.loop-acknowledged.self (g.Sink.TreeSink.forest c.loop-acknowledged.sink)) c.loop-acknowledged.invariant.may

pub loop-acknowledged-smaller : goal.loop-acknowledged-smaller
loop-acknowledged-smaller g c =
    let sink = g.Sink.TreeSink in
    let t = token_of c.args.told.now.content in
    let s = built sink c.loop-acknowledged.self (sink.forest c.loop-acknowledged.sink) in
    let r = built sink c.turn.new.self (sink.forest c.turn.new.sink) in
    let made : turn_of r Again ≡ turn t s = subst (λ e. turn_of r (ending_of sink.node e) ≡ turn t s) c.in-Again.is
    c.in_ok-turn.ensures.ok in
    fewer (all_turns c.args.self.now.stack.open_elems) t
    (settle t (built sink c.args.self.now (sink.forest c.args.sink.now))) s r c.loop-acknowledged.invariant.on made

pub loop-acknowledged-preserved : goal.loop-acknowledged-preserved
loop-acknowledged-preserved g c =
    let sink = g.Sink.TreeSink in
    let t = token_of c.args.told.now.content in
    let s = built sink c.loop-acknowledged.self (sink.forest c.loop-acknowledged.sink) in
    let r = built sink c.turn.new.self (sink.forest c.turn.new.sink) in
    let made : turn_of r Again ≡ turn t s = subst (λ e. turn_of r (ending_of sink.node e) ≡ turn t s) c.in-Again.is
    c.in_ok-turn.ensures.ok in
    record {
      stands = c.in_ok-turn.ensures.stands;
      may = comes-again t s r c.loop-acknowledged.invariant.may made;
      on = goes-on (all_turns c.args.self.now.stack.open_elems) t
          (settle t (built sink c.args.self.now (sink.forest c.args.sink.now))) s r c.loop-acknowledged.invariant.on made;
      counted = counted-again (all_turns c.args.self.now.stack.open_elems) t
          (settle t (built sink c.args.self.now (sink.forest c.args.sink.now))) s r _
          c.loop-acknowledged.turns.count _ c.loop-acknowledged.invariant.on made c.loop-acknowledged.invariant.counted c.add_one.ensures;
    }

pub returns-in-Finished-clause-state : goal.returns-in-Finished-clause-state
returns-in-Finished-clause-state g c =
    let sink = g.Sink.TreeSink in
    let t = token_of c.args.told.now.content in
    let s = built sink c.loop-acknowledged.self (sink.forest c.loop-acknowledged.sink) in
    let r = built sink c.turn.new.self (sink.forest c.turn.new.sink) in
    let made : turn_of r (Finished c.in-Finished.acknowledged) ≡ turn t s =
    subst (λ e. turn_of r (ending_of sink.node e) ≡ turn t s) c.in-Finished.is c.in_ok-turn.ensures.ok in
    let checked = c.check_acknowledged.ensures.state t c.is_self_closing.ensures (its_answers sink) in
    (finishes (all_turns c.args.self.now.stack.open_elems) t
    (settle t (built sink c.args.self.now (sink.forest c.args.sink.now))) s r
    (built sink c.turn.new.self (sink.forest c.check_acknowledged.new.sink)) c.in-Finished.acknowledged
    c.loop-acknowledged.invariant.on made checked).0

pub returns-in-Finished-clause-reply : goal.returns-in-Finished-clause-reply
returns-in-Finished-clause-reply g c =
    let sink = g.Sink.TreeSink in
    let t = token_of c.args.told.now.content in
    let s = built sink c.loop-acknowledged.self (sink.forest c.loop-acknowledged.sink) in
    let r = built sink c.turn.new.self (sink.forest c.turn.new.sink) in
    let made : turn_of r (Finished c.in-Finished.acknowledged) ≡ turn t s =
    subst (λ e. turn_of r (ending_of sink.node e) ≡ turn t s) c.in-Finished.is c.in_ok-turn.ensures.ok in
    let checked = c.check_acknowledged.ensures.state t c.is_self_closing.ensures (its_answers sink) in
    (finishes (all_turns c.args.self.now.stack.open_elems) t
    (settle t (built sink c.args.self.now (sink.forest c.args.sink.now))) s r
    (built sink c.turn.new.self (sink.forest c.check_acknowledged.new.sink)) c.in-Finished.acknowledged
    c.loop-acknowledged.invariant.on made checked).1

pub returns-in-Replied-clause-state : goal.returns-in-Replied-clause-state
returns-in-Replied-clause-state g c =
    let sink = g.Sink.TreeSink in
    let t = token_of c.args.told.now.content in
    let s = built sink c.loop-acknowledged.self (sink.forest c.loop-acknowledged.sink) in
    let r = built sink c.turn.new.self (sink.forest c.turn.new.sink) in
    let made : turn_of r (Replied (numbered sink.node c.in-Replied.reply)) ≡ turn t s =
    subst (λ e. turn_of r (ending_of sink.node e) ≡ turn t s) c.in-Replied.is c.in_ok-turn.ensures.ok in
    (replies (all_turns c.args.self.now.stack.open_elems) t
    (settle t (built sink c.args.self.now (sink.forest c.args.sink.now))) s r
    (numbered sink.node c.in-Replied.reply) c.loop-acknowledged.invariant.on made).0

pub returns-in-Replied-clause-reply : goal.returns-in-Replied-clause-reply
returns-in-Replied-clause-reply g c =
    let sink = g.Sink.TreeSink in
    let t = token_of c.args.told.now.content in
    let s = built sink c.loop-acknowledged.self (sink.forest c.loop-acknowledged.sink) in
    let r = built sink c.turn.new.self (sink.forest c.turn.new.sink) in
    let made : turn_of r (Replied (numbered sink.node c.in-Replied.reply)) ≡ turn t s =
    subst (λ e. turn_of r (ending_of sink.node e) ≡ turn t s) c.in-Replied.is c.in_ok-turn.ensures.ok in
    (replies (all_turns c.args.self.now.stack.open_elems) t
    (settle t (built sink c.args.self.now (sink.forest c.args.sink.now))) s r
    (numbered sink.node c.in-Replied.reply) c.loop-acknowledged.invariant.on made).1

pub returns-in-Finished-clause-counted : goal.returns-in-Finished-clause-counted
returns-in-Finished-clause-counted g c =
    let sink = g.Sink.TreeSink in
    let t = token_of c.args.told.now.content in
    let s = built sink c.loop-acknowledged.self (sink.forest c.loop-acknowledged.sink) in
    let r = built sink c.turn.new.self (sink.forest c.turn.new.sink) in
    let made : turn_of r (Finished c.in-Finished.acknowledged) ≡ turn t s =
    subst (λ e. turn_of r (ending_of sink.node e) ≡ turn t s) c.in-Finished.is c.in_ok-turn.ensures.ok in
    counted-finishes (all_turns c.args.self.now.stack.open_elems) t
    (settle t (built sink c.args.self.now (sink.forest c.args.sink.now))) s r c.in-Finished.acknowledged _
    c.loop-acknowledged.turns.count _ c.loop-acknowledged.invariant.on made c.loop-acknowledged.invariant.counted c.add_one.ensures

pub returns-in-Replied-clause-counted : goal.returns-in-Replied-clause-counted
returns-in-Replied-clause-counted g c =
    let sink = g.Sink.TreeSink in
    let t = token_of c.args.told.now.content in
    let s = built sink c.loop-acknowledged.self (sink.forest c.loop-acknowledged.sink) in
    let r = built sink c.turn.new.self (sink.forest c.turn.new.sink) in
    let made : turn_of r (Replied (numbered sink.node c.in-Replied.reply)) ≡ turn t s =
    subst (λ e. turn_of r (ending_of sink.node e) ≡ turn t s) c.in-Replied.is c.in_ok-turn.ensures.ok in
    counted-replies (all_turns c.args.self.now.stack.open_elems) t
    (settle t (built sink c.args.self.now (sink.forest c.args.sink.now))) s r
    (numbered sink.node c.in-Replied.reply) _ c.loop-acknowledged.turns.count _ c.loop-acknowledged.invariant.on
    made c.loop-acknowledged.invariant.counted c.add_one.ensures

pub returns-in_err-turn-clause-most : goal.returns-in_err-turn-clause-most
returns-in_err-turn-clause-most g c =
    let sink = g.Sink.TreeSink in
    let t = token_of c.args.told.now.content in
    let s = built sink c.loop-acknowledged.self (sink.forest c.loop-acknowledged.sink) in
    counted-most (all_turns c.args.self.now.stack.open_elems) t
    (settle t (built sink c.args.self.now (sink.forest c.args.sink.now))) s _ c.loop-acknowledged.turns.count _
    c.loop-acknowledged.invariant.on c.loop-acknowledged.invariant.counted c.add_one.ensures

pub returns-in-Finished-clause-most : goal.returns-in-Finished-clause-most
returns-in-Finished-clause-most g c =
    let sink = g.Sink.TreeSink in
    let t = token_of c.args.told.now.content in
    let s = built sink c.loop-acknowledged.self (sink.forest c.loop-acknowledged.sink) in
    counted-most (all_turns c.args.self.now.stack.open_elems) t
    (settle t (built sink c.args.self.now (sink.forest c.args.sink.now))) s _ c.loop-acknowledged.turns.count _
    c.loop-acknowledged.invariant.on c.loop-acknowledged.invariant.counted c.add_one.ensures

pub returns-in-Replied-clause-most : goal.returns-in-Replied-clause-most
returns-in-Replied-clause-most g c =
    let sink = g.Sink.TreeSink in
    let t = token_of c.args.told.now.content in
    let s = built sink c.loop-acknowledged.self (sink.forest c.loop-acknowledged.sink) in
    counted-most (all_turns c.args.self.now.stack.open_elems) t
    (settle t (built sink c.args.self.now (sink.forest c.args.sink.now))) s _ c.loop-acknowledged.turns.count _
    c.loop-acknowledged.invariant.on c.loop-acknowledged.invariant.counted c.add_one.ensures

pub turn-requires-clause-told : goal.turn-requires-clause-told
turn-requires-clause-told g c = c.requires.told

pub returns-in-Finished-clause-stands : goal.returns-in-Finished-clause-stands
returns-in-Finished-clause-stands g c = c.check_acknowledged.ensures.stands c.in_ok-turn.ensures.stands

pub returns-in-Replied-clause-stands : goal.returns-in-Replied-clause-stands
returns-in-Replied-clause-stands g c = c.in_ok-turn.ensures.stands
