use Rattle.std.proofs.Common.{◌≡◌, ◌∙◌, ap, refl, subst, sym}
use Rattle.html_names.specs.Classes.{IsClassOf}
use Rattle.html_tokens.specs.Sink.{numbered}
use Rattle.html_tokens.specs.declared.tags.Tag.{Tag}
use Rattle.html_tokens.specs.declared.token.Token.TheVariants.{TagToken}
use Rattle.html_rules.specs.Names.{Html}
use Rattle.html_rules.specs.Rules.{Again, Finished, Replied, settle, turn, turn_of}
use Rattle.html_rules.specs.State.{State}
use Rattle.html_tree_builder.specs.Rows.{ending_of}
use Rattle.html_tree_builder.specs.States.{built}
use Rattle.html_tree_builder.specs.Turning.{MayTurn}
use Rattle.html_tree_builder.specs.declared.conclusions.Ending.{Ending}
use Rattle.html_tree_builder.specs.declared.conclusions.Ending.TheVariants as ending
use Rattle.html_tree_builder.proofs.Acted.{its_answers}
use Rattle.html_tree_builder.proofs.MayTurns.{may-turn}
use Rattle.html_tree_builder.proofs.Settles.{all_turns, begins, comes-again, counted-again, counted-begins, counted-finishes}
use Rattle.html_tree_builder.proofs.Settles.{counted-most, counted-replies, fewer, finishes, goes-on, replies}
use Rattle.html_tree_builder.proofs.construction.Construction.settle_tag.Goals as goal
use Rattle.std.proofs.Common.{ℕ}

-- a turn of the tag that the loop has is one of the tag that came
made-of : {H : Type 0} (node : H → ℕ) (r s : State) (e d : Ending H) (old tag : Tag) → e ≡ d → tag ≡ old
    → turn_of r (ending_of node e) ≡ turn (TagToken tag) s → turn_of r (ending_of node d) ≡ turn (TagToken old) s
made-of node r s e d old tag is same made = subst (λ tag. turn_of r (ending_of node d) ≡ turn (TagToken tag) s) same
    (subst (λ e. turn_of r (ending_of node e) ≡ turn (TagToken tag) s) is made)

pub loop-acknowledged-init : goal.loop-acknowledged-init
loop-acknowledged-init g c =
    let t = TagToken c.args.tag.now in
    record {
      tag = refl;
      stands = c.requires.stands;
      may = c.requires.may;
      on = begins t (built g.Sink.TreeSink c.args.self.now (g.Sink.TreeSink.forest c.args.sink.now)) c.requires.settled;
      counted = counted-begins t (built g.Sink.TreeSink c.args.self.now (g.Sink.TreeSink.forest c.args.sink.now)) c.args.turns.now.count;
    }

pub turn_of_tag-requires-clause-stands : goal.turn_of_tag-requires-clause-stands
turn_of_tag-requires-clause-stands g c = c.loop-acknowledged.invariant.stands

pub turn_of_tag-requires-clause-may : goal.turn_of_tag-requires-clause-may
turn_of_tag-requires-clause-may g c =
    subst (λ tag. MayTurn (TagToken tag)
    (built g.Sink.TreeSink c.loop-acknowledged.self (g.Sink.TreeSink.forest c.loop-acknowledged.sink)))
    (sym c.loop-acknowledged.invariant.tag)
    (may-turn (TagToken c.args.tag.now)
    (built g.Sink.TreeSink c.loop-acknowledged.self (g.Sink.TreeSink.forest c.loop-acknowledged.sink)) c.loop-acknowledged.invariant.may)

pub loop-acknowledged-smaller : goal.loop-acknowledged-smaller
loop-acknowledged-smaller g c =
    let sink = g.Sink.TreeSink in
    let t = TagToken c.args.tag.now in
    let s = built sink c.loop-acknowledged.self (sink.forest c.loop-acknowledged.sink) in
    let r = built sink c.turn_of_tag.new.self (sink.forest c.turn_of_tag.new.sink) in
    let made : turn_of r Again ≡ turn t s = made-of sink.node r s _ ending.Again c.args.tag.now
    c.loop-acknowledged.tag c.in-Again.is c.loop-acknowledged.invariant.tag c.in_ok-turn_of_tag.ensures.ok in
    fewer (all_turns c.args.self.now.stack.open_elems) t
    (settle t (built sink c.args.self.now (sink.forest c.args.sink.now))) s r c.loop-acknowledged.invariant.on made

pub loop-acknowledged-preserved : goal.loop-acknowledged-preserved
loop-acknowledged-preserved g c =
    let sink = g.Sink.TreeSink in
    let t = TagToken c.args.tag.now in
    let s = built sink c.loop-acknowledged.self (sink.forest c.loop-acknowledged.sink) in
    let r = built sink c.turn_of_tag.new.self (sink.forest c.turn_of_tag.new.sink) in
    let made : turn_of r Again ≡ turn t s = made-of sink.node r s _ ending.Again c.args.tag.now
    c.loop-acknowledged.tag c.in-Again.is c.loop-acknowledged.invariant.tag c.in_ok-turn_of_tag.ensures.ok in
    record {
      tag = c.in_ok-turn_of_tag.ensures.kept (ap (ending_of sink.node) c.in-Again.is) ∙ c.loop-acknowledged.invariant.tag;
      stands = c.in_ok-turn_of_tag.ensures.stands (ap (ending_of sink.node) c.in-Again.is);
      may = comes-again t s r c.loop-acknowledged.invariant.may made;
      on = goes-on (all_turns c.args.self.now.stack.open_elems) t
          (settle t (built sink c.args.self.now (sink.forest c.args.sink.now))) s r c.loop-acknowledged.invariant.on made;
      counted = counted-again (all_turns c.args.self.now.stack.open_elems) t
          (settle t (built sink c.args.self.now (sink.forest c.args.sink.now))) s r _
          c.loop-acknowledged.turns.count _ c.loop-acknowledged.invariant.on made c.loop-acknowledged.invariant.counted c.add_one.ensures;
    }

pub returns-in-Finished-clause-state : goal.returns-in-Finished-clause-state
returns-in-Finished-clause-state g c =
    let sink = g.Sink.TreeSink in
    let t = TagToken c.args.tag.now in
    let s = built sink c.loop-acknowledged.self (sink.forest c.loop-acknowledged.sink) in
    let r = built sink c.turn_of_tag.new.self (sink.forest c.turn_of_tag.new.sink) in
    let made : turn_of r (Finished c.in-Finished.acknowledged) ≡ turn t s = made-of sink.node r s _
    (ending.Finished c.in-Finished.acknowledged) c.args.tag.now c.loop-acknowledged.tag c.in-Finished.is
    c.loop-acknowledged.invariant.tag c.in_ok-turn_of_tag.ensures.ok in
    let checked = c.check_acknowledged.ensures.state t c.is_self_closing-closes.ensures (its_answers sink) in
    (finishes (all_turns c.args.self.now.stack.open_elems) t
    (settle t (built sink c.args.self.now (sink.forest c.args.sink.now))) s r
    (built sink c.turn_of_tag.new.self (sink.forest c.check_acknowledged.new.sink)) c.in-Finished.acknowledged
    c.loop-acknowledged.invariant.on made checked).0

pub returns-in-Finished-clause-reply : goal.returns-in-Finished-clause-reply
returns-in-Finished-clause-reply g c =
    let sink = g.Sink.TreeSink in
    let t = TagToken c.args.tag.now in
    let s = built sink c.loop-acknowledged.self (sink.forest c.loop-acknowledged.sink) in
    let r = built sink c.turn_of_tag.new.self (sink.forest c.turn_of_tag.new.sink) in
    let made : turn_of r (Finished c.in-Finished.acknowledged) ≡ turn t s = made-of sink.node r s _
    (ending.Finished c.in-Finished.acknowledged) c.args.tag.now c.loop-acknowledged.tag c.in-Finished.is
    c.loop-acknowledged.invariant.tag c.in_ok-turn_of_tag.ensures.ok in
    let checked = c.check_acknowledged.ensures.state t c.is_self_closing-closes.ensures (its_answers sink) in
    (finishes (all_turns c.args.self.now.stack.open_elems) t
    (settle t (built sink c.args.self.now (sink.forest c.args.sink.now))) s r
    (built sink c.turn_of_tag.new.self (sink.forest c.check_acknowledged.new.sink)) c.in-Finished.acknowledged
    c.loop-acknowledged.invariant.on made checked).1

pub returns-in-Replied-clause-state : goal.returns-in-Replied-clause-state
returns-in-Replied-clause-state g c =
    let sink = g.Sink.TreeSink in
    let t = TagToken c.args.tag.now in
    let s = built sink c.loop-acknowledged.self (sink.forest c.loop-acknowledged.sink) in
    let r = built sink c.turn_of_tag.new.self (sink.forest c.turn_of_tag.new.sink) in
    let made : turn_of r (Replied (numbered sink.node c.in-Replied.reply)) ≡ turn t s = made-of sink.node r s _
    (ending.Replied c.in-Replied.reply) c.args.tag.now c.loop-acknowledged.tag c.in-Replied.is
    c.loop-acknowledged.invariant.tag c.in_ok-turn_of_tag.ensures.ok in
    (replies (all_turns c.args.self.now.stack.open_elems) t
    (settle t (built sink c.args.self.now (sink.forest c.args.sink.now))) s r
    (numbered sink.node c.in-Replied.reply) c.loop-acknowledged.invariant.on made).0

pub returns-in-Replied-clause-reply : goal.returns-in-Replied-clause-reply
returns-in-Replied-clause-reply g c =
    let sink = g.Sink.TreeSink in
    let t = TagToken c.args.tag.now in
    let s = built sink c.loop-acknowledged.self (sink.forest c.loop-acknowledged.sink) in
    let r = built sink c.turn_of_tag.new.self (sink.forest c.turn_of_tag.new.sink) in
    let made : turn_of r (Replied (numbered sink.node c.in-Replied.reply)) ≡ turn t s = made-of sink.node r s _
    (ending.Replied c.in-Replied.reply) c.args.tag.now c.loop-acknowledged.tag c.in-Replied.is
    c.loop-acknowledged.invariant.tag c.in_ok-turn_of_tag.ensures.ok in
    (replies (all_turns c.args.self.now.stack.open_elems) t
    (settle t (built sink c.args.self.now (sink.forest c.args.sink.now))) s r
    (numbered sink.node c.in-Replied.reply) c.loop-acknowledged.invariant.on made).1

pub returns-in-Finished-clause-counted : goal.returns-in-Finished-clause-counted
returns-in-Finished-clause-counted g c =
    let sink = g.Sink.TreeSink in
    let t = TagToken c.args.tag.now in
    let s = built sink c.loop-acknowledged.self (sink.forest c.loop-acknowledged.sink) in
    let r = built sink c.turn_of_tag.new.self (sink.forest c.turn_of_tag.new.sink) in
    let made : turn_of r (Finished c.in-Finished.acknowledged) ≡ turn t s = made-of sink.node r s _
    (ending.Finished c.in-Finished.acknowledged) c.args.tag.now c.loop-acknowledged.tag c.in-Finished.is
    c.loop-acknowledged.invariant.tag c.in_ok-turn_of_tag.ensures.ok in
    counted-finishes (all_turns c.args.self.now.stack.open_elems) t
    (settle t (built sink c.args.self.now (sink.forest c.args.sink.now))) s r c.in-Finished.acknowledged _
    c.loop-acknowledged.turns.count _ c.loop-acknowledged.invariant.on made c.loop-acknowledged.invariant.counted c.add_one.ensures

pub returns-in-Replied-clause-counted : goal.returns-in-Replied-clause-counted
returns-in-Replied-clause-counted g c =
    let sink = g.Sink.TreeSink in
    let t = TagToken c.args.tag.now in
    let s = built sink c.loop-acknowledged.self (sink.forest c.loop-acknowledged.sink) in
    let r = built sink c.turn_of_tag.new.self (sink.forest c.turn_of_tag.new.sink) in
    let made : turn_of r (Replied (numbered sink.node c.in-Replied.reply)) ≡ turn t s = made-of sink.node r s _
    (ending.Replied c.in-Replied.reply) c.args.tag.now c.loop-acknowledged.tag c.in-Replied.is
    c.loop-acknowledged.invariant.tag c.in_ok-turn_of_tag.ensures.ok in
    counted-replies (all_turns c.args.self.now.stack.open_elems) t
    (settle t (built sink c.args.self.now (sink.forest c.args.sink.now))) s r
    (numbered sink.node c.in-Replied.reply) _ c.loop-acknowledged.turns.count _ c.loop-acknowledged.invariant.on
    made c.loop-acknowledged.invariant.counted c.add_one.ensures

pub returns-in_err-turn_of_tag-clause-most : goal.returns-in_err-turn_of_tag-clause-most
returns-in_err-turn_of_tag-clause-most g c =
    let sink = g.Sink.TreeSink in
    let t = TagToken c.args.tag.now in
    let s = built sink c.loop-acknowledged.self (sink.forest c.loop-acknowledged.sink) in
    counted-most (all_turns c.args.self.now.stack.open_elems) t
    (settle t (built sink c.args.self.now (sink.forest c.args.sink.now))) s _ c.loop-acknowledged.turns.count _
    c.loop-acknowledged.invariant.on c.loop-acknowledged.invariant.counted c.add_one.ensures

pub returns-in-Finished-clause-most : goal.returns-in-Finished-clause-most
returns-in-Finished-clause-most g c =
    let sink = g.Sink.TreeSink in
    let t = TagToken c.args.tag.now in
    let s = built sink c.loop-acknowledged.self (sink.forest c.loop-acknowledged.sink) in
    counted-most (all_turns c.args.self.now.stack.open_elems) t
    (settle t (built sink c.args.self.now (sink.forest c.args.sink.now))) s _ c.loop-acknowledged.turns.count _
    c.loop-acknowledged.invariant.on c.loop-acknowledged.invariant.counted c.add_one.ensures

pub returns-in-Replied-clause-most : goal.returns-in-Replied-clause-most
returns-in-Replied-clause-most g c =
    let sink = g.Sink.TreeSink in
    let t = TagToken c.args.tag.now in
    let s = built sink c.loop-acknowledged.self (sink.forest c.loop-acknowledged.sink) in
    counted-most (all_turns c.args.self.now.stack.open_elems) t
    (settle t (built sink c.args.self.now (sink.forest c.args.sink.now))) s _ c.loop-acknowledged.turns.count _
    c.loop-acknowledged.invariant.on c.loop-acknowledged.invariant.counted c.add_one.ensures

pub turn_of_tag-requires-clause-class : goal.turn_of_tag-requires-clause-class
turn_of_tag-requires-clause-class g c = subst (λ tag. IsClassOf Html tag.name c.args.class)
    (sym c.loop-acknowledged.invariant.tag) c.requires.class
