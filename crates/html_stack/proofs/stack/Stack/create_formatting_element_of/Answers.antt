use Rattle.std.proofs.Common.{◌≡◌, ◌∷◌}
use Rattle.markup.specs.Forest.{node_count}
use Rattle.html_rules.specs.State.{Element}
use Rattle.html_stack.specs.Stacks.{Stacked}
use Rattle.html_stack.proofs.Kept.{created-kept, created-step, room-kept}
use Rattle.html_stack.proofs.stack.Stack.create_formatting_element_of.Goals as goal

pub insert_element_of-requires-clause-standing : goal.insert_element_of-requires-clause-standing
insert_element_of-requires-clause-standing g c =
    rw c.make_room.ensures (room-kept (g.Sink.TreeSink.forest c.args.sink.now) c.args.tag.now c.args.self.now.open_elems
    c.args.self.now.active_formatting c.requires.standing)

pub returns-clause-ok : goal.returns-clause-ok
returns-clause-ok g c s foster =
    let f = g.Sink.TreeSink.forest c.args.sink.now in
    let h = g.Sink.TreeSink.forest c.insert_element_of.new.sink in
    let mid : Stacked = c.insert_element_of.new.self in
    let listed : c.list.new.self ≡ record mid { active_formatting = Element (node_count f) c.args.tag.now ∷ mid.active_formatting } =
    rw (c.in_ok-made.ensures.named, c.in_ok-own.ensures.ok) at c.in_ok-list.ensures.ok in
    created-step c.args.tag.now s c.args.self.now mid c.list.new.self f h
    (rw c.make_room.ensures at (c.in_ok-made.ensures.ok s foster)) listed

pub returns-clause-kept : goal.returns-clause-kept
returns-clause-kept g c =
    let f = g.Sink.TreeSink.forest c.args.sink.now in
    let h = g.Sink.TreeSink.forest c.insert_element_of.new.sink in
    created-kept c.args.tag.now c.args.foster c.args.self.now c.list.new.self f h c.requires.standing (returns-clause-ok g c)
