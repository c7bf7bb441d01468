use Rattle.std.proofs.Common.{◌≡◌, length, ap, subst, arith, None}
use Rattle.html_stack.specs.Reopening.{HasEntry, IsSaidAt}
use Rattle.html_stack.proofs.Reopened.{again-at, again-kept-at, inserted-entries}
use Rattle.html_stack.proofs.stack.Stack.open_again.Goals as goal

pub returns-in_default-clause-ok : goal.returns-in_default-clause-ok
returns-in_default-clause-ok g c newer older n tag e size =
    let none : IsSaidAt c.args.self.now.active_formatting c.args.place None =
    subst (IsSaidAt c.args.self.now.active_formatting c.args.place) c.in_default.is c.in_ok-tag.ensures.said in
    absurd (none newer older n tag e size)

pub relist_at-requires : goal.relist_at-requires
relist_at-requires g c =
    let f = g.Sink.TreeSink.forest c.args.sink.now in
    let h = g.Sink.TreeSink.forest c.insert_element_for.new.sink in
    let same = inserted-entries c.in-Some.tag c.args.foster c.args.self.now c.insert_element_for.new.self f h c.in_ok-made.ensures.ok in
    let count : length c.insert_element_for.new.self.active_formatting ≡ length c.args.self.now.active_formatting = ap length same in
    omega (arith, c.requires.place, count)

pub returns-clause-ok : goal.returns-clause-ok
returns-clause-ok g c =
    let f = g.Sink.TreeSink.forest c.args.sink.now in
    let h = g.Sink.TreeSink.forest c.insert_element_for.new.sink in
    let has : HasEntry c.args.self.now.active_formatting c.args.place c.in-Some.tag =
    subst (IsSaidAt c.args.self.now.active_formatting c.args.place) c.in-Some.is c.in_ok-tag.ensures.said in
    again-at c.in-Some.tag c.args.foster c.args.self.now c.insert_element_for.new.self c.relist_at.new.self f h
    (g.Sink.TreeSink.node c.in_ok-made.made) c.args.place has c.in_ok-made.ensures.named c.in_ok-made.ensures.ok c.relist_at.ensures

pub returns-clause-kept : goal.returns-clause-kept
returns-clause-kept g c =
    let f = g.Sink.TreeSink.forest c.args.sink.now in
    let h = g.Sink.TreeSink.forest c.insert_element_for.new.sink in
    let has : HasEntry c.args.self.now.active_formatting c.args.place c.in-Some.tag =
    subst (IsSaidAt c.args.self.now.active_formatting c.args.place) c.in-Some.is c.in_ok-tag.ensures.said in
    again-kept-at c.in-Some.tag c.args.foster c.args.self.now c.insert_element_for.new.self c.relist_at.new.self f h
    (g.Sink.TreeSink.node c.in_ok-made.made) c.args.place has c.in_ok-made.ensures.named c.in_ok-made.ensures.ok
    c.relist_at.ensures c.in_ok-made.ensures.kept
