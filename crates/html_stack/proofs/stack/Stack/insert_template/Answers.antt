use Rattle.std.proofs.Common.{◌≡◌, ◌∙◌, true, false}
use Rattle.html_rules.specs.Names.{Html}
use Rattle.html_rules.specs.Places.{open_element}
use Rattle.html_rules.specs.State.{State, adjusted_by}
use Rattle.html_rules.specs.Templates.{attach_shadow_root, insert_template, number_of}
use Rattle.html_stack.specs.Inserting.{context_of}
use Rattle.html_stack.specs.Stacks.{joined}
use Rattle.html_stack.proofs.Results.{ok-on}
use Rattle.html_stack.proofs.ShadowRoots.{template-by}
use Rattle.html_stack.proofs.stack.Stack.insert_template.Goals as goal

pub returns-then-may_be_shadow_root-clause-ok : goal.returns-then-may_be_shadow_root-clause-ok
returns-then-may_be_shadow_root-clause-ok g c =
    let node = g.Sink.TreeSink.node in
    let f = g.Sink.TreeSink.forest c.args.sink.now in
    let before = g.Sink.TreeSink.forest c.shadow_host-host.new.sink in
    let tag = c.args.tag in
    ok-on c.attach_shadow_root.result
    (λ step s foster context answers.
    let old : State = joined s c.args.self.now f in
    let host = number_of (adjusted_by (context_of node c.args.context) c.args.self.now.open_elems) in
    let by : attach_shadow_root tag (number_of (adjusted_by s.context_elem c.args.self.now.open_elems))
    (open_element Html tag.name tag.attrs tag.had_duplicate_attributes old) ≡ insert_template tag old =
    template-by true tag old (rw (answers, foster, ← c.as_slice.ensures) c.if-may_be_shadow_root.ensures.answer) in
    let by_host : attach_shadow_root tag host
    (open_element Html tag.name tag.attrs tag.had_duplicate_attributes old) ≡ insert_template tag old = rw (← context) by in
    let here : attach_shadow_root tag (node c.shadow_host-host.result)
    (open_element Html tag.name tag.attrs tag.had_duplicate_attributes (joined s c.args.self.now before)) ≡ insert_template tag old =
    rw (c.shadow_host-host.ensures.number, c.shadow_host-host.ensures.same, c.if-may_be_shadow_root.ensures.same) by_host in
    step s foster answers ∙ here)
    c.attach_shadow_root.ensures.ok

pub returns-clause-ok : goal.returns-clause-ok
returns-clause-ok g c s foster context answers =
    let f = g.Sink.TreeSink.forest c.args.sink.now in
    rw c.if-may_be_shadow_root.ensures.same at (c.in_ok-insert_element_for.ensures.ok s foster)
    ∙ template-by false c.args.tag (joined s c.args.self.now f)
    (rw (answers, foster, ← c.as_slice.ensures) c.if-may_be_shadow_root.ensures.answer)
