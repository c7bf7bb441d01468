use Rattle.html_stack.specs.Stacks.{open_of}
use Rattle.html_tree_builder.specs.States.{number_if, setting_of, state_of}
use Rattle.html_tree_builder.proofs.Acted.{no_answers}
use Rattle.html_tree_builder.proofs.FragmentsBegun.{fragment-begun, rootless-is, rootless-stands}
use Rattle.html_tree_builder.proofs.construction.Construction.for_fragment.Goals as goal

pub create_new_root-requires : goal.create_new_root-requires
create_new_root-requires g c =
    let f = g.Sink.TreeSink.forest c.args.sink.now in
    let context = open_of g.Sink.TreeSink.node c.args.context in
    let form = number_if g.Sink.TreeSink.node c.args.form in
    let setting = setting_of no_answers c.args.opts in
    let held = number_if g.Sink.TreeSink.node c.form_of_context-form.result in
    let is = rootless-is setting context form held f (state_of no_answers c.new-made.result f)
    (state_of no_answers c.push_mode_of_context.new.self f) (state_of no_answers c.set_context.new.self f)
    (c.form_of_context-form.ensures g.Sink.TreeSink.node) (c.new-made.ensures no_answers f)
    (c.in_ok-push_mode_of_context.ensures.ok no_answers f (g.Sink.TreeSink.node c.args.context.handle))
    (c.set_context.ensures no_answers f) in
    record {
      stands = rootless-stands no_answers c.set_context.new.self setting context form f is c.requires.tree
          c.requires.top c.requires.context c.requires.form;
    }

pub returns-clause-ok : goal.returns-clause-ok
returns-clause-ok g c a =
    let f = g.Sink.TreeSink.forest c.args.sink.now in
    let r = g.Sink.TreeSink.forest c.create_new_root.new.sink in
    let context = open_of g.Sink.TreeSink.node c.args.context in
    let form = number_if g.Sink.TreeSink.node c.args.form in
    let setting = setting_of a c.args.opts in
    let u = state_of a c.set_context.new.self f in
    let held = number_if g.Sink.TreeSink.node c.form_of_context-form.result in
    let is = rootless-is setting context form held f (state_of a c.new-made.result f) (state_of a c.push_mode_of_context.new.self f) u
    (c.form_of_context-form.ensures g.Sink.TreeSink.node) (c.new-made.ensures a f) (c.in_ok-push_mode_of_context.ensures.ok a f
    (g.Sink.TreeSink.node c.args.context.handle)) (c.set_context.ensures a f) in
    fragment-begun setting context form f u (state_of a c.create_new_root.new.self r)
    (state_of a c.reset_mode.new.self r) is (c.in_ok-create_new_root.ensures.ok a) (c.reset_mode.ensures a r)
