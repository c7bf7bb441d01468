use Rattle.html_stack.proofs.EndedOptions.{still-node}
use Rattle.html_stack.proofs.stack.Stack.any_other_end_tag.Goals as goal

pub report_ended_option-requires : goal.report_ended_option-requires
report_ended_option-requires g c =
    let sink = g.Sink.TreeSink in
    still-node (λ placed. sink.node placed.handle) c.first_option-option.result c.args.name.now c.args.self.now
    c.process_end_tag_in_body.new.self (sink.forest c.args.sink.now)
    (sink.forest c.process_end_tag_in_body.new.sink) c.process_end_tag_in_body.ensures
    (c.first_option-option.ensures (sink.forest c.args.sink.now) c.requires.opened)
