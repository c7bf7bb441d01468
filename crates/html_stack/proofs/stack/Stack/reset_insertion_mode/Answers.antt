use Rattle.std.proofs.Common.{◌∙◌, sym, ap}
use Rattle.html_rules.specs.Reset.{current_template_mode, mode_of_open, reset_insertion_mode}
use Rattle.html_stack.specs.Modes.{Knows}
use Rattle.html_stack.proofs.Noted.{mode-beyond}
use Rattle.html_stack.proofs.stack.Stack.reset_insertion_mode.Goals as goal

pub returns : goal.returns
unfolding reset_insertion_mode
returns g c s opens modes head is =
    let knows : Knows s c.current_template_mode-template_mode.result c.args.has_head =
    record { template = ap current_template_mode modes ∙ sym c.current_template_mode-template_mode.ensures; head = head } in
    sym (c.mode_of_open.ensures g.Sink.TreeSink.node s knows is) ∙ mode-beyond s _ _ c.reached-open.ensures
    ∙ ap (mode_of_open s) (sym opens)
