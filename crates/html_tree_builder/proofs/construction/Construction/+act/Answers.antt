use Rattle.html_modes.specs.Tables.{action_of}
use Rattle.html_tree_builder.specs.Told.{token_of}
use Rattle.html_tree_builder.proofs.Acted.{acted-stands, its_answers}
use Rattle.html_tree_builder.proofs.construction.Construction.+act.Goals as goal

pub act_first-returns-clause-stands : goal.act_first-returns-clause-stands
act_first-returns-clause-stands g t c =
    let sink = g.Sink.TreeSink in
    acted-stands (its_answers sink) c.args.self.now c.act.new.self (sink.forest c.args.sink.now)
    (sink.forest c.act.new.sink) (action_of c.args.first.now) (token_of c.args.told.now.content)
    c.requires.may.0 c.requires.stands c.in_ok-act.ensures.ok
