use Rattle.html_tokens.specs.declared.token.Token.TheVariants.{TagToken}
use Rattle.html_modes.specs.Tables.{action_of}
use Rattle.html_tree_builder.proofs.Acted.{acted-stands, its_answers}
use Rattle.html_tree_builder.proofs.construction.Construction.perform_at_once.Goals as goal

pub returns-clause-stands : goal.returns-clause-stands
returns-clause-stands g c =
    let sink = g.Sink.TreeSink in
    acted-stands (its_answers sink) c.args.self.now c.act_at_once.new.self (sink.forest c.args.sink.now)
    (sink.forest c.act_at_once.new.sink) (action_of c.args.action.now) (TagToken c.args.tag.now) c.requires.may
    c.requires.stands c.in_ok-act_at_once.ensures.ok
