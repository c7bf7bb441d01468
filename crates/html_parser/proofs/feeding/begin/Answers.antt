use Rattle.html_parser.proofs.Feeds.{read-nothing}
use Rattle.html_parser.proofs.feeding.begin.Goals as goal

pub returns-clause-reads : goal.returns-clause-reads
returns-clause-reads g c = read-nothing g.Sink.TokenSink c.new.result c.args.sink c.args.opts c.args.table
    c.notes_change_nothing.ensures c.new.ensures.reads

pub returns-clause-begun : goal.returns-clause-begun
returns-clause-begun g c = c.new.ensures.reads.begun

pub returns-clause-over : goal.returns-clause-over
returns-clause-over g c = c.new.ensures.reads.over
