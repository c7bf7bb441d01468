use Rattle.std.proofs.lemmas.Result.{err_from_is_err_and}
use Rattle.html_pages.proofs.Takings.{all-built, finish-failed, only-memory}
use Rattle.html_pages.proofs.pieces.whole_in_pieces.Goals as goal

pub returns-in_err-take_pieces-clause-fault : goal.returns-in_err-take_pieces-clause-fault
returns-in_err-take_pieces-clause-fault g c =
    let p = err_from_is_err_and c.from_residual.result c.from_residual.ensures.1 in
    rw (p.1, p.2) (λ begin begins. only-memory g.Sink.TreeSink begin c.args.parser begins _ c.in_err-take_pieces.ensures.err)

pub returns-in_err-finish-clause-fault : goal.returns-in_err-finish-clause-fault
returns-in_err-finish-clause-fault g c =
    let p = err_from_is_err_and c.from_residual-in_err-finish.result c.from_residual-in_err-finish.ensures.1 in
    rw (p.1, p.2) (λ begin begins. only-memory g.Sink.TreeSink begin c.args.parser begins _
    (finish-failed g.Sink.TreeSink c.args.parser c.take_pieces.new.parser _ _ c.in_ok-take_pieces.ensures.ok
    c.in_ok-take_pieces.ensures.free c.in_err-finish.ensures.gives))

pub returns-clause-ok : goal.returns-clause-ok
returns-clause-ok g c = λ begin begins. all-built g.Sink.TreeSink begin c.args.parser begins c.take_pieces.new.parser _ _
    c.in_ok-take_pieces.ensures.ok c.in_ok-take_pieces.ensures.free c.in_ok-finish.ensures.gives
