use Rattle.std.proofs.Common.{arith}
use Rattle.html_tree_builder.specs.States.{state_of}
use Rattle.html_tree_builder.specs.Told.{token_of}
use Rattle.html_tree_builder.proofs.FirstFit.{found-at, none-left, passed-on}
use Rattle.html_tree_builder.proofs.construction.Construction.find.Goals as goal

pub returns-then-fits : goal.returns-then-fits
returns-then-fits g c a f rest = found-at c.args.rows.now c.loop-row.row-index _ (token_of c.args.told.now.content)
    (state_of a c.args.self.now f) rest (c.loop-row.invariant a f) (omega arith) (c.if-fits.ensures a f)

pub loop-row-preserved : goal.loop-row-preserved
loop-row-preserved g c a f = passed-on c.args.rows.now c.loop-row.row-index _ (token_of c.args.told.now.content)
    (state_of a c.args.self.now f) (c.loop-row.invariant a f) (omega arith) (c.if-fits.ensures a f)

pub returns : goal.returns
returns g c a f rest = none-left c.args.rows.now c.loop-row.row-index (token_of c.args.told.now.content)
    (state_of a c.args.self.now f) rest (c.loop-row.invariant a f) (omega arith)
