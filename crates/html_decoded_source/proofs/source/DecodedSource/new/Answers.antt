use Rattle.html_decoded_source.proofs.Left.{all-left}
use Rattle.html_decoded_source.proofs.source.DecodedSource.new.Goals as goal

pub returns-clause-left : goal.returns-clause-left
returns-clause-left g c =
    rw (c.new-2.ensures, c.new.ensures, c.new-3.ensures.bytes) (all-left g.R.Source.left c.args.source c.args.encoding)
