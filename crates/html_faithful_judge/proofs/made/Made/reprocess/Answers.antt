use Rattle.html_faithful.specs.Harmless.{at_mode}
use Rattle.html_faithful_judge.specs.Mades.{made_as}
use Rattle.html_faithful_judge.proofs.MadeByRows.{using-as}
use Rattle.html_faithful_judge.proofs.made.Made.reprocess.Goals as goal

pub returns : goal.returns
returns c again = using-as again (at_mode c.args.mode (made_as c.args.self.now)) _ _ c.args.mode _ c.may_go_on.ensures c.again_if.ensures
