use Rattle.html_places.proofs.Goings.{gone-on}
use Rattle.html_places.proofs.around.Surroundings.pass.Goals as goal

pub returns-clause-gone : goal.returns-clause-gone
returns-clause-gone c = gone-on c.args.self.now c.cut.result.1 c.pass_all.new.self c.match-character.self c.cut.result.0.now c.requires.gone
    c.cut.ensures.whole c.cut.ensures.utf8 c.pass_all.ensures
