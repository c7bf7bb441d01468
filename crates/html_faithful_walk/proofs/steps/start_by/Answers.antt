use Rattle.std.proofs.Common.{◌∙◌, ap, sym}
use Rattle.html_faithful.specs.Harmless.{made_of}
use Rattle.html_faithful_judge.specs.Mades.{made_as}
use Rattle.html_faithful_judge.specs.Spots.{spot_of}
use Rattle.html_faithful_walk.proofs.Taken.{start-made}
use Rattle.html_faithful_walk.proofs.steps.start_by.Goals as goal

pub returns-clause-ok : goal.returns-clause-ok
returns-clause-ok c =
    start-made c.args.name.now c.args.attributes.now c.args.tag.now (spot_of c.args.made.now.spot) _ _ (made_as c.take.new.self)
    (ap (λ t. made_of t (spot_of c.args.made.now.spot)) (sym c.token.ensures.content) ∙ c.in_ok-take.ensures.ok) c.if-not-branch.false
    (c.is_started.ensures (spot_of c.args.made.now.spot))
