use Rattle.std.proofs.Common.{◌∙◌, ap, sym}
use Rattle.html_faithful.specs.Harmless.{made_of}
use Rattle.html_faithful_judge.specs.Mades.{made_as}
use Rattle.html_faithful_judge.specs.Spots.{spot_of}
use Rattle.html_faithful_walk.proofs.Taken.{end-made}
use Rattle.html_faithful_walk.proofs.steps.finish_by_rows.Goals as goal

pub returns-clause-ok : goal.returns-clause-ok
returns-clause-ok c =
    end-made c.args.name.now c.in_ok-tag.tag (spot_of c.args.made.now.spot) _ _ (made_as c.take.new.self) c.in_ok-tag.ensures.ok
    (ap (λ t. made_of t (spot_of c.args.made.now.spot)) (sym c.token.ensures.content) ∙ c.in_ok-take.ensures.ok)
    c.if-not-branch.false (c.is_finished.ensures (spot_of c.args.made.now.spot) c.what_closes-closing.ensures)
