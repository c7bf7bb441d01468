use Rattle.std.proofs.Common.{◌∙◌, ap}
use Rattle.std.proofs.lemmas.Result.{IfOk-weaker}
use Rattle.std.specs.Prelude.{option_map}
use Rattle.html_faithful_judge.specs.Mades.{made_as}
use Rattle.html_faithful_judge.specs.Spots.{spot_of}
use Rattle.html_faithful_walk.specs.Common.{before_kids}
use Rattle.html_faithful_walk.proofs.CommonTags.{kids-provided}
use Rattle.html_faithful_walk.proofs.FreeAttributes.{free-started}
use Rattle.html_faithful_walk.proofs.steps.start_by_rows.Goals as goal

pub returns-then-are_free-clause-ok : goal.returns-then-are_free-clause-ok
returns-then-are_free-clause-ok c =
    IfOk-weaker c.start_with.result _ _
    (λ goes_on h. free-started c.args.name.now c.args.attributes.now c.args.template (spot_of c.args.made.now.spot)
    (c.are_free.ensures c.if-are_free.true)
    ∙ (ap (option_map before_kids) h ∙ kids-provided goes_on (made_as c.start_with.new.made)))
    c.start_with.ensures.ok

pub returns-clause-ok : goal.returns-clause-ok
returns-clause-ok c =
    IfOk-weaker c.start_with-2.result _ _
    (λ goes_on h. ap (option_map before_kids) h ∙ kids-provided goes_on (made_as c.start_with-2.new.made)) c.start_with-2.ensures.ok
