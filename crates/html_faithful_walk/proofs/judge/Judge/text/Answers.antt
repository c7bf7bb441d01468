use Rattle.std.proofs.Common.{◌∙◌, sym}
use Rattle.std.proofs.lemmas.Result.{IfOk-weaker}
use Rattle.html_forest.specs.Views.{characters}
use Rattle.html_faithful_judge.specs.Spots.{spot_of}
use Rattle.html_faithful_walk.proofs.Stands.{text-passed, text-refused}
use Rattle.html_faithful_walk.proofs.judge.Judge.text.Goals as goal

pub returns-in-Some-clause-ok : goal.returns-in-Some-clause-ok
returns-in-Some-clause-ok c =
    IfOk-weaker c.take_text.result _ _
    (λ goes_on h. text-passed _ _ _ _ _ _ goes_on (sym c.in_ok-inside.ensures.ok ∙ c.in-Some.is) h) c.take_text.ensures.ok

pub returns-in-None-clause-ok : goal.returns-in-None-clause-ok
returns-in-None-clause-ok c =
    text-refused (characters c.args.text) c.args.self.now.stand c.args.self.now.stand (spot_of c.args.self.now.made.spot)
    (spot_of c.args.self.now.made.spot) (sym c.in_ok-inside.ensures.ok ∙ c.in-None.is)
