use Rattle.std.proofs.Common.{◌∙◌, sym, refl, false}
use Rattle.html_faithful_judge.specs.Mades.{made_as}
use Rattle.html_faithful_walk.proofs.Inside.{enters}
use Rattle.html_faithful_walk.proofs.Points as points
use Rattle.html_faithful_walk.proofs.judge.Judge.enter.Goals as goal

pub returns-in-Some-clause-ok : goal.returns-in-Some-clause-ok
returns-in-Some-clause-ok c =
    enters c.args.scripting c.args.name (made_as c.args.self.now.made) c.args.self.now.stand (record {
      parent = c.below.result;
      after_text = false;
      drops = c.args.self.now.made.drops_line_feed;
      inside = c.in-Some.inside;
    }) c.in-Some.inside c.below.result c.of.result (sym c.is_written_so.ensures ∙ c.if-not-is_written_so.false)
    (sym c.in_ok-inside.ensures.ok ∙ c.in-Some.is) c.below.ensures refl c.of.ensures

pub returns-in-Some-clause-read : goal.returns-in-Some-clause-read
returns-in-Some-clause-read c =
    points.enters c.args.scripting c.args.name (made_as c.args.self.now.made) c.args.self.now.stand (record {
      parent = c.below.result;
      after_text = false;
      drops = c.args.self.now.made.drops_line_feed;
      inside = c.in-Some.inside;
    }) c.in-Some.inside c.below.result c.of.result (sym c.is_written_so.ensures ∙ c.if-not-is_written_so.false)
    (sym c.in_ok-inside.ensures.ok ∙ c.in-Some.is) c.below.ensures refl c.of.ensures
