use Rattle.std.proofs.Common.{◌∙◌, map-id, sym}
use Rattle.std.specs.Str.{chars}
use Rattle.std.proofs.lemmas.Iterator.{YieldsList-from_chars}
use Rattle.std.proofs.lemmas.Iterator.Consumers.{YieldsList-end}
use Rattle.html_faithful_judge.specs.Spots.{spot_of}
use Rattle.html_faithful_walk.proofs.AnyText.{text-stays, white-stays}
use Rattle.html_faithful_walk.proofs.Taken.{text-whole}
use Rattle.html_faithful_walk.proofs.texts.walk_text.Goals as goal

pub returns-clause-ok : goal.returns-clause-ok
returns-clause-ok c =
    let all = YieldsList-end (YieldsList-from_chars c.args.text.now c.utf8.text cc) c.loop-c.yielded _
    c.loop-c.yielded_by _ _ c.in-None.is c.next.ensures.steps in
    text-whole _ c.loop-c.yielded _ _ c.loop-c.goes_on (sym (map-id c.loop-c.yielded) ∙ all.0) c.loop-c.invariant

pub returns-then-takes_any_text-clause-ok : goal.returns-then-takes_any_text-clause-ok
returns-then-takes_any_text-clause-ok c =
    text-stays (spot_of c.args.made.now.spot) (chars c.args.text.now) (sym c.takes_any_text.ensures ∙ c.if-takes_any_text.true)

pub returns-then-takes_white_text-clause-ok : goal.returns-then-takes_white_text-clause-ok
returns-then-takes_white_text-clause-ok c =
    white-stays (spot_of c.args.made.now.spot) (chars c.args.text.now) (sym c.takes_white_text.ensures ∙ c.if-takes_white_text.true)
