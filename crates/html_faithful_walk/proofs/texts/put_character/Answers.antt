use Rattle.std.proofs.Common.{◌∙◌, sym}
use Rattle.html_faithful_judge.specs.Mades.{made_as}
use Rattle.html_faithful_judge.specs.Spots.{spot_of}
use Rattle.html_faithful_walk.proofs.AnyText.{character-stays}
use Rattle.html_faithful_walk.proofs.Taken.{character-made}
use Rattle.html_faithful_walk.proofs.texts.put_character.Goals as goal

pub returns-clause-ok : goal.returns-clause-ok
returns-clause-ok c =
    character-made c.args.c (spot_of c.args.made.now.spot) _ _ (made_as c.take.new.self) c.in_ok-take.ensures.ok c.if-not-branch.false
    (c.is_character_put.ensures (spot_of c.args.made.now.spot))

pub returns-then-takes_any_text-clause-ok : goal.returns-then-takes_any_text-clause-ok
returns-then-takes_any_text-clause-ok c =
    character-stays (spot_of c.args.made.now.spot) c.args.c (sym c.takes_any_text.ensures ∙ c.if-takes_any_text.true)
