use Rattle.std.proofs.Common.{◌∙◌, ap, sym}
use Rattle.html_rules.specs.State.{current_is}
use Rattle.html_faithful_judge.proofs.Foreign.{foreign-is}
use Rattle.html_faithful_judge.specs.Contexts.{number_of}
use Rattle.html_faithful_judge.specs.Spots.{is_foreign_in, spot_of}
use Rattle.html_faithful_judge.specs.Tokens.{token_of}
use Rattle.html_faithful_judge.proofs.spot.Spot.is_foreign.Goals as goal

pub returns : goal.returns
returns c =
    c.is_foreign_at.ensures number_of
    ∙ (ap (current_is (is_foreign_in (token_of c.args.token.now.content))) c.elements.ensures
    ∙ sym (foreign-is (spot_of c.args.self.now) c.args.token.now.content))
