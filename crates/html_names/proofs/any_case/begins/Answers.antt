use Rattle.std.proofs.Common.{◌≡◌}
use Rattle.std.specs.Str.{chars}
use Rattle.html_tokens.specs.Characters.{begins_any_case}
use Rattle.html_names.proofs.AnyCase.{begins-chars}
use Rattle.html_names.proofs.any_case.begins.Goals as goal

pub returns : goal.returns
returns c =
    let same : begins_any_case c.args.word.now c.args.text.now ≡ begins_any_case c.args.word.now
    (chars c.args.text.now) = begins-chars c.args.word.now c.args.text.now c.utf8.text c.requires in
    cc
