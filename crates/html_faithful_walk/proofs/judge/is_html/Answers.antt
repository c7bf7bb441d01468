use Rattle.std.proofs.Common.{◌∙◌, ap, refl, codes}
use Rattle.std.specs.Str.{bytes_eq, chars}
use Rattle.std.proofs.lemmas.Str.{IsUtf8-from_ascii}
use Rattle.markup.proofs.Plain.{IsAscii-plain, bytes_eq-chars, chars-plain}
use Rattle.html_faithful_walk.proofs.judge.is_html.Goals as goal

pub returns : goal.returns
returns c =
    c.eq.ensures
    ∙ (bytes_eq-chars c.args.name.now (codes "html") c.utf8.name (IsUtf8-from_ascii (codes "html") (IsAscii-plain (codes "html") refl))
    ∙ ap (bytes_eq (chars c.args.name.now)) (chars-plain (codes "html") refl))
