use Rattle.std.proofs.Common.{◌∙◌, ap, refl, codes}
use Rattle.std.specs.Str.{bytes_eq, chars}
use Rattle.std.proofs.lemmas.Str.{IsUtf8-from_ascii}
use Rattle.markup.proofs.Plain.{IsAscii-plain, bytes_eq-chars, chars-plain}
use Rattle.html_faithful_judge.proofs.context.is_a.Goals as goal

pub returns : goal.returns
returns c =
    c.eq.ensures
    ∙ (bytes_eq-chars c.args.text.now (codes "a") c.utf8.text (IsUtf8-from_ascii (codes "a") (IsAscii-plain (codes "a") refl))
    ∙ ap (bytes_eq (chars c.args.text.now)) (chars-plain (codes "a") refl))
