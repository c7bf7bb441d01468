use Rattle.std.proofs.Common.{◌∙◌, ap, refl, codes}
use Rattle.std.specs.Str.{bytes_eq, chars}
use Rattle.std.proofs.lemmas.Str.{IsUtf8-from_ascii}
use Rattle.markup.proofs.Plain.{IsAscii-plain, bytes_eq-chars, chars-plain}
use Rattle.html_faithful_judge.proofs.texts.is_script.Goals as goal

pub returns : goal.returns
returns c =
    c.eq.ensures
    ∙ (bytes_eq-chars c.args.name.now (codes "script") c.utf8.name
    (IsUtf8-from_ascii (codes "script") (IsAscii-plain (codes "script") refl))
    ∙ ap (bytes_eq (chars c.args.name.now)) (chars-plain (codes "script") refl))
