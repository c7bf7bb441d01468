use Rattle.std.proofs.Common.{◌∙◌, [], ◌∷◌, ap, map}
use Rattle.std.proofs.lemmas.List.{map-append}
use Rattle.html_clean_program.specs.Words.{extra_of}
use Rattle.html_clean_program.proofs.words.push_extra.Goals as goal

pub returns-in-Ok-clause-ok : goal.returns-in-Ok-clause-ok
returns-in-Ok-clause-ok c =
    ap (map extra_of) c.in-Ok.ensures.items
    ∙ map-append extra_of c.args.asked.now.extras.items (record { kind = c.args.kind; word = c.args.word } ∷ [])
