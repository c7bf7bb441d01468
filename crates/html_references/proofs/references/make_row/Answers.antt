use Rattle.std.proofs.Common.{◌∙◌, ap}
use Rattle.std.specs.Str.{chars}
use Rattle.markup.proofs.Plain.{chars-plain}
use Rattle.html_references.specs.References.{row_of}
use Rattle.html_references.proofs.references.make_row.Goals as goal

pub returns : goal.returns
returns c =
    c.new.ensures
    ∙ (ap (λ bytes. row_of (chars bytes) c.args.value) c.in_ok-from_str.ensures.ok
    ∙ ap (λ name. row_of name c.args.value) (chars-plain c.args.name.now c.requires))
