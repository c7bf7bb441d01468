use Rattle.std.proofs.Common.{◌∙◌, ap}
use Rattle.html_references.specs.References.{is_reference_name}
use Rattle.html_references.proofs.Spelled.{is_reference_name-chars}
use Rattle.html_references.proofs.references.check.is_named_well.Goals as goal

pub returns : goal.returns
returns c =
    c.is_name.ensures
    ∙ (ap is_reference_name c.as_bytes.ensures.value ∙ (is_reference_name-chars c.as_str.result.now c.as_str.utf8
    ∙ ap is_reference_name c.as_str.ensures))
