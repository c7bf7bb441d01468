use Rattle.std.proofs.Common.{◌∙◌, ap₂}
use Rattle.html_faithful_judge.specs.Raw.{goes_on_here}
use Rattle.html_faithful_judge.proofs.RawBytes.{raw-bytes}
use Rattle.html_faithful_judge.proofs.raw.goes_on.Goals as goal

pub returns : goal.returns
returns c =
    c.goes_on_here.ensures
    ∙ (ap₂ (goes_on_here c.args.kind) c.as_bytes.ensures.value c.as_bytes-2.ensures.value
    ∙ raw-bytes c.args.kind c.args.name.now c.args.text.now c.utf8.name c.utf8.text c.requires)
