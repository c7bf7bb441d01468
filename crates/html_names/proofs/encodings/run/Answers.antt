use Rattle.std.proofs.Common.{◌≡◌, ◌∙◌, ap}
use Rattle.html_tokens.specs.Characters.{run}
use Rattle.html_names.specs.Stops.{stops}
use Rattle.html_names.proofs.SpaceRuns.{stops-run}
use Rattle.html_names.proofs.encodings.run.Goals as goal

pub returns : goal.returns
returns c =
    let at : c.bytes_before.result ≡ run (stops c.args.stop) c.args.text.now = c.bytes_before.ensures
    ∙ ap (run (stops c.args.stop)) c.as_bytes.ensures.value in
    let runs = stops-run c.args.stop c.args.text.now c.utf8.text in
    rw at (record { within = runs.within; cut = runs.cut; front = runs.front; rest = runs.rest; inside = runs.inside })
