use Rattle.std.proofs.Common.{◌∙◌}
use Rattle.html_extracts.proofs.Spelled.{bytes_of}
use Rattle.html_extracts.proofs.lines.push_name.Goals as goal

pub returns-clause-ok : goal.returns-clause-ok
returns-clause-ok c = rw (bytes_of c.as_str.result.now _ c.as_str.utf8
    (c.as_str.ensures ∙ c.in_ok-shown.ensures.ok)) at c.push_line.ensures.ok
