use Rattle.std.proofs.Common.{◌∙◌}
use Rattle.html_selector_matching.proofs.Spelled.{spelled-alike}
use Rattle.html_selector_matching.proofs.names.is_local.Goals as goal

pub returns : goal.returns
returns c = c.eq.ensures ∙ spelled-alike c.as_str-one.result.now c.as_str-other.result.now c.args.one.now c.args.other.now
    c.as_str-one.utf8 c.as_str-other.utf8 c.as_str-one.ensures c.as_str-other.ensures
