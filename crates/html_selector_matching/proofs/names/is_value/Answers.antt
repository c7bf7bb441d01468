use Rattle.std.proofs.Common.{rules}
use Rattle.std.proofs.lemmas.Str.{encodes-chars}
use Rattle.html_selector_matching.proofs.names.is_value.Goals as goal

pub returns : goal.returns
returns c = rw (encodes-chars c.args.value.now c.utf8.value) (search rules)
