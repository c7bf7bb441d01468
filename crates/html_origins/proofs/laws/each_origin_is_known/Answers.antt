use Rattle.html_origins.proofs.OneToken.{origin-known}
use Rattle.html_origins.proofs.laws.each_origin_is_known.Goals as goal

pub returns : goal.returns
returns c = origin-known
