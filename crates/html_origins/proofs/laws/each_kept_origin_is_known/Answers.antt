use Rattle.html_origins.proofs.ManyTokens.{kept-origin-known}
use Rattle.html_origins.proofs.laws.each_kept_origin_is_known.Goals as goal

pub returns : goal.returns
returns c = kept-origin-known
