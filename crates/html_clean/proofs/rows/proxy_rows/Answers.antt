use Rattle.std.proofs.Common.{refl}
use lib.Utf8.{encode}
use Rattle.html_clean.specs.Proxies.{is_loaded, percent_encoded, proxied}
use Rattle.html_clean.specs.Rows.{AreProxyRows}
use Rattle.html_clean.proofs.rows.proxy_rows.Goals as goal

pub returns : goal.returns
unfolding AreProxyRows is_loaded percent_encoded proxied encode
returns c = refl
