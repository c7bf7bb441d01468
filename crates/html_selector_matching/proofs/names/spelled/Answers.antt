use Rattle.html_selector_matching.proofs.Spelled.{bytes_of}
use Rattle.html_selector_matching.proofs.names.spelled.Goals as goal

pub returns : goal.returns
returns c = bytes_of c.as_str.result.now _ c.as_str.utf8 c.as_str.ensures
