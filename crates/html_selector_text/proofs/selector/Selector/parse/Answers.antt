use Rattle.html_selector_text.proofs.Again.{read_again}
use Rattle.html_selector_text.proofs.selector.Selector.parse.Goals as goal

pub returns-clause-read_back : goal.returns-clause-read_back
returns-clause-read_back c = read_again _ _ c.read.ensures
