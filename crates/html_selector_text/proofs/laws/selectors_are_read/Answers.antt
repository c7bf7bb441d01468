use Rattle.html_selector_text.proofs.ReadBack.Whole.{again, read_back, these_alone}
use Rattle.html_selector_text.proofs.laws.selectors_are_read.Goals as goal

pub returns-clause-parsed : goal.returns-clause-parsed
returns-clause-parsed c = again

pub returns-clause-read_back : goal.returns-clause-read_back
returns-clause-read_back c = read_back

pub returns-clause-these_alone : goal.returns-clause-these_alone
returns-clause-these_alone c = these_alone
