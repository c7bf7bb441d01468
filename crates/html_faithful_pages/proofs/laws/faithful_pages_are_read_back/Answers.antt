use Rattle.html_faithful_pages.proofs.Pages.{pages-read_back}
use Rattle.html_faithful_pages.proofs.laws.faithful_pages_are_read_back.Goals as goal

pub returns : goal.returns
returns c = λ rules table reads f top faithful are quirks. pages-read_back rules table reads f top faithful are quirks
