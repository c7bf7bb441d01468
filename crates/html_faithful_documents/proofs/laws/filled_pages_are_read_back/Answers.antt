use Rattle.html_faithful_documents.proofs.Pages.{pages-read_back}
use Rattle.html_faithful_documents.proofs.laws.filled_pages_are_read_back.Goals as goal

pub returns : goal.returns
returns c = pages-read_back
