use Rattle.std.specs.Prelude.{true}
use Rattle.html_faithful_documents.specs.Documents.{document_trees}
use Rattle.html_faithful_pages.proofs.Pages.{pages-read_back}
use Rattle.html_faithful_pages.proofs.laws.plain_pages_are_read_back.Goals as goal

pub returns : goal.returns
returns c = λ rules table reads f top plain quirks are. pages-read_back rules table reads f top
    (c.plain_documents_are_faithful.ensures rules true (document_trees f) plain) are quirks
