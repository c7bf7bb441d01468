use Rattle.html_faithful_documents.proofs.Documents.{trees-read_back}
use Rattle.html_faithful_documents.proofs.laws.faithful_documents_are_read_back.Goals as goal

pub returns : goal.returns
returns c = λ rows reads opts initial rules answers scripting trees faithful. trees-read_back rows reads opts initial rules answers scripting trees
    faithful
