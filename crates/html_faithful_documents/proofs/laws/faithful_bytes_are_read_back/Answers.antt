use Rattle.html_faithful_documents.proofs.Documents.{bytes-read_back}
use Rattle.html_faithful_documents.proofs.laws.faithful_bytes_are_read_back.Goals as goal

pub returns : goal.returns
returns c = λ rows reads opts initial rules answers scripting trees faithful are.
    bytes-read_back rows reads opts initial rules answers scripting trees faithful are
