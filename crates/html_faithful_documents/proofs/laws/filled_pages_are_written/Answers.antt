use Rattle.markup.specs.Trees.{default_entry}
use Rattle.html_faithful_documents.proofs.Pages.{pages-written}
use Rattle.html_faithful_documents.proofs.laws.filled_pages_are_written.Goals as goal

pub returns : goal.returns
returns c = λ scripting page value. pages-written scripting default_entry page value
