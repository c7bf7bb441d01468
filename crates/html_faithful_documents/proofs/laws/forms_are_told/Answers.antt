use Rattle.html_faithful_documents.proofs.Forms.{forms-told}
use Rattle.html_faithful_documents.proofs.laws.forms_are_told.Goals as goal

pub returns : goal.returns
returns c = forms-told
