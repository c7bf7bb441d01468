use Rattle.html_faithful.proofs.Begins.{document-planted, untyped-planted}
use Rattle.html_faithful.proofs.laws.documents_are_planted.Goals as goal

pub returns : goal.returns
returns c = record { after_doctype = document-planted; without_doctype = untyped-planted }
