use Rattle.html_pages.proofs.Again.{read-back}
use Rattle.html_pages.proofs.Parsed.{on-ok}
use Rattle.html_pages.proofs.read_back.is_read_back.Goals as goal

pub returns-clause-ok : goal.returns-clause-ok
returns-clause-ok c =
    on-ok c.are_alike.result c.are_alike.ensures.ok
    (λ is d. read-back c.args.references c.args.forest.now c.in_ok-again.again _ is
    (rw c.in-Some.is at c.in_ok-text.ensures.ok) c.in_ok-again.ensures.ok d)
