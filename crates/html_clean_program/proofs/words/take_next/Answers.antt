use Rattle.std.proofs.Common.{◌≡◌, ℕ, List, ◌∷◌, None}
use Rattle.html_clean_program.specs.Words.{Request, asked_by}
use Rattle.html_clean_program.proofs.Requests.{next-after, next-fault}
use Rattle.html_clean_program.proofs.words.take_next.Goals as goal

pub returns-in-None-clause-ok : goal.returns-in-None-clause-ok
returns-in-None-clause-ok c = rw c.in-None.is c.take_word.ensures.ok

pub returns-in-None-clause-err : goal.returns-in-None-clause-err
returns-in-None-clause-err c = rw c.in-None.is c.take_word.ensures.err

pub returns-in-Some-clause-ok : goal.returns-in-Some-clause-ok
returns-in-Some-clause-ok c =
    next-after c.args.takes c.in-Some.of c.args.asked.now c.take_after.new.asked c.args.word.now c.take_after.result c.in-Some.is
    c.take_after.ensures.ok

pub returns-in-Some-clause-err : goal.returns-in-Some-clause-err
returns-in-Some-clause-err c =
    next-fault c.take_after.result
    ((request : Request) (words : List (List ℕ)) → asked_by c.args.takes request (c.args.word.now ∷ words) ≡ None)
    c.take_after.ensures.err
