use Rattle.html_clean_program.proofs.Requests.{extra-taken}
use Rattle.html_clean_program.proofs.words.take.Goals as goal

pub returns-in-Extra-clause-ok : goal.returns-in-Extra-clause-ok
returns-in-Extra-clause-ok c =
    rw c.in-Extra.is
    (extra-taken c.push_extra.result c.args.asked.now c.push_extra.new.asked c.in-Extra.kind c.args.word.now c.push_extra.ensures.same
    c.push_extra.ensures.ok)
