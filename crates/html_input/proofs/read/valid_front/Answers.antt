use Rattle.std.proofs.Common.{◌+◌, ◌∙◌, sym}
use Rattle.std.proofs.lemmas.List.{take_rest}
use Rattle.html_input.proofs.Utf8.{IsFront-whole, IsFront-cut, at_fault-behind}
use Rattle.html_input.proofs.WideBytes.{Known, known-more}
use Rattle.html_input.proofs.read.valid_front.Goals as goal
use Rattle.html_input.proofs.read.valid_front.Goals.{After-whole_front}

known_then : (c : After-whole_front) → Known c.args.bytes.now (c.args.known + c.whole_front.result)
known_then c = known-more c.args.bytes.now c.args.known c.whole_front.result c.requires.within c.requires.front
    c.whole_front.ensures.within c.whole_front.ensures.text

pub returns-in-Ok-clause-ok : goal.returns-in-Ok-clause-ok
returns-in-Ok-clause-ok c =
    let known = c.args.known + c.whole_front.result in
    let front = known_then (goal.at.returns-in-Ok-clause-ok c).After-whole_front in
    IsFront-whole c.args.bytes.now _ known (take_rest c.args.bytes.now known) front.text c.in-Ok.ensures.cases.1

pub returns-in-None-clause-ok : goal.returns-in-None-clause-ok
returns-in-None-clause-ok c =
    let valid = c.valid_up_to.ensures in
    let known = c.args.known + c.whole_front.result in
    let front = known_then (goal.at.returns-in-None-clause-ok c).After-whole_front in
    rw valid
    (IsFront-cut c.args.bytes.now _ known _ (take_rest c.args.bytes.now known) front.within front.text c.in-Err.ensures.cases.1
    (sym c.in-Err.ensures.fault ∙ sym c.error_len.ensures ∙ c.in-None.is))

pub returns-in-Some-clause-err : goal.returns-in-Some-clause-err
returns-in-Some-clause-err c =
    let valid = c.valid_up_to.ensures in
    let known = c.args.known + c.whole_front.result in
    let front = known_then (goal.at.returns-in-Some-clause-err c).After-whole_front in
    rw valid
    (at_fault-behind c.args.bytes.now _ known _ _ (take_rest c.args.bytes.now known) front.within front.text c.in-Err.ensures.cases.1
    (sym c.in-Err.ensures.fault ∙ sym c.error_len.ensures ∙ c.in-Some.is))
