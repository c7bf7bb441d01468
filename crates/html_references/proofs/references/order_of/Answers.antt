use Rattle.std.proofs.Common.{◌∙◌, ap, sym, Some}
use Rattle.html_references.specs.Order.{is_good}
use Rattle.html_references.proofs.TableFaults.{duplicate-first, own_fault-first, table-whole}
use Rattle.html_references.proofs.references.order_of.Goals as goal

pub returns-in-Some-clause-fault : goal.returns-in-Some-clause-fault
returns-in-Some-clause-fault c = λ known.
    duplicate-first c.args.rows.now c.good_front-good.result c.in_ok-order.order.items
    c.good_front-good.ensures.within c.good_front-good.ensures.good c.in_ok-order.ensures
    c.in-Some.place (rw c.deref.ensures.value at c.in-Some.ensures)

pub returns-in-None-clause-fault : goal.returns-in-None-clause-fault
returns-in-None-clause-fault c = λ known.
    own_fault-first c.args.rows.now c.good_front-good.result c.in_ok-order.order.items
    c.good_front-good.ensures.within c.good_front-good.ensures.good c.in_ok-order.ensures
    c.index-rows-good.result (rw c.deref.ensures.value at c.in-None.ensures) c.if-good-rows.true c.index-rows-good.is
    (ap is_good c.index-rows-good.is ∙ c.good_front-good.ensures.bad c.index-rows-good.result c.if-good-rows.true)
    ∙ ap Some (sym c.own_fault.ensures)

pub returns-in-None-2-clause-ok : goal.returns-in-None-2-clause-ok
returns-in-None-2-clause-ok c =
    table-whole c.args.rows.now c.good_front-good.result c.in_ok-order.order.items c.good_front-good.ensures.within
    c.good_front-good.ensures.good c.in_ok-order.ensures
    (rw c.deref.ensures.value at c.in-None-2.ensures) c.if-good-rows.false
