use Rattle.std.proofs.Common.{◌≡◌, ◌∙◌, sym, subst, length, arith, List, ℕ}
use Rattle.std.specs.Str.Lines.{lines}
use Rattle.std.proofs.lemmas.Iterator.Splits.{YieldsList-from_lines}
use Rattle.std.proofs.lemmas.Iterator.Consumers.{YieldsList-end, YieldsList-so_far, YieldsList-turn}
use Rattle.html_input.proofs.Rows.{AreRows, AreRows-all, AreRows-bad, AreRows-next, shown, split-next}
use Rattle.html_input.proofs.lines.rows_of.Goals as goal

pub returns-in_default-clause-err : goal.returns-in_default-clause-err
returns-in_default-clause-err c =
    let road = YieldsList-from_lines c.args.text.now cc in
    let so_far = YieldsList-so_far road c.loop-line.yielded _ c.loop-line.yielded_by in
    let next = YieldsList-turn road c.loop-line.yielded _ c.loop-line.yielded_by _ _ c.in-Some.line c.in-Some.is c.next.ensures.steps in
    let len : c.len.result ≡ length c.loop-line.rows.items = omega (arith, c.len.ensures) in
    rw len
    (AreRows-bad (lines c.args.text.now) (shown c.loop-line.yielded) c.in-Some.line.now _ c.loop-line.rows.items c.loop-line.invariant
    (split-next (lines c.args.text.now) c.loop-line.yielded c.in-Some.line so_far next) (sym c.in_default.is ∙ c.in_ok-row.ensures))

pub loop-line-preserved : goal.loop-line-preserved
loop-line-preserved c =
    AreRows-next c.loop-line.yielded c.in-Some.line c.loop-line.rows.items c.push.new.self.items c.in-Some-2.row c.loop-line.invariant
    (sym c.in-Some-2.is ∙ c.in_ok-row.ensures) c.in_ok-push.ensures.items

pub returns-clause-ok : goal.returns-clause-ok
returns-clause-ok c =
    let road = YieldsList-from_lines c.args.text.now cc in
    let all = YieldsList-end road c.loop-line.yielded _ c.loop-line.yielded_by _ _ c.in-None.is c.next.ensures.steps in
    let P : List (List ℕ) → Type 0 = λ ls. AreRows ls c.loop-line.rows.items in
    AreRows-all (lines c.args.text.now) c.loop-line.rows.items (subst P all.0 c.loop-line.invariant)
