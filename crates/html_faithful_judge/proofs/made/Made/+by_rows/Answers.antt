use Rattle.std.proofs.Common.{◌≡◌, ◌∙◌, ◌-◌, suc, ap, arith}
use Rattle.std.proofs.lemmas.Result.{IfOk-weaker}
use Rattle.html_modes.specs.Tables.{row_of}
use Rattle.html_faithful.specs.Harmless.{by_rows}
use Rattle.html_faithful_judge.specs.Mades.{made_as, next_by}
use Rattle.html_faithful_judge.specs.Rows.{rows_in}
use Rattle.html_faithful_judge.specs.Tokens.{token_of}
use Rattle.html_faithful_judge.proofs.MadeByRows.{passed, refused, rows-next, rows-none, rows-refused}
use Rattle.html_faithful_judge.proofs.made.Made.+by_rows.Goals as goal

pub returns-then-count-eq0-clause-ok : goal.returns-then-count-eq0-clause-ok
returns-then-count-eq0-clause-ok t c =
    let none : c.args.count ≡ 0 = grind (arith, c.if-count-eq0.true) in
    rows-none c.args.count (rows_in c.args.table) (token_of c.args.token.now.content) (made_as c.args.self.now) none

pub returns-then-not-branch-clause-ok : goal.returns-then-not-branch-clause-ok
returns-then-not-branch-clause-ok t c =
    let more : c.args.count ≡ suc (c.args.count - 1) = grind (arith, c.if-count-eq0.false) in
    rows-refused (c.args.count - 1) c.args.count (rows_in c.args.table) (token_of c.args.token.now.content) (made_as c.args.self.now)
    (row_of c.first_row-row.result.now) more c.first_row-row.ensures
    (c.in_ok-does.ensures.ok ∙ refused _ _ c.if-not-branch.true)

pub returns-in-Done-clause-ok : goal.returns-in-Done-clause-ok
returns-in-Done-clause-ok t c =
    let more : c.args.count ≡ suc (c.args.count - 1) = grind (arith, c.if-count-eq0.false) in
    rows-next (c.args.count - 1) c.args.count (rows_in c.args.table) (token_of c.args.token.now.content) (made_as c.args.self.now)
    (made_as c.does.new.self) (made_as c.conclude.new.self)
    (row_of c.first_row-row.result.now) c.conclude.result more c.first_row-row.ensures
    (c.in_ok-does.ensures.ok ∙ passed _ _ c.if-not-branch.false) c.conclude.ensures
    ∙ ap (λ next. next_by (λ table m. by_rows (c.args.count - 1) table (token_of c.args.token.now.content) m) next
    (made_as c.conclude.new.self))
    c.in-Done.is

pub returns-in-Again-clause-ok : goal.returns-in-Again-clause-ok
returns-in-Again-clause-ok t c =
    let more : c.args.count ≡ suc (c.args.count - 1) = grind (arith, c.if-count-eq0.false) in
    IfOk-weaker c.by_rows.result _ _
    (λ goes_on h. rows-next (c.args.count - 1) c.args.count (rows_in c.args.table) (token_of c.args.token.now.content)
    (made_as c.args.self.now)
    (made_as c.does.new.self) (made_as c.conclude.new.self)
    (row_of c.first_row-row.result.now) c.conclude.result more c.first_row-row.ensures
    (c.in_ok-does.ensures.ok ∙ passed _ _ c.if-not-branch.false) c.conclude.ensures
    ∙ (ap (λ next. next_by (λ table m. by_rows (c.args.count - 1) table (token_of c.args.token.now.content) m) next
    (made_as c.conclude.new.self))
    c.in-Again.is ∙ h)) c.by_rows.ensures.ok

pub returns-in-Stop-clause-ok : goal.returns-in-Stop-clause-ok
returns-in-Stop-clause-ok t c =
    let more : c.args.count ≡ suc (c.args.count - 1) = grind (arith, c.if-count-eq0.false) in
    rows-next (c.args.count - 1) c.args.count (rows_in c.args.table) (token_of c.args.token.now.content) (made_as c.args.self.now)
    (made_as c.does.new.self) (made_as c.conclude.new.self)
    (row_of c.first_row-row.result.now) c.conclude.result more c.first_row-row.ensures
    (c.in_ok-does.ensures.ok ∙ passed _ _ c.if-not-branch.false) c.conclude.ensures
    ∙ ap (λ next. next_by (λ table m. by_rows (c.args.count - 1) table (token_of c.args.token.now.content) m) next
    (made_as c.conclude.new.self))
    c.in-Stop.is
