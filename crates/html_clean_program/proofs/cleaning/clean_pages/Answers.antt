use Rattle.std.proofs.Common.{inl, inr, map, refl}
use Rattle.std.proofs.lemmas.Result.{err_from_is_err_and}
use Rattle.std.specs.String.{string_bytes}
use Rattle.html_clean_program.specs.Program.{ArePagesDone, ArePagesEnded, IsPageOf}
use Rattle.html_clean_program.proofs.Requests.{refused-from, tableless-from, wanted-from}
use Rattle.html_clean_program.proofs.cleaning.clean_pages.Goals as goal

pub returns-in_err-policy : goal.returns-in_err-policy
returns-in_err-policy g c =
    let p = err_from_is_err_and c.from_residual-in_err-policy.result c.from_residual-in_err-policy.ensures.1 in
    let files = g.Opens.Opener.files c.args.opener.now in
    rw (p.1, p.2) (inl (
      refused-from files (map string_bytes c.args.words.now) c.in_ok-asked.asked c.in_err-policy.field-0.0
          c.in_ok-asked.ensures.ok c.in_err-policy.ensures.err,
      refl,
      refl,
      refl,
    ))

pub returns-in_err-table : goal.returns-in_err-table
returns-in_err-table g c =
    let p = err_from_is_err_and c.from_residual-in_err-table.result c.from_residual-in_err-table.ensures.1 in
    let files = g.Opens.Opener.files c.args.opener.now in
    rw (p.1, p.2) (inl (
      tableless-from files (map string_bytes c.args.words.now) c.in_ok-asked.asked c.in_err-table.field-0.0
          c.in_ok-asked.ensures.ok c.in_err-table.ensures.err,
      refl,
      refl,
      refl,
    ))

pub returns-in_err-clean_asked : goal.returns-in_err-clean_asked
returns-in_err-clean_asked g c =
    let p = err_from_is_err_and c.from_residual-in_err-clean_asked.result c.from_residual-in_err-clean_asked.ensures.1 in
    let files = g.Opens.Opener.files c.args.opener.now in
    rw (p.1, p.2) (inr (wanted-from files (map string_bytes c.args.words.now) c.in_ok-asked.asked c.in_ok-policy.policy c.in_ok-table.table
    (λ document policy names table. ArePagesEnded files (IsPageOf document table) policy names
    (g.Input.Source.left c.args.input.now) (g.Input.Source.left c.clean_asked.new.input)
    (g.Output.Target.written c.args.output.now) (g.Output.Target.written c.clean_asked.new.output)
    (g.Errors.Target.written c.args.errors.now) (g.Errors.Target.written c.clean_asked.new.errors) c.in_err-clean_asked.field-0.0)
    c.in_ok-asked.ensures.ok c.in_ok-policy.ensures.ok c.in_ok-policy.ensures.allowed c.in_ok-table.ensures.ok
    c.in_err-clean_asked.ensures.err))

pub returns : goal.returns
returns g c =
    let files = g.Opens.Opener.files c.args.opener.now in
    wanted-from files (map string_bytes c.args.words.now) c.in_ok-asked.asked c.in_ok-policy.policy c.in_ok-table.table
    (λ document policy names table. ArePagesDone files (IsPageOf document table) policy names
    (g.Input.Source.left c.args.input.now) (g.Input.Source.left c.clean_asked.new.input)
    (g.Output.Target.written c.args.output.now) (g.Output.Target.written c.clean_asked.new.output)
    (g.Errors.Target.written c.args.errors.now) (g.Errors.Target.written c.clean_asked.new.errors))
    c.in_ok-asked.ensures.ok c.in_ok-policy.ensures.ok c.in_ok-policy.ensures.allowed c.in_ok-table.ensures.ok
    c.in_ok-clean_asked.ensures.ok
