use Rattle.std.proofs.Common.{◌∙◌, Ok, ap, map, refl, subst, sym}
use Rattle.std.proofs.lemmas.Result.{err_from_is_err_and}
use Rattle.std.specs.String.{string_bytes}
use Rattle.clap.specs.Simple.{subcommand_rows_of}
use Rattle.clap.specs.declared.error.kind.ErrorKind.TheVariants.{ArgumentConflict, MissingSubcommand, ValueValidation}
use Rattle.figpliers_program.specs.Asked.{IsCommandOf, has_conflict_in}
use Rattle.figpliers_program.specs.Rejected.{Conflict, NoCommand}
use Rattle.figpliers_program.proofs.Rejections.{by-clap, by-program, entered-by, fit-values, unfit-value}
use Rattle.figpliers_program.proofs.command.read_words.Goals as goal

pub returns-in_err-matches-clause-err : goal.returns-in_err-matches-clause-err
returns-in_err-matches-clause-err c =
    let p = err_from_is_err_and c.from_residual-in_err-matches.result c.from_residual-in_err-matches.ensures.1 in
    rw (p.1, p.2) (by-clap (map string_bytes c.args.words.now) _ c.in_err-matches.field-0.0 c.in_ok-command.ensures
    c.in_err-matches.ensures.kinds)

pub returns-in-None-clause-err : goal.returns-in-None-clause-err
returns-in-None-clause-err c =
    let words = map string_bytes c.args.words.now in
    by-program words c.in_ok-error-in-None.field-0 MissingSubcommand (subcommand_rows_of c.in_ok-matches.matches)
    c.in_ok-error-in-None.ensures.kind refl
    (entered-by words _ c.in_ok-matches.matches c.in_ok-command.ensures c.in_ok-matches.ensures.ok.2)
    (NoCommand (c.in_ok-asked.ensures.none (ap Ok c.in-None.is)))

pub returns-in-Some-conflict_in-clause-err : goal.returns-in-Some-conflict_in-clause-err
returns-in-Some-conflict_in-clause-err c =
    let words = map string_bytes c.args.words.now in
    by-program words c.in_ok-error-in-Some-conflict_in.field-0 ArgumentConflict (subcommand_rows_of c.in_ok-matches.matches)
    c.in_ok-error-in-Some-conflict_in.ensures.kind refl
    (entered-by words _ c.in_ok-matches.matches c.in_ok-command.ensures c.in_ok-matches.ensures.ok.2)
    (Conflict (sym c.in-Some-conflict_in.ensures))

pub returns-in-Some-fault_of-clause-err : goal.returns-in-Some-fault_of-clause-err
returns-in-Some-fault_of-clause-err c =
    let words = map string_bytes c.args.words.now in
    let found = subcommand_rows_of c.in_ok-matches.matches in
    by-program words c.in_ok-error-in-Some-fault_of.field-0 ValueValidation found c.in_ok-error-in-Some-fault_of.ensures.kind refl
    (entered-by words _ c.in_ok-matches.matches c.in_ok-command.ensures c.in_ok-matches.ensures.ok.2)
    (unfit-value found c.in-Some.asked (rw c.in-Some.is at c.in_ok-asked.ensures.ok) (sym c.in-Some-fault_of.ensures))

pub returns-clause-ok : goal.returns-clause-ok
returns-clause-ok c =
    let entered = entered-by (map string_bytes c.args.words.now) _ c.in_ok-matches.matches c.in_ok-command.ensures
    c.in_ok-matches.ensures.ok.2 in
    let fit = fit-values _ _ (sym c.in-None-fault_of.ensures) in
    record {
      is = subst (λ command. IsCommandOf command c.in-Some.asked) entered (rw c.in-Some.is at c.in_ok-asked.ensures.ok);
      apart = ap has_conflict_in (sym entered) ∙ sym c.in-None-conflict_in.ensures;
      label = fit.0;
      named = fit.1;
    }
