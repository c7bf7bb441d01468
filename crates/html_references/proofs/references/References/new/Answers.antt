use Rattle.std.proofs.Common.{◌≡◌, ◌≢◌, Some, arith, rules}
use Rattle.std.specs.Prelude.{IfErr}
use Rattle.std.proofs.lemmas.Grind.{common_steps}
use Rattle.html_references.specs.References.{fault_of}
use Rattle.html_tokens.specs.declared.table.TableFault.TheVariants.{Memory}
use Rattle.html_references.proofs.TableLaws.{checked_from_fault_of, first_told}
use Rattle.html_references.proofs.references.References.new.Goals as goal

pub returns-in_err-order-clause-first : goal.returns-in_err-order-clause-first
returns-in_err-order-clause-first c =
    let told : IfErr c.from_residual.result (λ fault. fault ≢ Memory → fault_of c.args.rows.items ≡ Some fault) =
    first_of (search rules, grind (arith, common_steps)) in
    first_told c.args.rows.items c.from_residual.result told

pub returns-clause-table : goal.returns-clause-table
returns-clause-table c =
    checked_from_fault_of c.args.rows.items (rw (← c.deref.ensures.value) c.in_ok-order.ensures.ok.checked)
