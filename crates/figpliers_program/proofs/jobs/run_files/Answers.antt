use Rattle.std.proofs.Common.{◌∙◌, ap, refl}
use Rattle.std.proofs.lemmas.List.{drop_all}
use Rattle.std.specs.String.{string_bytes}
use Rattle.figpliers.specs.Puts.{told_by}
use Rattle.figpliers_program.specs.declared.faults.Verdict.TheVariants.{Unwritten}
use Rattle.figpliers_program.proofs.Outcomes.{goes-on, stops}
use Rattle.figpliers_program.proofs.jobs.run_files.Goals as goal

pub loop-name-init : goal.loop-name-init
loop-name-init g c = λ left' out' errors' verdict done. done

pub loop-name-preserved : goal.loop-name-preserved
loop-name-preserved g c = λ left' out' errors' verdict rest. c.loop-name.invariant left' out' errors' verdict
    (goes-on _ _ string_bytes c.deref-name-items.result.now c.loop-name.name-index c.name-item.result c.as_str.result.now
    c.loop-name.verdict c.run_page-page.result c.and-verdict.result _ _ _ _ _ _ _ _ _ _ c.loop-name-test.true
    (c.as_str.ensures.value ∙ ap string_bytes c.name-item.is) c.run_page-page.ensures c.and-verdict.ensures c.in_default.not-Unwritten rest)

pub returns-in-Unwritten : goal.returns-in-Unwritten
returns-in-Unwritten g c =
    rw c.deref-name-items.ensures.value at
    (c.loop-name.invariant _ _ _ Unwritten
    (stops _ _ string_bytes c.deref-name-items.result.now c.loop-name.name-index c.name-item.result c.as_str.result.now
    c.loop-name.verdict c.run_page-page.result c.and-verdict.result _ _ _ _ _ _ c.loop-name-test.true
    (c.as_str.ensures.value ∙ ap string_bytes c.name-item.is) c.run_page-page.ensures c.and-verdict.ensures c.in-Unwritten.is))

pub returns : goal.returns
returns g c =
    rw c.deref-name-items.ensures.value at
    (c.loop-name.invariant (g.Input.Source.left c.loop-name.input)
    (told_by g.Output.Target.written g.Output.Target.failures c.loop-name.output) (g.Errors.Target.written c.loop-name.errors)
    c.loop-name.verdict
    (rw (drop_all c.loop-name.name-index c.deref-name-items.result.now c.loop-name-test.false) (refl, refl, refl, refl)))
