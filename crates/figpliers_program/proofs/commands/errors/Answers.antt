use Rattle.std.proofs.Common.{◌≡◌, ◌∙◌, ap, inr, map, refl, take}
use Rattle.std.specs.Prelude.{◌==◌, if◌then◌else◌}
use Rattle.std.proofs.lemmas.List.{take_all}
use Rattle.std.proofs.lemmas.Result.{err_from_is_err_and}
use Rattle.html_serialize.proofs.Putting.{with_bytes-none, with_bytes-then}
use Rattle.figpliers.specs.Puts.{with_bytes, told_by}
use Rattle.figpliers_program.specs.Pages.{error_line, error_lines, note_of}
use Rattle.figpliers_program.specs.declared.faults.Verdict.TheVariants.{Errors, Fine}
use Rattle.figpliers_program.proofs.Texts.{lines-cut, lines-next}
use Rattle.figpliers_program.proofs.commands.errors.Goals as goal

pub loop-error-init : goal.loop-error-init
loop-error-init g c = with_bytes-none _

pub loop-error-preserved : goal.loop-error-preserved
loop-error-preserved g c =
    let name = c.args.name.now in
    let items = c.deref-error-items.result.now in
    let i = c.loop-error.error-index in
    with_bytes-then _ _ _ (error_lines name (map note_of (take i items))) (error_line name (c.error-item.result.place, c.as_str.result.now))
    c.loop-error.invariant c.in_ok-put_error.ensures
    ∙ ap (with_bytes (told_by g.W.Target.written g.W.Target.failures c.args.writer.now))
    (lines-next note_of name items i c.error-item.result (c.error-item.result.place, c.as_str.result.now) c.loop-error-test.true
    ((λ j. (c.error-item.result.place, c.as_str.ensures.value j)) ∙ ap note_of c.error-item.is))

pub returns-in_err-put_error : goal.returns-in_err-put_error
returns-in_err-put_error g c =
    let name = c.args.name.now in
    let items = c.deref-error-items.result.now in
    let p = err_from_is_err_and c.from_residual.result c.from_residual.ensures.1 in
    rw (p.1, p.2) (inr (
      error_lines name (map note_of items),
      if c.args.noted.now.forest.errors == 0 then Fine else Errors,
      (ap (λ errors. error_lines name (map note_of errors)) c.deref-error-items.ensures.value, refl),
      lines-cut note_of name items c.loop-error.error-index c.error-item.result (c.error-item.result.place, c.as_str.result.now) _ _ _
          c.in_err-put_error.field-0.0 c.loop-error-test.true
          ((λ j. (c.error-item.result.place, c.as_str.ensures.value j)) ∙ ap note_of c.error-item.is)
          c.loop-error.invariant c.in_err-put_error.ensures,
    ))

pub returns : goal.returns
returns g c =
    let name = c.args.name.now in
    let items = c.deref-error-items.result.now in
    let verdict : c.verdict_of.result ≡ (if c.args.noted.now.forest.errors == 0 then Fine else Errors) =
    c.verdict_of.ensures ∙ ap (λ n. if n == 0 then Fine else Errors) c.error_count.ensures in (
      error_lines name (map note_of items),
      (ap (λ errors. error_lines name (map note_of errors)) c.deref-error-items.ensures.value, verdict),
      rw (take_all c.loop-error.error-index items c.loop-error-test.false) at c.loop-error.invariant,
    )
