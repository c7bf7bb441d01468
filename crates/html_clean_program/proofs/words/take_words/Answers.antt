use Rattle.std.proofs.Common.{◌∙◌, ◌+◌, ◌∷◌, ap, drop, inl, inr, map, sym}
use Rattle.std.proofs.lemmas.List.{drop_more}
use Rattle.std.proofs.lemmas.Result.{err_from_is_err_and}
use Rattle.std.specs.String.{string_bytes}
use Rattle.html_clean_program.specs.Words.{asked_by}
use Rattle.html_clean_program.proofs.words.take_words.Goals as goal

pub loop-word-preserved : goal.loop-word-preserved
loop-word-preserved c =
    let inv = c.loop-word.invariant in
    let words = c.args.words.now in
    let i = c.loop-word.word-index in
    let rest = map string_bytes (drop (i + 1) words) in
    let next = c.in_ok-takes.ensures.ok inv.0 inv.1 in
    let word = ap string_bytes (sym c.word-item.is) ∙ sym c.as_str.ensures.value in (
      next.0,
      next.1,
      inv.2 ∙ ap (λ ws. asked_by c.loop-word.takes inv.0 (map string_bytes ws)) (drop_more words i c.word-item.result c.loop-word-test.true)
          ∙ ap (λ w. asked_by c.loop-word.takes inv.0 (w ∷ rest)) word ∙ next.2 rest,
    )

pub returns-in_err-takes-clause-err : goal.returns-in_err-takes-clause-err
returns-in_err-takes-clause-err c =
    let inv = c.loop-word.invariant in
    let words = c.args.words.now in
    let i = c.loop-word.word-index in
    let rest = map string_bytes (drop (i + 1) words) in
    let word = ap string_bytes (sym c.word-item.is) ∙ sym c.as_str.ensures.value in
    let p = err_from_is_err_and c.from_residual.result c.from_residual.ensures.1 in
    rw (p.1, p.2) (elim c.in_err-takes.ensures.err [
      | inl memory ↦ inl memory
      | inr usage ↦ inr (
        usage.0,
        inv.2 ∙ ap (λ ws. asked_by c.loop-word.takes inv.0 (map string_bytes ws)) (drop_more words i c.word-item.result c.loop-word-test.true)
            ∙ ap (λ w. asked_by c.loop-word.takes inv.0 (w ∷ rest)) word ∙ usage.1 inv.0 rest,
      )
    ])
