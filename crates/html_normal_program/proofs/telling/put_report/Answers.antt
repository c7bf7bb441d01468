use Rattle.std.proofs.Common.{◌∙◌, ℕ, Bool, true, false, List, ◌++◌, Option, ap, append_assoc, codes, subst, sym}
use Rattle.std.specs.Fmt.{decimal}
use Rattle.std.specs.Prelude.{is_err}
use Rattle.html_normal.specs.Lines.{plain_word, quirks_word}
use Rattle.html_normal_program.specs.Streams.{IsPut}
use Rattle.html_normal_program.proofs.Written.{err-is, put-ended, put-then}
use Rattle.html_normal_program.proofs.telling.put_report.Goals as goal

-- a line of six words, which are written two and two
in-pairs : (a b c d e f : List ℕ) (old new : Option (List ℕ)) (failed : Bool) → IsPut ((a ++ b) ++ (c ++ d) ++ (e ++ f)) old new failed
    → IsPut (a ++ b ++ c ++ d ++ e ++ f) old new failed
in-pairs a b c d e f old new failed h = subst (λ text. IsPut text old new failed)
    (sym (append_assoc (a ++ b ++ c ++ d) e f ∙ ap (λ text. text ++ (e ++ f)) (append_assoc (a ++ b) c d))) h

pub returns-in_err-put_both-clause-put : goal.returns-in_err-put_both-clause-put
returns-in_err-put_both-clause-put g c =
    let plain = plain_word c.args.report.now.plain in
    let quirks = quirks_word c.args.report.now.quirks in
    let errors = decimal c.args.report.now.errors in
    rw (err-is _ c.from_residual.result c.from_residual.ensures.1)
    (in-pairs (codes "plain=") plain (codes " quirks=") quirks (codes " errors=") errors _ _ true
    (put-ended (codes "plain=" ++ plain ++ (codes " quirks=" ++ quirks)) (codes " errors=" ++ errors) _ _
    (put-ended (codes "plain=" ++ plain) (codes " quirks=" ++ quirks) _ _
    (rw c.plain_word.ensures at c.in_err-put_both.ensures.put))))

pub returns-in_err-put_both-2-clause-put : goal.returns-in_err-put_both-2-clause-put
returns-in_err-put_both-2-clause-put g c =
    let plain = plain_word c.args.report.now.plain in
    let quirks = quirks_word c.args.report.now.quirks in
    let errors = decimal c.args.report.now.errors in
    rw (err-is _ c.from_residual-in_err-put_both-2.result c.from_residual-in_err-put_both-2.ensures.1)
    (in-pairs (codes "plain=") plain (codes " quirks=") quirks (codes " errors=") errors _ _ true
    (put-ended (codes "plain=" ++ plain ++ (codes " quirks=" ++ quirks)) (codes " errors=" ++ errors) _ _
    (put-then (codes "plain=" ++ plain) (codes " quirks=" ++ quirks) _ _ _ true
    (rw c.plain_word.ensures at c.in_ok-put_both.ensures.put) (rw c.quirks_word.ensures at c.in_err-put_both-2.ensures.put))))

pub returns-clause-put : goal.returns-clause-put
returns-clause-put g c =
    let plain = plain_word c.args.report.now.plain in
    let quirks = quirks_word c.args.report.now.quirks in
    let errors = decimal c.args.report.now.errors in
    in-pairs (codes "plain=") plain (codes " quirks=") quirks (codes " errors=") errors _ _ (is_err c.put_numbered.result)
    (put-then (codes "plain=" ++ plain ++ (codes " quirks=" ++ quirks)) (codes " errors=" ++ errors) _ _ _ (is_err c.put_numbered.result)
    (put-then (codes "plain=" ++ plain) (codes " quirks=" ++ quirks) _ _ _ false
    (rw c.plain_word.ensures at c.in_ok-put_both.ensures.put) (rw c.quirks_word.ensures at c.in_ok-put_both-2.ensures.put))
    c.put_numbered.ensures.put)
