use Rattle.std.proofs.Common.{◌≡◌, List, ℕ, subst, sym}
use Rattle.std.specs.Io.KnownBytes.{prepend_known}
use Rattle.html_policy_text.specs.Bounded.{bounded_of}
use Rattle.html_policy_text.proofs.BoundedFiles.{bound-refused, bounded-file}
use Rattle.html_policy_text.proofs.bounded.read_bounded_policy_file.Goals as goal

pub returns-clause-err : goal.returns-clause-err
returns-clause-err g c =
    let old = g.R.Source.left c.args.reader.now in
    let new = g.R.Source.left c.read_text.new.reader in
    let moved = subst (λ (bs : List ℕ). old ≡ prepend_known bs new) (sym c.as_str.ensures.value) c.in_ok-text.ensures.ok in
    rw c.line_fault.ensures
    (bound-refused c.in-Err.fault old new c.as_str.result.now moved c.in_ok-text.ensures.end c.as_str.utf8 c.in-Err.ensures.err)

pub returns-in-Ok-clause-ok : goal.returns-in-Ok-clause-ok
returns-in-Ok-clause-ok g c =
    let old = g.R.Source.left c.args.reader.now in
    let new = g.R.Source.left c.read_text.new.reader in
    let moved = subst (λ (bs : List ℕ). old ≡ prepend_known bs new) (sym c.as_str.ensures.value) c.in_ok-text.ensures.ok in
    bounded-file (bounded_of c.in-Ok.bounded) old new c.as_str.result.now moved c.in_ok-text.ensures.end c.as_str.utf8 c.in-Ok.ensures.ok
