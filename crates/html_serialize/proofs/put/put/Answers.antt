use Rattle.std.proofs.Common.{◌≡◌, ◌-◌, Option, List, ℕ, ap₂, take, drop, length, subst, false, nat_eq, arith}
use Rattle.std.proofs.lemmas.Bool.Decides.{nat_tests}
use Rattle.std.proofs.lemmas.List.{length-drop, take-append-drop, take_all}
use Rattle.html_serialize.specs.Puts.{Puts, told_by, with_bytes}
use Rattle.html_serialize.proofs.Putting.{Puts-behind}
use Rattle.html_serialize.proofs.put.put.Goals as goal

pub returns-else-count-eq0-clause-puts : goal.returns-else-count-eq0-clause-puts
returns-else-count-eq0-clause-puts g c =
    let bytes = c.args.bytes.now in
    let count = c.in-Ok.count in
    let some : nat_eq count 0 ≡ false = grind (arith, nat_tests, c.if-count-eq0.false) in
    let unfailed : g.Wr.Target.failures c.write_some.new.self ≡ g.Wr.Target.failures c.args.writer.now =
    rw some at c.in-Ok.ensures.counted in
    let mid : told_by g.Wr.Target.written g.Wr.Target.failures c.write_some.new.self ≡ with_bytes
    (told_by g.Wr.Target.written g.Wr.Target.failures c.args.writer.now) (take count bytes) =
    ap₂ (λ (w : Option (List ℕ)) (f : Option ℕ). record { written = w; failures = f }) c.in-Ok.ensures.moved unfailed in
    let rest : take (length bytes - count) (drop count bytes) ≡ drop count bytes = take_all (length bytes - count) (drop count bytes)
    (omega (arith, length-drop count bytes)) in
    subst (λ (all : List ℕ). Puts (told_by g.Wr.Target.written g.Wr.Target.failures c.args.writer.now) all
    c.put_rest.result (told_by g.Wr.Target.written g.Wr.Target.failures c.put_rest.new.writer))
    (take-append-drop count bytes) (Puts-behind _ _ _ (take count bytes) (drop count bytes) c.put_rest.result mid (rw rest at c.put_rest.ensures.puts))
