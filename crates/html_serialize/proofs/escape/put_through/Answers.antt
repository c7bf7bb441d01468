use Rattle.std.proofs.Common.{◌≡◌, ◌∙◌, ◌-◌, ◌++◌, ℕ, List, [], ap, sym, take, drop, length, nat_lt, true, arith}
use Rattle.std.proofs.lemmas.Bool.Decides.{nat_tests}
use Rattle.std.proofs.lemmas.List.{append-nil}
use Rattle.html_serialize.specs.Bytes.{written_through}
use Rattle.html_serialize.proofs.Putting.{Puts-failed}
use Rattle.html_serialize.proofs.escape.put_through.Goals as goal

pub returns-in_err-put-2-clause-puts : goal.returns-in_err-put-2-clause-puts
returns-in_err-put-2-clause-puts g c =
    let bytes = c.args.bytes.now in
    let run = take (c.args.at - c.args.start) (drop c.args.start bytes) in
    let below : nat_lt c.args.at (length bytes) ≡ true = grind (arith, nat_tests) in
    let whole : written_through bytes c.args.start c.args.at ≡ run ++ (c.as_bytes.result.now ++ []) =
    rw below (ap (λ (xs : List ℕ). run ++ xs) (sym (c.as_bytes.ensures.value ∙ c.reference.ensures)
    ∙ sym (append-nil c.as_bytes.result.now))) in
    Puts-failed _ _ _ run c.as_bytes.result.now [] _ _ _ c.from_residual-in_err-put-2.ensures.1
    c.in_ok-put.ensures.puts c.in_err-put-2.ensures.puts whole
