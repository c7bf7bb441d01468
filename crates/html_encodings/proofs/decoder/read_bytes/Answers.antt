use Rattle.std.proofs.Common.{◌≡◌, ◌∙◌, [], ◌∷◌, drop, sym}
use Rattle.std.proofs.lemmas.List.{nil_from_length}
use Rattle.html_encodings.proofs.Readings.{left_front, left_step, left_end, rest_of}
use Rattle.html_encodings.proofs.decoder.read_bytes.Goals as goal

pub returns-in_default-clause-ok : goal.returns-in_default-clause-ok
returns-in_default-clause-ok g c =
    let front = left_front _ _ _ _ _ _ _ _ _ _ c.pieces.invariant c.in_ok-count.ensures.ok in
    let none : drop c.in_ok-count.count c.pieces.rest.now ≡ [] = sym (rest_of c.in_ok-count.count c.pieces.rest.now)
    ∙ nil_from_length _ c.in_default.ensures.cases in
    left_end _ _ _ _ _ _ (rw none at front)

pub pieces-preserved : goal.pieces-preserved
pieces-preserved g c =
    let front = left_front _ _ _ _ _ _ _ _ _ _ c.pieces.invariant c.in_ok-count.ensures.ok in
    let some : drop c.in_ok-count.count c.pieces.rest.now ≡ c.in-Some.byte.now ∷ c.in-Some.others.now =
    sym (rest_of c.in_ok-count.count c.pieces.rest.now) ∙ c.in-Some.ensures.cases.0 in
    left_step _ _ _ _ _ _ _ _ _ _ _ _ (rw some at front) c.read-emitted.ensures c.in_ok-put_all.ensures.ok (cc)
