use Rattle.std.proofs.Common.{◌≡◌, ◌∙◌, ℕ, ◌+◌, List, [], ◌∷◌, ◌++◌, ap, ap₂, sym, take, drop, get_or, length, Bor, ◌<◌}
use Rattle.std.proofs.lemmas.List.{append-nil, take_more, take-append-drop}
use Rattle.std.proofs.lemmas.List.{drop_more}
use Rattle.html_serialize.specs.Puts.{joined, told_by, with_bytes}
use Rattle.html_serialize.proofs.Putting.{Puts-failed, joined-append, with_bytes-append}
use Rattle.html_serialize.proofs.put.put_all.Goals as goal

abbrev no_part : Bor (List ℕ)
no_part = record { ref_ptr = (0, 0); now = [] }

-- one part more
more : (parts : List (Bor (List ℕ))) (i : ℕ) (d : Bor (List ℕ)) → i < length parts
    → joined (take (i + 1) parts) ≡ joined (take i parts) ++ (get_or parts i d).now
more parts i d less =
    ap joined (take_more parts i d less) ∙ joined-append (take i parts) (get_or parts i d ∷ [])
    ∙ ap (λ (bytes : List ℕ). joined (take i parts) ++ bytes) (append-nil (get_or parts i d).now)

-- the parts before one, it, and those after
around : (parts : List (Bor (List ℕ))) (i : ℕ) (d : Bor (List ℕ)) → i < length parts → joined parts ≡ joined
    (take i parts) ++ ((get_or parts i d).now ++ joined (drop (i + 1) parts))
around parts i d less =
    ap joined (sym (take-append-drop i parts)) ∙ joined-append (take i parts) (drop i parts)
    ∙ ap (λ (rest : List (Bor (List ℕ))). joined (take i parts) ++ joined rest) (drop_more parts i d less)

pub loop-part-preserved : goal.loop-part-preserved
loop-part-preserved g c = record {
  so_far =
      let parts = c.args.parts.now in
      let i = c.loop-part.part-index in
      c.in_ok-put.ensures.puts
      ∙ ap₂ with_bytes c.loop-part.invariant.so_far c.as_bytes.ensures.value
      ∙ with_bytes-append _ (joined (take i parts)) (get_or parts i no_part).now
      ∙ ap (with_bytes (told_by g.Wr.Target.written g.Wr.Target.failures c.args.writer.now))
      (sym (more parts i no_part c.loop-part-test.true));
  same_references = c.in_ok-put.ensures.same_references ∙ c.loop-part.invariant.same_references;
}

pub returns-in_err-put-clause-puts : goal.returns-in_err-put-clause-puts
returns-in_err-put-clause-puts g c =
    Puts-failed _ _ _ (joined (take c.loop-part.part-index c.args.parts.now)) _
    (joined (drop (c.loop-part.part-index + 1) c.args.parts.now)) _ _ _ c.from_residual.ensures.1
    c.loop-part.invariant.so_far c.in_err-put.ensures.puts
    (around c.args.parts.now c.loop-part.part-index no_part c.loop-part-test.true
    ∙ ap (λ (bytes : List ℕ). joined (take c.loop-part.part-index c.args.parts.now)
    ++ (bytes ++ joined (drop (c.loop-part.part-index + 1) c.args.parts.now))) (sym c.as_bytes.ensures.value))
