use Rattle.std.proofs.Common.{◌≡◌, ◌∙◌, ◌∷◌, ap, arith, length, sym, take}
use Rattle.html_stack.specs.Stacks.{Stacked, open_of}
use Rattle.html_faithful_judge.specs.Contexts.{kept_of, number_of}
use Rattle.html_faithful_judge.proofs.Contexts.{count-opens}
use Rattle.html_faithful_judge.proofs.open.OpenElements.push.Goals as goal

pub invariant_of-self-in-Ok : goal.invariant_of-self-in-Ok
invariant_of-self-in-Ok c =
    let pushed : c.push.new.self.open_elems ≡ open_of number_of c.args.element ∷ c.self.inside.stack.open_elems =
    ap (λ (s : Stacked). s.open_elems) c.in-Ok.ensures.ok in
    let below : length c.open_elems-below.result.now ≡ length c.self.inside.stack.open_elems =
    sym (count-opens number_of c.open_elems-below.result.now) ∙ ap length c.open_elems-below.ensures in
    c.in_ok-keep.ensures.ok c.self.inside.stack.open_elems c.self.invariant below ∙ ap kept_of (sym pushed)

pub invariant_of-self-in-Err : goal.invariant_of-self-in-Err
invariant_of-self-in-Err c =
    let back : c.push.new.self.open_elems ≡ c.self.inside.stack.open_elems = ap (λ (s : Stacked). s.open_elems) c.in-Err.ensures.err in
    let count : c.len-kept.result ≡ length c.self.inside.contexts.items = omega (arith, c.len-kept.ensures) in
    c.truncate.ensures.items
    ∙ (ap (λ n. take n c.keep.new.contexts.items) count
    ∙ (c.keep.ensures.front ∙ (c.self.invariant ∙ ap kept_of (sym back))))
