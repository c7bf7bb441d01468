use Rattle.std.proofs.Common.{◌≡◌, ◌∙◌, ◌++◌, ◌∷◌, [], ◌-◌, length, suc, take, ap, refl, arith, vec_len}
use Rattle.html_stack.proofs.Noted.{IsNoted-next, IsNoted-same, length-next, without-last}
use Rattle.html_stack.proofs.depths.Depths.put.Goals as goal

pub returns-then-is_err-clause-noted : goal.returns-then-is_err-clause-noted
returns-then-is_err-clause-noted c xs next is =
    IsNoted-same xs c.args.self.now (record { notes = c.push.new.self; tops = c.args.self.now.tops })
    (c.push.ensures.items ∙ rw (c.is_err.ensures.negation, c.if-is_err.true) refl) (λ html other. refl) is

pub returns-then-set-clause-noted : goal.returns-then-set-clause-noted
returns-then-set-clause-noted c xs next is =
    let items : c.push.new.self.items ≡ c.args.self.now.notes.items ++ c.args.note ∷ [] = c.push.ensures.items
    ∙ rw (c.is_err.ensures.negation, c.if-is_err.false) refl in
    let count : length c.push.new.self.items ≡ suc (length c.args.self.now.notes.items) =
    length-next c.args.self.now.notes.items c.push.new.self.items c.args.note items in
    IsNoted-next xs c.args.self.now (record { notes = c.push.new.self; tops = c.set.new.self }) c.args.note
    c.args.name c.len.result items (omega (arith, c.len.ensures, count)) (c.set.ensures.set c.if-set.true) next is

pub returns-clause-noted : goal.returns-clause-noted
returns-clause-noted c xs next is =
    let items : c.push.new.self.items ≡ c.args.self.now.notes.items ++ c.args.note ∷ [] = c.push.ensures.items
    ∙ rw (c.is_err.ensures.negation, c.if-is_err.false) refl in
    let short : vec_len c.push.new.self - 1 ≡ length c.push.new.self.items - 1 = omega arith in
    IsNoted-same xs c.args.self.now (record { notes = c.pop.new.self; tops = c.set.new.self })
    (c.pop.ensures.rest ∙ ap (λ n. take n c.push.new.self.items) short
    ∙ without-last c.args.self.now.notes.items c.push.new.self.items c.args.note items) (c.set.ensures.unset c.if-set.false) is
