use Rattle.std.proofs.Common.{◌-◌, vec_len}
use Rattle.html_clean.proofs.Noted.{nothing-noted}
use Rattle.html_clean.proofs.notes.Notes.new.Goals as goal

pub invariant_of-result : goal.invariant_of-result
invariant_of-result c =
    nothing-noted c.args.policy.now _ _ 626 1024 (626 - vec_len c.new-elements.result) (1024 - vec_len c.new-verdicts.result) _ _ _ _
    c.new-elements.ensures.items c.new-verdicts.ensures.items c.resize.ensures.items c.resize-2.ensures.items
