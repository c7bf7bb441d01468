use Rattle.std.proofs.Common.{◌∙◌, List, ℕ, false, ap, encode_utf8_all, sym}
use Rattle.selectors.specs.Compare.{has}
use Rattle.html_selector_matching.proofs.Needles.{nothing-lower, something-lower}
use Rattle.html_selector_matching.proofs.substrings.has_lowered.Goals as goal

pub returns-then-is_empty-clause-ok : goal.returns-then-is_empty-clause-ok
returns-then-is_empty-clause-ok c = λ wanted e. nothing-lower (encode_utf8_all c.args.value.now) c.args.lowered.now wanted e
    (sym c.is_empty.ensures ∙ c.if-is_empty.true)

pub returns-clause-ok : goal.returns-clause-ok
returns-clause-ok c = λ wanted e. c.has_bytes.ensures
    ∙ (ap (λ (l : List ℕ). has false l c.args.lowered.now) c.as_slice.ensures.value
    ∙ something-lower (encode_utf8_all c.args.value.now) c.lower.new.buffer.items c.args.lowered.now wanted e c.in_ok-lower.ensures.ok
    (sym c.is_empty.ensures ∙ c.if-is_empty.false))
