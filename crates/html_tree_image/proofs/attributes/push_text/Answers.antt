use Rattle.std.proofs.Common.{◌∙◌, ℕ, List, ◌++◌, ap, length, sym}
use Rattle.std.proofs.lemmas.List.{length-append}
use Rattle.std.proofs.lemmas.Str.{encodes-chars}
use Rattle.html_tree_image.proofs.attributes.push_text.Goals as goal

pub returns-clause-text : goal.returns-clause-text
returns-clause-text c = c.in_ok-extend_from_slice.ensures.items
    ∙ ap (λ (bs : List ℕ). c.args.texts.now.items ++ bs) (c.as_bytes.ensures.value ∙ sym (encodes-chars c.args.text.now c.utf8.text))

pub returns-clause-length : goal.returns-clause-length
returns-clause-length c = sym (ap length (encodes-chars c.args.text.now c.utf8.text))

pub returns-clause-grown : goal.returns-clause-grown
returns-clause-grown c = ap length (returns-clause-text c) ∙ length-append _ _
