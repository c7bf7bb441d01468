use Rattle.std.proofs.Common.{◌∙◌, sym}
use Rattle.html_tokenizer.proofs.Fronts.Texts.{letter-if}
use Rattle.html_tokenizer.proofs.front_tags.begins_with_letter.Goals as goal

pub returns-then-not-is_empty : goal.returns-then-not-is_empty
returns-then-not-is_empty c = λ letter. letter-if _ _ _ c.as_bytes-bytes.ensures.value c.is_empty.ensures
    c.if-not-is_empty.true (sym c.is_ascii_alphabetic.ensures.value ∙ letter)
