use Rattle.html_tokenizer.proofs.Fronts.Texts.{cut-behind-if}
use Rattle.html_tokenizer.proofs.front_tags.after_byte.Goals as goal

pub range_from-requires : goal.range_from-requires
range_from-requires c = λ h. cut-behind-if _ _ _ _ c.utf8.text c.as_bytes-bytes.ensures.value c.is_empty.ensures
    c.if-is_empty.false c.if-bytes-byte.false c.requires.ascii
