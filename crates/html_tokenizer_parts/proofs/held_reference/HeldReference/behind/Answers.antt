use Rattle.html_tokenizer_parts.proofs.HeldTexts.{held-behind}
use Rattle.html_tokenizer_parts.proofs.held_reference.HeldReference.behind.Goals as goal

pub returns : goal.returns
returns c = held-behind c.range_from.result.now c.as_str.result.now c.args.self.now c.args.count
    c.range_from.ensures.value c.as_str.ensures.bytes c.as_str.ensures.held
