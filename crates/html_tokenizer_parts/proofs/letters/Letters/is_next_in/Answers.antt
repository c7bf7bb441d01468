use Rattle.std.proofs.Common.{◌∙◌, arith}
use Rattle.html_tokenizer_parts.proofs.Words.{own-letters, next-none, next-some}
use Rattle.html_tokenizer_parts.proofs.letters.Letters.is_next_in.Goals as goal

pub returns-then-place-name : goal.returns-then-place-name
returns-then-place-name c =
    next-none c.args.name.now c.args.self.now c.as_str-place.result.now c.args.letter
    (own-letters c.as_str-place.result.now c.args.self.now c.as_str-place.utf8
    (c.as_str-place.ensures ∙ c.self.view_is) (rw (← c.self.view_is) c.self.invariant)) c.if-place-name.true

pub returns : goal.returns
returns c =
    rw (c.to_ascii_lowercase.ensures.value, c.to_ascii_lowercase-2.ensures.value, c.from.ensures, c.as_bytes.ensures.value)
    (next-some c.args.name.now c.args.self.now c.as_str-place.result.now c.args.letter
    (own-letters c.as_str-place.result.now c.args.self.now c.as_str-place.utf8
    (c.as_str-place.ensures ∙ c.self.view_is) (rw (← c.self.view_is) c.self.invariant)) (omega arith))
