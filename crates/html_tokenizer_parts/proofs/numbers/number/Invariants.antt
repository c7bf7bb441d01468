use Rattle.std.proofs.Common.{◌≡◌, min, take}
use Rattle.html_tokens.specs.Reference
use Rattle.html_tokenizer_parts.specs.CharRefs.{base_of}
use Rattle.html_tokenizer_parts.proofs.numbers.number.Given as goal

abbrev pub invariant-loop-byte : goal.invariant-loop-byte
invariant-loop-byte l = (l.base ≡ base_of l.hex) × (l.value ≡ min (Reference.number (base_of l.hex) (take l.byte-index l.digits)) 0x110000)
