use Rattle.std.proofs.Common.{◌≡◌, take}
use Rattle.html_tokenizer_parts.proofs.keyword.Keyword.text.Given as goal

abbrev pub invariant-loop-c : goal.invariant-loop-c
invariant-loop-c l = l.text ≡ take l.c-index l.c-items
