use Rattle.std.proofs.Common.{◌≡◌, ◌++◌, drop}
use Rattle.html_policy_text.specs.Rules.{whole_words, word_beginnings}
use Rattle.html_policy_text.proofs.limits.parts_of.Given as goal

abbrev pub invariant-loop-word : goal.invariant-loop-word
invariant-loop-word l = record {
  words : l.words.items ++ whole_words (drop l.word-index l.list) ≡ whole_words l.list;
  beginnings : l.beginnings.items ++ word_beginnings (drop l.word-index l.list) ≡ word_beginnings l.list;
}
