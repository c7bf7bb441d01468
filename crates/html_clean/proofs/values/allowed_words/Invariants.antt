use Rattle.std.proofs.Common.{◌≡◌, drop}
use Rattle.std.specs.List.{filter}
use Rattle.std.specs.Str.{chars}
use Rattle.html_clean.specs.Values.{allowed_words, is_allowed_word, joined_after}
use Rattle.html_clean.proofs.values.allowed_words.Given as goal

abbrev pub invariant-loop-word : goal.invariant-loop-word
invariant-loop-word l =
    joined_after l.made (filter (is_allowed_word l.words l.beginnings) (drop l.word-index l.word-items))
    ≡ allowed_words l.words l.beginnings (chars l.value)
