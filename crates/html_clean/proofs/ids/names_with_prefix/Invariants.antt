use Rattle.std.proofs.Common.{◌≡◌, [], drop, map}
use Rattle.std.specs.Str.{chars}
use Rattle.html_clean.specs.Values.{joined_after, with_prefix, words_of}
use Rattle.html_clean.proofs.ids.names_with_prefix.Given as goal

abbrev pub invariant-loop-name : goal.invariant-loop-name
invariant-loop-name l =
    joined_after l.made (map (with_prefix (chars l.prefix)) (drop l.name-index l.name-items))
    ≡ joined_after [] (map (with_prefix (chars l.prefix)) (words_of (chars l.value)))
