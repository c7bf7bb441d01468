use Rattle.std.proofs.Common.{◌≡◌, ◌++◌, drop, map}
use Rattle.html_clean.specs.Ready.{addition_parts}
use Rattle.html_policy_text.specs.Written.{addition_text, texts_of}
use Rattle.html_policy_text.proofs.writing.write_additions.Given as goal

abbrev pub invariant-loop-addition : goal.invariant-loop-addition
invariant-loop-addition l =
    l.text ++ texts_of addition_text (map addition_parts (drop l.addition-index l.added))
    ≡ l.fn.text ++ texts_of addition_text (map addition_parts l.added)
