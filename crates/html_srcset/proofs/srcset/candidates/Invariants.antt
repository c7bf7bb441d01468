use Rattle.std.proofs.Common.{◌≡◌, ◌++◌, ℕ, List}
use Rattle.html_srcset.specs.Srcset.{candidates, spot_of, urls_from}
use Rattle.html_srcset.proofs.srcset.candidates.Given as goal

-- the URLs so far, and those of whatever follows, are those of all
abbrev pub invariant-loop-c : goal.invariant-loop-c
invariant-loop-c l = (rest : List ℕ)
    → l.reading.found.items ++ urls_from (spot_of l.reading.place l.reading.url l.reading.commas) rest ≡ candidates (l.yielded ++ rest)
