-- Runs of backticks (CommonMark, sections 4.5 and 6.1).
use Rattle.std.specs.Prelude.{ℕ, suc, ◌==◌, cond, max, List, [], ◌∷◌}

-- the length of the longest run in the rest of a text, after a run of that length, where the longest before had that length
abbrev pub longest_from : ℕ → ℕ → List ℕ → ℕ
longest_from longest run [] = longest
longest_from longest run (c ∷ cs) =
    let more = cond (c == 96) (suc run) 0 in longest_from (max longest more) more cs

abbrev pub longest_run : List ℕ → ℕ
longest_run text = longest_from 0 0 text
