-- Runs of backticks.
use Rattle.std.proofs.Common.{◌≤◌, ◌<◌, ◌+◌, ◌==◌, ℕ, zero, suc, cond, max, replicate, List, [], ◌∷◌, ◌++◌, arith}
use Rattle.html_markdown.specs.Fence.{longest_from, longest_run}

-- the length of the run and of the longest one after a byte more
abbrev run-after : ℕ → ℕ → ℕ
run-after run c = cond (c == 96) (suc run) 0

-- what was longest stays no longer than the longest
grows : (longest run : ℕ) (cs : List ℕ) → longest ≤ longest_from longest run cs
grows longest run [] = omega arith
grows longest run (c ∷ cs) =
    let later = grows (max longest (run-after run c)) (run-after run c) cs in omega (arith, later)

within : (longest run count : ℕ) (after : List ℕ) → run ≤ longest → run + count ≤ longest_from longest run (replicate count 96 ++ after)
within longest run zero after le = let later = grows longest run after in omega (arith, later)
within longest run (suc count) after le =
    let later = within (max longest (suc run)) (suc run) count after (omega arith) in omega (arith, later)

behind : (longest run count : ℕ) (before after : List ℕ) → run ≤ longest
    → count ≤ longest_from longest run (before ++ (replicate count 96 ++ after))
behind longest run count [] after le = let here = within longest run count after le in omega (arith, here)
behind longest run count (c ∷ before) after le =
    behind (max longest (run-after run c)) (run-after run c) count before after (omega arith)

pub longer : (before after : List ℕ) (count : ℕ) → count < suc (longest_run (before ++ (replicate count 96 ++ after)))
longer before after count = let all = behind 0 0 count before after (omega arith) in omega (arith, all)
