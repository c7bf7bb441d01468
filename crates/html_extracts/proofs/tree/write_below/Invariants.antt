use Rattle.std.proofs.Common.{◌≡◌, ◌++◌, ℕ, List}
use Rattle.html_serialize.specs.Puts.{told_by, with_bytes}
use Rattle.html_extracts.specs.Lines.{all_lines, tree_lines}
use Rattle.html_extracts.proofs.tree.write_below.Given as goal

abbrev pub invariant-loop-id : goal.invariant-loop-id
invariant-loop-id g l =
    (done : List ℕ)
    × (told_by g.W.Target.written g.W.Target.failures l.lines.writer
    ≡ with_bytes (told_by g.W.Target.written g.W.Target.failures l.fn.lines.writer) done)
    × (tree_lines l.fn.forest l.fn.top ≡ done ++ all_lines l.fn.forest l.id-iterator)
    × (g.W.Target.references l.lines.writer ≡ g.W.Target.references l.fn.lines.writer)
