use Rattle.std.proofs.Common.{◌≡◌, ◌∙◌, ◌++◌, ℕ, List, ap, sym, drop, false, append_assoc}
use Rattle.html_serialize.specs.Bytes.{escape_bytes, mode_of, place_after, written_through}
use Rattle.html_serialize.specs.Puts.{told_by, with_bytes}
use Rattle.html_serialize.proofs.EscapedBytes.{escape_bytes-through, place_after-within}
use Rattle.html_serialize.proofs.Putting.{Puts-failed, with_bytes-append}
use Rattle.html_serialize.proofs.escape.put_runs.Goals as goal

pub runs-preserved : goal.runs-preserved
runs-preserved g c =
    let mode = mode_of c.args.escaping in
    let bytes = c.args.bytes.now in
    let start = c.runs.start in
    let at = c.runs.at in
    let next = c.runs.invariant.next in
    let low = c.runs.invariant.low in
    let place : c.in_ok-start.start ≡ place_after bytes at = c.in_ok-start.ensures.place in
    let before = c.runs.invariant.done in
    let through = written_through bytes start at in
    record {
      low = c.next_escaped-at.ensures.low;
      next = c.next_escaped-at.ensures.next;
      within = rw place (place_after-within mode bytes start at next);
      done = (
        before.0 ++ through,
        (
          before.1.0 ∙ ap (λ (rest : List ℕ). before.0 ++ rest) (escape_bytes-through mode bytes start at low next)
              ∙ sym (append_assoc before.0 through (escape_bytes mode false (drop (place_after bytes at) bytes)))
              ∙ ap (λ (n : ℕ). (before.0 ++ through) ++ escape_bytes mode false (drop n bytes)) (sym place),
          c.in_ok-start.ensures.puts ∙ ap (λ (t : _). with_bytes t through) before.1.1
              ∙ with_bytes-append (told_by g.Wr.Target.written g.Wr.Target.failures c.args.writer.now) before.0 through,
        ),
      );
      same_references = c.in_ok-start.ensures.same_references ∙ c.runs.invariant.same_references;
    }

pub returns-in_err-start-clause-puts : goal.returns-in_err-start-clause-puts
returns-in_err-start-clause-puts g c =
    let mode = mode_of c.args.escaping in
    let bytes = c.args.bytes.now in
    let start = c.runs.start in
    let at = c.runs.at in
    let before = c.runs.invariant.done in
    Puts-failed _ _ _ before.0 (written_through bytes start at)
    (escape_bytes mode false (drop (place_after bytes at) bytes)) _ _ _ c.from_residual.ensures.1 before.1.1 c.in_err-start.ensures.puts
    (before.1.0 ∙ ap (λ (rest : List ℕ). before.0 ++ rest)
    (escape_bytes-through mode bytes start at c.runs.invariant.low c.runs.invariant.next))
