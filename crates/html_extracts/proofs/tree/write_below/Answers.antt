use Rattle.std.proofs.Common.{◌≡◌, ◌∙◌, ◌++◌, ℕ, List, [], ap, append_assoc, refl, rules, sym}
use Rattle.std.proofs.lemmas.List.{append-nil}
use Rattle.std.proofs.lemmas.Result.{err_from_is_err_and}
use Rattle.html_serialize.proofs.Putting.{with_bytes-none, with_bytes-then}
use Rattle.html_serialize.specs.Puts.{told_by, with_bytes}
use Rattle.html_extracts.specs.Lines.{all_lines, node_lines, tree_lines}
use Rattle.html_extracts.proofs.Listing.{written-until}
use Rattle.html_extracts.proofs.tree.write_below.Goals as goal

pub loop-id-init : goal.loop-id-init
loop-id-init g c = ([], with_bytes-none _, search rules, refl)

pub loop-id-preserved : goal.loop-id-preserved
loop-id-preserved g c =
    let f = c.args.forest.now in
    let done = c.loop-id.invariant.0 in
    let left = c.next.new.self in
    let node = node_lines f c.in-Some.id in (
      done ++ node,
      with_bytes-then _ _ _ done node c.loop-id.invariant.1 c.in_ok-write_node.ensures.writes,
      c.loop-id.invariant.2 ∙ (ap (λ (ns : List ℕ). done ++ all_lines f ns) c.in-Some.ensures.steps
          ∙ sym (append_assoc done node (all_lines f left))),
      c.in_ok-write_node.ensures.same_references ∙ c.loop-id.invariant.3,
    )

pub returns-in_err-write_node-clause-writes : goal.returns-in_err-write_node-clause-writes
returns-in_err-write_node-clause-writes g c =
    let f = c.args.forest.now in
    let done = c.loop-id.invariant.0 in
    let node = node_lines f c.in-Some.id in
    let rest = all_lines f c.next.new.self in
    let p = err_from_is_err_and c.from_residual.result c.from_residual.ensures.1 in
    rw (p.1, p.2) (written-until _ _ _ done node rest _ c.in_err-write_node.field-0.0 c.loop-id.invariant.1
    (c.loop-id.invariant.2 ∙ ap (λ (ns : List ℕ). done ++ all_lines f ns) c.in-Some.ensures.steps) c.in_err-write_node.ensures.writes)

pub returns-in_err-write_node-clause-same_references : goal.returns-in_err-write_node-clause-same_references
returns-in_err-write_node-clause-same_references g c =
    c.in_err-write_node.ensures.same_references ∙ c.loop-id.invariant.3

pub returns-clause-writes : goal.returns-clause-writes
returns-clause-writes g c =
    let f = c.args.forest.now in
    let done = c.loop-id.invariant.0 in
    let whole : tree_lines f c.args.top ≡ done = c.loop-id.invariant.2
    ∙ (ap (λ (ns : List ℕ). done ++ all_lines f ns) c.in-None.ensures.steps.0 ∙ append-nil done) in
    c.loop-id.invariant.1 ∙ ap (with_bytes (told_by g.W.Target.written g.W.Target.failures c.args.lines.now.writer)) (sym whole)
