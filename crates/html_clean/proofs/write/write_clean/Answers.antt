use Rattle.std.proofs.Common.{◌≡◌, ◌∙◌, [], ap, sym, refl, append-nil, rules}
use Rattle.std.specs.Prelude.{true, false, None}
use Rattle.std.proofs.lemmas.Result.{IfOk-weaker}
use Rattle.markup.specs.Trees.{default_entry, written}
use Rattle.markup.specs.declared.serializer.TraversalScope.TheVariants.{ChildrenOnly}
use Rattle.html_clean.specs.Pieces.{written_pieces}
use Rattle.html_serialize.specs.Puts.{told_by}
use Rattle.html_serialize.proofs.Runs.{writes}
use Rattle.html_clean.specs.Calls.{filtered}
use Rattle.html_clean.specs.Cleaned.{cleaned, pieces_of}
use Rattle.html_clean.specs.Counts.{all_counted, nothing_counted}
use Rattle.html_clean.proofs.Calls.{all-filtered}
use Rattle.html_clean.proofs.Kept.{all-kept}
use Rattle.html_clean.proofs.Pieces.{pieces-balanced, pieces-kept, written-pieces}
use Rattle.html_clean.proofs.write.write_clean.Goals as goal

pub returns-clause-text : goal.returns-clause-text
returns-clause-text g c = λ trees is.
    let policy = c.args.policy.now in
    let left = cleaned policy trees in
    let kept = all-kept policy trees in
    let all = g.T.Serialize.calls c.args.node.now (ChildrenOnly None) in
    let calls = ap (filtered policy [] true) is ∙ all-filtered policy trees in
    let same : written_pieces (pieces_of left) ≡ written true default_entry left =
    sym (written-pieces policy true left kept []) ∙ append-nil (written true default_entry left) in
    record {
      pieces = pieces_of left;
      left = record { are = refl; kept = pieces-kept policy left kept [] refl; balanced = pieces-balanced left [] [] };
      writes = rw same (writes true false (ChildrenOnly None) (filtered policy [] true all)
          (told_by g.W.Target.written g.W.Target.failures c.args.writer.now) _ c.walk.result.answer (search rules) left calls);
      counts = IfOk-weaker c.walk.result.answer _ _ (λ counts h. h ∙ ap (all_counted policy [] nothing_counted) is) c.walk.ensures.counts;
    }
