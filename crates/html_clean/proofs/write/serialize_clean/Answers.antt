use Rattle.std.proofs.Common.{◌≡◌, ◌∙◌, ap, sym}
use Rattle.html_clean.specs.Filter.{Filtering}
use Rattle.html_clean.proofs.Filtered.{walks-counted, walks-filtered, walks-with}
use Rattle.html_clean.proofs.write.serialize_clean.Goals as goal

pub returns-clause-walks : goal.returns-clause-walks
returns-clause-walks g c =
    let e : c.serialize-answer.new.serializer.serializer.ghost_name ≡ c.new-filter.result.serializer.ghost_name =
    cc c.serialize-answer.ensures.same_references in
    let k : c.serializer-1.given.0 ≡ c.serialize-answer.new.serializer.serializer.now = c.serializer-1.given.1
    (sym (c.end.ensures.same_reference ∙ (e ∙ c.new-filter.ensures.same_reference))) ∙ c.end.ensures.serializer in
    let old : Filtering g.S.Serializer.State = record {
      policy = c.new-filter.result.notes;
      inner = g.S.Serializer.view c.new-filter.result.serializer.now;
      stack = c.new-filter.result.begun;
      front = c.new-filter.result.front;
      counts = c.new-filter.result.counts;
    } in
    let new : Filtering g.S.Serializer.State = record {
      policy = c.serialize-answer.new.serializer.notes;
      inner = g.S.Serializer.view c.serialize-answer.new.serializer.serializer.now;
      stack = c.serialize-answer.new.serializer.begun;
      front = c.serialize-answer.new.serializer.front;
      counts = c.serialize-answer.new.serializer.counts;
    } in
    let calls = g.T.Serialize.calls c.args.node.now c.args.scope in
    let walks = walks-filtered g.S.Serializer.step g.S.Serializer.refuses old new calls c.serialize-answer.result
    c.serialize-answer.ensures.walks in
    let told = walks-with g.S.Serializer.step g.S.Serializer.refuses _ _ _ c.counts-counts.result c.serialize-answer.result walks in
    rw (k, c.with_counts.ensures)
    (rw (c.new-filter.ensures.policy, c.new-filter.ensures.serializer, c.new-filter.ensures.begun, c.new-filter.ensures.front) at told)

pub returns-clause-counts : goal.returns-clause-counts
returns-clause-counts g c =
    let old : Filtering g.S.Serializer.State = record {
      policy = c.new-filter.result.notes;
      inner = g.S.Serializer.view c.new-filter.result.serializer.now;
      stack = c.new-filter.result.begun;
      front = c.new-filter.result.front;
      counts = c.new-filter.result.counts;
    } in
    let new : Filtering g.S.Serializer.State = record {
      policy = c.serialize-answer.new.serializer.notes;
      inner = g.S.Serializer.view c.serialize-answer.new.serializer.serializer.now;
      stack = c.serialize-answer.new.serializer.begun;
      front = c.serialize-answer.new.serializer.front;
      counts = c.serialize-answer.new.serializer.counts;
    } in
    let calls = g.T.Serialize.calls c.args.node.now c.args.scope in
    let counted = walks-counted g.S.Serializer.step g.S.Serializer.refuses old new calls c.counts-counts.result
    c.serialize-answer.result c.counts-counts.ensures c.serialize-answer.ensures.walks in
    rw c.with_counts.ensures (rw (c.new-filter.ensures.policy, c.new-filter.ensures.begun, c.new-filter.ensures.counts) at counted)

pub returns-clause-same_references : goal.returns-clause-same_references
returns-clause-same_references g c =
    let e : c.serialize-answer.new.serializer.serializer.ghost_name ≡ c.new-filter.result.serializer.ghost_name =
    cc c.serialize-answer.ensures.same_references in
    let k : c.serializer-1.given.0 ≡ c.serialize-answer.new.serializer.serializer.now = c.serializer-1.given.1
    (sym (c.end.ensures.same_reference ∙ (e ∙ c.new-filter.ensures.same_reference))) ∙ c.end.ensures.serializer in
    let r : g.S.Serializer.references c.serialize-answer.new.serializer.serializer.now ≡ g.S.Serializer.references
    c.new-filter.result.serializer.now = cc c.serialize-answer.ensures.same_references in
    ap g.S.Serializer.references k ∙ (r ∙ ap g.S.Serializer.references c.new-filter.ensures.serializer)
