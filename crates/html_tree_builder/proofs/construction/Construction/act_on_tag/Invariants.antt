use Rattle.std.proofs.Common.{◌≡◌}
use Rattle.html_tokens.specs.declared.token.Token.TheVariants.{TagToken}
use Rattle.html_modes.specs.Tables.{action_of}
use Rattle.html_rules.specs.Actions.{act}
use Rattle.html_tree_builder.specs.Acting.{MayAct}
use Rattle.html_tree_builder.specs.States.{Stands, built}
use Rattle.html_tree_builder.proofs.construction.Construction.act_on_tag.Given as goal

abbrev pub invariant-loop-rest : goal.invariant-loop-rest
invariant-loop-rest g l =
    let sink = g.Sink.TreeSink in
    let t = TagToken l.fn.tag in
    let s = built sink l.self (sink.forest l.sink) in
    record {
      tag : l.tag ≡ l.fn.tag;
      stands : Stands (sink.forest l.sink) l.self;
      may : MayAct (action_of l.rest) t s;
      same : act (action_of l.rest) t s ≡ act (action_of l.fn.action) t (built sink l.fn.self (sink.forest l.fn.sink));
    }
