use Rattle.std.proofs.Common.{sym}
use Rattle.html_rules_laws.proofs.TreePreserved.StandingTrees.{template-Parent}
use Rattle.html_stack.specs.Stacks.{open_of}
use Rattle.html_stack.proofs.Points.{opened-IsParent, template-named}
use Rattle.html_stack.proofs.inserting.places.inside_point.Goals as goal

pub get_template_contents-requires : goal.get_template_contents-requires
get_template_contents-requires g c = template-named (g.Sink.TreeSink.forest c.args.sink.now)
    (open_of g.Sink.TreeSink.node c.args.target.now) c.requires (sym c.if-is_in.ensures)

pub returns-then-is_in-clause-is_point : goal.returns-then-is_in-clause-is_point
returns-then-is_in-clause-is_point g c f tree is = rw c.get_template_contents.ensures
    (template-Parent f (open_of g.Sink.TreeSink.node c.args.target.now) tree is (sym c.if-is_in.ensures))

pub returns-else-is_in-clause-is_point : goal.returns-else-is_in-clause-is_point
returns-else-is_in-clause-is_point g c f tree is = opened-IsParent f (open_of g.Sink.TreeSink.node c.args.target.now) is
