use Rattle.std.proofs.Common.{ap}
use Rattle.html_rules.specs.State.{Open}
use Rattle.html_names.specs.ElementNames.{Named}
use Rattle.html_tree_builder.specs.States.{number_if}
use Rattle.html_tree_builder.proofs.Fields.{left_of, pushed-head}
use Rattle.html_tree_builder.proofs.construction.Construction.push_head_elem.Goals as goal

pub returns-clause-ok : goal.returns-clause-ok
returns-clause-ok g c = λ a f.
    let node = g.Sink.TreeSink.node in
    rw (← c.self.view_is)
    (pushed-head a (left_of c.self.view_is) f (node c.in-Some.handle)
    (record {
      number = node c.in-Some.handle;
      namespace = c.in_ok-name.name.namespace;
      name = c.in_ok-name.name.name;
      rules = c.in_ok-name.name.rules;
    }) c.push.new.self
    (ap (number_if node) c.in-Some.is)
    (rw (← c.self.view_is) at (ap {A = Named} {B = Open} (λ named. record {
      number = node c.in-Some.handle;
      namespace = named.namespace;
      name = named.name;
      rules = named.rules;
    }) c.in_ok-name.ensures.ok))
    c.in_ok-push.ensures.ok)
