use Rattle.std.proofs.Common.{rules}
use Rattle.html_serialize.specs.Puts.{told_by}
use Rattle.html_serialize.proofs.Runs.{writes}
use Rattle.html_serialize.proofs.serializer.serialize.Goals as goal

pub returns-clause-text : goal.returns-clause-text
returns-clause-text g c = λ trees is.
    let opts = c.args.opts in
    writes opts.scripting_enabled opts.create_missing_parent opts.traversal_scope
    (g.T.Serialize.calls c.args.node.now opts.traversal_scope)
    (told_by g.Wr.Target.written g.Wr.Target.failures c.args.writer.now) _ c.walk.result.answer (search rules) trees is
