use Rattle.std.proofs.Common.{inr, refl}
use Rattle.clap.specs.Values.{kind_of}
use Rattle.figpliers.specs.Puts.{told_by}
use Rattle.figpliers_program.specs.declared.faults.Verdict.TheVariants.{Fine, Unwritten}
use Rattle.figpliers_program.proofs.Answering.{helped, refused}
use Rattle.figpliers_program.proofs.program.answer_text.Goals as goal

pub returns-then-use_stderr : goal.returns-then-use_stderr
returns-then-use_stderr g c = inr (refused (kind_of c.args.error.now) c.use_stderr.result
    (told_by g.Output.Target.written g.Output.Target.failures c.args.output.now) (g.Errors.Target.written c.args.errors.now)
    (g.Errors.Target.written c.write_whole.new.target) c.use_stderr.ensures c.if-use_stderr.true)

pub returns-in-Ok-put : goal.returns-in-Ok-put
returns-in-Ok-put g c =
    let errors = g.Errors.Target.written c.args.errors.now in
    inr (helped (kind_of c.args.error.now) c.use_stderr.result
    (told_by g.Output.Target.written g.Output.Target.failures c.args.output.now)
    (told_by g.Output.Target.written g.Output.Target.failures c.put.new.writer) errors errors Fine c.use_stderr.ensures
    c.if-use_stderr.false (refl, (c.as_str.result.now, c.in-Ok-put.ensures.prints)))

pub returns : goal.returns
returns g c =
    let errors = g.Errors.Target.written c.args.errors.now in
    inr (helped (kind_of c.args.error.now) c.use_stderr.result
    (told_by g.Output.Target.written g.Output.Target.failures c.args.output.now)
    (told_by g.Output.Target.written g.Output.Target.failures c.put.new.writer) errors errors Unwritten c.use_stderr.ensures
    c.if-use_stderr.false (refl, (c.as_str.result.now, rw c.in-Err.ensures.fault at c.in-Err.ensures.prints)))
