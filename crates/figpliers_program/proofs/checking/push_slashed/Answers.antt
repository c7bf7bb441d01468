use Rattle.std.proofs.Common.{◌∙◌}
use Rattle.std.specs.String.{string_bytes}
use Rattle.figpliers_program.proofs.Paths.{slash-more}
use Rattle.figpliers_program.proofs.checking.push_slashed.Goals as goal

pub loop-id-preserved : goal.loop-id-preserved
loop-id-preserved c =
    slash-more c.args.forest.now (string_bytes c.loop-id.path) _ _ c.local_of.result.now c.loop-id.around.items c.pop.new.self.items
    c.in-Some.id c.in_ok-push_str.ensures.bytes c.in_ok-push_str-2.ensures.bytes c.local_of.ensures c.in-Some.ensures.items
    ∙ c.loop-id.invariant
