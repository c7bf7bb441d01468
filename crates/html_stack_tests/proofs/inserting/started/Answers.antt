use Rattle.html_stack_tests.proofs.Starts.{empty-Standing}
use Rattle.html_stack_tests.proofs.inserting.started.Goals as goal

pub create_root-requires : goal.create_root-requires
create_root-requires c = rw (c.in_ok-forest.ensures.ok, c.new-stack.ensures) empty-Standing
