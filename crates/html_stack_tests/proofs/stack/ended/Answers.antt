use Rattle.html_stack_tests.proofs.Starts.{empty-Standing}
use Rattle.html_stack_tests.proofs.stack.ended.Goals as goal

pub end-requires : goal.end-requires
end-requires c = rw (c.in_ok-forest.ensures.ok, c.new-stack.ensures) empty-Standing
