use Rattle.html_faithful.proofs.Waiting.{done-between, text-waits}
use Rattle.html_faithful.proofs.laws.white_space_waits.Goals as goal

pub returns : goal.returns
returns c = record { texts = text-waits; tokens = done-between }
