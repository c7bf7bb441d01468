use Rattle.html_tokens.proofs.SoundItems.{item-sound}
use Rattle.html_tokens.proofs.laws.tokens_are_sound.Goals as goal

pub returns : goal.returns
returns c = item-sound
