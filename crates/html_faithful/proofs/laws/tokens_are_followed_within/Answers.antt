use Rattle.html_faithful.proofs.Turns.{followed-within}
use Rattle.html_faithful.proofs.laws.tokens_are_followed_within.Goals as goal

pub returns : goal.returns
returns c = λ t p s stands settled adopts open_tag turns beyond enough. followed-within t p s stands settled adopts open_tag turns
    beyond enough
