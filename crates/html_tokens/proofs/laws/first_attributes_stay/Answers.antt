use Rattle.std.proofs.Common.{refl}
use Rattle.html_tokens.proofs.laws.first_attributes_stay.Goals as goal

pub returns : goal.returns
returns c tag name value = (λ h. rw h refl, λ h. rw h refl)
