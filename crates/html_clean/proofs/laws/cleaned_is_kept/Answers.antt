use Rattle.html_clean.proofs.Kept.{all-kept}
use Rattle.html_clean.proofs.laws.cleaned_is_kept.Goals as goal

pub returns : goal.returns
returns c = all-kept
