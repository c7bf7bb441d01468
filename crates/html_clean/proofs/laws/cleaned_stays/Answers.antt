use Rattle.html_clean.proofs.Stays.{cleaned-again, stays}
use Rattle.html_clean.proofs.laws.cleaned_stays.Goals as goal

pub returns : goal.returns
returns c = record { kept = stays; again = cleaned-again }
