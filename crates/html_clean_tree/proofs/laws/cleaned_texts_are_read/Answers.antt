use Rattle.html_clean.proofs.Read.{cleaned-read}
use Rattle.html_rules.specs.ForeignContent.{asks_cdata}
use Rattle.html_rules.specs.Step.{ended, is_quiet, step}
use Rattle.html_rules_laws.specs.Usable.{Usable}
use Rattle.html_rules_laws.proofs.Progress.UsableTokens.{states-usable}
use Rattle.html_clean_tree.proofs.Elements.{elements-cleaned}
use Rattle.html_clean_tree.proofs.GoOn.{go-on}
use Rattle.html_clean_tree.proofs.Pieces.{pieces-usable}
use Rattle.html_clean_tree.proofs.laws.cleaned_texts_are_read.Goals as goal

pub returns : goal.returns
returns c policy erred rows reads scripting trees last breaks s usable more = record {
  reading = (cleaned-read Usable step asks_cdata ended is_quiet states-usable.sink policy (go-on policy Usable) erred rows
      reads scripting trees last breaks s usable more).1;
  elements = elements-cleaned policy trees breaks s usable;
  usable = pieces-usable policy trees breaks s usable;
}
