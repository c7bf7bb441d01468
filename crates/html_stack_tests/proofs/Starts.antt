-- Nothing but the document stands, and nothing is open.
use Rattle.std.proofs.Common.{[], refl}
use Rattle.markup.specs.Forest.{empty_forest}
use Rattle.markup.proofs.Forests.{IsForest-empty}
use Rattle.markup.proofs.TemplateContents.{HasContents-empty}
use Rattle.html_rules_laws.specs.Soundness.{IsStanding}

pub empty-Standing : IsStanding empty_forest [] []
empty-Standing = record {
  tree = record { forest = IsForest-empty; contents = HasContents-empty };
  opened = tt;
  apart = tt;
  listed = tt;
  top = refl;
}
