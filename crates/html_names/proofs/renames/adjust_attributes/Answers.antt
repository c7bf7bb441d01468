use Rattle.std.proofs.Common.{◌≡◌, ◌∙◌, map}
use Rattle.html_rules.specs.Renames.{adjust_attributes}
use Rattle.html_names.specs.Renaming.{adjust_attribute}
use Rattle.html_names.proofs.HeldNames.{ok-map}
use Rattle.html_names.proofs.Renamed.{attributes-adjusted}
use Rattle.html_names.proofs.renames.adjust_attributes.Goals as goal

pub returns-clause-ok : goal.returns-clause-ok
returns-clause-ok c space kind =
    ok-map (λ made. made ≡ map (adjust_attribute c.args.namespace) c.args.attributes)
    (λ made. made ≡ adjust_attributes space c.args.attributes) c.adjust_each.result
    (λ made e. e ∙ attributes-adjusted space c.args.namespace c.args.attributes kind) c.adjust_each.ensures.ok
