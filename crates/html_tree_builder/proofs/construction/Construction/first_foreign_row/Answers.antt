use Rattle.std.proofs.Common.{◌∙◌, ap}
use Rattle.html_rules.specs.Rules.{first_fit}
use Rattle.html_tree_builder.specs.States.{state_of}
use Rattle.html_tree_builder.specs.Told.{token_of}
use Rattle.html_tree_builder.proofs.construction.Construction.first_foreign_row.Goals as goal

pub returns : goal.returns
returns g c a f = c.first_in.ensures a f
    ∙ ap (λ rows. first_fit rows (token_of c.args.told.now.content) (state_of a c.args.self.now f)) c.rows_of_foreign_content.ensures
