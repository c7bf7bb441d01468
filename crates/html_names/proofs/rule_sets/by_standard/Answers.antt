use Rattle.std.proofs.Common.{◌∙◌, ap, cond}
use Rattle.std.specs.Prelude.{◌==◌}
use Rattle.html_rules.specs.declared.tag_set.TagSet.TheVariants as set
use Rattle.html_names.specs.SetBits.{has_set, number_of}
use Rattle.html_names.proofs.StandardBits.{IsWith, standard-bits}
use Rattle.html_names.proofs.rule_sets.by_standard.Goals as goal

pub returns : goal.returns
returns c = standard-bits c.args.sets _ _ _ _ _ _
    (λ s. c.with_set-a.ensures s ∙ ap (λ b. cond (number_of s == number_of set.DefaultScope) b (has_set c.args.sets s)) c.has.ensures)
    (λ s. c.with_set-b.ensures s ∙ ap (λ b. cond (number_of s == number_of set.ListItemScope) b (has_set c.with_set-a.result s)) c.has-2.ensures)
    (λ s. c.with_set-c.ensures s ∙ ap (λ b. cond (number_of s == number_of set.ButtonScope) b (has_set c.with_set-b.result s)) c.has-3.ensures)
    (λ s. c.with_set-d.ensures s ∙ ap (λ b. cond (number_of s == number_of set.SpecialTag) b (has_set c.with_set-c.result s)) c.has-4.ensures)
    (λ s. c.with_set-e.ensures s ∙ ap (λ b. cond (number_of s == number_of set.BodyEnd) b (has_set c.with_set-d.result s)) c.has-5.ensures)
    (λ s. c.with_set.ensures s ∙ ap (λ b. cond (number_of s == number_of set.TableTbodyTfoot) b (has_set c.with_set-e.result s)) c.has-6.ensures)
