-- Elements of foreign content are inserted, and opened unless they close themselves.
use Rattle.std.proofs.Common.{◌≡◌, ◌∙◌, true, false, refl}
use Rattle.html_tokens.specs.declared.tags.Tag.{Tag}
use Rattle.html_rules.specs.ForeignContent.{enter_foreign}
use Rattle.html_rules.specs.Names.{Namespace}
use Rattle.html_rules.specs.Renames.{adjust_attributes}
use Rattle.html_rules.specs.State.{State}
use Rattle.html_stack.specs.Inserting.{IsFor, inserted}
use Rattle.html_stack.specs.declared.entries.PushFlag.TheVariants.{Push, NoPush}
use Rattle.html_stack.specs.declared.inserting.new_element.NewElement.{NewElement}
use Rattle.html_stack.proofs.Points.{inserted-for, put-for}

pub enter-put : (space : Namespace) (tag : Tag) (e : NewElement) (s : State) → IsFor space tag.name
    (adjust_attributes space tag.attrs) tag.had_duplicate_attributes e → tag.self_closing ≡ true
    → inserted NoPush e s ≡ enter_foreign space tag s
unfolding enter_foreign
enter-put space tag e s of closes = put-for space tag.name (adjust_attributes space tag.attrs)
    tag.had_duplicate_attributes e s of ∙ rw closes refl

pub enter-open : (space : Namespace) (tag : Tag) (e : NewElement) (s : State) → IsFor space tag.name
    (adjust_attributes space tag.attrs) tag.had_duplicate_attributes e → tag.self_closing ≡ false
    → inserted Push e s ≡ enter_foreign space tag s
unfolding enter_foreign
enter-open space tag e s of stays = inserted-for space tag.name (adjust_attributes space tag.attrs)
    tag.had_duplicate_attributes e s of ∙ rw stays refl
