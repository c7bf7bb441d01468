use Rattle.std.proofs.Common.{◌≡◌, ◌∙◌, ℕ, drop, ap}
use denote.Bor.{Bor}
use Rattle.html_tokens.specs.declared.tags.Tag.{Tag}
use Rattle.html_rules.specs.Rules.{first_fit, rows}
use Rattle.html_rules.specs.State.{State}
use Rattle.html_rules.specs.Tokens.{name_of}
use Rattle.html_rules.specs.declared.insertion_mode.InsertionMode.{InsertionMode}
use Rattle.html_modes.specs.FirstRows.{rows_before, sets_of}
use Rattle.html_modes.proofs.FirstRows.{before-passed, sets-known}
use Rattle.html_tree_builder.specs.Told.{IsTold, token_of}
use Rattle.html_tree_builder.specs.declared.told.Content.TheVariants.{Tag as TagContent}
use Rattle.html_tree_builder.specs.declared.told.NamedToken.{NamedToken}
use Rattle.html_tree_builder.proofs.told.NamedToken.rows_passed.Goals as goal

tag-passed : (told : NamedToken) (tag : Bor Tag) (passed : ℕ) (mode : InsertionMode) (s : State) → IsTold told
    → told.content ≡ TagContent tag → passed ≡ rows_before tag.now.kind (sets_of told.class.known) (rows mode)
    → first_fit (drop passed (rows mode)) (token_of told.content) s ≡ first_fit (rows mode) (token_of told.content) s
tag-passed told tag passed mode s is e p =
    let same = is.name ∙ ap (λ content. name_of (token_of content)) e in
    rw (e, p) (before-passed (rows mode) tag.now (sets_of told.class.known) s
    (rw same at (sets-known told.class.known told.name.now is.class.known)))

pub returns-in-Tag : goal.returns-in-Tag
returns-in-Tag c s = tag-passed c.args.self.now c.in-Tag.tag c.rows_before.result c.args.mode s c.requires c.in-Tag.is c.rows_before.ensures
