use Rattle.std.proofs.Common.{◌∙◌, ◌++◌, ℕ, List, ap, map}
use Rattle.std.specs.Char.{to_ascii_lowercase}
use Rattle.std.specs.Str.{chars}
use Rattle.html_clean.specs.Pictures.{is_picture_data, picture_beginnings}
use Rattle.html_clean.specs.Beginnings.{begins_with_one}
use Rattle.html_clean.proofs.pictures.is_picture_data.Goals as goal

pub returns-clause-ok : goal.returns-clause-ok
unfolding chars is_picture_data
returns-clause-ok c =
    c.begins_with_any.ensures ∙ ap (begins_with_one picture_beginnings) (c.as_str-2.ensures ∙ (c.in_ok-push_lowered.ensures.ok
    ∙ (ap (λ (made : List ℕ). made ++ map to_ascii_lowercase (chars c.as_str.result.now)) c.empty-lowered.ensures
    ∙ ap (map to_ascii_lowercase) (c.as_str.ensures ∙ c.in_ok-text.ensures.ok))))
