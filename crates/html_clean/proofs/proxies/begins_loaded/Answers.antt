use Rattle.std.proofs.Common.{◌∙◌, ◌++◌, ℕ, List, ap, map}
use Rattle.std.specs.Char.{to_ascii_lowercase}
use Rattle.std.specs.Str.{chars}
use Rattle.html_clean.specs.Beginnings.{begins_with_one}
use Rattle.html_clean.specs.Proxies.{loaded_beginnings}
use Rattle.html_clean.proofs.proxies.begins_loaded.Goals as goal

pub returns-clause-ok : goal.returns-clause-ok
unfolding chars
returns-clause-ok c =
    c.begins_with_any.ensures ∙ ap (begins_with_one loaded_beginnings) (c.as_str.ensures ∙ (c.in_ok-push_lowered.ensures.ok
    ∙ ap (λ (made : List ℕ). made ++ map to_ascii_lowercase (chars c.args.text.now)) c.empty-lowered.ensures))
