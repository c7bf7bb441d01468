use Rattle.std.proofs.Common.{◌∙◌, ◌++◌, List, ℕ, ap, sym}
use Rattle.std.specs.List.{flat_map}
use Rattle.std.specs.Str.{chars}
use Rattle.std.proofs.lemmas.Str.{encodes-chars}
use Rattle.html_clean.specs.Proxies.{encoded_byte, percent_encoded}
use Rattle.html_clean.proofs.proxies.with_prefix.Goals as goal

pub returns-clause-ok : goal.returns-clause-ok
unfolding percent_encoded
returns-clause-ok c =
    c.in_ok-push_all_encoded.ensures.ok
    ∙ (ap (λ (made : List ℕ). made ++ flat_map encoded_byte c.as_bytes.result.now) c.in_ok-made.ensures.ok
    ∙ ap (λ (bytes : List ℕ). chars c.args.prefix.now ++ flat_map encoded_byte bytes)
    (c.as_bytes.ensures.value ∙ sym (encodes-chars c.args.url.now c.utf8.url)))
