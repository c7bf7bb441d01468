use Rattle.std.proofs.Common.{◌≡◌, drop}
use Rattle.std.specs.List.{list_all}
use Rattle.html_clean.specs.Policies.{is_kept_url}
use Rattle.html_clean.proofs.attributes.are_kept.Given as goal

abbrev pub invariant-loop-url : goal.invariant-loop-url
invariant-loop-url l =
    list_all (is_kept_url l.policy l.element l.name) (drop l.url-index l.urls) ≡ list_all (is_kept_url l.policy l.element l.name) l.urls
