use Rattle.std.proofs.Common.{refl}
use Rattle.std.specs.Str.{chars}
use Rattle.html_clean.proofs.policy.Policy.text_and_links.Goals as goal

pub returns-clause-ok : goal.returns-clause-ok
unfolding chars
returns-clause-ok c = record {
  kept = c.in_ok-rules.ensures.ok;
  dropped = c.in_ok-names_of.ensures.ok;
  everywhere = c.in_ok-names_of-2.ensures.ok;
  beginnings = c.new.ensures.items;
  values = c.new-2.ensures.items;
  added = c.new-3.ensures.items;
  urls = c.new-4.ensures.items;
  schemes = c.in_ok-texts_of.ensures.ok;
  relative = refl;
  hosts = refl;
}
