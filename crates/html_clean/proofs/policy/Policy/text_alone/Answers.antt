use Rattle.std.proofs.Common.{refl}
use Rattle.std.specs.Str.{chars}
use Rattle.html_clean.proofs.policy.Policy.text_alone.Goals as goal

pub returns-clause-ok : goal.returns-clause-ok
unfolding chars
returns-clause-ok c = record {
  kept = c.new.ensures.items;
  dropped = c.in_ok-names_of.ensures.ok;
  everywhere = c.new-2.ensures.items;
  beginnings = c.new-3.ensures.items;
  values = c.new-4.ensures.items;
  added = c.new-5.ensures.items;
  urls = c.new-6.ensures.items;
  schemes = c.new-7.ensures.items;
  relative = refl;
  hosts = refl;
}
