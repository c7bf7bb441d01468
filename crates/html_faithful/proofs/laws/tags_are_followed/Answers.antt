use Rattle.std.proofs.Common.{refl}
use Rattle.html_rules.specs.Rules.{settle}
use Rattle.html_faithful.specs.Walk.{end_tag, start_tag}
use Rattle.html_faithful.proofs.Keeping.{settled-so}
use Rattle.html_faithful.proofs.Tags.{ends, starts}
use Rattle.html_faithful.proofs.laws.tags_are_followed.Goals as goal

pub returns : goal.returns
returns c = record {
  starts = λ name attributes template p s here.
      let t = start_tag name attributes in starts s p here name attributes template (settle t s) (settled-so s p here t refl);
  ends = λ name p s here. let t = end_tag name in ends s p here name (settle t s) (settled-so s p here t refl);
}
