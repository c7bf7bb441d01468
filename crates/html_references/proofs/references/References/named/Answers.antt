use Rattle.std.proofs.Common.{subst}
use Rattle.std.specs.Str.{chars}
use Rattle.html_references.specs.References.{MatchesLongest}
use Rattle.html_references.proofs.TableLaws.{longest-matches}
use Rattle.html_references.proofs.NamedRows.{IsNamed, named-row}
use Rattle.html_references.proofs.references.References.named.Goals as goal

pub returns-in-Some : goal.returns-in-Some
returns-in-Some c =
    let at = rw (c.deref.ensures.value, c.as_bytes.ensures.value) at c.in-Some.ensures.found in
    let is = subst (λ rows. IsNamed rows (chars c.args.name.now) c.index.result.now) c.self.view_is
    (named-row c.self.inside.rows.items c.self.inside.order.items c.args.name.now c.index.result.now c.in-Some.place
    c.self.invariant.order_of c.utf8.name at.0 at.1 c.index.ensures) in
    record {
      row = is.longest;
      name = is.name;
      front = is.front;
      longest = subst (MatchesLongest c.args.self.now (chars c.args.name.now)) is.longest
          (longest-matches c.args.self.now (chars c.args.name.now));
    }
