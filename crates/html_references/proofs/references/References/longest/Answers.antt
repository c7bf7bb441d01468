use Rattle.std.proofs.Common.{◌∙◌, ap, sym, subst}
use Rattle.std.specs.Str.{chars}
use Rattle.html_references.specs.References.{MatchesLongest, longest}
use Rattle.html_references.proofs.Longest.{slice_get-get_or}
use Rattle.html_references.proofs.Spelled.{longest-chars}
use Rattle.html_references.proofs.TableLaws.{longest-matches}
use Rattle.html_references.proofs.references.References.longest.Goals as goal

pub returns-in-None : goal.returns-in-None
returns-in-None c =
    let e =
    rw (c.deref.ensures.value, c.as_bytes.ensures.value) at c.in-None.ensures.longest
    ∙ (longest-chars c.self.inside.rows.items c.self.inside.order.items c.args.text.now c.self.invariant.order_of c.utf8.text
    ∙ ap (λ rows. longest rows (chars c.args.text.now)) c.self.view_is) in
    record {
      row = e;
      longest = subst (MatchesLongest c.args.self.now (chars c.args.text.now)) (sym e)
          (longest-matches c.args.self.now (chars c.args.text.now));
    }

pub returns-in-Some : goal.returns-in-Some
returns-in-Some c =
    let e =
    slice_get-get_or c.self.inside.rows.items c.in-Some.place c.index.result.now
    (rw c.deref.ensures.value at c.in-Some.ensures.within) c.index.ensures
    ∙ (rw (c.deref.ensures.value, c.as_bytes.ensures.value) at c.in-Some.ensures.longest
    ∙ (longest-chars c.self.inside.rows.items c.self.inside.order.items c.args.text.now c.self.invariant.order_of c.utf8.text
    ∙ ap (λ rows. longest rows (chars c.args.text.now)) c.self.view_is)) in
    record {
      row = e;
      longest = subst (MatchesLongest c.args.self.now (chars c.args.text.now)) (sym e)
          (longest-matches c.args.self.now (chars c.args.text.now));
    }
