use Rattle.std.proofs.Common.{[], refl, sym, rules, subst, List}
use Rattle.std.specs.Str.{IsUtf8, chars}
use Rattle.std.proofs.lemmas.Str.{chars-nil}
use Rattle.html_places.specs.Places.{ArePlaces}
use Rattle.html_places.specs.Fronts.{IsFront}
use Rattle.html_places.specs.declared.place.Place.{Place}
use Rattle.html_places.proofs.Marks.{no-places}
use Rattle.html_places.proofs.Takings.{place-here}
use Rattle.html_places.proofs.pieces.Pieces.new.Goals as goal

pub returns-clause-taken : goal.returns-clause-taken
returns-clause-taken c =
    let text = chars c.args.text.now in
    let empty : IsUtf8 [] = search rules in
    let front = subst (λ (cs : List _). IsFront cs c.new-front.result) (sym chars-nil) c.new-front.ensures in
    record {
      taken = [];
      utf8 = empty;
      whole = refl;
      front = front;
      token = place-here [] c.args.text.now c.args.text.now c.new-front.result empty refl front;
      next_token = place-here [] c.args.text.now c.args.text.now c.new-front.result empty refl front;
      text_place = tt;
      nodes = subst (λ (ps : List Place). ArePlaces text ps) (sym c.new.ensures.items) (no-places text);
      errors = subst (λ (ps : List Place). ArePlaces text ps) (sym c.new-2.ensures.items) (no-places text);
    }
