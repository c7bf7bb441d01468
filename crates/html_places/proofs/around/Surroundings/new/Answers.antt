use Rattle.std.proofs.Common.{[], List, refl, rules, subst, sym}
use Rattle.std.specs.Str.{IsUtf8}
use Rattle.std.proofs.lemmas.Str.{chars-nil}
use Rattle.html_places.specs.Fronts.{IsFront}
use Rattle.html_places.proofs.around.Surroundings.new.Goals as goal

pub returns-clause-gone : goal.returns-clause-gone
returns-clause-gone c =
    let empty : IsUtf8 [] = search rules in
    record { gone = []; utf8 = empty; text = c.utf8.text; whole = refl; front = subst (λ (cs : List _). IsFront cs c.new.result) (sym chars-nil) c.new.ensures }
