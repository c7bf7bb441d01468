-- What was taken of a text, and which places that gives.
use Rattle.std.proofs.Common.{◌≡◌, ◌∙◌, ◌++◌, ℕ, Bor, Global, List, Option, Vec, IfSome, IsUtf8, append_assoc, ap}
use Rattle.std.proofs.Common.{subst, sym}
use Rattle.std.specs.Str.{chars}
use Rattle.std.proofs.lemmas.Str.{IsUtf8-append, chars-append}
use Rattle.html_places.specs.Pieces.{IsTaken}
use Rattle.html_places.specs.Places.{ArePlaces, IsPlaceIn}
use Rattle.html_places.specs.Fronts.{IsFront, passed_all}
use Rattle.html_places.specs.declared.cutting.Kind.{Kind}
use Rattle.html_places.specs.declared.pieces.Next.{Next}
use Rattle.html_places.specs.declared.pieces.Pieces.{Pieces}
use Rattle.html_places.specs.declared.place.Front.{Front}
use Rattle.html_places.specs.declared.place.Place.{Place}
use Rattle.html_places.proofs.Fronts.{front-passed-all}

-- where a text was taken up to is a place of it
pub place-here : (taken rest text : List ℕ) (f : Front) → IsUtf8 taken → taken ++ rest ≡ text → IsFront (chars taken) f
    → IsPlaceIn (chars text) f.place
place-here taken rest text f utf8 whole is = record {
  front = chars taken;
  behind = chars rest;
  whole = sym (chars-append taken rest utf8) ∙ ap chars whole;
  is = is.place;
}

pub token-begun : (p : Pieces) (kind : Kind) → IsTaken p → IsTaken (record p { token = p.front.place; kind = kind })
token-begun p kind t = record {
  taken = t.taken;
  utf8 = t.utf8;
  whole = t.whole;
  front = t.front;
  token = place-here t.taken p.rest.now p.text.now p.front t.utf8 t.whole t.front;
  next_token = t.next_token;
  text_place = t.text_place;
  nodes = t.nodes;
  errors = t.errors;
}

pub front-taken : (taken piece : List ℕ) (f : Front) → IsUtf8 taken → IsFront (chars taken) f
    → IsFront (chars (taken ++ piece)) (passed_all f (chars piece))
front-taken taken piece f utf8 is =
    subst (λ (cs : List ℕ). IsFront cs (passed_all f (chars piece))) (sym (chars-append taken piece utf8))
    (front-passed-all (chars taken) f (chars piece) is)

-- after one more piece
pub piece-taken : (p : Pieces) (rest : Bor (List ℕ)) (front : Front) (piece : List ℕ) → IsTaken p
    → p.rest.now ≡ piece ++ rest.now → IsUtf8 piece → front ≡ passed_all p.front (chars piece)
    → IsTaken (record p { rest = rest; front = front })
piece-taken p rest front piece t split utf8 passes =
    let whole : (t.taken ++ piece) ++ rest.now ≡ p.text.now = append_assoc t.taken piece rest.now
    ∙ (ap (λ (bs : List ℕ). t.taken ++ bs) (sym split) ∙ t.whole) in
    record {
      taken = t.taken ++ piece;
      utf8 = IsUtf8-append t.taken piece t.utf8 utf8;
      whole = whole;
      front = subst (λ (f : Front). IsFront (chars (t.taken ++ piece)) f) (sym passes)
          (front-taken t.taken piece p.front t.utf8 t.front);
      token = t.token;
      next_token = t.next_token;
      text_place = t.text_place;
      nodes = t.nodes;
      errors = t.errors;
    }

pub next-begun : (p : Pieces) (kind : Kind) → IsTaken p → IsTaken (record p { next_token = p.front.place; next_kind = kind })
next-begun p kind t = record {
  taken = t.taken;
  utf8 = t.utf8;
  whole = t.whole;
  front = t.front;
  token = t.token;
  next_token = place-here t.taken p.rest.now p.text.now p.front t.utf8 t.whole t.front;
  text_place = t.text_place;
  nodes = t.nodes;
  errors = t.errors;
}

pub text-placed : (p : Pieces) (place : Option Place) → IsTaken p → IfSome place (IsPlaceIn (chars p.text.now))
    → IsTaken (record p { text_place = place })
text-placed p place t is = record {
  taken = t.taken;
  utf8 = t.utf8;
  whole = t.whole;
  front = t.front;
  token = t.token;
  next_token = t.next_token;
  text_place = is;
  nodes = t.nodes;
  errors = t.errors;
}

pub nodes-noted : (p : Pieces) (nodes : Vec Place Global) → IsTaken p → ArePlaces (chars p.text.now) nodes.items
    → IsTaken (record p { nodes = nodes })
nodes-noted p nodes t are = record {
  taken = t.taken;
  utf8 = t.utf8;
  whole = t.whole;
  front = t.front;
  token = t.token;
  next_token = t.next_token;
  text_place = t.text_place;
  nodes = are;
  errors = t.errors;
}

pub errors-noted : (p : Pieces) (errors : Vec Place Global) → IsTaken p → ArePlaces (chars p.text.now) errors.items
    → IsTaken (record p { errors = errors })
errors-noted p errors t are = record {
  taken = t.taken;
  utf8 = t.utf8;
  whole = t.whole;
  front = t.front;
  token = t.token;
  next_token = t.next_token;
  text_place = t.text_place;
  nodes = t.nodes;
  errors = are;
}

pub decision-begun : (p : Pieces) (next : Next) → IsTaken p → IsTaken (record p { next = next })
decision-begun p next t = record {
  taken = t.taken;
  utf8 = t.utf8;
  whole = t.whole;
  front = t.front;
  token = t.token;
  next_token = t.next_token;
  text_place = t.text_place;
  nodes = t.nodes;
  errors = t.errors;
}
