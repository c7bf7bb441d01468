-- Going through a text for what stands around its places.
use Rattle.std.proofs.Common.{◌≡◌, ◌∙◌, ◌++◌, ◌-◌, ℕ, Bor, List, IsUtf8, ap, append_assoc, arith, length, length-append, subst, sym, take}
use Rattle.std.specs.Str.{IsCharBoundary, chars}
use Rattle.std.proofs.lemmas.Str.{IsCharBoundary-from_take, IsUtf8-append}
use Rattle.std.proofs.Math.Seq.{take-append_seam}
use Rattle.html_places.specs.Around.{IsAround, IsGone}
use Rattle.html_places.specs.Places.{place_after}
use Rattle.html_places.specs.Fronts.{IsFront, passed_all}
use Rattle.html_places.specs.declared.around.Around.{Around}
use Rattle.html_places.specs.declared.around.Surroundings.{Surroundings}
use Rattle.html_places.specs.declared.place.Front.{Front}
use Rattle.html_places.specs.declared.place.Place.{Place}
use Rattle.html_places.proofs.Takings.{front-taken}

-- past one piece more
pub gone-on : (s : Surroundings) (rest : Bor (List ℕ)) (front : Front) (line : ℕ) (piece : List ℕ) → IsGone s
    → s.rest.now ≡ piece ++ rest.now → IsUtf8 piece → front ≡ passed_all s.front (chars piece)
    → IsGone (record s { rest = rest; front = front; line = line })
gone-on s rest front line piece g split utf8 passes = record {
  gone = g.gone ++ piece;
  utf8 = IsUtf8-append g.gone piece g.utf8 utf8;
  text = g.text;
  whole = append_assoc g.gone piece rest.now ∙ (ap (λ (bs : List ℕ). g.gone ++ bs) (sym split) ∙ g.whole);
  front = subst (λ (f : Front). IsFront (chars (g.gone ++ piece)) f) (sym passes) (front-taken g.gone piece s.front g.utf8 g.front);
}

-- the place after what was gone through
pub gone-place : (s : Surroundings) (front : List ℕ) (at : ℕ) → IsGone s → at ≡ length s.text.now - length s.rest.now
    → (IsCharBoundary s.text.now at → front ≡ take at s.text.now) → s.front.place ≡ place_after (chars front)
gone-place s front at g is cut =
    let long = ap length g.whole in
    let width : at ≡ length g.gone = omega (arith, is, long, length-append g.gone s.rest.now) in
    let same : take at s.text.now ≡ g.gone = rw (width, ← g.whole) (take-append_seam g.gone s.rest.now) in
    let within = IsCharBoundary-from_take s.text.now at g.text (omega (arith, width, long, length-append g.gone s.rest.now))
    (subst IsUtf8 (sym same) g.utf8) in
    g.front.place ∙ ap (λ (bs : List ℕ). place_after (chars bs)) (sym (cut within ∙ same))

-- what stands around a place, from parts of what comes before it and behind it
pub around-of : (text front rest line left other right : List ℕ) (place : Place) (around : Around) → text ≡ front ++ rest
    → place ≡ place_after (chars front) → front ≡ left ++ line → line ≡ other ++ around.before.now → rest ≡ around.behind.now ++ right
    → IsAround text place around
around-of text front rest line left other right place around whole is cut last first =
    let before : front ≡ (left ++ other) ++ around.before.now =
    cut ∙ (ap (λ (bs : List ℕ). left ++ bs) last ∙ sym (append_assoc left other around.before.now)) in
    record {
      left = left ++ other;
      right = right;
      whole = ap (λ (bs : List ℕ). bs ++ (around.behind.now ++ right)) (sym before)
          ∙ (ap (λ (bs : List ℕ). front ++ bs) (sym first) ∙ sym whole);
      is = is ∙ ap (λ (bs : List ℕ). place_after (chars bs)) before;
    }
