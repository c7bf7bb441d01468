-- Lines, one after the other.
use Rattle.std.proofs.Common.{◌≡◌, ◌∙◌, ◌+◌, ◌<◌, ℕ, List, [], ◌∷◌, ◌++◌, Result, Ok, Err, ap, encode_utf8_all, get_or, length, sym, take}
use Rattle.std.proofs.lemmas.List.{append_assoc, flat_map_more, take_more}
use Rattle.std.proofs.lemmas.Str.{encodes-chars}
use Rattle.std.specs.List.{flat_map}
use Rattle.std.specs.Prelude.{IfOk, if◌then◌else◌, is_ok}
use Rattle.std.specs.Str.{IsUtf8, chars}
use Rattle.html_ffi.specs.Images.{link_line}

-- those of one item more
pub lines-next : {Item : Type 0} (line : Item → List ℕ) (items : List Item) (i : ℕ) (d item : Item) → i < length items
    → item ≡ get_or items i d → flat_map line (take i items) ++ line item ≡ flat_map line (take (i + 1) items)
lines-next line items i d item inside is =
    ap (λ it. flat_map line (take i items) ++ line it) is
    ∙ flat_map_more line [] (take i items) (get_or items i d)
    ∙ ap (flat_map line) (sym (take_more items i d inside))

-- a text to which a link and a line feed were put
pub line-pushed : {E : Type 0} (r : Result (Unit {0}) E) (link bytes old mid new : List ℕ) → IsUtf8 bytes → chars bytes ≡ link
    → mid ≡ old ++ bytes → new ≡ (if is_ok r then mid ++ 10 ∷ [] else mid) → IfOk r (λ _. new ≡ old ++ link_line link)
line-pushed (Ok done) link bytes old mid new utf8 spelled first second =
    second ∙ ap (λ (m : List ℕ). m ++ 10 ∷ []) first ∙ append_assoc old bytes (10 ∷ [])
    ∙ ap (λ (b : List ℕ). old ++ (b ++ 10 ∷ [])) (sym (encodes-chars bytes utf8) ∙ ap encode_utf8_all spelled)
line-pushed (Err fault) link bytes old mid new utf8 spelled first second = tt
