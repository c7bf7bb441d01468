-- Texts of items, written one after another.
use Rattle.std.proofs.Common.{◌≡◌, ◌∙◌, ℕ, ◌+◌, ◌<◌, List, ◌++◌, Err, ap, drop, get_or, length, sym, take}
use Rattle.std.proofs.lemmas.Grind.{flat_map-append}
use Rattle.std.proofs.lemmas.List.{drop_more, take-append-drop}
use Rattle.std.specs.List.{flat_map}
use Rattle.html_extracts.proofs.Listing.{Written, written-until}
use Rattle.html_serialize.specs.Puts.{WriterView, with_bytes}
use Rattle.markup.specs.declared.serializer.SerializeFault.{SerializeFault}

-- the items before a place, the one there, and those after it
pub parts : {X : Type 0} (f : X → List ℕ) (items : List X) (i : ℕ) (d : X) → i < length items
    → flat_map f items ≡ flat_map f (take i items) ++ (f (get_or items i d) ++ flat_map f (drop (i + 1) items))
parts f items i d inside =
    ap (flat_map f) (sym (take-append-drop i items)) ∙ flat_map-append f (take i items) (drop i items)
    ∙ ap (λ rest. flat_map f (take i items) ++ flat_map f rest) (drop_more items i d inside)

-- a text that was not all written
pub until : {X : Type 0} (f : X → List ℕ) (items : List X) (i : ℕ) (d item : X) (old mid new : WriterView) (fault : SerializeFault)
    → i < length items → item ≡ get_or items i d → mid ≡ with_bytes old (flat_map f (take i items)) → Written (f item) mid (Err fault) new
    → Written (flat_map f items) old (Err fault) new
until f items i d item old mid new fault inside is put cut =
    written-until old mid new (flat_map f (take i items)) (f item) (flat_map f (drop (i + 1) items)) (flat_map f items) fault put
    (parts f items i d inside ∙ ap (λ x. flat_map f (take i items) ++ (f x ++ flat_map f (drop (i + 1) items))) (sym is)) cut
