use Rattle.std.proofs.Common.{◌≡◌, ◌∙◌, ℕ, false, List, [], slice_index_or, ap, sym}
use Rattle.std.proofs.lemmas.List.{get_or-map, length-map}
use Rattle.std.proofs.lemmas.Slice.Eq.{bytes_eq-Decides}
use Rattle.std.specs.List.{list_any}
use Rattle.std.specs.Str.{bytes_eq, chars}
use Rattle.markup.specs.KnownNames.{IsNameAt, names}
use Rattle.markup.specs.KnownSlots.{place_at}
use Rattle.markup.proofs.KnownTexts.{names-plain}
use Rattle.markup.proofs.LongNames.{none_long}
use Rattle.markup.proofs.Plain.{chars-plain}
use Rattle.markup.proofs.PlacedNames.{none_placed}
use Rattle.markup.proofs.PlainTexts.{among_plain, plain-at}
use Rattle.markup.proofs.known_names.known_name.Goals as goal

-- a text whose bytes are a known name has it as its characters
its_characters : (place : ℕ) (bs : List ℕ) → IsNameAt place bs → IsNameAt place (chars bs)
its_characters place bs h =
    let there = chars-plain (slice_index_or names place []) (plain-at names names-plain place h.within) in
    let plain : chars bs ≡ bs = rw h.there at there in
    rw plain h

pub returns-then-name-gt-LONGEST-clause-missing : goal.returns-then-name-gt-LONGEST-clause-missing
returns-then-name-gt-LONGEST-clause-missing c =
    sym (among_plain c.args.name.now c.utf8.name names names-plain) ∙ none_long c.args.name.now c.if-name-gt-LONGEST.true

pub returns-in-Some-clause-found : goal.returns-in-Some-clause-found
returns-in-Some-clause-found c =
    let table = c.table.result.now in
    let bound = c.in-Some.ensures.lookup.3.0 in
    let same = (bytes_eq-Decides c.in-Some.known.now.now c.args.name.now).0 (sym c.if-eq.ensures) in
    its_characters c.place_of-place.result c.args.name.now (record {
      within = rw (← c.table.ensures, length-map table (λ name. name.now)) bound;
      there = rw (← c.table.ensures) (get_or-map (λ name. name.now) table c.place_of-place.result c.args.name
          [] bound ∙ ap (λ name. name.now) (sym (c.in-Some.ensures.lookup.3.1 c.args.name)) ∙ same);
    })

pub returns-in_default-clause-missing : goal.returns-in_default-clause-missing
returns-in_default-clause-missing c =
    let bytes = c.args.name.now in
    let place = c.place_of-place.result in
    let table = c.table.result.now in
    let found = c.in-Some.ensures.lookup.3 in
    let none : list_any (bytes_eq bytes) names ≡ false =
    none_placed bytes place (c.place_of-place.ensures ∙ ap place_at c.hash_of.ensures) (λ l at.
    let there : c.in-Some.known.now.now ≡ bytes =
    ap (λ name. name.now) (found.1 c.args.name)
    ∙ sym (get_or-map (λ name. name.now) table place c.args.name bytes found.0)
    ∙ ap (λ t. slice_index_or t place bytes) c.table.ensures ∙ at in
    c.if-eq.ensures ∙ (bytes_eq-Decides _ _).1 there) in
    sym (among_plain bytes c.utf8.name names names-plain) ∙ none

pub returns-in_default-2-clause-missing : goal.returns-in_default-2-clause-missing
returns-in_default-2-clause-missing c =
    let bytes = c.args.name.now in
    let place = c.place_of-place.result in
    let table = c.table.result.now in
    let missing = rw c.in_default.is at c.get.ensures.lookup.2 in
    let none : list_any (bytes_eq bytes) names ≡ false =
    none_placed bytes place (c.place_of-place.ensures ∙ ap place_at c.hash_of.ensures) (λ l at.
    missing (rw (← c.table.ensures, length-map table (λ name. name.now)) at l)) in
    sym (among_plain bytes c.utf8.name names names-plain) ∙ none
