-- The noted places are those of the first rows, and no row before them fits.
use Rattle.std.proofs.Common.{◌≡◌, ◌∙◌, ℕ, zero, suc, ◌<◌, Bool, true, false, true≢false, List, [], ◌∷◌, length, drop, get_or}
use Rattle.std.proofs.Common.{map, refl, sym, ap, zero-add, arith}
use Rattle.std.specs.List.{list_all, range_with_len}
use Rattle.std.proofs.lemmas.Bool.{and_parts, ltb-true}
use Rattle.std.proofs.lemmas.List.{get_or-map, length-map}
use Rattle.std.proofs.lemmas.List.FromFn.{get_or-range_with_len, length-range_with_len}
use Rattle.std.specs.Prelude.{Option, Some, None, IfSome, nat_lt}
use Rattle.markup.specs.KnownNames.{names}
use Rattle.markup.specs.declared.known_names.KnownName.{KnownName}
use Rattle.html_tokens.specs.declared.tags.Tag.{Tag}
use Rattle.html_tokens.specs.declared.tags.TagKind.{TagKind}
use Rattle.html_tokens.specs.declared.tags.TagKind.TheVariants.{StartTag, EndTag}
use Rattle.html_tokens.specs.declared.token.Token.TheVariants.{TagToken}
use Rattle.html_rules.specs.Choice.{choose}
use Rattle.html_rules.specs.Names.{Html}
use Rattle.html_rules.specs.Rules.{first_fit, rows}
use Rattle.html_rules.specs.State.{State}
use Rattle.html_rules.specs.Table.{Row, Class, StartTags, EndTags, AnyStartTag, AnyEndTag, WhiteSpace, Character, Null, Comment}
use Rattle.html_rules.specs.Table.{EndOfFile, AnythingElse}
use Rattle.html_rules.specs.Tokens.{class_fits}
use Rattle.html_rules.specs.declared.insertion_mode.InsertionMode.{InsertionMode}
use Rattle.html_rules.specs.declared.insertion_mode.InsertionMode.TheVariants as mode
use Rattle.html_names.specs.Classes.{IsKnownAs, IsRowOf}
use Rattle.html_names.proofs.RowsOfSets.{IsRowOf-html, IsRowOf-unknown}
use Rattle.html_names.specs.SetBits.{number_of}
use Rattle.html_names.specs.SetRows.{html_row}
use Rattle.html_modes.specs.FamilySets.{family_sets}
use Rattle.html_modes.specs.FirstRows.{has_tag, rows_before, sets_of}
use Rattle.html_modes.specs.NotedRows.{IsFamily, end_places, places, start_places}
use Rattle.html_modes.specs.declared.first_places.TheConstants.{FAMILIES}

list_all-at : (p : ℕ → Bool) (xs : List ℕ) (i d : ℕ) → list_all p xs ≡ true → i < length xs → p (get_or xs i d) ≡ true
list_all-at p [] i d h l = absurd (omega arith)
list_all-at p (x ∷ xs) zero d h l = (and_parts _ _ h).0
list_all-at p (x ∷ xs) (suc i) d h l = list_all-at p xs i d (and_parts _ _ h).1 (omega arith)

-- the noted places are those of the first rows, family by family
noted-starts : (mode : InsertionMode) → map (λ sets. rows_before StartTag sets (rows mode)) family_sets ≡ start_places mode
unfolding rows rows_before number_of
noted-starts mode.Initial = refl
noted-starts mode.BeforeHtml = refl
noted-starts mode.BeforeHead = refl
noted-starts mode.InHead = refl
noted-starts mode.InHeadNoscript = refl
noted-starts mode.AfterHead = refl
noted-starts mode.InBody = refl
noted-starts mode.Text = refl
noted-starts mode.InTable = refl
noted-starts mode.InTableText = refl
noted-starts mode.InCaption = refl
noted-starts mode.InColumnGroup = refl
noted-starts mode.InTableBody = refl
noted-starts mode.InRow = refl
noted-starts mode.InCell = refl
noted-starts mode.InTemplate = refl
noted-starts mode.AfterBody = refl
noted-starts mode.InFrameset = refl
noted-starts mode.AfterFrameset = refl
noted-starts mode.AfterAfterBody = refl
noted-starts mode.AfterAfterFrameset = refl

noted-ends : (mode : InsertionMode) → map (λ sets. rows_before EndTag sets (rows mode)) family_sets ≡ end_places mode
unfolding rows rows_before number_of
noted-ends mode.Initial = refl
noted-ends mode.BeforeHtml = refl
noted-ends mode.BeforeHead = refl
noted-ends mode.InHead = refl
noted-ends mode.InHeadNoscript = refl
noted-ends mode.AfterHead = refl
noted-ends mode.InBody = refl
noted-ends mode.Text = refl
noted-ends mode.InTable = refl
noted-ends mode.InTableText = refl
noted-ends mode.InCaption = refl
noted-ends mode.InColumnGroup = refl
noted-ends mode.InTableBody = refl
noted-ends mode.InRow = refl
noted-ends mode.InCell = refl
noted-ends mode.InTemplate = refl
noted-ends mode.AfterBody = refl
noted-ends mode.InFrameset = refl
noted-ends mode.AfterFrameset = refl
noted-ends mode.AfterAfterBody = refl
noted-ends mode.AfterAfterFrameset = refl

noted : (kind : TagKind) (mode : InsertionMode) → map (λ sets. rows_before kind sets (rows mode)) family_sets ≡ places kind mode
noted StartTag mode = noted-starts mode
noted EndTag mode = noted-ends mode

pub noted-length : (kind : TagKind) (mode : InsertionMode) → length (places kind mode) ≡ length family_sets
noted-length kind mode = ap length (sym (noted kind mode)) ∙ length-map family_sets (λ sets. rows_before kind sets (rows mode))

pub noted-at : (kind : TagKind) (mode : InsertionMode) (family sets : ℕ) → IsFamily family sets
    → get_or (places kind mode) family 0 ≡ rows_before kind sets (rows mode)
noted-at kind mode family sets is =
    ap (λ places. get_or places family 0) (sym (noted kind mode))
    ∙ get_or-map (λ sets. rows_before kind sets (rows mode)) family_sets family 0 0 is.within
    ∙ ap (λ sets. rows_before kind sets (rows mode)) is.there

-- each known name is of the family of its sets
families-fit : map (λ family. get_or family_sets family 0) FAMILIES ≡ map html_row (range_with_len 0 626)
unfolding html_row
families-fit = refl

few : length names ≡ 626
unfolding names
few = refl

families-length : length FAMILIES ≡ length names
families-length = sym few

families-within : list_all (λ family. nat_lt family (length family_sets)) FAMILIES ≡ true
families-within = refl

pub known-inside : (place : ℕ) → place < length names → place < length FAMILIES
known-inside place l = omega (arith, families-length)

sets-at : (place : ℕ) → place < 626 → get_or (map html_row (range_with_len 0 626)) place 0 ≡ html_row place
sets-at place l =
    let inside : place < length (range_with_len 0 626) = rw length-range_with_len l in
    get_or-map html_row (range_with_len 0 626) place 0 0 inside ∙ ap html_row (get_or-range_with_len 0 626 place 0 l ∙ zero-add place)

pub known-family : (place family : ℕ) → place < length names → get_or FAMILIES place 0 ≡ family → IsFamily family (html_row place)
known-family place family l e =
    let inside = known-inside place l in
    record {
      within = ltb-true _ _ (rw e at (list_all-at (λ family. nat_lt family (length family_sets)) FAMILIES place 0 families-within inside));
      there = ap (λ family. get_or family_sets family 0) (sym e)
          ∙ sym (get_or-map (λ family. get_or family_sets family 0) FAMILIES place 0 0 inside)
          ∙ ap (λ list. get_or list place 0) families-fit ∙ sets-at place (omega (arith, few));
    }

pub unknown-family : IsFamily 0 0
unknown-family = record { within = omega arith; there = refl }

-- a class that has no such tag does not fit one
class-unfit : (c : Class) (tag : Tag) (sets : ℕ) (kind : TagKind) → tag.kind ≡ kind → IsRowOf Html tag.name sets
    → has_tag kind sets c ≡ false → class_fits c (TagToken tag) ≡ false
class-unfit (StartTags set) tag sets StartTag k is h = rw k (sym (is.each set) ∙ h)
class-unfit (StartTags set) tag sets EndTag k is h = rw k refl
class-unfit (EndTags set) tag sets StartTag k is h = rw k refl
class-unfit (EndTags set) tag sets EndTag k is h = rw k (sym (is.each set) ∙ h)
class-unfit AnyStartTag tag sets StartTag k is h = absurd (true≢false h)
class-unfit AnyStartTag tag sets EndTag k is h = rw k refl
class-unfit AnyEndTag tag sets StartTag k is h = rw k refl
class-unfit AnyEndTag tag sets EndTag k is h = absurd (true≢false h)
class-unfit AnythingElse tag sets StartTag k is h = absurd (true≢false h)
class-unfit AnythingElse tag sets EndTag k is h = absurd (true≢false h)
class-unfit WhiteSpace tag sets kind k is h = refl
class-unfit Character tag sets kind k is h = refl
class-unfit Null tag sets kind k is h = refl
class-unfit Comment tag sets kind k is h = refl
class-unfit EndOfFile tag sets kind k is h = refl

-- a row that has no such tag is passed over
row-passed : (r : Row) (rows : List Row) (tag : Tag) (sets : ℕ) (s : State) → IsRowOf Html tag.name sets
    → first_fit (drop (rows_before tag.kind sets rows) rows) (TagToken tag) s ≡ first_fit rows (TagToken tag) s
    → (b : Bool) → has_tag tag.kind sets r.on ≡ b
    → first_fit (drop (choose b (λ _. 0) (λ _. suc (rows_before tag.kind sets rows))) (r ∷ rows))
    (TagToken tag) s ≡ first_fit (r ∷ rows) (TagToken tag) s
row-passed r rows tag sets s is more true h = refl
row-passed r rows tag sets s is more false h = more ∙ rw (class-unfit r.on tag sets tag.kind refl is h) refl

pub before-passed : (rows : List Row) (tag : Tag) (sets : ℕ) (s : State) → IsRowOf Html tag.name sets
    → first_fit (drop (rows_before tag.kind sets rows) rows) (TagToken tag) s ≡ first_fit rows (TagToken tag) s
unfolding rows_before
before-passed [] tag sets s is = refl
before-passed (r ∷ rows) tag sets s is = row-passed r rows tag sets s is (before-passed rows tag sets s is)
    (has_tag tag.kind sets r.on) refl

-- the class of a name has the sets by which the first rows are noted
pub sets-known : (known : Option KnownName) (name : List ℕ) → IsKnownAs known name → IsRowOf Html name (sets_of known)
sets-known None name h = IsRowOf-unknown Html name h
sets-known (Some known) name h = rw h.there at (IsRowOf-html known.place h.within)

pub known-within : (known : Option KnownName) (name : List ℕ) → IsKnownAs known name → IfSome known (λ found. found.place < length names)
known-within None name h = tt
known-within (Some known) name h = h.within
