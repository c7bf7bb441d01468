-- What is made of the tags of common elements.
use Rattle.std.proofs.Common.{◌≡◌, ◌∙◌, ℕ, suc, Bool, true, false, List, [], ◌∷◌, map, refl, ap, ap₂, sym}
use Rattle.std.specs.Prelude.{◌&&◌, ◌||◌, not, cond, Option, Some, None, is_none, is_some, codes, nat_eq, option_map}
use Rattle.std.specs.Str.{bytes_eq}
use Rattle.std.specs.Cmp.Lexicographic.{pointwise}
use Rattle.std.proofs.lemmas.Bool.{and_parts}
use Rattle.std.proofs.lemmas.Slice.Eq.{bytes_eq-Decides}
use Rattle.markup.specs.Equality.{attribute_lists_by_value}
use Rattle.markup.specs.Names.{html_namespace}
use Rattle.markup.specs.Trees.{is_among, is_html}
use Rattle.markup.specs.declared.attributes.Attribute.{Attribute}
use Rattle.markup.specs.declared.names.QualName.{QualName}
use Rattle.html_tokens.specs.declared.token.Token.{Token}
use Rattle.html_tokens.specs.declared.token.Token.TheVariants.{TagToken}
use Rattle.html_tokens.specs.declared.tags.Tag.{Tag}
use Rattle.html_rules.specs.Choice.{choose}
use Rattle.html_rules.specs.Conditions.{is_quirks}
use Rattle.html_rules.specs.ForeignContent.{is_foreign, is_foreign_at, is_html_element}
use Rattle.html_rules.specs.Modes.Foreign.{in_foreign_content}
use Rattle.html_rules.specs.Names as names
use Rattle.html_rules.specs.Rules.{first_fit, rows}
use Rattle.html_rules.specs.Stack.{in_scope, item_name}
use Rattle.html_rules.specs.State.{Open, adjusted_by, current_is, is_in, is_named, named_in}
use Rattle.html_rules.specs.Table.{Row}
use Rattle.html_rules.specs.Tokens.{is_type_hidden}
use Rattle.html_rules.specs.declared.insertion_mode.InsertionMode.{InsertionMode}
use Rattle.html_rules.specs.declared.insertion_mode.InsertionMode.TheVariants as mode
use Rattle.html_rules.specs.declared.rules.Rules.{Rules}
use Rattle.html_rules.specs.declared.rules.Rules.TheVariants.{Html5ever}
use Rattle.html_rules.specs.declared.tag_set.TagSet.TheVariants as set
use Rattle.html_faithful.specs.Checks.{is_kept_so}
use Rattle.html_faithful.specs.Forms.{is_tag_name, lowered, told_attribute}
use Rattle.html_faithful.specs.Harmless.{Change, EntryPushed, FormKept, Made, MarkerPushed, Unchanged, and_then, by_rows, concludes, does}
use Rattle.html_faithful.specs.Harmless.{made_of, nothing_yet, provided}
use Rattle.html_faithful.specs.Harmless as put
use Rattle.html_faithful.specs.Listing.{link_open}
use Rattle.html_faithful.specs.Spots.{Spot, hollow, is_marked}
use Rattle.html_faithful.specs.Walk.{finished, is_made, is_void, is_written_tag, started, stays_open}
use Rattle.html_faithful_walk.specs.Common.{IsPut, are_read_so, before_kids, closes_none, drops_line_feed, ends_in, is_closed_by}
use Rattle.html_faithful_walk.specs.Common.{is_outside, is_outside_select, is_settled, lists_a, may_open, opened_as, raw_in, spot_after}
use Rattle.html_faithful_walk.specs.Common.{spot_in, stands_in}
use Rattle.html_faithful_walk.specs.Kinds.{IsKindOf, has_end, is_common, is_listed, is_void_kind, names_as}
use Rattle.html_faithful_walk.specs.declared.kinds.Kind.{Kind}
use Rattle.html_faithful_walk.specs.declared.kinds.Kind.TheVariants as kind
use Rattle.html_faithful_walk.proofs.NameRows.{IsHeaded, IsPassed, end-in-cell, end_home, end_of, ended, home, home_row, inside}
use Rattle.html_faithful_walk.proofs.NameRows.{is_body_end, is_headed, is_placed, is_spelled}
use Rattle.html_faithful_walk.proofs.NameRows.{by_name, is_usual, listing, open_as, row-in-body, row-in-cell}
use Rattle.html_faithful_walk.proofs.NameRows.{row-of-start, rows-of-end, said, start_of}
use Rattle.html_faithful_walk.proofs.ReadSo.{are-told, told}

-- BY THE ROWS OF THE MODE

abbrev is_tag : Token → Bool
is_tag (TagToken tag) = true
is_tag t = false

-- in HTML content is not foreign
own-at : (q : Spot) (path : List Open) (tag : Tag) → current_is is_html_element path ≡ true
    → is_foreign_at (hollow q) (adjusted_by None path) (TagToken tag) ≡ false
own-at q [] tag h = absurd cc
own-at q (x ∷ xs) tag h = rw h refl

by-mode : (q : Spot) (t : Token) → is_foreign (hollow q) t ≡ false → made_of t q ≡ by_rows 4 (rows q.mode) t (nothing_yet q)
unfolding made_of
by-mode q t e = ap (λ b. by_rows 4 (choose b (λ _. in_foreign_content) (λ _. rows q.mode)) t (nothing_yet q)) e

pub by-own : (q : Spot) (tag : Tag) → current_is is_html_element q.path ≡ true
    → made_of (TagToken tag) q ≡ by_rows 4 (rows q.mode) (TagToken tag) (nothing_yet q)
unfolding is_foreign
by-own q tag h = by-mode q (TagToken tag) (own-at q q.path tag h)

pub by-row : (n : ℕ) (table : List Row) (t : Token) (made : Made) (r : Row) → first_fit table t (hollow made.spot) ≡ r
    → by_rows (suc n) table t made ≡ and_then (does r.does t made) (λ made. concludes (λ table made. by_rows n table t made) t r.ends made)
unfolding by_rows
by-row n table t made r e =
    ap (λ (r : Row). and_then (does r.does t made) (λ made. concludes (λ table made. by_rows n table t made) t r.ends made)) e

by-body : (n : ℕ) (t : Token) (q : Spot) → IsPassed t
    → by_rows (suc n) (rows mode.InCell) t (nothing_yet q) ≡ by_rows n (rows mode.InBody) t (nothing_yet q)
by-body n t q passed = by-row n (rows mode.InCell) t (nothing_yet q) _ (passed (hollow q))

by-head : (n : ℕ) (t : Token) (q : Spot) → IsHeaded t
    → by_rows (suc n) (rows mode.InBody) t (nothing_yet q) ≡ by_rows n (rows mode.InHead) t (nothing_yet q)
by-head n t q headed = by-row n (rows mode.InBody) t (nothing_yet q) _ (headed (hollow q))

-- how the rows of a mode lead to those that take a tag
pub data Way (home : InsertionMode) (placed headed : Bool) (m : InsertionMode) : Type 0 where
  Here : m ≡ home → Way home placed headed m
  FromCell : m ≡ mode.InCell → home ≡ mode.InBody → placed ≡ true → Way home placed headed m
  FromBody : m ≡ mode.InBody → home ≡ mode.InHead → headed ≡ true → Way home placed headed m
  FromBoth : m ≡ mode.InCell → home ≡ mode.InHead → placed ≡ true → headed ≡ true → Way home placed headed m

way : (k : Kind) (m : InsertionMode) → stands_in k m ≡ true → Way (home k) (is_placed k) (is_headed k) m
way kind.Head mode.BeforeHead h = Here refl
way kind.Head m h = absurd cc
way kind.Body mode.AfterHead h = Here refl
way kind.Body m h = absurd cc
way kind.Metadata mode.InHead h = Here refl
way kind.Metadata mode.InBody h = FromBody refl refl refl
way kind.Metadata mode.InCell h = FromBoth refl refl refl refl
way kind.Metadata m h = absurd cc
way kind.Title mode.InHead h = Here refl
way kind.Title mode.InBody h = FromBody refl refl refl
way kind.Title mode.InCell h = FromBoth refl refl refl refl
way kind.Title m h = absurd cc
way kind.Style mode.InHead h = Here refl
way kind.Style mode.InBody h = FromBody refl refl refl
way kind.Style mode.InCell h = FromBoth refl refl refl refl
way kind.Style m h = absurd cc
way kind.Script mode.InHead h = Here refl
way kind.Script mode.InBody h = FromBody refl refl refl
way kind.Script mode.InCell h = FromBoth refl refl refl refl
way kind.Script m h = absurd cc
way kind.Section mode.InTable h = Here refl
way kind.Section m h = absurd cc
way kind.Row mode.InTableBody h = Here refl
way kind.Row m h = absurd cc
way kind.Cell mode.InRow h = Here refl
way kind.Cell m h = absurd cc
way k mode.InBody h = Here refl
way k mode.InCell h = FromCell refl refl refl
way k m h = absurd cc

end-way : (k : Kind) (m : InsertionMode) → ends_in k m ≡ true → Way (end_home k) (is_body_end k) false m
end-way kind.Head mode.InHead h = Here refl
end-way kind.Head m h = absurd cc
end-way kind.Table mode.InTable h = Here refl
end-way kind.Table m h = absurd cc
end-way kind.Title mode.Text h = Here refl
end-way kind.Title m h = absurd cc
end-way kind.Style mode.Text h = Here refl
end-way kind.Style m h = absurd cc
end-way kind.Script mode.Text h = Here refl
end-way kind.Script m h = absurd cc
end-way kind.Section mode.InTableBody h = Here refl
end-way kind.Section m h = absurd cc
end-way kind.Row mode.InRow h = Here refl
end-way kind.Row m h = absurd cc
end-way kind.Cell mode.InCell h = Here refl
end-way kind.Cell m h = absurd cc
end-way k mode.InBody h = Here refl
end-way k mode.InCell h = FromCell refl refl refl
end-way k m h = absurd cc

-- so a tag does there what it does in that mode
module _ (home : InsertionMode) (placed headed : Bool) (q : Spot) (tag : Tag) (made : Made)
    (html : current_is is_html_element q.path ≡ true)
    (does : (n : ℕ) → by_rows (suc n) (rows home) (TagToken tag) (nothing_yet q) ≡ Some made)
    (cell : placed ≡ true → IsPassed (TagToken tag)) (body : headed ≡ true → IsHeaded (TagToken tag)) where
  at : (n : ℕ) (m o : InsertionMode) → m ≡ o
      → by_rows n (rows m) (TagToken tag) (nothing_yet q) ≡ by_rows n (rows o) (TagToken tag) (nothing_yet q)
  at n m o e = ap (λ m. by_rows n (rows m) (TagToken tag) (nothing_yet q)) e

  pub in-place : Way home placed headed q.mode → made_of (TagToken tag) q ≡ Some made
  in-place (Here e) = by-own q tag html ∙ (at 4 q.mode home e ∙ does 3)
  in-place (FromCell e h c) =
      by-own q tag html ∙ (at 4 q.mode mode.InCell e ∙ (by-body 3 (TagToken tag) q (cell c) ∙ (at 3 mode.InBody home (sym h) ∙ does 2)))
  in-place (FromBody e h b) =
      by-own q tag html ∙ (at 4 q.mode mode.InBody e ∙ (by-head 3 (TagToken tag) q (body b) ∙ (at 3 mode.InHead home (sym h) ∙ does 2)))
  in-place (FromBoth e h c b) =
      by-own q tag html ∙ (at 4 q.mode mode.InCell e ∙ (by-body 3 (TagToken tag) q (cell c) ∙ (by-head 2 (TagToken tag) q (body b)
      ∙ (at 2 mode.InHead home (sym h) ∙ does 1))))

-- START TAGS

abbrev change_of : Kind → Change
change_of kind.Formatting = EntryPushed
change_of kind.Link = EntryPushed
change_of kind.Cell = MarkerPushed
change_of k = Unchanged

abbrev made_by : Kind → List ℕ → List Attribute → Spot → Made
made_by k name attributes p = record {
  spot = spot_in k name p;
  put = Some (put.Element names.Html name attributes (not (is_void_kind k)));
  closed = false;
  change = change_of k;
  form = FormKept;
  raw = raw_in k;
  drops_line_feed = drops_line_feed k;
}

pub is-not : (b : Bool) → not b ≡ true → b ≡ false
is-not false h = refl
is-not true h = absurd cc

no-item : (o : Option (List ℕ)) → not (is_some o) ≡ true → is_none o ≡ true
no-item None h = refl
no-item (Some name) h = absurd cc

module _ (n : ℕ) (name : List ℕ) (attributes : List Attribute) (p : Spot) where
  abbrev Made_by : Kind → Type 0
  Made_by k = and_then (does (home_row k).does (start_of name attributes) (nothing_yet p))
      (λ made. concludes (λ table made. by_rows n table (start_of name attributes) made) (start_of name attributes) (home_row k).ends made)
      ≡ Some (made_by k name attributes p)

  row-made : (k : Kind) → is_settled k p ≡ true → closes_none k p.path ≡ true → Made_by k
  row-made kind.Phrase g h = refl
  row-made kind.Formatting g h = refl
  row-made kind.VoidPhrase g h = refl
  row-made kind.Metadata g h = refl
  row-made kind.Head g h = refl
  row-made kind.Body g h = refl
  row-made kind.VoidBlock g h =
      let parts = and_parts (is_outside p.path) (is_outside_select p.path) h in
      let out : in_scope set.ButtonScope (is_in set.P) p.path ≡ false = is-not (in_scope set.ButtonScope (is_in set.P) p.path) parts.0 in
      let none : in_scope set.DefaultScope (is_in set.Select) p.path ≡ false =
      is-not (in_scope set.DefaultScope (is_in set.Select) p.path) parts.1 in
      rw (out, none) refl
  row-made kind.Input g h =
      let none : in_scope set.DefaultScope (is_in set.Select) p.path ≡ false =
      is-not (in_scope set.DefaultScope (is_in set.Select) p.path) h in
      by (is_type_hidden (start_of name attributes)) refl none (is-not p.frameset_ok g)
    where
      by : (b : Bool) → is_type_hidden (start_of name attributes) ≡ b → in_scope set.DefaultScope (is_in set.Select) p.path ≡ false
          → p.frameset_ok ≡ false → Made_by kind.Input
      by true e none ok = rw (none, e) refl
      by false e none ok = rw (none, e, ok) refl
  row-made kind.Title g h = refl
  row-made kind.Style g h = refl
  row-made kind.Script g h = refl
  row-made kind.Button g h =
      let none : in_scope set.DefaultScope (is_in set.Button) p.path ≡ false =
      is-not (in_scope set.DefaultScope (is_in set.Button) p.path) h in
      rw none refl
  row-made kind.Table g h =
      let out : in_scope set.ButtonScope (is_in set.P) p.path ≡ false = is-not (in_scope set.ButtonScope (is_in set.P) p.path) h in
      by (is_quirks p.quirks_mode) refl out
    where
      by : (b : Bool) → is_quirks p.quirks_mode ≡ b → in_scope set.ButtonScope (is_in set.P) p.path ≡ false → Made_by kind.Table
      by true e out = rw e refl
      by false e out = rw (e, out) refl
  row-made kind.Section g h = rw h refl
  row-made kind.Row g h = rw h refl
  row-made kind.Cell g h = rw h refl
  row-made kind.Link g h =
      let listed : lists_a p.path ≡ false = is-not (lists_a p.path) (and_parts (not (lists_a p.path)) (not (link_open p.path)) h).0 in
      rw listed refl
  row-made kind.Block g h =
      let out : in_scope set.ButtonScope (is_in set.P) p.path ≡ false = is-not (in_scope set.ButtonScope (is_in set.P) p.path) h in
      rw out refl
  row-made kind.Preformatted g h =
      let out : in_scope set.ButtonScope (is_in set.P) p.path ≡ false = is-not (in_scope set.ButtonScope (is_in set.P) p.path) h in
      rw out refl
  row-made kind.Heading g h =
      let parts = and_parts (is_outside p.path) (not (current_is (is_in set.HeadingTag) p.path)) h in
      let out : in_scope set.ButtonScope (is_in set.P) p.path ≡ false = is-not (in_scope set.ButtonScope (is_in set.P) p.path) parts.0 in
      let current : current_is (is_in set.HeadingTag) p.path ≡ false = is-not (current_is (is_in set.HeadingTag) p.path) parts.1 in
      rw (out, current) refl
  row-made kind.Item g h =
      let parts = and_parts (is_outside p.path) (not (is_some (item_name set.Li p.path))) h in
      let out : in_scope set.ButtonScope (is_in set.P) p.path ≡ false = is-not (in_scope set.ButtonScope (is_in set.P) p.path) parts.0 in
      let item : is_none (item_name set.Li p.path) ≡ true = no-item (item_name set.Li p.path) parts.1 in
      rw (item, out) refl
  row-made kind.Description g h =
      let parts = and_parts (is_outside p.path) (not (is_some (item_name set.DdDt p.path))) h in
      let out : in_scope set.ButtonScope (is_in set.P) p.path ≡ false = is-not (in_scope set.ButtonScope (is_in set.P) p.path) parts.0 in
      let item : is_none (item_name set.DdDt p.path) ≡ true = no-item (item_name set.DdDt p.path) parts.1 in
      rw (item, out) refl
  row-made k g h = absurd cc

-- the list of active formatting elements and the form element pointer stay those of the path
opened-so : (a l f t : Bool) → not a && not f ≡ true → l ≡ true → (not a && (l && not (f && t))) ≡ true
opened-so false true false t h e = refl
opened-so true l f t h e = absurd cc
opened-so a l true t h e = absurd cc
opened-so a false f t h e = absurd cc

linked-so : (f m a l s : Bool) → (f && not m) ≡ true → s ≡ true → not l ≡ true → ((f && not m) && (s && not (a && l))) ≡ true
linked-so true false true false true h e g = refl
linked-so true false false l true h e g = refl
linked-so f m a true s h e g = absurd cc
linked-so f m a l false h e g = absurd cc
linked-so false m a l s h e g = absurd cc
linked-so true true a l s h e g = absurd cc

listed-so : (f m a l s : Bool) → ((f && not m) && not a) ≡ true → s ≡ true → ((f && not m) && (s && not (a && l))) ≡ true
listed-so true false false l true h e = refl
listed-so f m true l s h e = absurd cc
listed-so f m a l false h e = absurd cc
listed-so false m a l s h e = absurd cc
listed-so true true a l s h e = absurd cc

pub same-name : (name : List ℕ) → bytes_eq name name ≡ true
same-name name = (bytes_eq-Decides name name).1 refl

and-both : {a b : Bool} → a ≡ true → b ≡ true → (a && b) ≡ true
and-both h e = ap₂ (λ a b. a && b) h e

kept-open : (k : Kind) (name : List ℕ) (attributes : List Attribute) (p : Spot) → closes_none k p.path ≡ true
    → listing k (by_name name) ≡ true → is_usual (by_name name) ≡ true → is_kept_so name p (made_by k name attributes p) ≡ true
kept-open kind.Formatting name attributes p c l u =
    opened-so _ _ _ _ u (listed-so (is_in set.FormattingEnd (by_name name)) (is_marked (by_name name)) (is_in set.A (by_name name))
    (link_open p.path) (bytes_eq name name) l (same-name name))
kept-open kind.Link name attributes p c l u =
    opened-so _ _ _ _ u (linked-so (is_in set.FormattingEnd (by_name name)) (is_marked (by_name name)) (is_in set.A (by_name name))
    (link_open p.path) (bytes_eq name name) l (same-name name) (and_parts (not (lists_a p.path)) (not (link_open p.path)) c).1)
kept-open kind.VoidPhrase name attributes p c l u = refl
kept-open kind.Metadata name attributes p c l u = refl
kept-open kind.VoidBlock name attributes p c l u = refl
kept-open kind.Input name attributes p c l u = refl
kept-open kind.Head name attributes p c l u = opened-so _ _ _ _ u l
kept-open kind.Body name attributes p c l u = opened-so _ _ _ _ u l
kept-open kind.Title name attributes p c l u = opened-so _ _ _ _ u l
kept-open kind.Style name attributes p c l u = opened-so _ _ _ _ u l
kept-open kind.Script name attributes p c l u = opened-so _ _ _ _ u l
kept-open kind.Button name attributes p c l u = opened-so _ _ _ _ u l
kept-open kind.Table name attributes p c l u = opened-so _ _ _ _ u l
kept-open kind.Section name attributes p c l u = opened-so _ _ _ _ u l
kept-open kind.Row name attributes p c l u = opened-so _ _ _ _ u l
kept-open kind.Cell name attributes p c l u = opened-so _ _ _ _ u l
kept-open kind.Phrase name attributes p c l u = opened-so _ _ _ _ u l
kept-open kind.Block name attributes p c l u = opened-so _ _ _ _ u l
kept-open kind.Preformatted name attributes p c l u = opened-so _ _ _ _ u l
kept-open kind.Heading name attributes p c l u = opened-so _ _ _ _ u l
kept-open kind.Item name attributes p c l u = opened-so _ _ _ _ u l
kept-open kind.Description name attributes p c l u = opened-so _ _ _ _ u l
kept-open k name attributes p c l u = absurd cc

is-common : (k : Kind) (path : List Open) → closes_none k path ≡ true → is_common k ≡ true
is-common kind.Usual path h = absurd cc
is-common kind.Staying path h = absurd cc
is-common kind.Void path h = absurd cc
is-common kind.Raw path h = absurd cc
is-common kind.RawWithScripts path h = absurd cc
is-common kind.Svg path h = absurd cc
is-common k path h = refl

common-named : (k : Kind) → is_common k ≡ true → is_listed k ≡ true
common-named kind.Svg h = absurd cc
common-named kind.Usual h = absurd cc
common-named kind.Staying h = absurd cc
common-named kind.Void h = absurd cc
common-named kind.Raw h = absurd cc
common-named kind.RawWithScripts h = absurd cc
common-named k h = refl

-- what the rows make of a start tag
made-so : (k : Kind) (name : List ℕ) (attributes : List Attribute) (p : Spot) → is_among name (names_as k) ≡ true → may_open k p ≡ true
    → made_of (start_of name attributes) p ≡ Some (made_by k name attributes p)
made-so k name attributes p among h =
    let parts = and_parts (stands_in k p.mode && is_settled k p) (current_is is_html_element p.path && closes_none k p.path) h in
    let place = and_parts (stands_in k p.mode) (is_settled k p) parts.0 in
    let own = and_parts (current_is is_html_element p.path) (closes_none k p.path) parts.1 in
    let common = is-common k p.path own.1 in
    in-place (home k) (is_placed k) (is_headed k) p _ (made_by k name attributes p) own.0
    (λ n. by-row n (rows (home k)) (start_of name attributes) (nothing_yet p) (home_row k)
    (row-of-start k name common among attributes p)
    ∙ row-made n name attributes p k place.1 own.1)
    (λ placed. row-in-cell k name common among placed attributes) (λ headed. row-in-body k name common among headed attributes)
    (way k p.mode place.0)

abbrev pub html_named : List ℕ → QualName
html_named name = record { prefix = None; ns = html_namespace; local = name }

pub none-is : {A : Type 0} (o : Option A) → is_none o ≡ true → o ≡ None
none-is None h = refl
none-is (Some x) h = absurd cc

pub named-so : (name : QualName) → is_html name ≡ true → is_none name.prefix ≡ true → name ≡ html_named name.local
named-so name h e =
    ap₂ (λ prefix ns. record { prefix = prefix; ns = ns; local = name.local }) (none-is name.prefix e)
    ((bytes_eq-Decides name.ns html_namespace).0 h)

-- an element is put that has its name and its attributes
made-there : (name : List ℕ) (attributes : List Attribute) (void : Bool)
    → is_made (html_named name) attributes (not void) (Some (put.Element names.Html name attributes (not void))) ≡ true
unfolding html_namespace
made-there name attributes void =
    rw (same name, (attribute_lists_by_value attributes attributes).1 refl) (cond-same void)
  where
    same : (name : List ℕ) → pointwise nat_eq name name ≡ true
    same name = same-name name

    cond-same : (void : Bool) → (cond (not void) (not void) (not (not void)) && true) ≡ true
    cond-same true = refl
    cond-same false = refl

pub started-by : (b : Bool) (o : Option Made) (test : Made → Bool) (made : Made) → b ≡ true → o ≡ Some made → test made ≡ true
    → choose b (λ _. and_then o (λ made. choose (test made) (λ _. Some made) (λ _. None))) (λ _. None) ≡ Some made
started-by b o test made h e t = rw (h, e, t) refl

module _ (k : Kind) (local : List ℕ) (attributes : List Attribute) (p : Spot) (is : IsKindOf local k)
    (opens : may_open k p ≡ true) (read : are_read_so attributes ≡ true) where
  parts : ((stands_in k p.mode && is_settled k p) ≡ true) × ((current_is is_html_element p.path && closes_none k p.path) ≡ true)
  parts = and_parts (stands_in k p.mode && is_settled k p) (current_is is_html_element p.path && closes_none k p.path) opens

  closes : closes_none k p.path ≡ true
  closes = (and_parts (current_is is_html_element p.path) (closes_none k p.path) parts.1).1

  common : is_common k ≡ true
  common = is-common k p.path closes

  among : is_among local (names_as k) ≡ true
  among = is.named (common-named k common)

  facts : ((listing k (by_name local) && is_usual (by_name local)) ≡ true) × (is_spelled (has_end k) local ≡ true)
  facts = and_parts (listing k (by_name local) && is_usual (by_name local)) (is_spelled (has_end k) local) (said k local common among)

  spelled : (is_tag_name local ≡ true) × (bytes_eq (lowered local) local ≡ true)
  spelled = and_parts (is_tag_name local) (bytes_eq (lowered local) local)
      (and_parts (is_tag_name local && bytes_eq (lowered local) local)
      (not (bytes_eq local (codes "template"))
      && not (has_end k && (bytes_eq local (codes "body") || bytes_eq local (codes "html")))) facts.1).0

  low : lowered local ≡ local
  low = (bytes_eq-Decides (lowered local) local).0 spelled.1

  no-template : bytes_eq local (codes "template") ≡ false
  no-template = is-not (bytes_eq local (codes "template")) (and_parts (not (bytes_eq local (codes "template")))
      (not (has_end k && (bytes_eq local (codes "body") || bytes_eq local (codes "html"))))
      (and_parts (is_tag_name local && bytes_eq (lowered local) local)
      (not (bytes_eq local (codes "template"))
      && not (has_end k && (bytes_eq local (codes "body") || bytes_eq local (codes "html")))) facts.1).1).0

  written : is_written_tag (html_named local) attributes false ≡ true
  written = rw (low, told attributes read, spelled.0, are-told attributes read, same-name html_namespace, no-template) refl

  void : is_void (html_named local) ≡ is_void_kind k
  void = rw (same-name html_namespace) (sym is.void)

  kept : is_kept_so local p (made_by k local attributes p) ≡ true
  kept =
      let list = and_parts (listing k (by_name local)) (is_usual (by_name local)) facts.0 in
      kept-open k local attributes p closes list.0 list.1

  abbrev test : QualName → Made → Bool
  test name made = is_made name attributes (not (is_void name)) made.put && not made.closed && is_kept_so (lowered name.local) p made

  tested : test (html_named local) (made_by k local attributes p) ≡ true
  tested =
      ap₂ (λ v l. is_made (html_named local) attributes (not v) (made_by k local attributes p).put && not false
      && is_kept_so l p (made_by k local attributes p)) void low
      ∙ rw (made-there local attributes (is_void_kind k), kept) refl

  made-of-start : made_of (start_of (lowered local) (map told_attribute attributes)) p ≡ Some (made_by k local attributes p)
  made-of-start = ap₂ (λ name attributes. made_of (start_of name attributes) p) low (told attributes read)
      ∙ made-so k local attributes p among opens

  started-as : started (html_named local) attributes false p ≡ Some (made_by k local attributes p)
  started-as = started-by (is_written_tag (html_named local) attributes false)
      (made_of (start_of (lowered local) (map told_attribute attributes)) p)
      (test (html_named local)) (made_by k local attributes p) written made-of-start tested

-- a common element is put by its start tag
pub start-put : (k : Kind) (name : QualName) (attributes : List Attribute) (p : Spot) → IsKindOf name.local k → IsPut k name attributes p
    → option_map before_kids (started name attributes false p) ≡ Some (opened_as k name.local p)
start-put k name attributes p is put =
    ap (option_map before_kids)
    (ap (λ name. started name attributes false p) (named-so name put.html put.prefix)
    ∙ started-as k name.local attributes p is put.opens put.read)

-- END TAGS

has-common : (k : Kind) → has_end k ≡ true → is_common k ≡ true
has-common kind.Usual h = absurd cc
has-common kind.Staying h = absurd cc
has-common kind.Void h = absurd cc
has-common kind.Raw h = absurd cc
has-common kind.RawWithScripts h = absurd cc
has-common kind.Svg h = absurd cc
has-common k h = refl

closed-so : (f t : Bool) (l : Bool) → not f ≡ true → l ≡ true → (l && not (f && t)) ≡ true
closed-so false t true h e = refl
closed-so true t l h e = absurd cc
closed-so f t false h e = absurd cc

unmarked-by : (f m a : Bool) → ((f && not m) && not a) ≡ true → not m ≡ true
unmarked-by f m a h = (and_parts f (not m) (and_parts (f && not m) (not a) h).0).1

kept-closed : (rules : Rules) (k : Kind) (name : List ℕ) (number : ℕ) (xs : List Open) (p : Spot) → has_end k ≡ true
    → listing k (by_name name) ≡ true → not (is_in set.Form (by_name name)) ≡ true
    → is_kept_so name (inside rules name number xs p) (ended k (inside rules name number xs p)) ≡ true
kept-closed rules kind.Formatting name number xs p h l u =
    closed-so _ _ _ u (unmarked-by (is_in set.FormattingEnd (by_name name)) (is_marked (by_name name)) (is_in set.A (by_name name)) l)
kept-closed rules kind.Link name number xs p h l u =
    closed-so _ _ _ u (and_parts (is_in set.FormattingEnd (by_name name)) (not (is_marked (by_name name))) l).1
kept-closed rules kind.Phrase name number xs p h l u = closed-so _ _ _ u l
kept-closed rules kind.Block name number xs p h l u = closed-so _ _ _ u l
kept-closed rules kind.Preformatted name number xs p h l u = closed-so _ _ _ u l
kept-closed rules kind.Heading name number xs p h l u = closed-so _ _ _ u l
kept-closed rules kind.Item name number xs p h l u = closed-so _ _ _ u l
kept-closed rules kind.Description name number xs p h l u = closed-so _ _ _ u l
kept-closed rules kind.Button name number xs p h l u = closed-so _ _ _ u l
kept-closed rules kind.Head name number xs p h l u = closed-so _ _ _ u l
kept-closed rules kind.Table name number xs p h l u = closed-so _ _ _ u l
kept-closed rules kind.Section name number xs p h l u = closed-so _ _ _ u l
kept-closed rules kind.Row name number xs p h l u = closed-so _ _ _ u l
kept-closed rules kind.Cell name number xs p h l u = closed-so _ _ _ u l
kept-closed rules kind.Title name number xs p h l u = closed-so _ _ _ u l
kept-closed rules kind.Style name number xs p h l u = closed-so _ _ _ u l
kept-closed rules kind.Script name number xs p h l u = closed-so _ _ _ u l
kept-closed rules k name number xs p h l u = absurd cc

pub finished-by : (o : Option Made) (test : Made → Bool) (made : Made) → o ≡ Some made → test made ≡ true
    → and_then o (λ made. choose (test made) (λ _. Some made.spot) (λ _. None)) ≡ Some made.spot
finished-by o test made e t = rw (e, t) refl

module _ (k : Kind) (rules : Rules) (local : List ℕ) (number : ℕ) (xs : List Open) (p : Spot) (is : IsKindOf local k)
    (has : has_end k ≡ true) (place : ends_in k p.mode ≡ true) where
  end-among : is_among local (names_as k) ≡ true
  end-among = is.named (common-named k (has-common k has))

  end-facts : ((listing k (by_name local) && is_usual (by_name local)) ≡ true) × (is_spelled (has_end k) local ≡ true)
  end-facts = and_parts (listing k (by_name local)
      && is_usual (by_name local)) (is_spelled (has_end k) local) (said k local (has-common k has) end-among)

  end-spelled : ((is_tag_name local && bytes_eq (lowered local) local) ≡ true)
      × ((not (bytes_eq local (codes "template"))
      && not (has_end k && (bytes_eq local (codes "body") || bytes_eq local (codes "html")))) ≡ true)
  end-spelled = and_parts (is_tag_name local && bytes_eq (lowered local) local)
      (not (bytes_eq local (codes "template"))
      && not (has_end k && (bytes_eq local (codes "body") || bytes_eq local (codes "html")))) end-facts.1

  end-low : lowered local ≡ local
  end-low = (bytes_eq-Decides (lowered local) local).0 (and_parts (is_tag_name local) (bytes_eq (lowered local) local) end-spelled.0).1

  abbrev stays : Bool
  stays = bytes_eq local (codes "body") || bytes_eq local (codes "html")

  not-stays : (bytes_eq local (codes "body") || bytes_eq local (codes "html")) ≡ false
  not-stays = is-not stays (sym (ap (λ b. not (b && stays)) has)
      ∙ (and_parts (not (bytes_eq local (codes "template"))) (not (has_end k && stays)) end-spelled.1).1)

  made-of-end : made_of (end_of (lowered local)) (inside rules local number xs p) ≡ Some (ended k (inside rules local number xs p))
  made-of-end =
      ap (λ name. made_of (end_of name) (inside rules local number xs p)) end-low
      ∙ in-place (end_home k) (is_body_end k) false (inside rules local number xs p) _ (ended k (inside rules local number xs p)) refl
      (λ n. rows-of-end k local has end-among rules n number xs p) (end-in-cell k local has end-among) (λ h. absurd cc)
      (end-way k p.mode place)

  abbrev end-test : Made → Bool
  end-test made = (is_none made.put && not made.drops_line_feed && is_none made.raw)
      && cond (stays_open (html_named local)) (not made.closed) made.closed
      && is_kept_so (lowered local) (inside rules local number xs p) made

  end-tested : end-test (ended k (inside rules local number xs p)) ≡ true
  end-tested =
      let list = and_parts (listing k (by_name local)) (is_usual (by_name local)) end-facts.0 in
      let usual = and_parts (not (is_in set.AnnotationXml (by_name local))) (not (is_in set.Form (by_name local))) list.1 in
      rw (same-name html_namespace, not-stays, kept-closed rules k local number xs p has list.0 usual.1) refl

  finished-as : finished (html_named local) (inside rules local number xs p) ≡ Some (spot_after k (inside rules local number xs p))
  finished-as =
      finished-by (made_of (end_of (lowered local)) (inside rules local number xs p)) end-test (ended k (inside rules local number xs p))
      made-of-end end-tested

own-by : (rules : Rules) (space : names.Namespace) (name local : List ℕ) (number : ℕ) → named_in space name local ≡ true
    → record { number = number; namespace = space; name = name; rules = rules } ≡ open_as rules local number
own-by rules names.Html name local number h =
    ap (λ (name : List ℕ). record { number = number; namespace = names.Html; name = name; rules = rules })
    ((bytes_eq-Decides name local).0 h)
own-by rules space name local number h = absurd cc

end-path : (k : Kind) (name : QualName) (path : List Open) (p : Spot) → IsKindOf name.local k → is_html name ≡ true
    → is_none name.prefix ≡ true → p.path ≡ path → has_end k ≡ true → ends_in k p.mode ≡ true
    → current_is (is_named name.local) path ≡ true → finished name p ≡ Some (spot_after k p)
end-path k name [] p is h e at has place current = absurd cc
end-path k name (x ∷ xs) p is h e at has place current =
    let own : x ≡ open_as x.rules name.local x.number = own-by x.rules x.namespace x.name name.local x.number current in
    let there : p.path ≡ open_as x.rules name.local x.number ∷ xs = at ∙ ap (λ x. x ∷ xs) own in
    ap₂ (λ name path. finished name (record p { path = path })) (named-so name h e) there
    ∙ (finished-as k x.rules name.local x.number xs p is has place
    ∙ ap (λ (path : List Open). Some (spot_after k (record p { path = path }))) (sym there))

-- and closed by its end tag
pub end-closes : (k : Kind) (name : QualName) (p : Spot) → IsKindOf name.local k → is_html name ≡ true → is_none name.prefix ≡ true
    → is_closed_by k name.local p ≡ true → finished name p ≡ Some (spot_after k p)
end-closes k name p is h e closed =
    let parts = and_parts (has_end k) (ends_in k p.mode && current_is (is_named name.local) p.path) closed in
    let stands = and_parts (ends_in k p.mode) (current_is (is_named name.local) p.path) parts.1 in
    end-path k name p.path p is h e refl parts.0 stands.0 stands.1

-- AN ELEMENT THAT IS STARTED, BUT FOR WHAT WAS PUT

pub kids-provided : (b : Bool) (made : Made) → option_map before_kids (provided b made) ≡ provided b (before_kids made)
kids-provided true made = refl
kids-provided false made = refl

pub unstarted : (o : Option Made) (b : Bool) (made : Made) → option_map before_kids o ≡ provided b made → b ≡ false → o ≡ None
unstarted None b made e h = refl
unstarted (Some m) true made e h = absurd cc
unstarted (Some m) false made e h = absurd cc

-- what was made, and what the nodes in it need of it
pub record Begun (o : Option Made) (made : Made) : Type 0 where
  pub first : Made
  pub is : o ≡ Some first
  pub same : before_kids first ≡ made

some-is : (a b : Made) → Some a ≡ Some b → a ≡ b
some-is a b e = ap (λ o. or-else o a) e
  where
    or-else : Option Made → Made → Made
    or-else None d = d
    or-else (Some m) d = m

pub begun-as : (o : Option Made) (b : Bool) (made : Made) → option_map before_kids o ≡ provided b made → b ≡ true → Begun o made
begun-as None true made e h = absurd cc
begun-as None false made e h = absurd cc
begun-as (Some m) false made e h = absurd cc
begun-as (Some m) true made e h = record { first = m; is = refl; same = some-is (before_kids m) made e }
