-- What is made of the tags of SVG's elements, and of text in them.
use Rattle.std.proofs.Common.{◌≡◌, ◌∙◌, ℕ, Bool, true, false, List, [], ◌∷◌, map, refl, ap, ap₂, sym}
use Rattle.std.specs.Prelude.{◌&&◌, ◌||◌, not, cond, codes, Some, None, is_none, option_map}
use Rattle.std.specs.Char.{to_ascii_lowercase}
use Rattle.std.specs.List.{list_all}
use Rattle.std.specs.Str.{bytes_eq}
use Rattle.std.proofs.lemmas.Bool.{and_parts}
use Rattle.std.proofs.lemmas.Slice.Eq.{bytes_eq-Decides}
use Rattle.markup.specs.Equality.{attribute_lists_by_value}
use Rattle.markup.specs.Names.{html_namespace}
use Rattle.markup.specs.declared.attributes.Attribute.{Attribute}
use Rattle.markup.specs.declared.names.QualName.{QualName}
use Rattle.html_tokens.specs.declared.token.Token.{Token}
use Rattle.html_tokens.specs.declared.token.Token.TheVariants.{CharacterTokens}
use Rattle.html_rules.specs.Choice.{choose}
use Rattle.html_rules.specs.ForeignContent.{foreign_end, is_foreign, is_foreign_at, is_html_element}
use Rattle.html_rules.specs.Modes.Foreign.{in_foreign_content}
use Rattle.html_rules.specs.Names as names
use Rattle.html_rules.specs.Names.{mathml_namespace, namespace_of, svg_namespace}
use Rattle.html_rules.specs.Renames.{adjust_attributes, renamed}
use Rattle.html_rules.specs.Renames.{svg_tag_names}
use Rattle.html_rules.specs.Rules.{first_fit, rows}
use Rattle.html_rules.specs.Sets.{is_among, names_in, names_of, svg_names_of}
use Rattle.html_rules.specs.State.{Open, State, adjusted_by, current_is}
use Rattle.html_rules.specs.Stack.{without_current}
use Rattle.html_rules.specs.Table.{Acknowledged, AnyEndTag, AnyStartTag, CloseForeign, Done, EnterForeign, ForeignEndError, InsertForeign}
use Rattle.html_rules.specs.Table.{ParseError, Reconstruct, StartTags, When, row, ◌▸◌}
use Rattle.html_rules.specs.declared.insertion_mode.InsertionMode.{InsertionMode}
use Rattle.html_rules.specs.declared.insertion_mode.InsertionMode.TheVariants as mode
use Rattle.html_rules.specs.declared.rules.Rules.{Rules}
use Rattle.html_rules.specs.declared.tag_set.TagSet.TheVariants as set
use Rattle.html_faithful.specs.Checks.{is_kept_so}
use Rattle.html_faithful.specs.Forms.{is_tag_name, lowered, told_attribute}
use Rattle.html_faithful.specs.Harmless.{FormKept, Made, TextHere, Unchanged, by_rows, made_of, nothing_yet}
use Rattle.html_faithful.specs.Harmless as put
use Rattle.html_faithful.specs.Spots.{Spot, hollow, opened_at}
use Rattle.html_faithful.specs.Walk.{finished, is_made, is_void, is_written_tag, started, stays_open}
use Rattle.html_faithful_walk.specs.Common.{before_kids, is_flow}
use Rattle.html_faithful_walk.specs.Kinds.{IsKindOf, is_svg_kind, svg_names}
use Rattle.html_faithful_walk.specs.declared.kinds.Kind.{Kind}
use Rattle.html_faithful_walk.specs.declared.kinds.Kind.TheVariants as kind
use Rattle.html_faithful_walk.specs.Svg.{IsClosedIn, IsPutIn, IsRootIn, are_svg_read, is_current_svg, is_svg, is_svg_space, opened_svg}
use Rattle.html_faithful_walk.specs.Svg.{takes_svg}
use Rattle.html_faithful_walk.proofs.CommonTags.{FromCell, Here, Way, by-row, finished-by, in-place, is-not, none-is, same-name, started-by}
use Rattle.html_faithful_walk.proofs.NameRows.{IsPassed, all-of, end_of, start_of}
use Rattle.html_faithful_walk.proofs.SvgAttributes.{svg-adjusted, svg-told}

-- IN FOREIGN CONTENT

abbrev svg_open : Rules → List ℕ → ℕ → Open
svg_open rules name number = record { number = number; namespace = names.Svg; name = name; rules = rules }

foreign-there : (s : State) (rules : Rules) (name : List ℕ) (number : ℕ) (t : Token)
    → is_among name (svg_names_of set.SvgHtmlIntegrationPoint) ≡ false → is_foreign_at s (Some (svg_open rules name number)) t ≡ true
unfolding svg_names_of
foreign-there s rules name number t h = rw h refl

no-end : (b : Bool) → not (((false && false) || (b && false)) || (false && false)) ≡ true
no-end true = refl
no-end false = refl

foreign-end : (s : State) (rules : Rules) (name own : List ℕ) (number : ℕ)
    → is_foreign_at s (Some (svg_open rules own number)) (end_of name) ≡ true
unfolding svg_names_of
foreign-end s rules name own number = no-end (is_among own (svg_names_of set.SvgHtmlIntegrationPoint))

by-foreign : (q : Spot) (t : Token) → is_foreign (hollow q) t ≡ true → made_of t q ≡ by_rows 4 in_foreign_content t (nothing_yet q)
unfolding made_of
by-foreign q t e = ap (λ b. by_rows 4 (choose b (λ _. in_foreign_content) (λ _. rows q.mode)) t (nothing_yet q)) e

abbrev in_svg : Rules → List ℕ → ℕ → List Open → Spot → Spot
in_svg rules own number xs p = record p { path = svg_open rules own number ∷ xs }

-- NAMES

abbrev says : List ℕ → Bool
says name = (is_tag_name name && bytes_eq (lowered name) name)
    && ((not (is_among name (names_of set.ForeignBreakout)) && not (is_among name (names_of set.Font)))
    && (not (is_among name (names_of set.BrP)) && bytes_eq (renamed svg_tag_names name) name))

all-say : list_all says svg_names ≡ true
unfolding names_of svg_tag_names
all-say = refl

record Says (name : List ℕ) : Type 0 where
  tag : is_tag_name name ≡ true
  low : lowered name ≡ name
  stays : is_among name (names_of set.ForeignBreakout) ≡ false
  plain : is_among name (names_of set.Font) ≡ false
  ends : is_among name (names_of set.BrP) ≡ false
  keeps : renamed svg_tag_names name ≡ name

said : (name : List ℕ) → is_among name svg_names ≡ true → Says name
said name h =
    let all = and_parts (is_tag_name name && bytes_eq (lowered name) name)
    ((not (is_among name (names_of set.ForeignBreakout)) && not (is_among name (names_of set.Font)))
    && (not (is_among name (names_of set.BrP)) && bytes_eq (renamed svg_tag_names name) name)) (all-of says svg_names name all-say h) in
    let front = and_parts (is_tag_name name) (bytes_eq (lowered name) name) all.0 in
    let back = and_parts (not (is_among name (names_of set.ForeignBreakout)) && not (is_among name (names_of set.Font)))
    (not (is_among name (names_of set.BrP)) && bytes_eq (renamed svg_tag_names name) name) all.1 in
    let one = and_parts (not (is_among name (names_of set.ForeignBreakout))) (not (is_among name (names_of set.Font))) back.0 in
    let other = and_parts (not (is_among name (names_of set.BrP))) (bytes_eq (renamed svg_tag_names name) name) back.1 in
    record {
      tag = front.0;
      low = (bytes_eq-Decides (lowered name) name).0 front.1;
      stays = is-not (is_among name (names_of set.ForeignBreakout)) one.0;
      plain = is-not (is_among name (names_of set.Font)) one.1;
      ends = is-not (is_among name (names_of set.BrP)) other.0;
      keeps = (bytes_eq-Decides (renamed svg_tag_names name) name).0 other.1;
    }

-- START TAGS

svg-row : (name : List ℕ) (attributes : List Attribute) (s : State) → is_among name (names_of set.ForeignBreakout) ≡ false
    → is_among name (names_of set.Font) ≡ false
    → first_fit in_foreign_content (start_of name attributes) s ≡ row AnyStartTag InsertForeign Acknowledged
svg-row name attributes s h g = rw (h, g) refl

abbrev svg_made : List ℕ → List Attribute → Spot → Made
svg_made name attributes q = record (nothing_yet (record q { path = opened_at q.rules names.Svg name q.path ∷ q.path })) {
  put = Some (put.Element names.Svg name attributes true);
}

module _ (rules : Rules) (name : List ℕ) (told attributes : List Attribute) (own : List ℕ) (number : ℕ) (xs : List Open) (p : Spot)
    (says : Says name)
    (takes : is_among own (svg_names_of set.SvgHtmlIntegrationPoint) ≡ false) (back : adjust_attributes names.Svg told ≡ attributes) where
  abbrev q : Spot
  q = in_svg rules own number xs p

  start-foreign : is_foreign (hollow q) (start_of name told) ≡ true
  unfolding is_foreign
  start-foreign = foreign-there (hollow q) rules own number (start_of name told) takes

  made-of-svg : made_of (start_of name told) q ≡ Some (svg_made name attributes q)
  made-of-svg =
      by-foreign q (start_of name told) start-foreign
      ∙ (by-row 3 in_foreign_content (start_of name told) (nothing_yet q) (row AnyStartTag InsertForeign Acknowledged)
      (svg-row name told (hollow q) says.stays says.plain)
      ∙ ap₂ (λ name attributes. Some (svg_made name attributes q)) says.keeps back)

svg-kept : (name : List ℕ) (attributes : List Attribute) (q : Spot) → is_kept_so name q (svg_made name attributes q) ≡ true
unfolding svg_names_of
svg-kept name attributes q = refl

abbrev svg_named : List ℕ → QualName
svg_named local = record { prefix = None; ns = svg_namespace; local = local }

svg-there : (local : List ℕ) (attributes : List Attribute)
    → is_made (svg_named local) attributes (not (is_void (svg_named local))) (Some (put.Element names.Svg local attributes true)) ≡ true
unfolding svg_namespace html_namespace
svg-there local attributes = rw (same-name local, (attribute_lists_by_value attributes attributes).1 refl) refl

svg-written : (local : List ℕ) (attributes : List Attribute) → Says local → are_svg_read attributes ≡ true
    → is_written_tag (svg_named local) attributes false ≡ true
unfolding svg_namespace html_namespace
svg-written local attributes says read = rw (says.low, says.tag, svg-told attributes read) refl

abbrev svg_test : QualName → List Attribute → Spot → Made → Bool
svg_test name attributes q made =
    is_made name attributes (not (is_void name)) made.put && not made.closed && is_kept_so (lowered name.local) q made

svg-started : (local : List ℕ) (attributes : List Attribute) (q : Spot) → Says local → are_svg_read attributes ≡ true
    → made_of (start_of local (map told_attribute attributes)) q ≡ Some (svg_made local attributes q)
    → started (svg_named local) attributes false q ≡ Some (svg_made local attributes q)
svg-started local attributes q says read made =
    let kept : is_kept_so (lowered local) q (svg_made local attributes q) ≡ true =
    ap (λ name. is_kept_so name q (svg_made local attributes q)) says.low ∙ svg-kept local attributes q in
    started-by (is_written_tag (svg_named local) attributes false) (made_of (start_of (lowered local) (map told_attribute attributes)) q)
    (svg_test (svg_named local) attributes q) (svg_made local attributes q) (svg-written local attributes says read)
    (ap (λ name. made_of (start_of name (map told_attribute attributes)) q) says.low ∙ made)
    (rw (svg-there local attributes, kept) refl)

svg-named-so : (name : QualName) → is_svg name ≡ true → name ≡ svg_named name.local
svg-named-so name h =
    let parts = and_parts (is_none name.prefix) (bytes_eq name.ns svg_namespace) h in
    ap₂ (λ prefix ns. record { prefix = prefix; ns = ns; local = name.local }) (none-is name.prefix parts.0)
    ((bytes_eq-Decides name.ns svg_namespace).0 parts.1)

pub space-svg : (ns : List ℕ) → bytes_eq ns svg_namespace ≡ true → namespace_of ns ≡ names.Svg
unfolding svg_namespace html_namespace mathml_namespace
space-svg ns h = ap namespace_of ((bytes_eq-Decides ns svg_namespace).0 h)

own-open : (x : Open) → is_svg_space x.namespace ≡ true → x ≡ svg_open x.rules x.name x.number
own-open x h = by x.namespace refl h
  where
    by : (space : names.Namespace) → x.namespace ≡ space → is_svg_space space ≡ true → x ≡ svg_open x.rules x.name x.number
    by names.Svg e h = ap (λ (space : names.Namespace). record x { namespace = space }) e
    by space e h = absurd cc

svg-path : (name : QualName) (attributes : List Attribute) (path : List Open) (p : Spot) → p.path ≡ path → is_svg name ≡ true
    → Says name.local
    → takes_svg path ≡ true → are_svg_read attributes ≡ true
    → started name attributes false p ≡ Some (svg_made name.local attributes p)
svg-path name attributes [] p e s says takes read = absurd cc
svg-path name attributes (x ∷ xs) p e s says takes read =
    let parts = and_parts (is_svg_space x.namespace) (not (is_among x.name (names_in x.namespace set.SvgHtmlIntegrationPoint))) takes in
    let own = own-open x parts.0 in
    let out : is_among x.name (svg_names_of set.SvgHtmlIntegrationPoint) ≡ false =
    is-not (is_among x.name (svg_names_of set.SvgHtmlIntegrationPoint))
    (ap (λ (x : Open). not (is_among x.name (names_in x.namespace set.SvgHtmlIntegrationPoint))) (sym own) ∙ parts.1) in
    let at : p.path ≡ svg_open x.rules x.name x.number ∷ xs = e ∙ ap (λ x. x ∷ xs) own in
    ap₂ (λ name path. started name attributes false (record p { path = path })) (svg-named-so name s) at
    ∙ (svg-started name.local attributes (in_svg x.rules x.name x.number xs p) says read
    (made-of-svg x.rules name.local (map told_attribute attributes) attributes x.name x.number xs p says out (svg-adjusted attributes read))
    ∙ ap (λ path. Some (svg_made name.local attributes (record p { path = path }))) (sym at))

-- an element of SVG is put by its start tag
pub svg-put : (name : QualName) (attributes : List Attribute) (p : Spot) → IsPutIn name attributes p
    → option_map before_kids (started name attributes false p) ≡ Some (opened_svg name p)
svg-put name attributes p is =
    let space = space-svg name.ns (and_parts (is_none name.prefix) (bytes_eq name.ns svg_namespace) is.svg).1 in
    ap (option_map before_kids)
    (svg-path name attributes p.path p refl is.svg (said name.local is.named) is.takes is.read)
    ∙ ap (λ (space : names.Namespace).
    Some (nothing_yet (record p { path = opened_at p.rules space name.local p.path ∷ p.path }))) (sym space)

-- `svg` in HTML takes the row of the body
root-row : (attributes : List Attribute) (s : State)
    → first_fit (rows mode.InBody) (start_of (codes "svg") attributes) s
    ≡ row (StartTags set.Svg) (Reconstruct ▸ EnterForeign names.Svg) Acknowledged
unfolding rows names_of
root-row attributes s = refl

root-passed : (attributes : List Attribute) → IsPassed (start_of (codes "svg") attributes)
unfolding rows names_of
root-passed attributes s = refl

root-way : (m : InsertionMode) → is_flow m ≡ true → Way mode.InBody true false m
root-way mode.InBody h = Here refl
root-way mode.InCell h = FromCell refl refl refl
root-way m h = absurd cc

root-made : (told attributes : List Attribute) (p : Spot) → is_flow p.mode ≡ true → current_is is_html_element p.path ≡ true
    → adjust_attributes names.Svg told ≡ attributes
    → made_of (start_of (codes "svg") told) p ≡ Some (svg_made (codes "svg") attributes p)
root-made told attributes p flow html back =
    in-place mode.InBody true false p _ (svg_made (codes "svg") attributes p) html
    (λ n. by-row n (rows mode.InBody) (start_of (codes "svg") told) (nothing_yet p)
    (row (StartTags set.Svg) (Reconstruct ▸ EnterForeign names.Svg) Acknowledged) (root-row told (hollow p))
    ∙ ap (λ attributes. Some (svg_made (codes "svg") attributes p)) back)
    (λ _. root-passed told) (λ h. absurd cc) (root-way p.mode flow)

svg-said : Says (codes "svg")
svg-said = said (codes "svg") refl

pub root-put : (name : QualName) (attributes : List Attribute) (p : Spot) → IsRootIn name attributes p
    → option_map before_kids (started name attributes false p) ≡ Some (opened_svg name p)
root-put name attributes p is =
    let local : name.local ≡ codes "svg" = (bytes_eq-Decides name.local (codes "svg")).0 is.named in
    let space = space-svg name.ns (and_parts (is_none name.prefix) (bytes_eq name.ns svg_namespace) is.svg).1 in
    ap (option_map before_kids)
    (ap (λ name. started name attributes false p) (svg-named-so name is.svg ∙ ap svg_named local)
    ∙ svg-started (codes "svg") attributes p svg-said is.read (root-made (map told_attribute attributes) attributes p is.flow is.html
    (svg-adjusted attributes is.read)))
    ∙ ap₂ (λ (space : names.Namespace) local. Some (nothing_yet (record p { path = opened_at p.rules space local p.path ∷ p.path })))
    (sym space) (sym local)

-- END TAGS

end-row : (rules : Rules) (name : List ℕ) (number : ℕ) (y : Open) (ys : List Open) (p : Spot) → is_among name (names_of set.BrP) ≡ false
    → first_fit in_foreign_content (end_of name) (hollow (in_svg rules name number (y ∷ ys) p))
    ≡ row AnyEndTag (When ForeignEndError ParseError ▸ CloseForeign) Done
unfolding foreign_end
end-row rules name number y ys p h = rw (h, same-name (map to_ascii_lowercase name)) refl

abbrev svg_ended : Spot → List Open → Made
svg_ended p xs = record (nothing_yet (record p { path = xs })) { closed = true }

end-foreign : (rules : Rules) (name : List ℕ) (number : ℕ) (xs : List Open) (p : Spot)
    → is_foreign (hollow (in_svg rules name number xs p)) (end_of name) ≡ true
unfolding is_foreign
end-foreign rules name number xs p = foreign-end (hollow (in_svg rules name number xs p)) rules name name number

made-of-end : (rules : Rules) (name : List ℕ) (number : ℕ) (y : Open) (ys : List Open) (p : Spot)
    → is_among name (names_of set.BrP) ≡ false
    → made_of (end_of name) (in_svg rules name number (y ∷ ys) p) ≡ Some (svg_ended p (y ∷ ys))
made-of-end rules name number y ys p h =
    by-foreign (in_svg rules name number (y ∷ ys) p) (end_of name) (end-foreign rules name number (y ∷ ys) p)
    ∙ (by-row 3 in_foreign_content (end_of name) (nothing_yet (in_svg rules name number (y ∷ ys) p))
    (row AnyEndTag (When ForeignEndError ParseError ▸ CloseForeign) Done) (end-row rules name number y ys p h)
    ∙ rw (same-name (map to_ascii_lowercase name), same-name (map to_ascii_lowercase name)) refl)

abbrev svg_end_test : QualName → Spot → Made → Bool
svg_end_test name q made = (is_none made.put && not made.drops_line_feed && is_none made.raw)
    && cond (stays_open name) (not made.closed) made.closed && is_kept_so (lowered name.local) q made

svg-end-tested : (rules : Rules) (local : List ℕ) (number : ℕ) (y : Open) (ys : List Open) (p : Spot)
    → svg_end_test (svg_named local) (in_svg rules local number (y ∷ ys) p) (svg_ended p (y ∷ ys)) ≡ true
unfolding svg_namespace html_namespace svg_names_of
svg-end-tested rules local number y ys p = refl

svg-finished : (rules : Rules) (local : List ℕ) (number : ℕ) (y : Open) (ys : List Open) (p : Spot) → Says local
    → finished (svg_named local) (in_svg rules local number (y ∷ ys) p) ≡ Some (record p { path = y ∷ ys })
svg-finished rules local number y ys p says =
    finished-by (made_of (end_of (lowered local)) (in_svg rules local number (y ∷ ys) p))
    (svg_end_test (svg_named local) (in_svg rules local number (y ∷ ys) p)) (svg_ended p (y ∷ ys))
    (ap (λ name. made_of (end_of name) (in_svg rules local number (y ∷ ys) p)) says.low
    ∙ made-of-end rules local number y ys p says.ends)
    (svg-end-tested rules local number y ys p)

svg-end-path : (name : QualName) (path : List Open) (p : Spot) → p.path ≡ path → is_svg name ≡ true → Says name.local
    → is_current_svg name.local path ≡ true → finished name p ≡ Some (record p { path = without_current path })
svg-end-path name [] p e s says current = absurd cc
svg-end-path name (x ∷ []) p e s says current = absurd cc
svg-end-path name (x ∷ y ∷ ys) p e s says current =
    let parts = and_parts (is_svg_space x.namespace) (bytes_eq name.local x.name) current in
    let own : x ≡ svg_open x.rules name.local x.number =
    own-open x parts.0 ∙ ap (λ local. svg_open x.rules local x.number) (sym ((bytes_eq-Decides name.local x.name).0 parts.1)) in
    ap₂ (λ name path. finished name (record p { path = path })) (svg-named-so name s) (e ∙ ap (λ x. x ∷ y ∷ ys) own)
    ∙ svg-finished x.rules name.local x.number y ys p says

-- and closed by its end tag
pub svg-closes : (name : QualName) (p : Spot) → IsClosedIn name p → finished name p ≡ Some (record p { path = without_current p.path })
svg-closes name p is = svg-end-path name p.path p refl is.svg (said name.local is.named) is.current

-- TEXT

text-foreign : (p : Spot) (c : ℕ) (path : List Open) → takes_svg path ≡ true
    → is_foreign_at (hollow p) (adjusted_by None path) (CharacterTokens (c ∷ [])) ≡ true
text-foreign p c [] h = absurd cc
text-foreign p c (x ∷ xs) h =
    let parts = and_parts (is_svg_space x.namespace) (not (is_among x.name (names_in x.namespace set.SvgHtmlIntegrationPoint))) h in
    let own = own-open x parts.0 in
    ap (λ (x : Open). is_foreign_at (hollow p) (Some x) (CharacterTokens (c ∷ []))) own
    ∙ foreign-there (hollow p) x.rules x.name x.number (CharacterTokens (c ∷ []))
    (is-not (is_among x.name (svg_names_of set.SvgHtmlIntegrationPoint))
    (ap (λ (x : Open). not (is_among x.name (names_in x.namespace set.SvgHtmlIntegrationPoint))) (sym own) ∙ parts.1))

text-by : (p : Spot) (c : ℕ) (ok : Bool) → ok ≡ false
    → by_rows 4 in_foreign_content (CharacterTokens (c ∷ [])) (nothing_yet (record p { frameset_ok = ok }))
    ≡ Some (record (nothing_yet (record p { frameset_ok = ok })) { put = Some TextHere })
unfolding by_rows
text-by p c false h = refl
text-by p c true h = absurd cc

svg-text-foreign : (p : Spot) (c : ℕ) → takes_svg p.path ≡ true → is_foreign (hollow p) (CharacterTokens (c ∷ [])) ≡ true
unfolding is_foreign
svg-text-foreign p c h = text-foreign p c p.path h

-- a character is put in SVG, where no frameset may come, and changes nothing else
pub svg-text : (p : Spot) (c : ℕ) → takes_svg p.path ≡ true → p.frameset_ok ≡ false
    → made_of (CharacterTokens (c ∷ [])) p ≡ Some (record (nothing_yet p) { put = Some TextHere })
svg-text p c h ok = by-foreign p (CharacterTokens (c ∷ [])) (svg-text-foreign p c h) ∙ text-by p c p.frameset_ok ok

-- BY THE KIND OF A NAME

pub svg-kind : (k : Kind) (name : List ℕ) → is_svg_kind k ≡ true → IsKindOf name k → is_among name svg_names ≡ true
svg-kind kind.Svg name h is = is.named refl
svg-kind k name h is = absurd cc
