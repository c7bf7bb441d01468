-- Where nodes stand as they are walked one by one, and what their walk is then.
use Rattle.std.specs.Prelude.{◌≡◌, ℕ, Bool, true, false, ◌&&◌, not, cond, List, [], Option, Some, None, is_none, codes}
use Rattle.std.specs.Str.{bytes_eq}
use denote.Bor.{Bor}
use Rattle.markup.specs.Trees.{Trees, Comment, Doctype, Element}
use Rattle.markup.specs.declared.attributes.Attribute.{Attribute}
use Rattle.markup.specs.declared.names.QualName.{QualName}
use Rattle.markup.specs.declared.quirks.QuirksMode.TheVariants.{NoQuirks}
use Rattle.html_rules.specs.Choice.{choose}
use Rattle.html_tokens.specs.declared.states.RawKind.{RawKind}
use Rattle.html_faithful.specs.Forms.{is_comment_text, is_raw_text, lowered}
use Rattle.html_faithful.specs.Harmless.{Made, and_then}
use Rattle.html_faithful.specs.Spots.{Spot}
use Rattle.html_faithful.specs.Walk.{Parent, are_none, below, ends_there, finished, kids_walked, is_current, is_raw_inside, is_text}
use Rattle.html_faithful.specs.Walk.{is_void, is_written_so, may_stay}
use Rattle.html_faithful.specs.Walk.{text_put, walk}
use Rattle.html_faithful_walk.specs.Steps.{parent_of}
use Rattle.html_faithful_walk.specs.declared.parents.Parent as declared
use Rattle.html_faithful_walk.specs.declared.stand.After.{After}
use Rattle.html_faithful_walk.specs.declared.stand.Inside.{Inside}
use Rattle.html_faithful_walk.specs.declared.stand.Inside.TheVariants.{Start, Any, Raw, Done}
use Rattle.html_faithful_walk.specs.declared.stand.Stand.{Stand}

-- WHERE NODES STAND

-- whether trees may come next, but for those of a document
abbrev pub allows : Inside → Trees → Bool
allows Any trees = true
allows (Raw kind name) trees = is_raw_inside kind name.now.local trees
allows inside trees = are_none trees

-- a document: comments, and a doctype, which brings no quirks, or an element
unfoldable pub begun : Bool → Parent → Bool → Bool → Trees → Spot → Option Spot
begun scripting parent after drops (Comment text rest) p =
    choose (is_comment_text text) (λ _. begun scripting parent after drops rest p) (λ _. None)
begun scripting parent after drops (Doctype name public_id system_id rest) p =
    choose (bytes_eq name (codes "html")) (λ _. walk scripting parent after drops rest (record p { quirks_mode = NoQuirks })) (λ _. None)
begun scripting parent after drops (Element name attributes template kids rest) p =
    walk scripting parent after drops (Element name attributes template kids rest) p
begun scripting parent after drops trees p = None

abbrev pub walk_by : Inside → Bool → Parent → Bool → Bool → Trees → Spot → Option Spot
walk_by Start scripting parent after drops trees p = begun scripting parent after drops trees p
walk_by inside scripting parent after drops trees p =
    choose (allows inside trees) (λ _. walk scripting parent after drops trees p) (λ _. None)

-- trees from a stand on
abbrev pub walk_at : Bool → Stand → Trees → Spot → Option Spot
walk_at scripting stand trees p = walk_by stand.inside scripting (parent_of stand.parent) stand.after_text stand.drops trees p

abbrev pub after_stand : declared.Parent → Stand
after_stand parent = record { parent = parent; after_text = false; drops = false; inside = Any }

-- a node stands there or not, and the next one stands there then
abbrev pub Passes : (Trees → Trees) → Stand → Spot → Stand → Spot → Bool → Type 0
Passes tree old p new q goes_on = (scripting : Bool) (rest : Trees)
    → walk_at scripting old (tree rest) p ≡ choose goes_on (λ _. walk_at scripting new rest q) (λ _. None)

-- TEXTS

-- which nodes may come after a text
abbrev pub after_text_of : Inside → List ℕ → Option Inside
after_text_of Start text = None
after_text_of Any text = Some Any
after_text_of (Raw kind name) text = choose (is_raw_text kind name.now.local text) (λ _. Some Done) (λ _. None)
after_text_of Done text = None

-- a text that may come, and what comes after it
abbrev pub text_by : Bool → List ℕ → Inside → Parent → Bool → Bool → Trees → Spot → Option Spot
text_by scripting text inside parent after drops rest p =
    choose (is_text after drops text && is_current parent p)
    (λ _. and_then (text_put text p) (λ p. walk_by inside scripting parent true false rest p)) (λ _. None)

abbrev pub TakesText : List ℕ → Inside → Stand → Spot → Stand → Spot → Bool → Type 0
TakesText text inside old p new q goes_on = (scripting : Bool) (rest : Trees)
    → text_by scripting text inside (parent_of old.parent) old.after_text old.drops rest p
    ≡ choose goes_on (λ _. walk_at scripting new rest q) (λ _. None)

-- ELEMENTS

abbrev pub finish_by : Option (Bor QualName) → Spot → Option Spot
finish_by None p = Some p
finish_by (Some name) p = finished name.now p

abbrev pub after_of : Bor QualName → declared.Parent → After
after_of name parent = record { finishes = cond (is_void name.now) None (Some name); parent = parent }

-- what may stand in an element that has raw text, or has not
abbrev pub inside_by : Option RawKind → Bor QualName → Option Inside
inside_by None name = Some Any
inside_by (Some kind) name = choose (bytes_eq (lowered name.now.local) name.now.local) (λ _. Some (Raw kind name)) (λ _. None)

-- which nodes may stand in an element that was opened
abbrev pub inside_of : Bor QualName → Made → Option Inside
inside_of name made = choose (is_void name.now)
    (λ _. choose (not made.drops_line_feed && is_none made.raw) (λ _. Some Done) (λ _. None)) (λ _. inside_by made.raw name)

abbrev pub takes_elements : Inside → Bool
takes_elements Start = true
takes_elements Any = true
takes_elements inside = false

abbrev pub may_hold : Stand → QualName → Spot → Bool
may_hold stand name p = takes_elements stand.inside && (is_current (parent_of stand.parent) p && may_stay (parent_of stand.parent) name)

-- the nodes in an element, its end, and the nodes after it
abbrev pub around : Bool → Stand → Spot → After → Trees → Trees → Option Spot
around scripting stand p after kids rest =
    and_then (walk_at scripting stand kids p)
    (λ p. and_then (finish_by after.finishes p) (λ p. walk_at scripting (after_stand after.parent) rest p))

abbrev pub around_if : Bool → Stand → Spot → Option After → Trees → Trees → Option Spot
around_if scripting stand p None kids rest = None
around_if scripting stand p (Some after) kids rest = around scripting stand p after kids rest

-- an element begins there or not; then this comes after the nodes in it
abbrev pub Opens : Bool → QualName → List Attribute → Bool → Stand → Spot → Stand → Spot → Option After → Type 0
Opens scripting name attributes template old p new q after = (kids rest : Trees)
    → walk_at scripting old (Element name attributes template kids rest) p ≡ around_if scripting new q after kids rest

-- what an element's walk is once its start tag was taken
abbrev pub entered_by : Bool → QualName → Made → Parent → Trees → Trees → Option Spot
entered_by scripting name made parent kids rest =
    choose (is_written_so scripting name made.raw)
    (λ _. and_then (choose (is_void name) (λ _. choose (ends_there kids made) (λ _. Some made.spot) (λ _. None))
    (λ _. kids_walked name kids (λ drops p. walk scripting (below parent) false drops kids p) made))
    (λ p. walk scripting parent false false rest p)) (λ _. None)

abbrev pub Enters : Bool → Bor QualName → Made → Stand → Stand → Option After → Type 0
Enters scripting name made old new after = (kids rest : Trees)
    → entered_by scripting name.now made (parent_of old.parent) kids rest ≡ around_if scripting new made.spot after kids rest

-- THE ENDS

-- whether the nodes of a parent may end at a stand
abbrev pub may_end : Inside → Bool
may_end Start = false
may_end Any = true
may_end (Raw kind name) = is_raw_text kind name.now.local []
may_end Done = true
