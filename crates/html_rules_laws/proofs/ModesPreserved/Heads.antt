-- Rows of the modes before the head, in it and after it leave the parts nested.
use Rattle.std.proofs.Common.{◌≡◌, ◌∙◌, ℕ, Bool, true, false, List, [], ◌∷◌, refl, sym, ap, codes}
use Rattle.std.specs.Prelude.{◌&&◌, not}
use Rattle.std.proofs.lemmas.Bool.{and_parts}
use Rattle.markup.specs.Forest.{Forest, Last, node_count}
use Rattle.markup.specs.declared.attributes.Attribute.{Attribute}
use Rattle.markup.proofs.PutTexts.{IsParent-document}
use Rattle.html_tokens.specs.declared.tags.Tag.{Tag}
use Rattle.html_tokens.specs.declared.token.Token.{Token}
use Rattle.html_tokens.specs.declared.token.Token.TheVariants.{TagToken}
use Rattle.html_rules.specs.Actions.{act, frameset_not_ok, set_head_elem, set_mode}
use Rattle.html_rules.specs.Conditions.{context_is, is_nonempty}
use Rattle.html_rules.specs.ForeignContent.{is_start_tag}
use Rattle.html_rules.specs.Names.{Html}
use Rattle.html_rules.specs.Places.{create_root, insert_element, insert_element_for}
use Rattle.html_rules.specs.Rules.{Turn, concluded}
use Rattle.html_rules.specs.Sets.{is_among, mathml_names_of, names_of, svg_names_of}
use Rattle.html_rules.specs.Stack.{open_templates, parse_error, pop_but_root, without_current_but_root}
use Rattle.html_rules.specs.State.{Open, State, is_in}
use Rattle.html_rules.specs.Table.{Action, Then, ParseError, InsertElement, InsertNew, CreateRoot, CreateNewRoot, Pop}
use Rattle.html_rules.specs.Table.{SetHeadElem, SwitchTo, FramesetNotOk, Conclusion, Done, Reprocess}
use Rattle.html_rules.specs.Tokens.{attributes_of}
use Rattle.html_rules.specs.declared.insertion_mode.InsertionMode.{InsertionMode}
use Rattle.html_rules.specs.declared.insertion_mode.InsertionMode.TheVariants as mode
use Rattle.html_rules.specs.declared.rules.Rules.{Rules}
use Rattle.html_rules.specs.declared.tag_set.TagSet.{TagSet}
use Rattle.html_rules.specs.declared.tag_set.TagSet.TheVariants as set
use Rattle.html_rules_laws.specs.Nesting.{Part, Root, HeadPart, BodyPart, Ground, IsNested, fits_nested, ground_of, is_document}
use Rattle.html_rules_laws.specs.Nesting.{is_head, is_loose, is_root, may_stand, nested, part_of, parts, top}
use Rattle.html_rules_laws.specs.Soundness.{Standing}
use Rattle.html_rules_laws.proofs.SetFacts.{all_among, among-all, in-apart}
use Rattle.html_rules_laws.proofs.Termination.Kinds.{Kind, Starts, StartsBut, Ends, EndsBut, is_of}
use Rattle.html_rules_laws.proofs.Soundness.Specials.{before_html_ok, noscript_ok}
use Rattle.html_rules_laws.proofs.TreePreserved.StandingTrees.{made-Made, put-Made}
use Rattle.html_rules_laws.proofs.ModesPreserved.Fits.{loose-count, loose-not_root, root-html, root-is}
use Rattle.html_rules_laws.proofs.ModesPreserved.Likes.{fits_at, like-insert, like-nested, like-pop}
use Rattle.html_rules_laws.proofs.ModesPreserved.Parts.{is_loose_name, name-loose, part-apart, set-part}
use Rattle.html_rules_laws.proofs.ModesPreserved.Rows.{document-frames, frames-part, frames-template}
use Rattle.html_rules_laws.proofs.ModesPreserved.Smooth.{is_tag_kind, kind-loose, loose_kind}
use Rattle.html_rules_laws.proofs.ModesPreserved.Stacks.{pushed-templates}
use Rattle.html_rules_laws.proofs.Bools.{no}

-- start tags of these names
abbrev pub starts_all : TagSet → Kind → Bool
starts_all names (Starts own) = all_among own (names_of names)
starts_all names kind = false

pub started : (names : TagSet) (kind : Kind) → starts_all names kind ≡ true → (t : Token) → is_of kind t ≡ true
    → (P : Token → Type 0) → ((tag : Tag) → is_among tag.name (names_of names) ≡ true → P (TagToken tag)) → P t
started names (Starts own) h (TagToken tag) k P f =
    f tag (among-all tag.name own (names_of names) h (and_parts (is_start_tag tag.kind) _ k).1)
started names (Starts own) h t k P f = no k
started names kind h t k P f = no h

-- tags of loose elements
abbrev pub loose_tags : Kind → Bool
loose_tags kind = is_tag_kind kind && loose_kind kind

pub loosened : (kind : Kind) → loose_tags kind ≡ true → (t : Token) → is_of kind t ≡ true → (P : Token → Type 0)
    → ((tag : Tag) → is_loose_name tag.name parts ≡ true → P (TagToken tag)) → P t
loosened kind h t k P f = let tests = and_parts (is_tag_kind kind) (loose_kind kind) h in by kind t tests.0 tests.1 k where
  by : (kind : Kind) (t : Token) → is_tag_kind kind ≡ true → loose_kind kind ≡ true → is_of kind t ≡ true → P t
  by kind (TagToken tag) g l k = f tag (kind-loose kind tag l k)
  by (Starts names) t g l k = no k
  by (Ends names) t g l k = no k
  by (StartsBut names) t g l k = no k
  by (EndsBut names) t g l k = no k
  by kind t g l k = no g

-- before the root

empty-list : (xs : List Open) → not (is_nonempty xs) ≡ true → xs ≡ []
empty-list [] h = refl
empty-list (x ∷ xs) h = no h

abbrev pub is_begun : Conclusion → Bool
is_begun (Reprocess mode.BeforeHtml) = true
is_begun e = false

pub begun-nested : (s : State) → s.mode ≡ mode.Initial → IsNested s → IsNested (set_mode mode.BeforeHtml s)
unfolding set_mode
begun-nested s at h = let empty : not (is_nonempty s.open_elems) ≡ true = rw at at h.fits in record {
  fits = empty;
  count = h.count;
  framed = h.framed;
  form = h.form;
}

pub initial-nested : (using : InsertionMode → Token → State → Turn) (e : Conclusion) → is_begun e ≡ true
    → (t : Token) (script : ℕ) (s : State) → s.mode ≡ mode.Initial → IsNested s → IsNested (concluded using e t script s).state
initial-nested using (Reprocess mode.BeforeHtml) h t script s at n = begun-nested s at n
initial-nested using e h t script s at n = no h

pub root-part : (n : ℕ) (rules : Rules) → part_of (record { number = n; namespace = Html; name = codes "html"; rules = rules }) ≡ Root
unfolding names_of mathml_names_of svg_names_of
root-part n rules = set-part set.Html Root refl (record { number = n; namespace = Html; name = codes "html"; rules = rules }) refl

pub root-template : (n : ℕ) (rules : Rules) → is_in set.Template (record { number = n; namespace = Html; name = codes "html"; rules = rules }) ≡ false
unfolding names_of mathml_names_of svg_names_of
root-template n rules = refl

rooted-nested : (attributes : List Attribute) (s : State) → s.mode ≡ mode.BeforeHtml
    → is_document (ground_of s.context_elem) ≡ true → Standing s → IsNested s
    → IsNested (set_mode mode.BeforeHead (create_root attributes s))
unfolding create_root set_mode
rooted-nested attributes s at document standing h =
    let f : Forest = s.forest in
    let spot = IsParent-document f standing.tree.forest in
    let made = made-Made s.opts.rules f Html (codes "html") attributes false s.open_elems standing.tree tt standing.opened in
    let whole = put-Made s.opts.rules f Html (codes "html") attributes false s.open_elems (Last 0) standing.tree tt
    standing.opened spot (IsParent-document _ made.stays.tree.forest) in
    let none : not (is_nonempty s.open_elems) ≡ true = rw at at h.fits in
    let empty = empty-list s.open_elems none in
    like-nested s (set_mode mode.BeforeHead (create_root attributes s))
    (record { context = refl; modes = refl; framed = λ e. e; form = refl; names = whole.stays.names.names })
    (rw (root-template (node_count f) s.opts.rules) refl) (rw (document, root-part (node_count f) s.opts.rules, empty) refl) h

pub before_html-nested : (using : InsertionMode → Token → State → Turn) (a : Action) (e : Conclusion)
    → before_html_ok a e ≡ true → (t : Token) (script : ℕ) (s : State) → s.mode ≡ mode.BeforeHtml
    → is_document (ground_of s.context_elem) ≡ true → Standing s → IsNested s
    → IsNested (concluded using e t script (act a t s)).state
before_html-nested using (Then CreateRoot (SwitchTo mode.BeforeHead)) Done h t script s at document standing n =
    rooted-nested (attributes_of t) s at document standing n
before_html-nested using CreateNewRoot (Reprocess mode.BeforeHead) h t script s at document standing n =
    rooted-nested [] s at document standing n
before_html-nested using a e h t script s at document standing n = no h

-- the head is made

pub head-part : (name : List ℕ) → is_among name (names_of set.Head) ≡ true → (n : ℕ) (rules : Rules)
    → part_of (record { number = n; namespace = Html; name = name; rules = rules }) ≡ HeadPart
unfolding names_of mathml_names_of svg_names_of
head-part name h n rules = set-part set.Head HeadPart refl (record { number = n; namespace = Html; name = name; rules = rules }) h

pub head-template : (name : List ℕ) → is_among name (names_of set.Head) ≡ true → (n : ℕ) (rules : Rules) → is_in set.Template
    (record { number = n; namespace = Html; name = name; rules = rules }) ≡ false
unfolding names_of mathml_names_of svg_names_of
head-template name h n rules = in-apart set.Head set.Template refl (record { number = n; namespace = Html; name = name; rules = rules }) h

-- the root alone is open in a document
pub record IsOverRoot (g : Ground) (xs : List Open) : Type 0 where
  pub document : is_document g ≡ true
  pub nested : nested g xs ≡ true
  pub root : top xs ≡ Root

pub over-root : (g : Ground) (xs : List Open) → (is_document g && (nested g xs && is_root (top xs))) ≡ true → IsOverRoot g xs
over-root g xs h =
    let one = and_parts (is_document g) _ h in
    let two = and_parts (nested g xs) _ one.1 in
    record { document = one.0; nested = two.0; root = root-is (top xs) two.1 }

headed-nested : (name : List ℕ) (attributes : List Attribute) (dup : Bool)
    → is_among name (names_of set.Head) ≡ true → (s : State) → s.mode ≡ mode.BeforeHead → Standing s → IsNested s
    → IsNested (set_mode mode.InHead (set_head_elem (insert_element Html name attributes dup s)))
unfolding set_mode set_head_elem insert_element
headed-nested name attributes dup e s at standing h =
    let like = like-insert name attributes dup s standing in
    let is = over-root (ground_of s.context_elem) s.open_elems (rw at at h.fits) in
    like-nested s (set_mode mode.InHead (set_head_elem (insert_element Html name attributes dup s)))
    (record { context = like.context; modes = like.modes; framed = like.framed; form = like.form; names = like.names })
    (rw (head-template name e (node_count s.forest) s.opts.rules) refl)
    (rw (head-part name e (node_count s.forest) s.opts.rules, is.root, is.document, is.nested) refl) h

abbrev pub heads : Kind → Action → Conclusion → Bool
heads kind (Then InsertElement (Then SetHeadElem (SwitchTo mode.InHead))) Done = starts_all set.Head kind
heads kind (Then (InsertNew name) SetHeadElem) (Reprocess mode.InHead) = is_among name (names_of set.Head)
heads kind a e = false

pub before_head-nested : (using : InsertionMode → Token → State → Turn) (kind : Kind) (a : Action) (e : Conclusion)
    → heads kind a e ≡ true → (t : Token) → is_of kind t ≡ true → (script : ℕ) (s : State)
    → s.mode ≡ mode.BeforeHead → Standing s → IsNested s → IsNested (concluded using e t script (act a t s)).state
before_head-nested using kind (Then InsertElement (Then SetHeadElem (SwitchTo mode.InHead))) Done h t k script s at standing n =
    started set.Head kind h t k
    (λ t. IsNested (act (Then InsertElement (Then SetHeadElem (SwitchTo mode.InHead))) t s))
    (λ tag e. headed-nested tag.name tag.attrs tag.had_duplicate_attributes e s at standing n)
before_head-nested using kind (Then (InsertNew name) SetHeadElem) (Reprocess mode.InHead) h t k script s at standing
    n = headed-nested name [] false h s at standing n
before_head-nested using kind a e h t k script s at standing n = no h

-- in the head

-- what is under the head
pub under-head : (g : Ground) (xs : List Open) → (nested g xs && is_head (top xs)) ≡ true
    → ((is_document g && (nested g (without_current_but_root xs) && is_root (top (without_current_but_root xs)))) ≡
    true) × (open_templates (without_current_but_root xs) ≡ open_templates xs)
unfolding names_of mathml_names_of svg_names_of
under-head g [] h = no h
under-head g (x ∷ xs) h =
    let one = and_parts (nested g (x ∷ xs)) _ h in
    let two = and_parts (may_stand g (part_of x) (top xs)) _ one.0 in
    let part = head-is (part_of x) one.1 in
    let below = head-stands g (top xs) (rw part at two.0) in
    let bare : is_in set.Html x ≡ false = root-html x ∙ ap is_root part in
    let template : is_in set.Template x ≡ false = part-apart x HeadPart set.Template refl refl part in
    rw (bare, template, below.0, two.1, below.1) (refl, refl)
  where
    head-is : (p : Part) → is_head p ≡ true → p ≡ HeadPart
    head-is HeadPart h = refl
    head-is p h = no h

    head-stands : (g : Ground) (q : Part) → may_stand g HeadPart q ≡ true → (is_document g ≡ true) × (q ≡ Root)
    head-stands g Root m = (m, refl)
    head-stands g q m = no m

left-head : (s : State) → s.mode ≡ mode.InHead → IsNested s → IsNested (set_mode mode.AfterHead (pop_but_root s))
unfolding set_mode pop_but_root
left-head s at h =
    let like = like-pop s in
    let left = under-head (ground_of s.context_elem) s.open_elems (rw at at h.fits) in
    like-nested s (set_mode mode.AfterHead (pop_but_root s))
    (record { context = like.context; modes = like.modes; framed = like.framed; form = like.form; names = like.names }) left.1 left.0 h

noscript-nested : (tag : Tag) → is_loose_name tag.name parts ≡ true → (s : State) → s.mode ≡ mode.InHead
    → Standing s → IsNested s → IsNested (set_mode mode.InHeadNoscript (insert_element_for tag s))
unfolding set_mode insert_element
noscript-nested tag l s at standing h =
    let x : Open = record { number = node_count s.forest; namespace = Html; name = tag.name; rules = s.opts.rules } in
    let loose = name-loose tag.name l (node_count s.forest) s.opts.rules in
    let like = like-insert tag.name tag.attrs tag.had_duplicate_attributes s standing in
    let was : (nested (ground_of s.context_elem) s.open_elems && is_head (top s.open_elems)) ≡ true = rw at at h.fits in
    like-nested s (set_mode mode.InHeadNoscript (insert_element_for tag s))
    (record { context = like.context; modes = like.modes; framed = like.framed; form = like.form; names = like.names })
    (pushed-templates x s.open_elems loose) (rw loose was) h

abbrev pub leaves_head : Kind → Action → Conclusion → Bool
leaves_head kind (Then InsertElement (SwitchTo mode.InHeadNoscript)) Done = loose_tags kind
leaves_head kind (Then Pop (SwitchTo mode.AfterHead)) Done = true
leaves_head kind Pop (Reprocess mode.AfterHead) = true
leaves_head kind a e = false

pub in_head-nested : (using : InsertionMode → Token → State → Turn) (kind : Kind) (a : Action) (e : Conclusion)
    → leaves_head kind a e ≡ true → (t : Token) → is_of kind t ≡ true → (script : ℕ) (s : State)
    → s.mode ≡ mode.InHead → Standing s → IsNested s → IsNested (concluded using e t script (act a t s)).state
in_head-nested using kind (Then InsertElement (SwitchTo mode.InHeadNoscript)) Done h t k script s at standing n =
    loosened kind h t k (λ t. IsNested (act (Then InsertElement (SwitchTo mode.InHeadNoscript)) t s))
    (λ tag l. noscript-nested tag l s at standing n)
in_head-nested using kind (Then Pop (SwitchTo mode.AfterHead)) Done h t k script s at standing n = left-head s at n
in_head-nested using kind Pop (Reprocess mode.AfterHead) h t k script s at standing n = left-head s at n
in_head-nested using kind a e h t k script s at standing n = no h

-- in a noscript of the head

under-noscript : (g : Ground) (template : Bool) (xs : List Open) → fits_nested g template mode.InHeadNoscript
    xs ≡ true → (fits_nested g template mode.InHead (without_current_but_root xs) ≡ true)
    × (open_templates (without_current_but_root xs) ≡ open_templates xs)
under-noscript g template [] h = no h
under-noscript g template (x ∷ xs) h =
    let one = and_parts (is_loose (part_of x)) _ h in
    let bare : is_in set.Html x ≡ false = root-html x ∙ loose-not_root (part_of x) one.0 in
    rw bare (one.1, sym (loose-count x xs one.0))

left-noscript : (s : State) → s.mode ≡ mode.InHeadNoscript → IsNested s → IsNested (set_mode mode.InHead (pop_but_root s))
unfolding set_mode pop_but_root
left-noscript s at h =
    let like = like-pop s in
    let left = under-noscript (ground_of s.context_elem) (context_is set.Template s.context_elem) s.open_elems (rw at at h.fits) in
    like-nested s (set_mode mode.InHead (pop_but_root s))
    (record { context = like.context; modes = like.modes; framed = like.framed; form = like.form; names = like.names }) left.1 left.0 h

pub erred-nested : (s : State) → IsNested s → IsNested (parse_error s)
unfolding parse_error
erred-nested s h = record { fits = h.fits; count = h.count; framed = h.framed; form = h.form }

pub error-mode : (s : State) → (parse_error s).mode ≡ s.mode
unfolding parse_error
error-mode s = refl

pub noscript-ends : (using : InsertionMode → Token → State → Turn) (a : Action) (e : Conclusion)
    → noscript_ok a e ≡ true → (t : Token) (script : ℕ) (s : State) → s.mode ≡ mode.InHeadNoscript → IsNested s
    → IsNested (concluded using e t script (act a t s)).state
noscript-ends using (Then Pop (SwitchTo mode.InHead)) Done h t script s at n = left-noscript s at n
noscript-ends using (Then ParseError Pop) (Reprocess mode.InHead) h t script s at n = left-noscript (parse_error s)
    (error-mode s ∙ at) (erred-nested s n)
noscript-ends using a e h t script s at n = no h

-- after the head

body-part : (name : List ℕ) → is_among name (names_of set.Body) ≡ true → (n : ℕ) (rules : Rules)
    → part_of (record { number = n; namespace = Html; name = name; rules = rules }) ≡ BodyPart
unfolding names_of mathml_names_of svg_names_of
body-part name h n rules = set-part set.Body BodyPart refl (record { number = n; namespace = Html; name = name; rules = rules }) h

body-template : (name : List ℕ) → is_among name (names_of set.Body) ≡ true → (n : ℕ) (rules : Rules) → is_in set.Template
    (record { number = n; namespace = Html; name = name; rules = rules }) ≡ false
unfolding names_of mathml_names_of svg_names_of
body-template name h n rules = in-apart set.Body set.Template refl (record { number = n; namespace = Html; name = name; rules = rules }) h

-- a body over the root
pub bodied-fits : (name : List ℕ) → is_among name (names_of set.Body) ≡ true → (n : ℕ) (rules : Rules) (s : State)
    → s.mode ≡ mode.AfterHead → IsNested s → fits_at s mode.InBody s.orig_mode
    (record { number = n; namespace = Html; name = name; rules = rules } ∷ s.open_elems) ≡ true
bodied-fits name e n rules s at h =
    let is = over-root (ground_of s.context_elem) s.open_elems (rw at at h.fits) in
    rw (body-part name e n rules, is.root, is.document, is.nested) refl

bodied-nested : (name : List ℕ) (attributes : List Attribute) (dup : Bool)
    → is_among name (names_of set.Body) ≡ true → (s : State) → s.mode ≡ mode.AfterHead → Standing s → IsNested s
    → IsNested (set_mode mode.InBody (insert_element Html name attributes dup s))
unfolding set_mode insert_element
bodied-nested name attributes dup e s at standing h =
    let like = like-insert name attributes dup s standing in
    like-nested s (set_mode mode.InBody (insert_element Html name attributes dup s))
    (record { context = like.context; modes = like.modes; framed = like.framed; form = like.form; names = like.names })
    (rw (body-template name e (node_count s.forest) s.opts.rules) refl) (bodied-fits name e (node_count s.forest) s.opts.rules s at h) h

-- a flag does not matter
unframed-nested : (m : InsertionMode) (s : State) → IsNested (set_mode m s) → IsNested (set_mode m (frameset_not_ok s))
unfolding set_mode frameset_not_ok
unframed-nested m s h = record { fits = h.fits; count = h.count; framed = λ e. no e; form = h.form }

framed-nested : (tag : Tag) → is_among tag.name (names_of set.Frameset) ≡ true → (s : State)
    → s.mode ≡ mode.AfterHead → Standing s → IsNested s → IsNested (set_mode mode.InFrameset (insert_element_for tag s))
unfolding set_mode insert_element
framed-nested tag e s at standing h =
    let like = like-insert tag.name tag.attrs tag.had_duplicate_attributes s standing in
    let is = over-root (ground_of s.context_elem) s.open_elems (rw at at h.fits) in
    like-nested s (set_mode mode.InFrameset (insert_element_for tag s))
    (record { context = like.context; modes = like.modes; framed = like.framed; form = like.form; names = like.names })
    (rw (frames-template tag.name e (node_count s.forest) s.opts.rules) refl)
    (rw (
      frames-part tag.name e (node_count s.forest) s.opts.rules,
      is.root,
      document-frames (ground_of s.context_elem)
          is.document,
      is.nested,
    ) refl) h

abbrev pub bodies : Kind → Action → Conclusion → Bool
bodies kind (Then InsertElement (Then FramesetNotOk (SwitchTo mode.InBody))) Done = starts_all set.Body kind
bodies kind (Then InsertElement (SwitchTo mode.InFrameset)) Done = starts_all set.Frameset kind
bodies kind (InsertNew name) (Reprocess mode.InBody) = is_among name (names_of set.Body)
bodies kind a e = false

pub after_head-nested : (using : InsertionMode → Token → State → Turn) (kind : Kind) (a : Action) (e : Conclusion)
    → bodies kind a e ≡ true → (t : Token) → is_of kind t ≡ true → (script : ℕ) (s : State)
    → s.mode ≡ mode.AfterHead → Standing s → IsNested s → IsNested (concluded using e t script (act a t s)).state
after_head-nested using kind (Then InsertElement (Then FramesetNotOk (SwitchTo mode.InBody))) Done h t k script s at standing n =
    started set.Body kind h t k
    (λ t. IsNested (act (Then InsertElement (Then FramesetNotOk (SwitchTo mode.InBody))) t s))
    (λ tag e. unframed-nested mode.InBody (insert_element_for tag s)
    (bodied-nested tag.name tag.attrs tag.had_duplicate_attributes e s at standing n))
after_head-nested using kind (Then InsertElement (SwitchTo mode.InFrameset)) Done h t k script s at standing n =
    started set.Frameset kind h t k (λ t. IsNested (act (Then InsertElement (SwitchTo mode.InFrameset)) t s))
    (λ tag e. framed-nested tag e s at standing n)
after_head-nested using kind (InsertNew name) (Reprocess mode.InBody) h t k script s at standing n =
    bodied-nested name [] false h s at standing n
after_head-nested using kind a e h t k script s at standing n = no h
