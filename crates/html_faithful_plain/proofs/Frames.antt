-- The frame of a plain document: its doctype, `html`, `head` with its title, and `body`.
use Rattle.std.proofs.Common.{◌≡◌, ◌∙◌, ℕ, Bool, true, false, not, List, [], ◌∷◌, Option, Some, None, refl, sym, ap, subst, true≢false}
use Rattle.std.specs.Prelude.{◌&&◌, nat_eq}
use Rattle.std.specs.List.{list_all}
use Rattle.std.proofs.Common.{arith}
use Rattle.std.proofs.lemmas.Bool.{and_parts}
use Rattle.std.proofs.lemmas.Bool.Decides.{nat_tests}
use Rattle.markup.specs.Names.{html_namespace}
use Rattle.markup.specs.Trees.{Trees, Nothing, Text, Comment, ProcessingInstruction, Doctype, Element}
use Rattle.markup.specs.declared.attributes.Attribute.{Attribute}
use Rattle.markup.specs.declared.quirks.QuirksMode.TheVariants.{NoQuirks}
use Rattle.html_plain.specs.Elements.{holds, html_name, inside, spelled}
use Rattle.html_plain.specs.Frames.{Frame, IsPlainFrame, framed, text_before}
use Rattle.html_plain.specs.Grammar as plain
use Rattle.html_plain.specs.Grammar.{IsPlain, are_plain_attributes, is_plain_document, is_plain_text}
use Rattle.html_plain.specs.declared.elements.PlainElement.{PlainElement}
use Rattle.html_plain.specs.declared.elements.PlainElement.TheVariants.{Html, Head, Title, Body}
use Rattle.html_plain.specs.declared.place.PlainPlace.TheVariants.{AfterTitle, BeforeDoctype, InFlow, InHead, InTitle}
use Rattle.html_plain.proofs.Agreement.{computed-cases}
use Rattle.html_plain.proofs.Frames.{documents-framed}
use Rattle.html_rules.specs.Conditions.{is_nonempty}
use Rattle.html_rules.specs.Encodings.{is_space}
use Rattle.html_rules.specs.ForeignContent.{is_foreign}
use Rattle.html_rules.specs.Names as names
use Rattle.html_rules.specs.Rules.{rows}
use Rattle.html_rules.specs.Sets.{names_of}
use Rattle.html_rules.specs.Stack.{in_scope}
use Rattle.html_rules.specs.State.{Open, is_in}
use Rattle.html_rules.specs.Tokens.{is_white}
use Rattle.html_rules.specs.declared.insertion_mode.InsertionMode.{InsertionMode}
use Rattle.html_rules.specs.declared.insertion_mode.InsertionMode.TheVariants as mode
use Rattle.html_tokens.specs.declared.states.RawKind.TheVariants.{Rcdata}
use Rattle.html_tokens.specs.declared.token.Token.TheVariants.{CharacterTokens}
use Rattle.html_rules.specs.declared.rules.Rules.{Rules}
use Rattle.html_rules.specs.declared.rules.Rules.TheVariants.{Html5ever, Standard}
use Rattle.html_rules.specs.declared.tag_set.TagSet.TheVariants as set
use Rattle.html_faithful.specs.Checks.{is_kept_so}
use Rattle.html_faithful.specs.Forms.{is_kept}
use Rattle.html_faithful.specs.Harmless.{FormKept, Made, Unchanged, by_rows, made_of, nothing_yet}
use Rattle.html_faithful.specs.Harmless as put
use Rattle.html_faithful.specs.Spots.{Spot}
use Rattle.html_faithful.specs.Walk.{OfCurrent, OfDocument, OfRoot, finished, is_at_end, is_faithful_by, is_raw_inside, is_text}
use Rattle.html_faithful.specs.Walk.{is_void, is_written_so, started, text_walked, walk}
use Rattle.html_faithful_plain.proofs.Elements.{and-so, finished-by, is-void, is-written, low-name, made-well, no-template}
use Rattle.html_faithful_plain.proofs.Elements.{started-by, tag-name}
use Rattle.html_faithful_plain.proofs.Forms.{all-white}
use Rattle.html_faithful_plain.proofs.Stands.{Stands, is_break, opened}
use Rattle.html_faithful_plain.proofs.Tags.{end_of, start_of}
use Rattle.html_faithful_plain.proofs.Walks.{element-walked, is-text, text-walked, trees-walk}

no : {A : Type 0} → false ≡ true → A
no h = absurd (true≢false (sym h))

-- white space is text that is kept
white-plain : (c : ℕ) → plain.is_white c ≡ true → (not (nat_eq c 0) && not (nat_eq c 13)) ≡ true
white-plain c h = grind (arith, nat_tests)

white-kept : (text : List ℕ) → list_all plain.is_white text ≡ true → is_kept text ≡ true
white-kept [] h = refl
white-kept (c ∷ cs) h =
    let p = and_parts (plain.is_white c) (list_all plain.is_white cs) h in
    and-so _ _ (white-plain c p.0) (white-kept cs p.1)

space-text : (text : List ℕ) → is_nonempty text ≡ true → list_all plain.is_white text ≡ true → is_text false false text ≡ true
space-text text n h = rw (n, white-kept text h) refl

-- the text of a title is escaped
title-escaped : (sc : Bool) → is_written_so sc (html_name (spelled Title)) (Some Rcdata) ≡ true
unfolding html_namespace
title-escaped true = refl
title-escaped false = refl

-- THE SPOTS

abbrev path_of : Rules → List PlainElement → List Open
path_of rules [] = []
path_of rules (k ∷ ks) = opened rules k (path_of rules ks) ∷ path_of rules ks

-- a spot of the frame
abbrev spot : Rules → Bool → InsertionMode → Option InsertionMode → List PlainElement → Bool → Bool → Spot
spot rules scripting m original ks has_head ok = record {
  mode = m;
  orig_mode = original;
  path = path_of rules ks;
  template_modes = [];
  has_head = has_head;
  frameset_ok = ok;
  quirks_mode = NoQuirks;
  scripting = scripting;
  rules = rules;
}

-- an element of the frame is put and opened
abbrev begun : PlainElement → List Attribute → Spot → Made
begun k attributes q = record {
  spot = q;
  put = Some (put.Element names.Html (spelled k) attributes true);
  closed = false;
  change = Unchanged;
  form = FormKept;
  raw = None;
  drops_line_feed = false;
}

-- an element is closed, or stays open
abbrev ended : Bool → Spot → Made
ended closed q = record { spot = q; put = None; closed = closed; change = Unchanged; form = FormKept; raw = None; drops_line_feed = false }

-- no paragraph is open in the body
body-bounded : (rules : Rules) → in_scope set.ButtonScope (is_in set.P) (path_of rules (Body ∷ Html ∷ [])) ≡ false
unfolding names_of
body-bounded Html5ever = refl
body-bounded Standard = refl

module _ (rules : Rules) (sc : Bool) where
  abbrev before_html : Spot
  before_html = spot rules sc mode.BeforeHtml None [] false true

  abbrev before_head : Spot
  before_head = spot rules sc mode.BeforeHead None (Html ∷ []) false true

  abbrev in_head : Spot
  in_head = spot rules sc mode.InHead None (Head ∷ Html ∷ []) true true

  abbrev in_title : Spot
  in_title = spot rules sc mode.Text (Some mode.InHead) (Title ∷ Head ∷ Html ∷ []) true true

  abbrev after_head : Spot
  after_head = spot rules sc mode.AfterHead None (Html ∷ []) true true

  abbrev body_spot : InsertionMode → Bool → Spot
  body_spot m ok = spot rules sc m None (Body ∷ Html ∷ []) true ok

  -- WHAT IS MADE OF THE TAGS

  module _ (attributes : List Attribute) where
    html-start : made_of (start_of Html attributes) before_html ≡ Some (begun Html attributes before_head)
    unfolding made_of by_rows rows names_of is_foreign
    html-start = refl

    head-start : made_of (start_of Head attributes) before_head ≡ Some (begun Head attributes in_head)
    unfolding made_of by_rows rows names_of is_foreign
    head-start = refl

    title-start : made_of (start_of Title attributes) in_head ≡ Some (record (begun Title attributes in_title) { raw = Some Rcdata })
    unfolding made_of by_rows rows names_of is_foreign
    title-start = refl

    body-start : made_of (start_of Body attributes) after_head ≡ Some (begun Body attributes (body_spot mode.InBody false))
    unfolding made_of by_rows rows names_of is_foreign
    body-start = refl

  title-end : made_of (end_of Title) in_title ≡ Some (ended true in_head)
  unfolding made_of by_rows rows names_of is_foreign
  title-end = refl

  head-end : made_of (end_of Head) in_head ≡ Some (ended true after_head)
  unfolding made_of by_rows rows names_of is_foreign
  head-end = refl

  body-end : (ok : Bool) → made_of (end_of Body) (body_spot mode.InBody ok) ≡ Some (ended false (body_spot mode.AfterBody ok))
  unfolding made_of by_rows rows names_of is_foreign
  body-end ok = by rules refl where
    by : (r : Rules) → rules ≡ r → made_of (end_of Body) (body_spot mode.InBody ok) ≡ Some (ended false (body_spot mode.AfterBody ok))
    by Html5ever e = rw e refl
    by Standard e = rw e refl

  html-end : (ok : Bool) → made_of (end_of Html) (body_spot mode.AfterBody ok) ≡ Some (ended false (body_spot mode.AfterAfterBody ok))
  unfolding made_of by_rows rows names_of is_foreign
  html-end ok = refl

  -- THE TAGS, AS THEY ARE WRITTEN

  frame-started : (k : PlainElement) (attributes : List Attribute) (q r : Spot) → is_break k ≡ false → are_plain_attributes attributes
      ≡ true
      → made_of (start_of k attributes) q ≡ Some (begun k attributes r) → is_kept_so (spelled k) q (begun k attributes r) ≡ true
      → started (html_name (spelled k)) attributes false q ≡ Some (begun k attributes r)
  frame-started k attributes q r v plain made kept =
      started-by (spelled k) attributes q (begun k attributes r) (low-name k) (tag-name k) (no-template k) plain made
      (and-so _ _ (and-so _ _ (made-well (spelled k) attributes (not (is_void (html_name (spelled k)))) true
      (ap not (is-void true k ∙ v))) refl)
      kept)

  html-started : (attributes : List Attribute) → are_plain_attributes attributes ≡ true
      → started (html_name (spelled Html)) attributes false before_html ≡ Some (begun Html attributes before_head)
  unfolding names_of
  html-started attributes plain = frame-started Html attributes before_html before_head refl plain (html-start attributes) refl

  head-started : (attributes : List Attribute) → are_plain_attributes attributes ≡ true
      → started (html_name (spelled Head)) attributes false before_head ≡ Some (begun Head attributes in_head)
  unfolding names_of
  head-started attributes plain = frame-started Head attributes before_head in_head refl plain (head-start attributes) refl

  title-started : (attributes : List Attribute) → are_plain_attributes attributes ≡ true
      → started (html_name (spelled Title)) attributes false in_head ≡ Some (record (begun Title attributes in_title) { raw = Some Rcdata })
  unfolding names_of
  title-started attributes plain =
      started-by (spelled Title) attributes in_head (record (begun Title attributes in_title) { raw = Some Rcdata }) refl refl
      (no-template Title)
      plain (title-start attributes)
      (and-so _ _ (and-so _ _ (made-well (spelled Title) attributes (not (is_void (html_name (spelled Title)))) true
      (ap not (is-void true Title))) refl) refl)

  body-started : (attributes : List Attribute) → are_plain_attributes attributes ≡ true
      → started (html_name (spelled Body)) attributes false after_head ≡ Some (begun Body attributes (body_spot mode.InBody false))
  unfolding names_of
  body-started attributes plain =
      frame-started Body attributes after_head (body_spot mode.InBody false) refl plain (body-start attributes) refl

  title-finished : finished (html_name (spelled Title)) in_title ≡ Some in_head
  unfolding names_of html_namespace
  title-finished = finished-by (spelled Title) [] in_title (ended true in_head) in_head refl refl title-end refl

  head-finished : finished (html_name (spelled Head)) in_head ≡ Some after_head
  unfolding names_of html_namespace
  head-finished = finished-by (spelled Head) [] in_head (ended true after_head) after_head refl refl head-end refl

  body-finished : (ok : Bool) → finished (html_name (spelled Body)) (body_spot mode.InBody ok) ≡ Some (body_spot mode.AfterBody ok)
  unfolding names_of html_namespace
  body-finished ok = finished-by (spelled Body) [] (body_spot mode.InBody ok) (ended false (body_spot mode.AfterBody ok))
      (body_spot mode.AfterBody ok) refl refl (body-end ok) refl

  html-finished : (ok : Bool) → finished (html_name (spelled Html)) (body_spot mode.AfterBody ok) ≡ Some (body_spot mode.AfterAfterBody ok)
  unfolding names_of html_namespace
  html-finished ok = finished-by (spelled Html) [] (body_spot mode.AfterBody ok) (ended false (body_spot mode.AfterAfterBody ok))
      (body_spot mode.AfterAfterBody ok) refl refl (html-end ok) refl

  -- TEXT OF THE HEAD AND THE TITLE

  head-space : (c : ℕ) → is_space c ≡ true → made_of (CharacterTokens (c ∷ [])) in_head
      ≡ Some (record (nothing_yet in_head) { put = Some put.TextHere })
  unfolding made_of by_rows rows is_foreign
  head-space c h = rw h refl

  after_head-space : (c : ℕ) → is_space c ≡ true → made_of (CharacterTokens (c ∷ [])) after_head
      ≡ Some (record (nothing_yet after_head) { put = Some put.TextHere })
  unfolding made_of by_rows rows is_foreign
  after_head-space c h = rw h refl

  title-character : (c : ℕ) → made_of (CharacterTokens (c ∷ [])) in_title ≡ Some (record (nothing_yet in_title) { put = Some put.TextHere })
  unfolding made_of by_rows rows is_foreign
  title-character c = refl

  head-text : (text : List ℕ) → is_white text ≡ true → text_walked text in_head ≡ Some in_head
  head-text [] h = refl
  head-text (c ∷ cs) h =
      let p = and_parts (is_space c) (is_white cs) h in
      rw (head-space c p.0) (head-text cs p.1)

  after_head-text : (text : List ℕ) → is_white text ≡ true → text_walked text after_head ≡ Some after_head
  after_head-text [] h = refl
  after_head-text (c ∷ cs) h =
      let p = and_parts (is_space c) (is_white cs) h in
      rw (after_head-space c p.0) (after_head-text cs p.1)

  title-text : (text : List ℕ) → text_walked text in_title ≡ Some in_title
  title-text [] = refl
  title-text (c ∷ cs) = rw (title-character c) (title-text cs)

  -- THE HEAD

  -- a title holds one text, or nothing
  title-kids : (kids : Trees) → IsPlain InTitle false kids
      → (walk sc OfCurrent false false kids in_title ≡ Some in_title) × (is_raw_inside Rcdata (spelled Title) kids ≡ true)
  unfolding walk
  title-kids Nothing h = (refl, refl)
  title-kids (Text text Nothing) h = (
    text-walked sc OfCurrent false false text Nothing in_title in_title (and-so _ _ (is-text false text refl h.1) refl)
        (title-text text),
    refl,
  )
  title-kids (Text text (Text other rest)) h = absurd (true≢false h.3.0)
  title-kids (Text text (Comment other rest)) h = no h.3.0
  title-kids (Text text (ProcessingInstruction target other rest)) h = absurd h.3
  title-kids (Text text (Doctype name public_id system_id rest)) h = absurd (let no = h.3.0 in cc)
  title-kids (Text text (Element name attributes template kids rest)) h = no h.3.1.2
  title-kids (Comment text rest) h = no h.0
  title-kids (ProcessingInstruction target text rest) h = absurd h
  title-kids (Doctype name public_id system_id rest) h = absurd (let no = h.0 in cc)
  title-kids (Element name attributes template kids rest) h = no h.1.2

  title-only : (k : PlainElement) → holds InHead k ≡ true → k ≡ Title
  title-only Title h = refl
  title-only k h = no h

  -- after the title white space alone stands
  title-behind : (after_text : Bool) (trees : Trees) → IsPlain AfterTitle after_text trees
      → walk sc OfCurrent after_text false trees in_head ≡ Some in_head
  unfolding walk
  title-behind after_text Nothing h = refl
  title-behind after_text (Text text rest) h =
      text-walked sc OfCurrent after_text false text rest in_head in_head (and-so _ _ (is-text after_text text h.0 h.1) refl)
      (head-text text (all-white text h.2)) ∙ title-behind true rest h.3
  title-behind after_text (Comment text rest) h = no h.0
  title-behind after_text (ProcessingInstruction target text rest) h = absurd h
  title-behind after_text (Doctype name public_id system_id rest) h = absurd (let no = h.0 in cc)
  title-behind after_text (Element name attributes template kids rest) h = no h.1.2

  title-walked : (after_text : Bool) (attributes : List Attribute) (kids rest : Trees) → are_plain_attributes attributes ≡ true
      → IsPlain InTitle false kids → IsPlain AfterTitle false rest
      → walk sc OfCurrent after_text false (Element (html_name (spelled Title)) attributes false kids rest) in_head ≡ Some in_head
  unfolding html_namespace
  title-walked after_text attributes kids rest plain within behind =
      let kid = title-kids kids within in
      element-walked sc OfCurrent after_text false (html_name (spelled Title)) attributes kids rest in_head
      (record (begun Title attributes in_title) { raw = Some Rcdata }) in_title in_head refl (title-started attributes plain)
      (title-escaped sc) refl kid.1 kid.0 title-finished ∙ title-behind false rest behind

  head-walked : (after_text : Bool) (trees : Trees) → IsPlain InHead after_text trees
      → walk sc OfCurrent after_text false trees in_head ≡ Some in_head
  unfolding walk
  head-walked after_text Nothing h = refl
  head-walked after_text (Text text rest) h =
      text-walked sc OfCurrent after_text false text rest in_head in_head (and-so _ _ (is-text after_text text h.0 h.1) refl)
      (head-text text (all-white text h.2)) ∙ head-walked true rest h.3
  head-walked after_text (Comment text rest) h = no h.0
  head-walked after_text (ProcessingInstruction target text rest) h = absurd h
  head-walked after_text (Doctype name public_id system_id rest) h = absurd (let no = h.0 in cc)
  head-walked after_text (Element name attributes template kids rest) h =
      let k = h.0 in
      let w = h.1 in
      let same = title-only k w.2 in
      (λ i. walk sc OfCurrent after_text false
      (Element ((w.0 ∙ ap (λ k. html_name (spelled k)) same) i) attributes (w.1 i) kids rest) in_head)
      ∙ title-walked after_text attributes kids rest w.3 (subst (λ k. IsPlain (inside InHead k) false kids) same w.4) w.5

  -- THE BODY AND THE ROOT

  -- what stands in the body, of which rows ask nothing
  body-stands : Stands (body_spot mode.InBody false) InFlow false (path_of rules (Body ∷ Html ∷ []))
  unfolding names_of
  body-stands = record {
    own = refl;
    again = λ s e. refl;
    paragraph = λ e. body-bounded rules;
    heading = λ e. refl;
    unlisted = λ e. refl;
    unlinked = λ e. refl;
    item = no;
    context = no;
    foster = no;
  }

  -- where the body ends
  record IsRootWalked (trees : Trees) (q : Spot) (before : Bool) : Type 0 where
    flag : Bool
    ends : walk sc OfRoot before false trees q ≡ Some (body_spot mode.AfterBody flag)

  body-walked : (before : Bool) (attributes : List Attribute) (flow : Trees) → are_plain_attributes attributes ≡ true
      → IsPlain InFlow false flow
      → IsRootWalked (Element (html_name (spelled Body)) attributes false flow Nothing) after_head before
  unfolding walk html_namespace names_of
  body-walked before attributes flow plain within =
      let inner = trees-walk sc flow (body_spot mode.InBody false) InFlow false (path_of rules (Body ∷ Html ∷ [])) false false refl within
      body-stands in
      record {
        flag = inner.flag;
        ends = element-walked sc OfRoot before false (html_name (spelled Body)) attributes flow Nothing after_head
            (begun Body attributes (body_spot mode.InBody false)) (body_spot mode.InBody inner.flag) (body_spot mode.AfterBody inner.flag)
            refl (body-started attributes plain) (is-written sc Body) refl refl inner.ends (body-finished inner.flag);
      }

  -- white space, or none, and the body
  space-walked : (space : List ℕ) (attributes : List Attribute) (flow : Trees) → list_all plain.is_white space ≡ true
      → are_plain_attributes attributes ≡ true → IsPlain InFlow false flow
      → IsRootWalked (text_before space (Element (html_name (spelled Body)) attributes false flow Nothing)) after_head false
  unfolding names_of
  space-walked [] attributes flow white plain within = body-walked false attributes flow plain within
  space-walked (c ∷ cs) attributes flow white plain within =
      let body = body-walked true attributes flow plain within in
      record {
        flag = body.flag;
        ends = text-walked sc OfRoot false false (c ∷ cs) (Element (html_name (spelled Body)) attributes false flow Nothing) after_head
            after_head (and-so _ _ (space-text (c ∷ cs) refl white) refl) (after_head-text (c ∷ cs) (all-white (c ∷ cs) white)) ∙ body.ends;
      }

  root-walked : (f : Frame) → IsPlainFrame f
      → IsRootWalked (Element (html_name (spelled Head)) f.head false f.heads
      (text_before f.space (Element (html_name (spelled Body)) f.body false f.flow Nothing))) before_head false
  unfolding html_namespace names_of
  root-walked f h =
      let rest = text_before f.space (Element (html_name (spelled Body)) f.body false f.flow Nothing) in
      let behind = space-walked f.space f.body f.flow h.space h.body h.flow in
      record {
        flag = behind.flag;
        ends = element-walked sc OfRoot false false (html_name (spelled Head)) f.head f.heads rest before_head
            (begun Head f.head in_head) in_head after_head refl (head-started f.head h.head) (is-written sc Head) refl refl
            (head-walked false f.heads h.heads) head-finished ∙ behind.ends;
      }

  frame-faithful : (f : Frame) → IsPlainFrame f → is_faithful_by rules sc (framed f) ≡ true
  unfolding is_faithful_by html_namespace walk
  frame-faithful f h =
      let inside = Element (html_name (spelled Head)) f.head false f.heads
      (text_before f.space (Element (html_name (spelled Body)) f.body false f.flow Nothing)) in
      let root = root-walked f h in
      ap is_at_end (element-walked sc OfDocument false false (html_name (spelled Html)) f.root inside Nothing before_html
      (begun Html f.root before_head) (body_spot mode.AfterBody root.flag) (body_spot mode.AfterAfterBody root.flag)
      refl (html-started f.root h.root) (is-written sc Html) refl refl root.ends (html-finished root.flag))

  pub plain-faithful : (trees : Trees) → is_plain_document trees ≡ true → is_faithful_by rules sc trees ≡ true
  plain-faithful trees h =
      let f = documents-framed trees (computed-cases BeforeDoctype false trees h) in
      ap (is_faithful_by rules sc) f.1.0 ∙ frame-faithful f.0 f.1.1
