-- Faithful trees are read from their written text as their tokens, one after the other.
use Rattle.std.proofs.Common.{◌≡◌, ◌∙◌, ℕ, Bool, true, false, not, List, [], ◌∷◌, ◌++◌, Option, Some, None, refl, sym, ap, subst}
use Rattle.std.proofs.Common.{append_assoc, append-nil, true≢false}
use Rattle.std.proofs.lemmas.Bool.{and_parts}
use Rattle.std.specs.Prelude.{◌&&◌, IfSome, IsOk, codes, cond, is_none}
use Rattle.std.specs.Str.{bytes_eq}
use Rattle.markup.specs.Equality.{texts_by_value}
use Rattle.markup.specs.Escape as escape
use Rattle.markup.specs.Escape.{written_comment}
use Rattle.markup.specs.Forest.{Forest, Last, put_new, put_text}
use Rattle.markup.specs.Forest.NodeData.{Comment as CommentNode}
use Rattle.markup.specs.Trees.{Entry, Trees, Nothing, Text, Comment, ProcessingInstruction, Doctype, Element, default_entry, end_of}
use Rattle.markup.specs.Trees.{entry_under}
use Rattle.markup.specs.Trees.{is_html, is_raw, written}
use Rattle.markup.specs.declared.attributes.Attribute.{Attribute}
use Rattle.markup.specs.declared.names.QualName.{QualName}
use Rattle.html_rules.specs.Actions.{set_ignore_lf}
use Rattle.html_rules.specs.Choice.{choose}
use Rattle.html_rules.specs.Conditions.{is_nonempty}
use Rattle.html_rules.specs.Rules.{Settled, settle}
use Rattle.html_rules.specs.State.{State, hushed}
use Rattle.html_rules.specs.Step.{taken}
use Rattle.html_tokens.specs.Item.{Stand}
use Rattle.html_tokens.specs.Laws.{ReadsEscapes, in_data}
use Rattle.html_tokens.specs.RawText.{ends_at_tag, is_letters}
use Rattle.html_tokens.specs.Reading.{next_stand}
use Rattle.html_tokens.specs.Sink.{Reply}
use Rattle.html_tokens.specs.Table.{Row}
use Rattle.html_tokens.specs.declared.replies.TokenSinkResult.TheVariants as reply
use Rattle.html_tokens.specs.declared.states.RawKind.{RawKind}
use Rattle.html_tokens.specs.declared.states.RawKind.TheVariants.{Rcdata, Rawtext, ScriptData, ScriptDataEscaped}
use Rattle.html_tokens.specs.declared.token.Token.TheVariants.{CharacterTokens, CommentToken}
use Rattle.html_round_trip.specs.Slices.Forms.{Data, Escapable}
use Rattle.html_faithful.specs.Around.{IsRooted}
use Rattle.html_faithful.specs.Forms.{goes_on_raw, is_comment_text, is_kept, is_tag_name, lowered}
use Rattle.html_faithful.specs.Harmless.{Made, and_then}
use Rattle.html_faithful.specs.Inside.{next, trees_taken}
use Rattle.html_faithful.specs.Planting.{element_put, place_under, planted}
use Rattle.html_faithful.specs.Spots.{Spot}
use Rattle.html_faithful.specs.Tags.{IsFinished, IsStarted}
use Rattle.html_faithful.specs.Turns.{IsReplied}
use Rattle.html_faithful.specs.Waiting.{Pause, Still, comes_first, is_waiting}
use Rattle.html_faithful.specs.Walk.{Parent, begins_with_line_feed, below, comment_put, end_tag, ends_there, finished, fits_inside}
use Rattle.html_faithful.specs.Walk.{is_current}
use Rattle.html_faithful.specs.Walk.{is_raw_inside, is_rcdata, is_text, is_void, is_written_so, kids_walked, may_stay, start_tag}
use Rattle.html_faithful.specs.Walk.{started, text_put, walk}
use Rattle.html_faithful.proofs.Around.{Ready, Stepped, comment-next, done-next, element-case, first-inner, first-ready}
use Rattle.html_faithful.proofs.Around.{inner}
use Rattle.html_faithful.proofs.Around.{ready-after, text-next, walked, walk_kids}
use Rattle.html_faithful.proofs.Around.{comes-begun, comment-begun, end-comes, start-comes, still-waits, text-still}
use Rattle.html_faithful.proofs.Inside.{opened-drops}
use Rattle.html_faithful.proofs.Tags.{choose-so, ends, starts, then-so}
use Rattle.html_faithful.proofs.Texts.{ready, weaker}
use Rattle.html_faithful_documents.specs.Forms.{AreFormsTold, in_raw}
use Rattle.html_faithful_documents.specs.Reads.{IsReadTo, Reads, ReadsInData, read}
use Rattle.html_faithful_documents.specs.Written.{AreForms}
use Rattle.html_faithful_documents.proofs.Forms.{forms-told}
use Rattle.html_faithful_documents.proofs.RawTexts.{IsUnescaped, ends-raw, last_kind, raw-taken}
use Rattle.html_faithful_documents.proofs.Reading.{reads-comment, reads-none, reads-text, reads-then, reads-token}
use Rattle.html_faithful_documents.proofs.Written.{AreTagForms, started-forms, walked-forms}

not-no : (b : Bool) → not b ≡ true → b ≡ false
not-no true h = absurd (true≢false (sym h))
not-no false h = refl

pub and-so : {A : Type 0} (o : Option A) (P Q : A → Type 0) → IfSome o P → IfSome o Q → IfSome o (λ x. P x × Q x)
and-so None P Q a b = tt
and-so (Some x) P Q a b = (a, b)

nothing-said : {A : Type 0} (o : Option A) → is_none o ≡ true → o ≡ None
nothing-said None h = refl
nothing-said (Some x) h = absurd (true≢false (sym h))

-- REPLIES

plain-stand : (st : Stand) (given : Reply) → IsReplied None given → next_stand st given ≡ st
plain-stand st reply.Continue h = refl
plain-stand st (reply.Script handle) h = refl
plain-stand st reply.Plaintext h = absurd h
plain-stand st (reply.RawData kind) h = absurd h
plain-stand st (reply.EncodingIndicator label) h = refl

raw-stand : (kind : RawKind) (last : Option (List ℕ)) (given : Reply) → IsReplied (Some kind) given
    → next_stand (in_data last) given ≡ in_raw kind last
raw-stand kind last given h = ap (next_stand (in_data last)) h

module _ (rows : List Row) where
  moved-reads : (st next other : Stand) (s left : State) (text : List ℕ) → next ≡ other → Reads rows st s text next left
      → Reads rows st s text other left
  moved-reads st next other s left text e h = subst (λ x. Reads rows st s text x left) e h

-- IN DATA

module _ (rows : List Row) where
  data-none : (s : State) → ReadsInData rows s [] s
  data-none s = λ last. record { last_tag = last; reads = reads-none rows (in_data last) s }

  pub data-then : (s m left : State) (a b : List ℕ) → ReadsInData rows s a m → ReadsInData rows m b left → ReadsInData rows s (a ++ b) left
  data-then s m left a b h k = λ last.
      let x = h last in
      let y = k x.last_tag in
      record {
        last_tag = y.last_tag;
        reads = reads-then rows (in_data last) (in_data x.last_tag) (in_data y.last_tag) s m left a b x.reads y.reads;
      }

module _ (rows : List Row) (reads : ReadsEscapes rows) where
  abbrev forms : AreFormsTold rows
  forms = forms-told rows reads

  text-goes : (text : List ℕ) (s : State) → is_nonempty text ≡ true → is_kept text ≡ true
      → ReadsInData rows s (escape.escape text) (taken (CharacterTokens text) s).state
  text-goes [] s some kept = absurd (true≢false (sym some))
  text-goes (c ∷ cs) s some kept = λ last. record { last_tag = last; reads = reads-text rows reads Data last s c cs kept }

  comment-goes : (text : List ℕ) (s : State) → is_comment_text text ≡ true
      → ReadsInData rows s (written_comment text) (taken (CommentToken text) s).state
  comment-goes text s h = λ last. record {
    last_tag = last;
    reads = reads-comment rows (in_data last) (in_data last) s (written_comment text) text (forms.comment last text h);
  }

  -- tags, by the reply
  start-goes : (name : QualName) (attributes : List Attribute) (s : State) (last : Option (List ℕ)) → AreTagForms name attributes
      → Reads rows (in_data last) s (escape.start_tag name.local attributes)
      (next_stand (in_data (Some (lowered name.local))) (taken (start_tag name attributes) s).reply)
      (taken (start_tag name attributes) s).state
  start-goes name attributes s last h =
      reads-token rows (in_data last) (in_data (Some (lowered name.local))) s (escape.start_tag name.local attributes)
      (start_tag name attributes)
      (forms.start last name.local attributes h.0 h.1) refl

  end-goes : (name : QualName) (s : State) → is_tag_name (lowered name.local) ≡ true → IsReplied None (taken (end_tag name) s).reply
      → ReadsInData rows s (escape.end_tag name.local) (taken (end_tag name) s).state
  end-goes name s h plain = λ last. record {
    last_tag = last;
    reads = moved-reads rows (in_data last) (next_stand (in_data last) (taken (end_tag name) s).reply) (in_data last) s
        (taken (end_tag name) s).state
        (escape.end_tag name.local) (plain-stand (in_data last) (taken (end_tag name) s).reply plain)
        (reads-token rows (in_data last) (in_data last) s (escape.end_tag name.local) (end_tag name) (forms.end last name.local h) refl);
  }

  fitting-goes : (kind : RawKind) (name : QualName) (s : State) → is_tag_name (lowered name.local) ≡ true
      → is_letters (lowered name.local) ≡ true
      → ends_at_tag kind ≡ true → IsReplied None (taken (end_tag name) s).reply
      → Reads rows (in_raw kind (Some (lowered name.local))) s (escape.end_tag name.local) (in_data (Some (lowered name.local)))
      (taken (end_tag name) s).state
  fitting-goes kind name s h l k plain =
      let st = in_raw kind (Some (lowered name.local)) in
      let last = in_data (Some (lowered name.local)) in
      let left = (taken (end_tag name) s).state in
      moved-reads rows st (next_stand last (taken (end_tag name) s).reply) last s left (escape.end_tag name.local)
      (plain-stand last (taken (end_tag name) s).reply plain)
      (reads-token rows st last s (escape.end_tag name.local) (end_tag name) (forms.fitting_end kind name.local h l k) refl)

  -- RAW TEXT

  -- as it is, before the end tag
  raw-text : (kind : RawKind) (name : QualName) (c : ℕ) (cs : List ℕ) (s : State) → IsUnescaped kind (lowered name.local)
      → lowered name.local ≡ name.local → is_tag_name (lowered name.local) ≡ true → is_letters (lowered name.local) ≡ true
      → is_kept (c ∷ cs) ≡ true → goes_on_raw kind name.local (c ∷ cs) ≡ true
      → IsReplied None (taken (end_tag name) (taken (CharacterTokens (c ∷ cs)) s).state).reply
      → Reads rows (in_raw kind (Some (lowered name.local))) s ((c ∷ cs) ++ escape.end_tag name.local) (in_data (Some (lowered name.local)))
      (taken (end_tag name) (taken (CharacterTokens (c ∷ cs)) s).state).state
  raw-text kind name c cs s own small h l kept goes plain usable breaks t ok =
      let low = lowered name.local in
      let mid = (taken (CharacterTokens (c ∷ cs)) s).state in
      let text = c ∷ cs in
      let z = escape.end_tag name.local in
      let st = in_raw kind (Some low) in
      let last = last_kind kind low text in
      let same : escape.end_tag low ≡ z = ap escape.end_tag small in
      let shape : (text ++ z) ++ t ≡ text ++ (z ++ t) = append_assoc text z t in
      let first : IsReadTo rows st s text breaks (z ++ t) (in_raw last (Some low)) mid =
      subst (λ z. IsReadTo rows st s text breaks (z ++ t) (in_raw last (Some low)) mid) same
      (raw-taken rows kind low own c cs s kept (subst (λ n. goes_on_raw kind n text ≡ true) (sym small) goes) usable breaks t
      (subst (λ u. IsOk (read rows st breaks (hushed s) u)) (shape ∙ ap (λ z. text ++ (z ++ t)) (sym same)) ok)) in
      let ends_so = ends-raw kind low text (subst (λ n. goes_on_raw kind n text ≡ true) (sym small) goes) in
      let second = fitting-goes last name mid h l ends_so plain first.usable first.behind t
      (subst IsOk (ap (read rows st breaks (hushed s)) shape ∙ first.is) ok) in
      record {
        usable = second.usable;
        behind = second.behind;
        is = ap (read rows st breaks (hushed s)) shape ∙ (first.is ∙ second.is);
      }

  -- what stands in an element that has raw text, with its end tag
  module _ (scripting : Bool) (name : QualName) (h : is_tag_name (lowered name.local) ≡ true) (small : lowered name.local ≡ name.local)
      (before : Settled) where
    abbrev low : List ℕ
    low = lowered name.local

    abbrev under : Entry
    under = entry_under scripting default_entry name

    abbrev Inside : RawKind → Trees → Type 0
    Inside kind kids =
        IsReplied None (taken (end_tag name) (trees_taken kids before).state).reply
        → Reads rows (in_raw kind (Some low)) before.state (written scripting under kids ++ escape.end_tag name.local) (in_data (Some low))
        (taken (end_tag name) (trees_taken kids before).state).state

    letters-low : is_letters name.local ≡ true → is_letters low ≡ true
    letters-low l = ap is_letters small ∙ l

    no-text : (kind : RawKind) → is_letters name.local ≡ true → ends_at_tag kind ≡ true → Inside kind Nothing
    unfolding written
    no-text kind l k plain = fitting-goes kind name before.state h (letters-low l) k plain

    escaped-text : (text : List ℕ) → under.raw_text ≡ false → is_letters name.local ≡ true → is_nonempty text ≡ true → is_kept text ≡ true
        → Inside Rcdata (Text text Nothing)
    unfolding written
    escaped-text [] raw l some kept plain = absurd (true≢false (sym some))
    escaped-text (c ∷ cs) raw l some kept plain =
        let text = c ∷ cs in
        let st = in_raw Rcdata (Some low) in
        let mid = (taken (CharacterTokens text) before.state).state in
        let z = escape.end_tag name.local in
        let shape : (cond under.raw_text text (escape.escape text) ++ []) ++ z ≡ escape.escape text ++ z =
        ap (λ w. w ++ z) (append-nil (cond under.raw_text text (escape.escape text)) ∙ ap (λ b. cond b text (escape.escape text)) raw) in
        subst (λ w. Reads rows st before.state w (in_data (Some low)) (taken (end_tag name) mid).state) (sym shape)
        (reads-then rows st st (in_data (Some low)) before.state mid (taken (end_tag name) mid).state (escape.escape text) z
        (reads-text rows reads Escapable (Some low) before.state c cs kept) (fitting-goes Rcdata name mid h (letters-low l) refl plain))

    whole-text : (kind : RawKind) (text : List ℕ) → IsUnescaped kind low → under.raw_text ≡ true → is_letters name.local ≡ true
        → is_nonempty text ≡ true → is_kept text ≡ true → goes_on_raw kind name.local text ≡ true → Inside kind (Text text Nothing)
    unfolding written
    whole-text kind [] own raw l some kept goes plain = absurd (true≢false (sym some))
    whole-text kind (c ∷ cs) own raw l some kept goes plain =
        let text = c ∷ cs in
        let st = in_raw kind (Some low) in
        let mid = (taken (CharacterTokens text) before.state).state in
        let z = escape.end_tag name.local in
        let shape : (cond under.raw_text text (escape.escape text) ++ []) ++ z ≡ text ++ z =
        ap (λ w. w ++ z) (append-nil (cond under.raw_text text (escape.escape text)) ∙ ap (λ b. cond b text (escape.escape text)) raw) in
        subst (λ w. Reads rows st before.state w (in_data (Some low)) (taken (end_tag name) mid).state) (sym shape)
        (raw-text kind name c cs before.state own small h (letters-low l) kept goes plain)

    script-letters : bytes_eq name.local (codes "script") ≡ true → is_letters name.local ≡ true
    script-letters k = ap is_letters ((texts_by_value name.local (codes "script")).0 k)

    script-own : bytes_eq name.local (codes "script") ≡ true → low ≡ codes "script"
    script-own k = small ∙ (texts_by_value name.local (codes "script")).0 k

    -- by the kind
    raw-inside : (kind : RawKind) (kids : Trees) → is_raw_inside kind name.local kids ≡ true → under.raw_text ≡ not (is_rcdata kind)
        → AreForms kids → Inside kind kids
    raw-inside Rcdata Nothing b raw f = no-text Rcdata b refl
    raw-inside Rcdata (Text text Nothing) b raw f = escaped-text text raw b f.0 f.1
    raw-inside Rawtext Nothing b raw f =
        let p = and_parts (is_letters name.local) (goes_on_raw Rawtext name.local []) b in no-text Rawtext p.0 refl
    raw-inside Rawtext (Text text Nothing) b raw f =
        let p = and_parts (is_letters name.local) (goes_on_raw Rawtext name.local text) b in
        whole-text Rawtext text tt raw p.0 f.0 f.1 p.1
    raw-inside ScriptData Nothing b raw f =
        let p = and_parts (bytes_eq name.local (codes "script")) (goes_on_raw ScriptData name.local []) b in
        no-text ScriptData (script-letters p.0) refl
    raw-inside ScriptData (Text text Nothing) b raw f =
        let p = and_parts (bytes_eq name.local (codes "script")) (goes_on_raw ScriptData name.local text) b in
        whole-text ScriptData text (script-own p.0) raw (script-letters p.0) f.0 f.1 p.1
    raw-inside (ScriptDataEscaped kind) Nothing b raw f = absurd (true≢false (sym b))
    raw-inside (ScriptDataEscaped kind) (Text text Nothing) b raw f = absurd (true≢false (sym b))
    raw-inside kind kids b raw f = absurd (true≢false (sym b))

-- ELEMENTS

plain-end : (name : QualName) (within : Settled) → IsReplied None (settle (end_tag name) (set_ignore_lf false within.state)).reply
    → IsReplied None (taken (end_tag name) within.state).reply
unfolding taken
plain-end name within h = h

abbrev pub ReadLaw : List Row → Bool → Parent → Trees → Type 0
ReadLaw rows scripting parent trees = (n : ℕ) (after_text drops : Bool) (before : Settled) (waits : Pause) (r : State) (p : Spot)
    → Ready parent n before waits r p → comes_first waits trees ≡ true → (after_text ≡ false → is_waiting waits ≡ false)
    → before.state.ignore_lf ≡ drops
    → IfSome (walk scripting parent after_text drops trees p)
    (λ after. ReadsInData rows before.state (written scripting default_entry trees) (trees_taken trees before).state)

-- what is written of an element
abbrev element_text : Bool → QualName → List Attribute → Trees → List ℕ
element_text scripting name attributes kids =
    let own = entry_under scripting default_entry name in
    escape.start_tag name.local attributes ++ (written scripting own kids ++ end_of own name)

-- under an element whose text is escaped
plain-entry : (scripting : Bool) (name : QualName) → (is_html name && is_raw scripting name.local) ≡ false → is_void name ≡ false
    → entry_under scripting default_entry name ≡ default_entry
plain-entry scripting name h v = λ i. record { raw_text = h i; ignores_children = v i }

void-end : (scripting : Bool) (name : QualName) → is_void name ≡ true → end_of (entry_under scripting default_entry name) name ≡ []
void-end scripting name v = ap (λ b. cond b [] (escape.end_tag name.local)) v

full-end : (scripting : Bool) (name : QualName) → is_void name ≡ false
    → end_of (entry_under scripting default_entry name) name ≡ escape.end_tag name.local
full-end scripting name v = ap (λ b. cond b [] (escape.end_tag name.local)) v

-- whether the text of an element is escaped
raw-flag : (b : Bool) (kind : RawKind) → cond (is_rcdata kind) (not b) b ≡ true → b ≡ not (is_rcdata kind)
raw-flag b Rcdata h = not-no b h
raw-flag b Rawtext h = h
raw-flag b ScriptData h = h
raw-flag b (ScriptDataEscaped kind) h = h

raw-entry : (scripting : Bool) (name : QualName) (kind : RawKind) → is_written_so scripting name (Some kind) ≡ true
    → (entry_under scripting default_entry name).raw_text ≡ not (is_rcdata kind)
raw-entry scripting name kind h =
    let p = and_parts (is_html name) (cond (is_rcdata kind) (not (is_raw scripting name.local)) (is_raw scripting name.local)) h in
    ap (λ b. b && is_raw scripting name.local) p.0 ∙ raw-flag (is_raw scripting name.local) kind p.1

module _ (rows : List Row) (reads : ReadsEscapes rows) (scripting : Bool) (parent : Parent) (n : ℕ) (name : QualName)
    (attributes : List Attribute)
    (before : Settled) (waits : Pause) (r : State) (p : Spot) (ready_now : Ready parent n before waits r p) (made : Made)
    (o : IsStarted name attributes p (set_ignore_lf false r)
    (settle (start_tag name attributes) (set_ignore_lf false before.state)) made)
    (cur : is_current parent p ≡ true) (m : may_stay parent name ≡ true) (tags : AreTagForms name attributes)
    (so : is_written_so scripting name made.raw ≡ true) where
  abbrev opened : Settled
  opened = next (start_tag name attributes) before

  abbrev low_name : List ℕ
  low_name = lowered name.local

  -- how the start tag is answered
  answer : IsReplied made.raw (taken (start_tag name attributes) before.state).reply
  unfolding taken
  answer = o.done.2

  start-stands : (raw : Option RawKind) (stand : Stand) → made.raw ≡ raw
      → ((given : Reply) → IsReplied raw given → next_stand (in_data (Some low_name)) given ≡ stand)
      → (last : Option (List ℕ)) → Reads rows (in_data last) before.state (escape.start_tag name.local attributes) stand opened.state
  start-stands raw stand e stands last =
      let given = (taken (start_tag name attributes) before.state).reply in
      moved-reads rows (in_data last) (next_stand (in_data (Some low_name)) given) stand before.state opened.state
      (escape.start_tag name.local attributes) (stands given (subst (λ raw. IsReplied raw given) e answer))
      (start-goes rows reads name attributes before.state last tags)

  start-plain : made.raw ≡ None → ReadsInData rows before.state (escape.start_tag name.local attributes) opened.state
  start-plain e = λ last. record {
    last_tag = Some low_name;
    reads = start-stands None (in_data (Some low_name)) e (plain-stand (in_data (Some low_name))) last;
  }

  abbrev Read : Trees → Settled → Type 0
  Read kids left = ReadsInData rows before.state (element_text scripting name attributes kids) left.state

  void-read : is_void name ≡ true → made.raw ≡ None → Read Nothing opened
  unfolding written
  void-read v e =
      let s = escape.start_tag name.local attributes in
      subst (λ w. ReadsInData rows before.state (s ++ w) opened.state) (sym (void-end scripting name v))
      (subst (λ w. ReadsInData rows before.state w opened.state) (sym (append-nil s)) (start-plain e))

  -- the end tag
  abbrev closed : Settled → Settled
  closed within = next (end_tag name) within

  full-read : (kids : Trees) → (raw : Option RawKind) → made.raw ≡ raw → is_void name ≡ false
      → elim raw as (λ _. Bool) [
        | None ↦ true
        | Some kind ↦ bytes_eq (lowered name.local) name.local && is_raw_inside kind name.local kids
      ] ≡ true
      → AreForms kids → ReadsInData rows opened.state (written scripting default_entry kids) (trees_taken kids opened).state
      → IsReplied None (taken (end_tag name) (trees_taken kids opened).state).reply
      → Read kids (closed (trees_taken kids opened))
  full-read kids None e v b f inside plain =
      let s = escape.start_tag name.local attributes in
      let z = escape.end_tag name.local in
      let w = written scripting default_entry kids in
      let within = trees_taken kids opened in
      let entry = plain-entry scripting name (not-no (is_html name && is_raw scripting name.local)
      (subst (λ raw. is_written_so scripting name raw ≡ true) e so)) v in
      let shape : element_text scripting name attributes kids ≡ s ++ (w ++ z) =
      ap (λ z. s ++ (written scripting (entry_under scripting default_entry name) kids ++ z)) (full-end scripting name v)
      ∙ ap (λ entry. s ++ (written scripting entry kids ++ z)) entry in
      subst (λ text. ReadsInData rows before.state text (closed within).state) (sym shape)
      (data-then rows before.state opened.state (closed within).state s (w ++ z) (start-plain e)
      (data-then rows opened.state within.state (closed within).state w z inside (end-goes rows reads name within.state tags.0 plain)))
  full-read kids (Some kind) e v b f inside plain =
      let s = escape.start_tag name.local attributes in
      let z = escape.end_tag name.local in
      let own = entry_under scripting default_entry name in
      let within = trees_taken kids opened in
      let parts = and_parts (bytes_eq (lowered name.local) name.local) (is_raw_inside kind name.local kids) b in
      let small = (texts_by_value (lowered name.local) name.local).0 parts.0 in
      let flag = raw-entry scripting name kind (subst (λ raw. is_written_so scripting name raw ≡ true) e so) in
      let raw_reads = raw-inside rows reads scripting name tags.0 small opened kind kids parts.1 flag f plain in
      λ last. record {
        last_tag = Some low_name;
        reads = subst (λ z. Reads rows (in_data last) before.state (s ++ (written scripting own kids ++ z)) (in_data (Some low_name))
            (closed within).state) (sym (full-end scripting name v))
            (reads-then rows (in_data last) (in_raw kind (Some low_name)) (in_data (Some low_name)) before.state opened.state
            (closed within).state
            s (written scripting own kids ++ z)
            (start-stands (Some kind) (in_raw kind (Some low_name)) e (raw-stand kind (Some low_name)) last) raw_reads);
      }

  element-read : (kids : Trees) → ReadLaw rows scripting (below parent) kids → (v : Bool) → is_void name ≡ v
      → IfSome (choose v (λ _. choose (ends_there kids made) (λ _. Some made.spot) (λ _. None))
      (λ _. kids_walked name kids (walk_kids scripting parent n name attributes before waits r p ready_now made o cur m kids) made))
      (λ after. Read kids (cond v opened (closed (trees_taken kids opened))))
  element-read Nothing law true v =
      choose-so (ends_there Nothing made) (Some made.spot) (λ after. Read Nothing opened)
      (λ b. void-read v (nothing-said made.raw (and_parts (not made.drops_line_feed) (is_none made.raw) b).1))
  element-read kids law true v = tt
  element-read kids law false v =
      let within = trees_taken kids opened in
      let goes = walk_kids scripting parent n name attributes before waits r p ready_now made o cur m kids in
      let depth = inner scripting parent n name attributes before waits r p ready_now made o cur m in
      let grow = λ (f : Forest). planted (Last depth) kids f in
      let P = λ (after : Spot). Read kids (closed within) in
      let first_now = first-ready scripting parent n name attributes before waits r p ready_now made o cur m v in
      let drops = opened-drops name attributes before r p ready_now.here ready_now.done made o in
      let Q = λ (q : Spot). IsRooted (below parent) (Last depth) grow opened.state within q
      × (ReadsInData rows opened.state (written scripting default_entry kids) within.state × AreForms kids) in
      choose-so (fits_inside name kids made.raw) (and_then (goes made.drops_line_feed made.spot) (λ p. finished name p)) P
      (λ b. then-so (goes made.drops_line_feed made.spot) (λ p. finished name p) Q P
      (and-so (goes made.drops_line_feed made.spot) (λ q. IsRooted (below parent) (Last depth) grow opened.state within q)
      (λ q. ReadsInData rows opened.state (written scripting default_entry kids) within.state × AreForms kids)
      (walked scripting (below parent) kids depth false made.drops_line_feed opened Still opened.state made.spot first_now refl
      (λ e. refl) drops)
      (and-so (goes made.drops_line_feed made.spot) (λ q. ReadsInData rows opened.state (written scripting default_entry kids) within.state)
      (λ q. AreForms kids)
      (law depth false made.drops_line_feed opened Still opened.state made.spot first_now refl (λ e. refl) drops)
      (walked-forms scripting kids (below parent) false made.drops_line_feed made.spot)))
      (λ q g. let aside = set_ignore_lf false g.0.rested in
      let last = settle (end_tag name) (set_ignore_lf false within.state) in
      let after_kids = ready-after (below parent) depth grow opened.state within q
      (first-inner scripting parent n name attributes before waits r p ready_now made o cur m) g.0 in
      weaker (finished name q) (λ after. IsFinished name q aside last after) P
      (ends aside q (ready g.0.rested q g.0.now) name last
      (done-next (below parent) depth within g.0.waits g.0.rested q after_kids (end_tag name) (end-comes g.0.waits name) refl))
      (λ after e. full-read kids made.raw refl v b g.1.1 g.1.0 (plain-end name within e.plain))))

-- TREES

pub trees-read : (rows : List Row) → ReadsEscapes rows → (scripting : Bool) (parent : Parent) (trees : Trees)
    → ReadLaw rows scripting parent trees
unfolding walk written
trees-read rows reads scripting parent Nothing n after_text drops before waits r p ready_now comes rests e = data-none rows before.state
trees-read rows reads scripting parent (Text text rest) n after_text drops before waits r p ready_now comes rests e =
    let middle = next (CharacterTokens text) before in
    let on = λ (p : Spot). walk scripting parent true false rest p in
    let grow = λ (f : Forest). put_text f (Last n) text in
    let P = λ (after : Spot). ReadsInData rows before.state (written scripting default_entry (Text text rest))
    (trees_taken rest middle).state in
    choose-so (is_text after_text drops text && is_current parent p) (and_then (text_put text p) on) P
    (λ b. let whole = and_parts (is_text after_text drops text) (is_current parent p) b in
    let parts = and_parts ((not after_text && is_nonempty text) && is_kept text) (not (drops && begins_with_line_feed text)) whole.0 in
    let kept = and_parts (not after_text && is_nonempty text) (is_kept text) parts.0 in
    let first = and_parts (not after_text) (is_nonempty text) kept.0 in
    let now : Ready parent n before Still r p = subst (λ w. Ready parent n before w r p)
    (text-still waits text rest comes (rests (not-no after_text first.0))) ready_now in
    then-so (text_put text p) on
    (λ q. IsRooted parent (Last n) grow r middle q × (middle.state.ignore_lf ≡ false)) P
    (text-next parent n text drops before r p now e (not-no (drops && begins_with_line_feed text) parts.1) first.1 whole.1)
    (λ q g. weaker (on q) (λ after. ReadsInData rows middle.state (written scripting default_entry rest) (trees_taken rest middle).state) P
    (trees-read rows reads scripting parent rest n true false middle g.0.waits g.0.rested q
    (ready-after parent n grow r middle q ready_now.at g.0)
    (comes-begun g.0.waits rest g.0.begun) (λ h. absurd (true≢false h)) g.1)
    (λ after h. data-then rows before.state middle.state (trees_taken rest middle).state (escape.escape text)
    (written scripting default_entry rest) (text-goes rows reads text before.state first.1 kept.1) h)))
trees-read rows reads scripting parent (Comment text rest) n after_text drops before waits r p ready_now comes rests e =
    let middle = next (CommentToken text) before in
    let on = λ (p : Spot). walk scripting parent false false rest p in
    let grow = λ (f : Forest). put_new f (Last n) (CommentNode text) in
    let P = λ (after : Spot). ReadsInData rows before.state (written scripting default_entry (Comment text rest))
    (trees_taken rest middle).state in
    choose-so (is_comment_text text) (and_then (comment_put parent text p) on) P
    (λ b. then-so (comment_put parent text p) on (λ q. Stepped parent n grow r middle q) P
    (comment-next parent n text before waits r p ready_now (comment-begun waits text rest comes))
    (λ q g. weaker (on q) (λ after. ReadsInData rows middle.state (written scripting default_entry rest) (trees_taken rest middle).state) P
    (trees-read rows reads scripting parent rest n false false middle g.0.waits g.0.rested q
    (ready-after parent n grow r middle q ready_now.at g.0)
    (comes-begun g.0.waits rest g.0.begun) (λ h. still-waits g.0.waits g.2) g.1)
    (λ after h. data-then rows before.state middle.state (trees_taken rest middle).state (written_comment text)
    (written scripting default_entry rest) (comment-goes rows reads text before.state b) h)))
trees-read rows reads scripting parent (ProcessingInstruction target text rest) n after_text drops before waits r p ready_now comes
    rests e = tt
trees-read rows reads scripting parent (Doctype name public_id system_id rest) n after_text drops before waits r p ready_now comes
    rests e = tt
trees-read rows reads scripting parent (Element name attributes template kids rest) n after_text drops before waits r p ready_now comes
    rests e =
    let aside = set_ignore_lf false r in
    let t = start_tag name attributes in
    let opened_first = next t before in
    let left = settle t (set_ignore_lf false before.state) in
    let middle = cond (is_void name) opened_first (next (end_tag name) (trees_taken kids opened_first)) in
    let grow = λ (f : Forest). planted (place_under name f) kids (element_put (Last n) name attributes f) in
    let own = entry_under scripting default_entry name in
    let a = escape.start_tag name.local attributes in
    let k = written scripting own kids in
    let z = end_of own name in
    let w = written scripting default_entry rest in
    let P = λ (after : Spot). ReadsInData rows before.state (a ++ (k ++ (z ++ w))) (trees_taken rest middle).state in
    let stand = λ (made : Made). choose (is_void name)
    (λ _. choose (ends_there kids made) (λ _. Some made.spot) (λ _. None))
    (λ _. kids_walked name kids (λ drops p. walk scripting (below parent) false drops kids p) made) in
    let on = λ (p : Spot). walk scripting parent false false rest p in
    let f = λ (made : Made). choose (is_written_so scripting name made.raw) (λ _. and_then (stand made) on) (λ _. None) in
    let shape : (a ++ (k ++ z)) ++ w ≡ a ++ (k ++ (z ++ w)) = simp append_assoc in
    choose-so (is_current parent p && may_stay parent name) (and_then (started name attributes template p) f) P
    (λ b. let c = and_parts (is_current parent p) (may_stay parent name) b in
    then-so (started name attributes template p) f (λ made. IsStarted name attributes p aside left made × AreTagForms name attributes) P
    (and-so (started name attributes template p) (λ made. IsStarted name attributes p aside left made) (λ made. AreTagForms name attributes)
    (starts aside p (ready r p ready_now.here) name attributes template left
    (done-next parent n before waits r p ready_now t (start-comes waits name attributes) refl))
    (started-forms name attributes template p))
    (λ made o. choose-so (is_written_so scripting name made.raw) (and_then (stand made) on) P
    (λ so. then-so (stand made) on
    (λ q. Stepped parent n grow r middle q × ReadsInData rows before.state (element_text scripting name attributes kids) middle.state) P
    (and-so (stand made) (λ q. Stepped parent n grow r middle q)
    (λ q. ReadsInData rows before.state (element_text scripting name attributes kids) middle.state)
    (element-case scripting parent n name attributes before waits r p ready_now made o.0 c.0 c.1 kids (walked scripting (below parent) kids)
    (is_void name) refl)
    (element-read rows reads scripting parent n name attributes before waits r p ready_now made o.0 c.0 c.1 o.1 so kids
    (trees-read rows reads scripting (below parent) kids) (is_void name) refl))
    (λ q g. weaker (on q) (λ after. ReadsInData rows middle.state w (trees_taken rest middle).state) P
    (trees-read rows reads scripting parent rest n false false middle g.0.0.waits g.0.0.rested q
    (ready-after parent n grow r middle q ready_now.at g.0.0) (comes-begun g.0.0.waits rest g.0.0.begun)
    (λ h. still-waits g.0.0.waits g.0.2) g.0.1)
    (λ after h. subst (λ text. ReadsInData rows before.state text (trees_taken rest middle).state) shape
    (data-then rows before.state middle.state (trees_taken rest middle).state (a ++ (k ++ z)) w g.1 h))))))
