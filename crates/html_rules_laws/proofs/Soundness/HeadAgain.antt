-- Start tags after the head that belong into it: the head is opened again for one token.
use Rattle.std.proofs.Common.{◌≡◌, ◌∙◌, ℕ, suc, Bool, true, false, List, ◌∷◌, length, Option, Some, None, refl, sym, ap, arith}
use Rattle.std.proofs.Common.{codes, inl, inr, ◌⊎◌}
use Rattle.std.specs.Prelude.{◌&&◌, not, nat_eq}
use Rattle.std.proofs.lemmas.Bool.{and_parts, eq-eqb}
use Rattle.markup.specs.Forest.{node_count}
use Rattle.html_tokens.specs.declared.token.Token.{Token}
use Rattle.html_tokens.specs.declared.token.Token.TheVariants.{TagToken}
use Rattle.html_rules.specs.Actions.{act, for_tag, frameset_not_ok, save_mode, push_head, push_head_elem, push_template_mode}
use Rattle.html_rules.specs.Actions.{remove_from_stack_if, remove_head_elem, set_mode}
use Rattle.html_rules.specs.Choice.{choose}
use Rattle.html_rules.specs.Conditions.{context_is}
use Rattle.html_rules.specs.Formatting.{push_marker}
use Rattle.html_rules.specs.Names.{Html}
use Rattle.html_rules.specs.Places.{insert_element, insert_element_for}
use Rattle.html_rules.specs.Rules.{Turn, concluded}
use Rattle.html_rules.specs.Sets.{names_of}
use Rattle.html_rules.specs.Shape.{one_if}
use Rattle.html_rules.specs.Stack.{open_templates, remove_from_stack, without_number}
use Rattle.html_rules.specs.State.{Open, State, is_in}
use Rattle.html_rules.specs.Table.{Action, Then, ParseError, InsertVoid, PushHeadElem, RemoveHeadElem, InsertElement}
use Rattle.html_rules.specs.Table.{InsertMarker, FramesetNotOk, SwitchTo, SaveMode, PushTemplateMode, InsertTemplate}
use Rattle.html_rules.specs.Table.{Conclusion, Done, RawText, ReportEncoding}
use Rattle.html_rules.specs.Templates.{insert_template}
use Rattle.html_rules.specs.declared.insertion_mode.InsertionMode.{InsertionMode}
use Rattle.html_rules.specs.declared.insertion_mode.InsertionMode.TheVariants as mode
use Rattle.html_rules.specs.declared.rules.Rules.{Rules}
use Rattle.html_rules.specs.declared.tag_set.TagSet.TheVariants as set
use Rattle.html_rules_laws.specs.Held.{Held}
use Rattle.html_rules_laws.specs.Placing.{are_general, stand_well}
use Rattle.html_rules_laws.specs.Ready.{are_formatting}
use Rattle.html_rules_laws.specs.Sound.{is_later, is_own}
use Rattle.html_rules_laws.proofs.Frames.Aside.{after, aside_kept}
use Rattle.html_rules_laws.proofs.Frames.Firm.{IsOrdinary}
use Rattle.html_rules_laws.proofs.Termination.Kinds.{Kind, Starts, is_of}
use Rattle.html_rules_laws.proofs.Soundness.Acts.{act-aside, act-tame, plain-of}
use Rattle.html_rules_laws.proofs.Soundness.Moves.{held-some, not_html-template, still-tame, template-general, template-topped}
use Rattle.html_rules_laws.proofs.Soundness.Rows.{IsCalm, opens, opens-held, quiet-held, raw_text_only, raw_only-held}
use Rattle.html_rules_laws.proofs.Soundness.Rows.{starts_plain, starts_template, tame-calm, void-same}
use Rattle.html_rules_laws.proofs.Soundness.Specials.{calm-well}
use Rattle.html_rules_laws.proofs.Bools.{both, no}
use Rattle.html_rules_laws.proofs.Frames.KeptBySteps.{push_head-keeps, template-keeps, unopened-keeps}

-- the head again
abbrev pub again : Rules → ℕ → Open
again rules n = record { number = n; namespace = Html; name = codes "head"; rules = rules }

-- over it another element was opened, and one of the two is taken out
taken-out : (rules : Rules) (n : ℕ) (x : Open) (xs : List Open) → (without_number n (x ∷ again rules n ∷ xs) ≡ x ∷ xs)
    ⊎ (without_number n (x ∷ again rules n ∷ xs) ≡ again rules n ∷ xs)
taken-out rules n x xs = by (nat_eq x.number n) where
  inner : choose (nat_eq n n) (λ _. xs) (λ _. again rules n ∷ without_number n xs) ≡ xs
  inner = rw (eq-eqb n n refl) refl

  by : (b : Bool) → (choose b (λ _. again rules n ∷ xs) (λ _. x ∷ choose (nat_eq n n) (λ _. xs) (λ _. again rules n ∷ without_number n xs)) ≡ x ∷ xs)
      ⊎ (choose b (λ _. again rules n ∷ xs) (λ _. x ∷ choose (nat_eq n n) (λ _. xs) (λ _. again rules n ∷ without_number n xs)) ≡ again rules n ∷ xs)
  by true = inr refl
  by false = inl (ap (λ ys. x ∷ ys) inner)

pub alone : (rules : Rules) (n : ℕ) (xs : List Open) → without_number n (again rules n ∷ xs) ≡ xs
alone rules n xs = rw (eq-eqb n n refl) refl

-- an own element over what is open, where its text is read
over-held : (q f : State) (y : Open) → q.mode ≡ mode.AfterHead → Held q → f.open_elems ≡ y ∷ q.open_elems
    → is_own y ≡ true → f.mode ≡ mode.Text → f.orig_mode ≡ Some mode.AfterHead → f.template_modes ≡ q.template_modes
    → f.head_elem ≡ q.head_elem
    → f.context_elem ≡ q.context_elem → are_formatting f.active_formatting ≡ true → Held f
over-held q f y e h elements own at original modes head context listed =
    let parts = and_parts (not (is_in set.Html y)) (not (is_in set.Template y))
    (and_parts _ (not (is_in set.Html y) && not (is_in set.Template y)) own).1 in
    let html : is_in set.Html y ≡ false = not-true _ parts.0 in
    let template : is_in set.Template y ≡ false = not-true _ parts.1 in
    let count : open_templates f.open_elems ≡ open_templates q.open_elems = ap open_templates elements ∙ rw template refl in
    let same : one_if (context_is set.Template f.context_elem) ≡ one_if (context_is set.Template q.context_elem) =
    ap (λ c. one_if (context_is set.Template c)) context in
    let size : length f.template_modes ≡ length q.template_modes = ap length modes in
    let most = h.most in
    record {
      listed = listed;
      modes = rw modes h.modes;
      head = rw (at, head, context) (held-some q (ap is_later e) h);
      original = rw original refl;
      most = omega arith;
      placed = λ k root. rw (at, original, elements)
          (both _ _ own (rw e at (h.placed (omega arith) (λ _. rw (elements, html) at (root (ap is_later at))))));
    }
  where
    not-true : (b : Bool) → not b ≡ true → b ≡ false
    not-true true h = sym h
    not-true false h = refl

-- a template, or the head, over what is open, with one more template mode
template-over : (q f : State) (y : Open) → q.mode ≡ mode.AfterHead → Held q → f.open_elems ≡ y ∷ q.open_elems
    → f.mode ≡ mode.InTemplate → f.orig_mode ≡ q.orig_mode → f.template_modes ≡ mode.InTemplate ∷ q.template_modes
    → f.head_elem ≡ q.head_elem
    → f.context_elem ≡ q.context_elem → are_formatting f.active_formatting ≡ true → Held f
template-over q f y e h elements at original modes head context listed = by (is_in set.Template y) refl where
  same : one_if (context_is set.Template f.context_elem) ≡ one_if (context_is set.Template q.context_elem)
  same = ap (λ c. one_if (context_is set.Template c)) context

  size : length f.template_modes ≡ suc (length q.template_modes)
  size = ap length modes

  by : (b : Bool) → is_in set.Template y ≡ b → Held f
  by true t =
      let count : open_templates f.open_elems ≡ suc (open_templates q.open_elems) = ap open_templates elements ∙ rw t refl in
      let most = h.most in let s = same in let z = size in
      record {
        listed = listed;
        modes = rw modes h.modes;
        head = rw (at, head, context) (held-some q (ap is_later e) h);
        original = rw original h.original;
        most = omega arith;
        placed = λ k root.
            let general : are_general q.open_elems ≡ true =
            rw e at (h.placed (omega arith) (λ _. rw (elements, not_html-template y t) at (root (ap is_later at)))) in
            rw (at, elements) (template-general y q.open_elems t (and_parts _ (stand_well q.open_elems) general).1);
      }
  by false t =
      let count : open_templates f.open_elems ≡ open_templates q.open_elems = ap open_templates elements ∙ rw t refl in
      let most = h.most in let s = same in let z = size in
      record {
        listed = listed;
        modes = rw modes h.modes;
        head = rw (at, head, context) (held-some q (ap is_later e) h);
        original = rw original h.original;
        most = omega arith;
        placed = λ k root. absurd (omega arith);
      }

own-head : (rules : Rules) (n : ℕ) → is_own (again rules n) ≡ true
unfolding names_of
own-head rules n = refl

-- the rows that take such a tag

abbrev is_void : Action → Bool
is_void InsertVoid = true
is_void a = false

abbrev pub head_row : Kind → Action → Conclusion → Bool
head_row kind a ReportEncoding = is_void a
head_row kind a (RawText raw) = raw_text_only a && starts_plain kind
head_row kind a Done = opens a && starts_template kind
head_row kind a e = false

-- where no head is known
none-held : (kind : Kind) (a : Action) (e : Conclusion) → head_row kind a e ≡ true
    → (using : InsertionMode → Token → State → Turn) (t : Token) → is_of kind t ≡ true → (script : ℕ) (s : State)
    → IsCalm s → s.mode ≡ mode.AfterHead
    → Held (concluded using e t script (act a t s)).state
none-held kind a ReportEncoding h using t f script s is at = void a h where
  void : (a : Action) → is_void a ≡ true → Held (act a t s)
  void InsertVoid h = quiet-held kind InsertVoid refl t f s is.held
  void a h = no h
none-held kind a (RawText raw) h using t f script s is at = let parts = and_parts (raw_text_only a)
    (starts_plain kind) h in raw_only-held kind a parts.0 parts.1 t f s (rw at refl) (ap is_later at) is.held
none-held kind a Done h using t f script s is at = let parts = and_parts (opens a) (starts_template kind) h in
    opens-held kind a parts.0 parts.1 t f s (ap is_later at) (calm-well s is) is.held
none-held kind a e h using t f script s is at = no h

-- such rows leave the pointer to the head as it is

pub raw-same : (a : Action) → raw_text_only a ≡ true → (t : Token) (s : State) → (act a t s).head_elem ≡ s.head_elem
unfolding set_mode save_mode insert_element
raw-same (Then InsertElement (Then SaveMode (SwitchTo mode.Text))) h (TagToken tag) s = refl
raw-same (Then InsertElement (Then SaveMode (SwitchTo mode.Text))) h t s = refl
raw-same (Then InsertElement b) h t s = no h
raw-same a h t s = no h

tagged-same : (t : Token) (q : State) → (for_tag insert_template t q).head_elem ≡ q.head_elem
tagged-same (TagToken tag) q = (template-keeps aside_kept tag q).head
tagged-same t q = refl

pub opens-same : (a : Action) → opens a ≡ true → (t : Token) (s : State) → (act a t s).head_elem ≡ s.head_elem
unfolding push_marker frameset_not_ok set_mode push_template_mode
opens-same (Then InsertMarker
    (Then FramesetNotOk (Then (SwitchTo mode.InTemplate)
    (Then (PushTemplateMode mode.InTemplate) InsertTemplate)))) h t s = tagged-same t _
opens-same a h t s = no h

void-head : (kind : Kind) (a : Action) → is_void a ≡ true → (t : Token) (s : State) → (act a t s).head_elem ≡ s.head_elem
void-head kind InsertVoid h t s = (act-aside kind InsertVoid refl t s).head
void-head kind a h t s = no h

head-same : (kind : Kind) (a : Action) (e : Conclusion) → head_row kind a e ≡ true
    → (using : InsertionMode → Token → State → Turn) (t : Token) (script : ℕ) (s : State)
    → (concluded using e t script (act a t s)).state.head_elem ≡ s.head_elem
head-same kind a ReportEncoding h using t script s = void-head kind a h t s
head-same kind a (RawText raw) h using t script s = raw-same a (and_parts (raw_text_only a) (starts_plain kind) h).0 t s
head-same kind a Done h using t script s = opens-same a (and_parts (opens a) (starts_template kind) h).0 t s
head-same kind a e h using t script s = no h

-- where one is, and was opened again

some-void : (kind : Kind) (a : Action) → is_void a ≡ true → (t : Token) → is_of kind t ≡ true → (n : ℕ) (q : State)
    → Held q → Held (remove_from_stack n (act a t (push_head (Some n) q)))
unfolding remove_from_stack
some-void kind InsertVoid h t f n q is =
    let s : State = push_head (Some n) q in
    let r : State = act InsertVoid t s in
    still-tame q (remove_from_stack n r) is (ap (without_number n) (void-same t s) ∙ alone q.opts.rules n q.open_elems)
    (act-tame kind InsertVoid refl t f s is.listed).listed
    (after q r (remove_from_stack n r)
    (after q s r (push_head-keeps aside_kept (Some n) q) (act-aside kind InsertVoid refl t s)) (unopened-keeps aside_kept (Some n) r))
some-void kind a h t f n q is = no h

plain-own : (rules : Rules) (n : ℕ) (name : List ℕ) → IsOrdinary (record { number = n; namespace = Html; name = name; rules = rules })
    → is_own (record { number = n; namespace = Html; name = name; rules = rules }) ≡ true
plain-own rules n name is = rw (is.root, is.template) refl

some-raw : (kind : Kind) (a : Action) → raw_text_only a ≡ true → starts_plain kind ≡ true → (t : Token)
    → is_of kind t ≡ true → (n : ℕ) (q : State) → q.mode ≡ mode.AfterHead → Held q
    → Held (remove_from_stack n (act a t (push_head (Some n) q)))
unfolding remove_from_stack set_mode save_mode insert_element
some-raw (Starts names) (Then InsertElement (Then SaveMode (SwitchTo mode.Text))) h p (TagToken tag) f n q at is =
    let s : State = push_head (Some n) q in
    let r : State = set_mode mode.Text (save_mode (insert_element_for tag s)) in
    let x : Open = record { number = node_count q.forest; namespace = Html; name = tag.name; rules = q.opts.rules } in
    elim (taken-out q.opts.rules n x q.open_elems) [
      | inl one ↦ over-held q (remove_from_stack n r) x at is one
          (plain-own q.opts.rules (node_count q.forest) tag.name (plain-of (Starts names) tag p f (node_count q.forest) q.opts.rules)) refl
          (ap Some at) refl refl refl is.listed
      | inr other ↦ over-held q (remove_from_stack n r) (again q.opts.rules n) at is other (own-head q.opts.rules n) refl (ap Some at) refl refl refl is.listed
    ]
some-raw (Starts names) (Then InsertElement (Then SaveMode (SwitchTo mode.Text))) h p t f n q at is = no f
some-raw kind (Then InsertElement (Then SaveMode (SwitchTo mode.Text))) h p t f n q at is = no p
some-raw kind (Then InsertElement b) h p t f n q at is = no h
some-raw kind a h p t f n q at is = no h

some-opens : (kind : Kind) (a : Action) → opens a ≡ true → starts_template kind ≡ true → (t : Token)
    → is_of kind t ≡ true → (n : ℕ) (q : State) → q.mode ≡ mode.AfterHead → Held q
    → Held (remove_from_stack n (act a t (push_head (Some n) q)))
unfolding remove_from_stack push_marker frameset_not_ok set_mode push_template_mode
some-opens (Starts names)
    (Then InsertMarker (Then FramesetNotOk
    (Then (SwitchTo mode.InTemplate) (Then (PushTemplateMode mode.InTemplate) InsertTemplate)))) o p (TagToken tag) f n q at is =
    let s : State = push_template_mode mode.InTemplate (set_mode mode.InTemplate (frameset_not_ok (push_marker (push_head (Some n) q)))) in
    let r : State = insert_template tag s in
    let top = template-topped tag s in
    let aside = template-keeps aside_kept tag s in
    let x : Open = record { number = top.number; namespace = Html; name = tag.name; rules = q.opts.rules } in
    let listed : are_formatting r.active_formatting ≡ true = rw top.entries is.listed in
    elim (taken-out q.opts.rules n x q.open_elems) [
      | inl one ↦ template-over q (remove_from_stack n r) x at is (ap (without_number n) top.elements ∙ one)
          aside.mode aside.original aside.modes aside.head aside.context listed
      | inr other ↦ template-over q (remove_from_stack n r) (again q.opts.rules n) at is
          (ap (without_number n) top.elements ∙ other) aside.mode aside.original aside.modes aside.head aside.context listed
    ]
some-opens (Starts names)
    (Then InsertMarker (Then FramesetNotOk
    (Then (SwitchTo mode.InTemplate) (Then (PushTemplateMode mode.InTemplate) InsertTemplate)))) o p t f n q at is = no f
some-opens kind (Then InsertMarker
    (Then FramesetNotOk (Then (SwitchTo mode.InTemplate)
    (Then (PushTemplateMode mode.InTemplate) InsertTemplate)))) o p t f n q at is = no p
some-opens kind a o p t f n q at is = no o

some-held : (kind : Kind) (a : Action) (e : Conclusion) → head_row kind a e ≡ true
    → (using : InsertionMode → Token → State → Turn) (t : Token) → is_of kind t ≡ true → (script : ℕ) (n : ℕ)
    (q : State) → q.mode ≡ mode.AfterHead → Held q
    → Held (remove_from_stack n (concluded using e t script (act a t (push_head (Some n) q))).state)
some-held kind a ReportEncoding h using t f script n q at is = some-void kind a h t f n q is
some-held kind a (RawText raw) h using t f script n q at is = let parts = and_parts (raw_text_only a)
    (starts_plain kind) h in some-raw kind a parts.0 parts.1 t f n q at is
some-held kind a Done h using t f script n q at is = let parts = and_parts (opens a) (starts_template kind) h in
    some-opens kind a parts.0 parts.1 t f n q at is
some-held kind a e h using t f script n q at is = no h

either-head : (o : Option ℕ) (q : State) → q.head_elem ≡ o → IsCalm q → q.mode ≡ mode.AfterHead
    → (kind : Kind) (a : Action) (e : Conclusion) → head_row kind a e ≡ true
    → (using : InsertionMode → Token → State → Turn) (t : Token) → is_of kind t ≡ true → (script : ℕ)
    → Held (remove_from_stack_if o (concluded using e t script (act a t (push_head o q))).state)
either-head None q k is at kind a e h using t f script = none-held kind a e h using t f script q is at
either-head (Some n) q k is at kind a e h using t f script = some-held kind a e h using t f script n q at is.held

pub push-head-same : (o : Option ℕ) (q : State) → (push_head o q).head_elem ≡ q.head_elem
push-head-same None q = refl
push-head-same (Some n) q = refl

-- one of these rows, after an error and the head, which then leaves
pub head_again-held : (s : State) → IsCalm s → s.mode ≡ mode.AfterHead → (before : Kind) (kind : Kind) (a : Action)
    (e : Conclusion) → head_row kind a e ≡ true → (using : InsertionMode → Token → State → Turn) (t : Token)
    → is_of before t ≡ true → is_of kind t ≡ true → (script : ℕ)
    → Held (act RemoveHeadElem t (concluded using e t script (act a t (act (Then ParseError PushHeadElem) t s))).state)
unfolding push_head_elem remove_head_elem
head_again-held s is at before kind a e h using t g f script =
    let q : State = act ParseError t s in
    let calm = tame-calm before ParseError refl t g s is in
    let mode_is : q.mode ≡ mode.AfterHead = (act-aside before ParseError refl t s).mode ∙ at in
    let same : (concluded using e t script (act a t (push_head q.head_elem q))).state.head_elem ≡ q.head_elem =
    head-same kind a e h using t script (push_head q.head_elem q) ∙ push-head-same q.head_elem q in
    rw same (either-head q.head_elem q refl calm mode_is kind a e h using t f script)

either-bare : (o : Option ℕ) (q : State) → IsCalm q → Held (remove_from_stack_if o (push_head o q))
unfolding remove_from_stack
either-bare None q k = k.held
either-bare (Some n) q k =
    let s : State = push_head (Some n) q in
    still-tame q (remove_from_stack n s) k.held (alone q.opts.rules n q.open_elems) k.held.listed
    (after q s (remove_from_stack n s) (push_head-keeps aside_kept (Some n) q) (unopened-keeps aside_kept (Some n) s))

-- with nothing between
pub bare-held : (s : State) → IsCalm s → (before : Kind) (t : Token) → is_of before t ≡ true
    → Held (act RemoveHeadElem t (act (Then ParseError PushHeadElem) t s))
unfolding push_head_elem remove_head_elem
bare-held s is before t g =
    let q : State = act ParseError t s in
    rw (push-head-same q.head_elem q) (either-bare q.head_elem q (tame-calm before ParseError refl t g s is))
