-- Templates are opened and closed, tables closed with the mode reset, and a frameset takes the place of a body.
use Rattle.std.proofs.Common.{◌≡◌, ◌∙◌, ℕ, suc, ◌+◌, Bool, true, false, List, [], ◌∷◌, length, Some, refl, sym, ap, codes, arith}
use Rattle.std.specs.Prelude.{IfSome}
use Rattle.std.proofs.lemmas.Bool.{and_parts}
use Rattle.markup.specs.Forest.{data_of, element_name}
use Rattle.markup.specs.declared.names.QualName.{QualName}
use Rattle.html_tokens.specs.declared.tags.Tag.{Tag}
use Rattle.html_tokens.specs.declared.token.Token.{Token}
use Rattle.html_tokens.specs.declared.token.Token.TheVariants.{TagToken}
use Rattle.html_rules.specs.Actions.{act, frameset_not_ok, pop_template_mode, push_template_mode, set_mode, without_first}
use Rattle.html_rules.specs.Conditions.{context_is, holds}
use Rattle.html_rules.specs.ForeignContent.{is_start_tag}
use Rattle.html_rules.specs.Formatting.{clear_active_formatting_to_marker, push_marker}
use Rattle.html_rules.specs.Names.{Html, element_name_of}
use Rattle.html_rules.specs.Reset.{reset_insertion_mode}
use Rattle.html_rules.specs.Sets.{is_among, names_of}
use Rattle.html_rules.specs.Shape.{one_if}
use Rattle.html_rules.specs.Stack.{expect_to_close, generate_implied_end_tags, has_open, in_scope, left_below, left_from}
use Rattle.html_rules.specs.Stack.{open_templates, parse_error, pop_until}
use Rattle.html_rules.specs.State.{Open, State, is_in}
use Rattle.html_rules.specs.Table.{Condition, TemplateOpen, InScope, Action, Then, ParseError, PopUntil, Close}
use Rattle.html_rules.specs.Table.{ImpliedEndTagsThoroughly, InsertMarker, ClearToMarker, FramesetNotOk, SwitchTo}
use Rattle.html_rules.specs.Table.{PushTemplateMode, PopTemplateMode, InsertTemplate, ResetMode}
use Rattle.html_rules.specs.Templates.{insert_template}
use Rattle.html_rules.specs.declared.insertion_mode.InsertionMode.TheVariants as mode
use Rattle.html_rules.specs.declared.insertion_mode.InsertionMode.{InsertionMode}
use Rattle.html_rules.specs.declared.tag_set.TagSet.TheVariants as set
use Rattle.html_rules_laws.specs.Held.{wanted}
use Rattle.html_rules_laws.specs.Nesting.{Contents, IsNested, ground_of, may_stand, nested, part_of, top}
use Rattle.html_rules_laws.specs.Settled.{are_template_modes}
use Rattle.html_rules_laws.specs.Soundness.{Standing}
use Rattle.html_rules_laws.proofs.Frames.Aside.{aside_kept, first-modes}
use Rattle.html_rules_laws.proofs.SetFacts.{among-all}
use Rattle.html_rules_laws.proofs.Termination.Kinds.{Kind, Starts, is_of}
use Rattle.html_rules_laws.proofs.Soundness.Moves.{implied-count, kept_by_implied, template-topped}
use Rattle.html_rules_laws.proofs.Soundness.Rows.{closes, opens, starts_template}
use Rattle.html_rules_laws.proofs.Soundness.Specials.{close-elements}
use Rattle.html_rules_laws.proofs.TreePreserved.StandingSteps.{implied-Standing, parse_error-Standing}
use Rattle.html_rules_laws.proofs.TreePreserved.Poised.{template-eased}
use Rattle.html_rules_laws.proofs.TreePreserved.Steps.{expect_to_close-eased}
use Rattle.html_rules_laws.proofs.ModesPreserved.Fluid.{form-kept}
use Rattle.html_rules_laws.proofs.Frames.Framed as framed
use Rattle.html_rules_laws.proofs.ModesPreserved.Resets.{from-nested, reset-nested, table-closed, template-closed, template-part}
use Rattle.html_rules_laws.proofs.Bools.{both, no}
use Rattle.html_rules_laws.proofs.Frames.KeptBySteps.{expect_to_close-keeps, template-keeps}

-- what rows find
pub record Ready (s : State) : Type 0 where
  pub standing : Standing s
  pub nested : nested (ground_of s.context_elem) s.open_elems ≡ true
  pub modes : are_template_modes s.template_modes ≡ true
  pub count : wanted s ≡ length s.template_modes
  pub framed : s.frameset_ok ≡ true → open_templates s.open_elems ≡ 0
  pub form : IfSome s.form_elem (λ n. element_name (data_of s.forest n) ≡ Some (element_name_of Html (codes "form")))

-- a template is opened

opened-nested : (tag : Tag) → is_among tag.name (names_of set.Template) ≡ true → (s : State) → Ready s
    → may_stand (ground_of s.context_elem) Contents (top s.open_elems) ≡ true
    → IsNested (insert_template tag (push_template_mode mode.InTemplate (set_mode mode.InTemplate (frameset_not_ok (push_marker s)))))
unfolding push_marker frameset_not_ok set_mode push_template_mode
opened-nested tag name s h stands =
    let q : State = push_template_mode mode.InTemplate (set_mode mode.InTemplate (frameset_not_ok (push_marker s))) in
    let r : State = insert_template tag q in
    let above = template-topped tag q in
    let aside = template-keeps aside_kept tag q in
    let kept = template-keeps framed.framed_kept tag q in
    let x : Open = record { number = above.number; namespace = Html; name = tag.name; rules = q.opts.rules } in
    let part : part_of x ≡ Contents = template-part x name in
    let template : is_in set.Template x ≡ true = name in
    let all : r.open_elems ≡ x ∷ s.open_elems = above.elements in
    let nest : nested (ground_of s.context_elem) (x ∷ s.open_elems) ≡ true = rw part (both _ _ stands h.nested) in
    let standing : Standing q = record {
      tree = h.standing.tree;
      opened = h.standing.opened;
      apart = h.standing.apart;
      listed = h.standing.listed;
      top = h.standing.top;
    } in
    record {
      fits = rw (aside.mode, aside.context, all) (rw (nest, part) refl);
      count = counted q r x all template aside.context aside.modes h.count;
      framed = λ e. no (kept.framed e);
      form = rw kept.form (form-kept s.form_elem s.forest r.forest (template-eased tag name q standing).names h.form);
    }
  where
    counted : (q r : State) (x : Open) → r.open_elems ≡ x ∷ s.open_elems → is_in set.Template x ≡ true
        → r.context_elem ≡ s.context_elem → r.template_modes ≡ mode.InTemplate ∷ s.template_modes
        → wanted s ≡ length s.template_modes → wanted r ≡ length r.template_modes
    counted q r x all t c m count =
        let one : open_templates r.open_elems ≡ suc (open_templates s.open_elems) = ap open_templates all ∙ rw t refl in
        let two : one_if (context_is set.Template r.context_elem) ≡ one_if
        (context_is set.Template s.context_elem) = ap (λ c. one_if (context_is set.Template c)) c in
        let three : length r.template_modes ≡ suc (length s.template_modes) = ap length m in
        let four = count in
        omega arith

pub opens-nested : (kind : Kind) (a : Action) → opens a ≡ true → starts_template kind ≡ true → (t : Token)
    → is_of kind t ≡ true → (s : State) → Ready s → may_stand (ground_of s.context_elem) Contents
    (top s.open_elems) ≡ true → IsNested (act a t s)
opens-nested (Starts names)
    (Then InsertMarker (Then FramesetNotOk
    (Then (SwitchTo mode.InTemplate) (Then (PushTemplateMode mode.InTemplate) InsertTemplate)))) o p (TagToken tag) f s h stands =
    opened-nested tag (among-all tag.name names (names_of set.Template) p (and_parts (is_start_tag tag.kind) _ f).1) s h stands
opens-nested (Starts names)
    (Then InsertMarker (Then FramesetNotOk
    (Then (SwitchTo mode.InTemplate) (Then (PushTemplateMode mode.InTemplate) InsertTemplate)))) o p t f s h stands = no f
opens-nested kind (Then InsertMarker
    (Then FramesetNotOk (Then (SwitchTo mode.InTemplate)
    (Then (PushTemplateMode mode.InTemplate) InsertTemplate)))) o p t f s h stands = no p
opens-nested kind a o p t f s h stands = no o

-- a template is closed, with its mode

fewer-modes : (modes : List InsertionMode) (n : ℕ) → suc n ≡ length modes → n ≡ length (without_first modes)
fewer-modes [] n e = absurd (omega arith)
fewer-modes (m ∷ modes) n e = omega arith

-- from elements zs, of which the topmost template was popped, with all above it
closed-nested : (s q : State) (zs : List Open) → Ready s → nested (ground_of s.context_elem) zs ≡ true
    → has_open set.Template zs ≡ true → open_templates zs ≡ open_templates s.open_elems → q.open_elems ≡ left_below
    (is_in set.Template) zs → q.template_modes ≡ without_first s.template_modes
    → q.context_elem ≡ s.context_elem → (q.frameset_ok ≡ true → s.frameset_ok ≡ true) → q.form_elem ≡ s.form_elem
    → ((n : ℕ) (name : QualName) → element_name (data_of s.forest n) ≡ Some name → element_name (data_of q.forest n) ≡ Some name)
    → IsNested (reset_insertion_mode q)
closed-nested s q zs h nest there same elements modes context ok form names =
    let closed = template-closed (ground_of s.context_elem) zs nest there in
    let fewer : suc (open_templates q.open_elems) ≡ open_templates s.open_elems = ap (λ xs. suc (open_templates xs))
    elements ∙ closed.templates ∙ same in
    let two : one_if (context_is set.Template q.context_elem) ≡ one_if (context_is set.Template s.context_elem) =
    ap (λ c. one_if (context_is set.Template c)) context in
    let count = h.count in
    reset-nested q (record {
      nested = rw (context, elements) closed.nested;
      some = rw elements closed.some;
      modes = rw modes (first-modes s.template_modes h.modes);
      count = fewer-modes s.template_modes (wanted q) (omega arith) ∙ ap length (sym modes);
      framed = λ e. absurd (let none = h.framed (ok e) in omega arith);
      form = rw form (form-kept s.form_elem s.forest q.forest names h.form);
    })

thorough-nested : (s : State) → Ready s → has_open set.Template s.open_elems ≡ true
    → IsNested (reset_insertion_mode
    (pop_template_mode (clear_active_formatting_to_marker
    (expect_to_close (is_in set.Template) (generate_implied_end_tags set.ThoroughImpliedEnd s)))))
unfolding generate_implied_end_tags clear_active_formatting_to_marker pop_template_mode
thorough-nested s h there =
    let one : State = generate_implied_end_tags set.ThoroughImpliedEnd s in
    let two : State = expect_to_close (is_in set.Template) one in
    let aside = expect_to_close-keeps aside_kept (is_in set.Template) one in
    let kept = expect_to_close-keeps framed.framed_kept (is_in set.Template) one in
    let zs : List Open = left_from kept_by_implied s.open_elems in
    let count = implied-count s.open_elems in
    closed-nested s (pop_template_mode (clear_active_formatting_to_marker two)) zs h
    (from-nested (ground_of s.context_elem) kept_by_implied s.open_elems h.nested) (count.1 there) count.0
    (close-elements (is_in set.Template) one) (ap (λ modes. without_first modes) aside.modes) aside.context kept.framed kept.form
    (λ n name e. (expect_to_close-eased (is_in set.Template) one (implied-Standing set.ThoroughImpliedEnd s h.standing)).names n name e)

erred-nested : (s : State) → Ready s → has_open set.Template s.open_elems ≡ true
    → IsNested (reset_insertion_mode
    (pop_template_mode (clear_active_formatting_to_marker (pop_until (is_in set.Template) (parse_error s)))))
unfolding parse_error pop_until clear_active_formatting_to_marker pop_template_mode
erred-nested s h there =
    closed-nested s (pop_template_mode
    (clear_active_formatting_to_marker (pop_until (is_in set.Template) (parse_error s)))) s.open_elems h
    h.nested there refl refl refl refl (λ e. e) refl (λ n name e. e)

pub closes-nested : (condition : Condition) (a : Action) → closes condition a ≡ true → (t : Token) (s : State)
    → holds condition t s ≡ true → Ready s → IsNested (act a t s)
closes-nested TemplateOpen
    (Then ImpliedEndTagsThoroughly
    (Then (Close set.Template) (Then ClearToMarker (Then PopTemplateMode ResetMode)))) c t s o h = thorough-nested s h o
closes-nested TemplateOpen
    (Then ParseError (Then (PopUntil set.Template) (Then ClearToMarker (Then PopTemplateMode ResetMode)))) c t s o h = erred-nested s h o
closes-nested condition a c t s o h = no c

-- a table is closed

until-nested : (s : State) → Ready s → in_scope set.TableScope (is_in set.Table) s.open_elems ≡ true
    → IsNested (reset_insertion_mode (pop_until (is_in set.Table) s))
unfolding pop_until
until-nested s h i =
    let closed = table-closed (ground_of s.context_elem) s.open_elems h.nested i in
    reset-nested (pop_until (is_in set.Table) s) (record {
      nested = closed.nested;
      some = closed.some;
      modes = h.modes;
      count = ap (λ n. n + one_if (context_is set.Template s.context_elem)) closed.templates ∙ h.count;
      framed = λ e. closed.templates ∙ h.framed e;
      form = h.form;
    })

error-ready : (s : State) → Ready s → Ready (parse_error s)
unfolding parse_error
error-ready s h = record {
  standing = parse_error-Standing s h.standing;
  nested = h.nested;
  modes = h.modes;
  count = h.count;
  framed = h.framed;
  form = h.form;
}

error-same : (s : State) → (parse_error s).open_elems ≡ s.open_elems
unfolding parse_error
error-same s = refl

abbrev pub resets_table : Condition → Action → Bool
resets_table (InScope set.TableScope set.Table) (Then ParseError (Then (PopUntil set.Table) ResetMode)) = true
resets_table (InScope set.TableScope set.Table) (Then (PopUntil set.Table) ResetMode) = true
resets_table c a = false

pub table-nested : (c : Condition) (a : Action) → resets_table c a ≡ true → (t : Token) (s : State)
    → holds c t s ≡ true → Ready s → IsNested (act a t s)
table-nested (InScope set.TableScope set.Table) (Then ParseError (Then (PopUntil set.Table) ResetMode)) r t s i h =
    until-nested (parse_error s) (error-ready s h) (rw (error-same s) i)
table-nested (InScope set.TableScope set.Table) (Then (PopUntil set.Table) ResetMode) r t s i h = until-nested s h i
table-nested c a r t s i h = no r
