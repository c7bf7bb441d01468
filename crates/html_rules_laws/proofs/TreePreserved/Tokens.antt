-- Every token and the end keep a state upright.
use Rattle.std.proofs.Common.{◌≡◌, ◌∙◌, ℕ, zero, suc, Bool, true, false, List, [], ◌∷◌, Option, Some, None, refl, sym, ap}
use Rattle.std.proofs.Common.{true≢false, codes}
use Rattle.std.specs.Prelude.{◌&&◌, not, is_some, IfOk, IfSome}
use Rattle.std.proofs.lemmas.Bool.{and_parts}
use Rattle.markup.specs.Forest.{Forest, above_of, data_of, element_name}
use Rattle.markup.specs.Named.{IsTree}
use Rattle.markup.specs.declared.quirks.QuirksMode.{QuirksMode}
use Rattle.html_tokens.specs.declared.token.Doctype.{Doctype}
use Rattle.html_tokens.specs.declared.token.Token.{Token}
use Rattle.html_tokens.specs.declared.token.Token.TheVariants.{DoctypeToken, TagToken, CommentToken, CharacterTokens}
use Rattle.html_tokens.specs.declared.token.Token.TheVariants.{NullCharacterToken, EOFToken, ParseError as ErrorToken}
use Rattle.html_rules.specs.Actions.{set_ignore_lf, set_mode, set_quirks_mode}
use Rattle.html_rules.specs.Choice.{choose}
use Rattle.html_rules.specs.Conditions.{is_nonempty}
use Rattle.html_rules.specs.Doctypes.{doctype_error, quirks_of}
use Rattle.html_rules.specs.Documents.{Setting, before_document, before_fragment, modes_of_context, form_of_context}
use Rattle.html_rules.specs.Names.{Html, element_name_of}
use Rattle.html_rules.specs.Places.{append_doctype_to_document}
use Rattle.html_rules.specs.Reset.{reset_insertion_mode}
use Rattle.html_rules.specs.Rules.{Ending, Finished, Again, Replied, Settled, check_acknowledged, four_for_each}
use Rattle.html_rules.specs.Rules.{is_self_closing, settle, settled_by, turn, within}
use Rattle.html_rules.specs.Shape.{has_root, is_at_root, is_fit}
use Rattle.html_rules.specs.Stack.{parse_error}
use Rattle.html_rules.specs.State.{Open, State, hushed}
use Rattle.html_rules.specs.Step.{followed_by, after_line_feed, doctype_taken, ended, first_doctype_taken, if_kept, is_barred, doctype_settled, ends_table_text}
use Rattle.html_rules.specs.Step.{is_idle, step, taken, taken_by, text_taken, untouched}
use Rattle.html_rules.specs.declared.insertion_mode.InsertionMode.{InsertionMode}
use Rattle.html_rules.specs.declared.insertion_mode.InsertionMode.TheVariants as mode
use Rattle.html_rules_laws.specs.Held.{Held}
use Rattle.html_rules_laws.specs.Placing.{are_general}
use Rattle.html_rules_laws.specs.Sound.{Sound, comes_from_table, is_table_mode}
use Rattle.html_rules_laws.specs.Soundness.{IsClear, IsOwn}
use Rattle.html_rules_laws.specs.Upright.{AreStatesSteady, MayCome, Steady, Upright, is_first, is_head_start}
use Rattle.html_rules_laws.proofs.Soundness.Sink.{document-sound, ended-sound, fragment-sound, held-of, mode-fits, root-html}
use Rattle.html_rules_laws.proofs.Soundness.Sink.{sound-of, taken-held, templates-fit}
use Rattle.html_rules_laws.proofs.Soundness.Steps.{erred, turn-held}
use Rattle.html_rules_laws.proofs.TreePreserved.Standing.{changed-Standing, part-same}
use Rattle.html_rules_laws.proofs.TreePreserved.StandingActions.{quirks-Standing}
use Rattle.html_rules_laws.proofs.TreePreserved.StandingSteps.{doctype-Standing, parse_error-Standing}
use Rattle.html_rules_laws.proofs.TreePreserved.StandingTrees.{stays-nodes}
use Rattle.html_rules_laws.proofs.StepLaws.{refusal_with, step-is}
use Rattle.html_rules_laws.proofs.TreePreserved.Eases.{eased-part}
use Rattle.html_rules_laws.proofs.TreePreserved.Heads.{root-clear}
use Rattle.html_rules_laws.proofs.TreePreserved.Poised.{eased-Upright}
use Rattle.html_rules_laws.proofs.TreePreserved.Roots.{rooted-Upright}
use Rattle.html_rules_laws.proofs.TreePreserved.Steps.{doctype-eased, parse_error-eased, quirks-eased}
use Rattle.html_rules_laws.proofs.TreePreserved.Turns.{IsLeft, turn-again, turn-left}
use Rattle.html_rules_laws.proofs.Bools.{no}

-- what a token leaves
pub record IsKept (s : State) : Type 0 where
  pub held : Held s
  pub left : IsLeft s

erred-upright : (s : State) → Upright s → Upright (parse_error s)
unfolding parse_error
erred-upright s h = eased-Upright s (parse_error s) h (parse_error-Standing s h.standing) (parse_error-eased s h.standing) refl refl

erred-kept : (s : State) → IsKept s → IsKept (parse_error s)
unfolding parse_error
erred-kept s h = record { held = erred s h.held; left = record { upright = erred-upright s h.left.upright; empty = h.left.empty } }

check-kept : (acknowledged : Bool) (t : Token) (s : State) → IsKept s → IsKept (check_acknowledged acknowledged t s)
check-kept true t s h = h
check-kept false t s h = by (is_self_closing t) where
  by : (b : Bool) → IsKept (choose b (λ _. parse_error s) (λ _. s))
  by true = erred-kept s h
  by false = h

turn-kept : (t : Token) (s : State) → MayCome t s → IsKept (turn t s).state
turn-kept t s may = record { held = turn-held t s may.held; left = turn-left t s may }

settled-kept : (again : State → Settled) (e : Ending) (t : Token) (s : State) → (e ≡ Again → IsKept (again s).state)
    → IsKept s → IsKept (settled_by again e t s).state
settled-kept again (Finished acknowledged) t s go h = check-kept acknowledged t s h
settled-kept again Again t s go h = go refl
settled-kept again (Replied r) t s go h = h

within-kept : (n : ℕ) (beyond : State → Settled) (t : Token) → ((s : State) → MayCome t s → IsKept (beyond s).state)
    → (s : State) → MayCome t s → IsKept (within n beyond t s).state
unfolding within
within-kept zero beyond t go s may = go s may
within-kept (suc n) beyond t go s may = settled-kept (within n beyond t) (turn t s).ends t (turn t s).state
    (λ e. within-kept n beyond t go (turn t s).state (turn-again t s may e)) (turn-kept t s may)

pub come-kept : (t : Token) (s : State) → MayCome t s → IsKept s
come-kept t s may = record { held = may.held; left = record { upright = may.upright; empty = may.empty } }

four-kept : (xs : List Open) (t : Token) (s : State) → MayCome t s → IsKept (four_for_each xs t s).state
unfolding four_for_each
four-kept [] t s may = come-kept t s may
four-kept (x ∷ xs) t s may = within-kept 4 (four_for_each xs t) t (four-kept xs t) s may

pub settle-kept : (t : Token) (s : State) → MayCome t s → IsKept (settle t s).state
unfolding settle
settle-kept t s may = within-kept 16 (four_for_each s.open_elems t) t (four-kept s.open_elems t) s may

-- a token that is no such start tag may come wherever one may
pub other-come : (t : Token) (s : State) → is_head_start t ≡ false → IsKept s → MayCome t s
other-come t s e h = record {
  held = h.held;
  upright = h.left.upright;
  empty = h.left.empty;
  head = λ start at. absurd (true≢false (sym start ∙ e));
  original = λ start at original. true≢false (sym start ∙ e);
}

text-kept : (text : List ℕ) (before : Settled) → IsKept before.state → IsKept (text_taken text before).state
text-kept [] before h = h
text-kept (c ∷ cs) before h = text-kept cs (followed_by before (settle (CharacterTokens (c ∷ [])) before.state))
    (settle-kept (CharacterTokens (c ∷ [])) before.state (other-come (CharacterTokens (c ∷ [])) before.state refl h))

-- doctypes

record IsBegun (s : State) : Type 0 where
  upright : Upright s
  empty : s.open_elems ≡ []

erred-begun : (s : State) → IsBegun s → IsBegun (parse_error s)
unfolding parse_error
erred-begun s h = record { upright = erred-upright s h.upright; empty = h.empty }

put-begun : (d : Doctype) (s : State) → IsBegun s → IsBegun (append_doctype_to_document d s)
unfolding append_doctype_to_document
put-begun d s h = record {
  upright = eased-Upright s (append_doctype_to_document d s) h.upright
      (doctype-Standing d s h.upright.standing) (doctype-eased d s h.upright.standing) refl refl;
  empty = h.empty;
}

quirks-begun : (q : QuirksMode) (s : State) → IsBegun s → IsBegun (set_quirks_mode q s)
unfolding set_quirks_mode
quirks-begun q s h = record {
  upright = eased-Upright s (set_quirks_mode q s) h.upright
      (quirks-Standing q s h.upright.standing) (quirks-eased q s h.upright.standing) refl refl;
  empty = h.empty;
}

either-begun : (b : Bool) (x y : State) → IsBegun x → IsBegun y → IsBegun (choose b (λ _. x) (λ _. y))
either-begun true x y h k = h
either-begun false x y h k = k

moved-left : (m : InsertionMode) (s : State) → IsBegun s → IsLeft (set_mode m s)
unfolding set_mode
moved-left m s h = record {
  upright = record {
    standing = h.upright.standing;
    rooted = h.upright.rooted;
    head = h.upright.head;
    context = h.upright.context;
  };
  empty = λ _. h.empty;
}

first-left : (d : Doctype) (s : State) → IsBegun s → IsLeft (first_doctype_taken d s)
first-left d s h =
    let told : State = choose (doctype_error d) (λ _. parse_error s) (λ _. s) in
    let one = either-begun (doctype_error d) (parse_error s) s (erred-begun s h) h in
    let two = either-begun s.opts.drop_doctype told (append_doctype_to_document d told) one (put-begun d told one) in
    moved-left mode.BeforeHtml
    (set_quirks_mode (quirks_of s.opts.rules s.opts.iframe_srcdoc d) (if_kept s.opts.drop_doctype d told))
    (quirks-begun (quirks_of s.opts.rules s.opts.iframe_srcdoc d) (if_kept s.opts.drop_doctype d told) two)

erred-left : (s : State) → IsLeft s → IsLeft (parse_error s)
unfolding parse_error
erred-left s h = record { upright = erred-upright s h.upright; empty = h.empty }

doctype-left : (m : InsertionMode) (d : Doctype) (s : State) → s.mode ≡ m → IsLeft s → IsLeft (doctype_taken m d s)
doctype-left mode.Initial d s e h = first-left d s (record { upright = h.upright; empty = h.empty (ap is_first e) })
doctype-left m d s e h = erred-left s h

-- a token that is taken

doctype_settled-left : (e : Bool) (d : Doctype) (s : State) → MayCome (DoctypeToken d) s → IsLeft (doctype_settled e d s).state
doctype_settled-left true d s may = (settle-kept (DoctypeToken d) s may).left
doctype_settled-left false d s may = doctype-left s.mode d s refl (come-kept (DoctypeToken d) s may).left

taken_by-left : (t : Token) (b : Bool) (s : State) → MayCome t s → IsLeft (taken_by b t s).state
taken_by-left (CharacterTokens text) b s may =
    (text-kept (after_line_feed b text) (untouched s) (come-kept (CharacterTokens text) s may)).left
taken_by-left (DoctypeToken d) b s may = doctype_settled-left (ends_table_text s.opts.rules s.mode) d s may
taken_by-left (TagToken tag) b s may = (settle-kept (TagToken tag) s may).left
taken_by-left (CommentToken text) b s may = (settle-kept (CommentToken text) s may).left
taken_by-left NullCharacterToken b s may = (settle-kept NullCharacterToken s may).left
taken_by-left EOFToken b s may = (settle-kept EOFToken s may).left
taken_by-left (ErrorToken message) b s may = (settle-kept (ErrorToken message) s may).left

pub unlined : (t : Token) (s : State) → MayCome t s → MayCome t (set_ignore_lf false s)
unfolding set_ignore_lf
unlined t s may = record {
  held = record {
    listed = may.held.listed;
    modes = may.held.modes;
    head = may.held.head;
    original = may.held.original;
    most = may.held.most;
    placed = may.held.placed;
  };
  upright = record { standing = may.upright.standing; rooted = may.upright.rooted; head = may.upright.head; context = may.upright.context };
  empty = may.empty;
  head = may.head;
  original = may.original;
}

pub taken-left : (t : Token) (s : State) → MayCome t s → IsLeft (taken t s).state
unfolding taken
taken-left t s may = taken_by-left t s.ignore_lf (set_ignore_lf false s) (unlined t s may)

-- a state that fits

empty-list : (xs : List Open) → not (is_nonempty xs) ≡ true → xs ≡ []
empty-list [] h = refl
empty-list (x ∷ xs) h = no h

fits-empty : (m : InsertionMode) (s : State) → s.mode ≡ m → is_fit s ≡ true → is_first m ≡ true → s.open_elems ≡ []
fits-empty mode.Initial s e fit h = empty-list s.open_elems (rw e at (mode-fits s fit))
fits-empty mode.BeforeHtml s e fit h = empty-list s.open_elems (rw e at (mode-fits s fit))
fits-empty m s e fit h = no h

fits-root : (s : State) → is_fit s ≡ true → s.mode ≡ mode.AfterHead → is_at_root s.open_elems ≡ true
fits-root s fit e =
    let fits : (has_root s.open_elems && is_some s.head_elem && is_at_root s.open_elems) ≡ true = rw e at (mode-fits s fit) in
    (and_parts (has_root s.open_elems && is_some s.head_elem) (is_at_root s.open_elems) fits).1

no-table : (o : Option InsertionMode) → comes_from_table o ≡ true → o ≡ Some mode.AfterHead → ⊥
no-table None h e = no h
no-table (Some m) h e = by m h e where
  by : (m : InsertionMode) → is_table_mode m ≡ true → Some m ≡ Some mode.AfterHead → ⊥
  by mode.AfterHead h e = no h
  by m h e = absurd (cc)

fits-table : (s : State) → Sound s → s.has_ended ≡ false → is_fit s ≡ true → s.mode ≡ mode.InTableText
    → s.orig_mode ≡ Some mode.AfterHead → ⊥
fits-table s is going fit e o =
    let fits : (has_root s.open_elems && is_some s.head_elem && is_at_root s.open_elems) ≡ true = rw (e, o) at (mode-fits s fit) in
    let root = (and_parts (has_root s.open_elems) (is_some s.head_elem)
    (and_parts (has_root s.open_elems && is_some s.head_elem) _ fits).0).0 in
    let placed : (comes_from_table s.orig_mode && are_general s.open_elems) ≡ true =
    rw e at (is.placed going (templates-fit s fit) (λ later. root-html s.open_elems root)) in
    no-table s.orig_mode (and_parts (comes_from_table s.orig_mode) _ placed).0 o

pub begins : (s : State) → Steady s → s.has_ended ≡ false → is_fit s ≡ true → (t : Token) → MayCome t s
begins s is going fit t =
    let held = held-of s is.sound going fit in
    record {
      held = record {
        listed = held.listed;
        modes = held.modes;
        head = held.head;
        original = held.original;
        most = held.most;
        placed = held.placed;
      };
      upright = is.upright;
      empty = fits-empty s.mode s refl fit;
      head = λ h e. fits-root s fit e;
      original = λ h e o. fits-table s is.sound going fit e o;
    }

-- the number of errors is put aside

pub hushed-upright : (s : State) → Upright s → Upright (hushed s)
hushed-upright s h =
    let stays = stays-nodes s.forest s.forest.quirks 0 h.standing.tree in
    eased-Upright s (hushed s) h (changed-Standing s.forest (hushed s).forest s.open_elems s.active_formatting stays
    h.standing) (eased-part s (hushed s) h.standing.opened stays (part-same s.open_elems)) refl refl

pub hushed-come : (t : Token) (s : State) → MayCome t s → MayCome t (hushed s)
hushed-come t s may = record {
  held = record {
    listed = may.held.listed;
    modes = may.held.modes;
    head = may.held.head;
    original = may.held.original;
    most = may.held.most;
    placed = may.held.placed;
  };
  upright = hushed-upright s may.upright;
  empty = may.empty;
  head = may.head;
  original = may.original;
}

-- the step

taken-steady : (s : State) (t : Token) → MayCome t s → Sound (hushed (taken t (hushed s)).state)
    → Steady (hushed (taken t (hushed s)).state)
taken-steady s t may sound = record {
  sound = sound;
  upright = hushed-upright (taken t (hushed s)).state (taken-left t (hushed s) (hushed-come t s may)).upright;
}

pub step-steady : (ended idle fit barred : Bool) (s : State) (t : Token) (line : ℕ) → s.has_ended ≡ ended
    → is_idle t ≡ idle → is_fit s ≡ fit → is_barred s.mode t ≡ barred → Steady s → IfOk (step s t line) (λ p. Steady p.0)
unfolding refusal_with
step-steady true idle fit barred s t line e i f b is = rw (step-is s t line true idle fit barred e i f b) tt
step-steady false true fit barred s t line e i f b is = rw (step-is s t line false true fit barred e i f b) (rw i is)
step-steady false false false barred s t line e i f b is = rw (step-is s t line false false false barred e i f b) tt
step-steady false false true true s t line e i f b is = rw (step-is s t line false false true true e i f b) tt
step-steady false false true false s t line e i f b is =
    rw (step-is s t line false false true false e i f b)
    (rw i (taken-steady s t (begins s is e f t)
    (sound-of (taken t (hushed s)).state (taken-held t (hushed s) (held-of s is.sound e f)))))

ended-steady : (s : State) → Steady s → Steady (ended s)
unfolding ended
ended-steady s is = record {
  sound = ended-sound s is.sound;
  upright = record {
    standing = record {
      tree = is.upright.standing.tree;
      opened = tt;
      apart = tt;
      listed = is.upright.standing.listed;
      top = is.upright.standing.top;
    };
    rooted = tt;
    head = is.upright.head;
    context = is.upright.context;
  };
}

-- the states before the first token

document-steady : (setting : Setting) (f : Forest) → IsTree f → above_of f 0 ≡ None → Steady (before_document setting f)
document-steady setting f tree top = record {
  sound = document-sound setting f;
  upright = record {
    standing = record { tree = tree; opened = tt; apart = tt; listed = tt; top = top };
    rooted = tt;
    head = tt;
    context = tt;
  };
}

fragment-steady : (setting : Setting) (context : Open) (form : Option ℕ) (f : Forest) → IsTree f
    → above_of f 0 ≡ None → IsOwn context.namespace → Steady (before_fragment setting context form f)
unfolding reset_insertion_mode
fragment-steady setting context form f tree top own =
    let s : State = record (before_document setting f) {
      context_elem = Some context;
      form_elem = form_of_context setting.opts.rules context form;
      template_modes = modes_of_context context;
    } in
    let rooted = rooted-Upright [] s refl
    (record {
      standing = record { tree = tree; opened = tt; apart = tt; listed = tt; top = top };
      rooted = tt;
      head = tt;
      context = own;
    }) in
    record {
      sound = fragment-sound setting context form f;
      upright = record { standing = rooted.standing; rooted = rooted.rooted; head = rooted.head; context = rooted.context };
    }

-- a head that is opened again
opened-head : (o : Option ℕ) (s : State) → Upright s → is_at_root s.open_elems ≡ true
    → IfSome o (λ n. element_name (data_of s.forest n) ≡ Some (element_name_of Html (codes "head")))
    → IfSome o (λ n. (element_name (data_of s.forest n) ≡ Some (element_name_of Html (codes "head"))) × IsClear s.forest n s.open_elems)
opened-head None s h root named = tt
opened-head (Some n) s h root named = (named, root-clear s n h root named)

pub states-steady : AreStatesSteady
states-steady = record {
  document = document-steady;
  fragment = fragment-steady;
  step = λ s is t line. step-steady s.has_ended (is_idle t) (is_fit s) (is_barred s.mode t) s t line refl refl refl refl is;
  ended = ended-steady;
  begins = begins;
  turn = λ t s may. (turn-held t s may.held, ((turn-left t s may).upright, turn-again t s may));
  head = λ t s may start at. opened-head s.head_elem s may.upright (may.head start at) may.upright.head;
}
