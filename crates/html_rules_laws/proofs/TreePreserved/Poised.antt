-- States that actions of rows keep, after the modes in which there is no root yet.
use Rattle.std.proofs.Common.{◌≡◌, ℕ, Bool, true, false, List, [], ◌∷◌, Option, Some, None, refl, codes}
use Rattle.std.specs.Prelude.{◌&&◌, not, IfSome}
use Rattle.std.proofs.lemmas.Bool.{and_parts}
use Rattle.markup.specs.Forest.{Forest, data_of, element_name}
use Rattle.markup.specs.declared.names.QualName.{QualName}
use Rattle.html_tokens.specs.declared.tags.Tag.{Tag}
use Rattle.html_tokens.specs.declared.token.Token.{Token}
use Rattle.html_tokens.specs.declared.token.Token.TheVariants.{TagToken}
use Rattle.html_rules.specs.Actions.{act, restore_mode, for_tag, save_mode, or_mode, pop_template_mode, push_template_mode}
use Rattle.html_rules.specs.Actions.{set_mode, set_template_mode, without_first}
use Rattle.html_rules.specs.Choice.{choose}
use Rattle.html_rules.specs.Conditions.{holds}
use Rattle.html_rules.specs.ForeignContent.{is_start_tag}
use Rattle.html_rules.specs.Names.{Html, element_name_of}
use Rattle.html_rules.specs.Places.{insert_element_for, open_element}
use Rattle.html_rules.specs.Reset.{current_template_mode, mode_of, mode_of_context, mode_of_html, mode_of_open, reset_insertion_mode}
use Rattle.html_rules.specs.Sets.{is_among, mathml_names_of, names_of, svg_names_of}
use Rattle.html_rules.specs.Stack.{pop}
use Rattle.html_rules.specs.State.{Open, State, adjusted_current_node, is_in}
use Rattle.html_rules.specs.Table.{Action, Then, When, InsertTemplate, SwitchTo, SaveMode, RestoreMode, ResetMode}
use Rattle.html_rules.specs.Table.{PushTemplateMode, SetTemplateMode, PopTemplateMode}
use Rattle.html_rules.specs.Templates.{attach_shadow_root, insert_template, may_be_shadow_root, number_of}
use Rattle.html_rules.specs.declared.insertion_mode.InsertionMode.{InsertionMode}
use Rattle.html_rules.specs.declared.insertion_mode.InsertionMode.TheVariants as mode
use Rattle.html_rules.specs.declared.rules.Rules.{Rules}
use Rattle.html_rules.specs.declared.tag_set.TagSet.TheVariants as set
use Rattle.html_rules_laws.specs.Ready.{are_formatting}
use Rattle.html_rules_laws.specs.Soundness.{Standing, is_plain_action}
use Rattle.html_rules_laws.specs.Upright.{Upright, is_first}
use Rattle.html_rules_laws.proofs.TreePreserved.ActionsStanding.{actions-Standing}
use Rattle.html_rules_laws.proofs.Frames.Aside.{aside_kept}
use Rattle.html_rules_laws.proofs.SetFacts.{among-all, in-apart}
use Rattle.html_rules_laws.proofs.Termination.Kinds.{Kind, Starts, is_of}
use Rattle.html_rules_laws.proofs.Soundness.Acts.{act-aside, act-tame, tame_in}
use Rattle.html_rules_laws.proofs.Soundness.Moves.{template-topped}
use Rattle.html_rules_laws.proofs.Soundness.Rows.{starts_template}
use Rattle.html_rules_laws.proofs.TreePreserved.StandingActions.{insert_template-Standing}
use Rattle.html_rules_laws.proofs.TreePreserved.StandingSteps.{open_element-Standing, pop-Standing}
use Rattle.html_rules_laws.proofs.TreePreserved.Acts.{act-eased}
use Rattle.html_rules_laws.proofs.TreePreserved.Eases.{Eases, eased-after, eased-either, eased-same}
use Rattle.html_rules_laws.proofs.TreePreserved.Steps.{insert_element-eased, open_element-eased, pop-eased}
use Rattle.html_rules_laws.proofs.Bools.{both, no, not_true}
use Rattle.html_rules_laws.proofs.Frames.KeptBySteps.{template-keeps}

abbrev pub is_first_original : Option InsertionMode → Bool
is_first_original None = false
is_first_original (Some m) = is_first m

abbrev pub no_first : List InsertionMode → Bool
no_first [] = true
no_first (m ∷ modes) = not (is_first m) && no_first modes

pub record Poised (s : State) : Type 0 where
  pub upright : Upright s
  pub listed : are_formatting s.active_formatting ≡ true
  pub mode : is_first s.mode ≡ false
  pub original : is_first_original s.orig_mode ≡ false
  pub modes : no_first s.template_modes ≡ true

-- what a step leaves upright

pub named-kept : (o : Option ℕ) (f g : Forest) → ((n : ℕ) (name : QualName) → element_name (data_of f n) ≡ Some name
    → element_name (data_of g n) ≡ Some name)
    → IfSome o (λ n. element_name (data_of f n) ≡ Some (element_name_of Html (codes "head")))
    → IfSome o (λ n. element_name (data_of g n) ≡ Some (element_name_of Html (codes "head")))
named-kept None f g names h = tt
named-kept (Some n) f g names h = names n (element_name_of Html (codes "head")) h

pub eased-Upright : (s r : State) → Upright s → Standing r → Eases s r → r.head_elem ≡ s.head_elem
    → r.context_elem ≡ s.context_elem → Upright r
eased-Upright s r h standing eased head context = record {
  standing = standing;
  rooted = eased.rooted h.rooted;
  head = rw head (named-kept s.head_elem s.forest r.forest eased.names h.head);
  context = rw context h.context;
}

pub tame-upright : (kind : Kind) (a : Action) → tame_in kind a ≡ true → is_plain_action a ≡ true → (t : Token)
    → is_of kind t ≡ true → (s : State) → are_formatting s.active_formatting ≡ true → Upright s → Upright (act a t s)
tame-upright kind a p q t f s l h =
    let aside = act-aside kind a p t s in
    eased-Upright s (act a t s) h (actions-Standing.plain a q t s h.standing)
    (act-eased kind a p q t f s l h.standing) aside.head aside.context

pub tame-poised : (kind : Kind) (a : Action) → tame_in kind a ≡ true → is_plain_action a ≡ true → (t : Token)
    → is_of kind t ≡ true → (s : State) → Poised s → Poised (act a t s)
tame-poised kind a p q t f s h =
    let aside = act-aside kind a p t s in
    record {
      upright = tame-upright kind a p q t f s h.listed h.upright;
      listed = (act-tame kind a p t f s h.listed).listed;
      mode = rw aside.mode h.mode;
      original = rw aside.original h.original;
      modes = rw aside.modes h.modes;
    }

-- a template is opened

template-in : (name : List ℕ) → is_among name (names_of set.Template) ≡ true → (n : ℕ) (rules : Rules)
    → is_in set.Html (record { number = n; namespace = Html; name = name; rules = rules }) ≡ false
unfolding names_of mathml_names_of svg_names_of
template-in name h n rules = in-apart set.Template set.Html refl (record { number = n; namespace = Html; name = name; rules = rules }) h

pub template-eased : (tag : Tag) → is_among tag.name (names_of set.Template) ≡ true → (s : State) → Standing s
    → Eases s (insert_template tag s)
unfolding insert_template
template-eased tag h s is =
    let opened : State = open_element Html tag.name tag.attrs tag.had_duplicate_attributes s in
    let one = open_element-eased Html tag.name tag.attrs tag.had_duplicate_attributes tt (template-in tag.name h) s is in
    let standing = open_element-Standing Html tag.name tag.attrs tag.had_duplicate_attributes tt s is in
    let again = eased-after opened (pop opened) (insert_element_for tag (pop opened)) (pop-eased opened standing)
    (insert_element-eased Html tag.name tag.attrs tag.had_duplicate_attributes tt (template-in tag.name h)
    (pop opened) (pop-Standing opened standing)) in
    eased-either (may_be_shadow_root tag s) s (attach_shadow_root tag (number_of (adjusted_current_node s)) opened)
    (insert_element_for tag s)
    (eased-after s opened _ one (eased-either (opened.answers.attaches_shadow _ _ _ tag.attrs) opened opened
    (insert_element_for tag (pop opened)) (eased-same opened) again))
    (insert_element-eased Html tag.name tag.attrs tag.had_duplicate_attributes tt (template-in tag.name h) s is)

template-poised : (tag : Tag) → is_among tag.name (names_of set.Template) ≡ true → (s : State) → Poised s → Poised (insert_template tag s)
template-poised tag e s h =
    let aside = template-keeps aside_kept tag s in
    let top = template-topped tag s in
    record {
      upright = eased-Upright s (insert_template tag s) h.upright
          (insert_template-Standing tag s h.upright.standing) (template-eased tag e s h.upright.standing) aside.head aside.context;
      listed = rw top.entries h.listed;
      mode = rw aside.mode h.mode;
      original = rw aside.original h.original;
      modes = rw aside.modes h.modes;
    }

tag-template : (kind : Kind) → starts_template kind ≡ true → (t : Token) → is_of kind t ≡ true → (s : State)
    → Poised s → Poised (for_tag insert_template t s)
tag-template (Starts names) h (TagToken tag) f s is = template-poised tag
    (among-all tag.name names (names_of set.Template) h (and_parts (is_start_tag tag.kind) _ f).1) s is
tag-template (Starts names) h t f s is = is
tag-template kind h t f s is = no h

-- modes

first-or : (o : Option InsertionMode) (m : InsertionMode) → is_first_original o ≡ false → is_first m ≡ false
    → is_first (or_mode o m) ≡ false
first-or None m h k = k
first-or (Some original) m h k = h

first-without : (modes : List InsertionMode) → no_first modes ≡ true → no_first (without_first modes) ≡ true
first-without [] h = refl
first-without (m ∷ modes) h = (and_parts (not (is_first m)) (no_first modes) h).1

first-current : (modes : List InsertionMode) → no_first modes ≡ true → is_first (current_template_mode modes) ≡ false
first-current [] h = refl
first-current (m ∷ modes) h = not_true _ (and_parts (not (is_first m)) (no_first modes) h).0

first-choose : (b : Bool) (x y : Unit {0} → InsertionMode) → is_first (x tt) ≡ false → is_first (y tt) ≡ false
    → is_first (choose b x y) ≡ false
first-choose true x y h k = h
first-choose false x y h k = k

first-html : (o : Option ℕ) → is_first (mode_of_html o) ≡ false
first-html None = refl
first-html (Some n) = refl

first-mode_of : (s : State) (x : Open) (before : Unit {0} → InsertionMode) → no_first s.template_modes ≡ true
    → is_first (before tt) ≡ false → is_first (mode_of s x before) ≡ false
first-mode_of s x before h rest =
    first-choose (is_in set.Tr x) _ _ refl
    (first-choose (is_in set.TbodyTfootThead x) _ _ refl
    (first-choose (is_in set.Caption x) _ _ refl
    (first-choose (is_in set.Colgroup x) _ _ refl (first-choose (is_in set.Table x) _ _ refl
    (first-choose (is_in set.Template x) _ _ (first-current s.template_modes h)
    (first-choose (is_in set.Body x) _ _ refl
    (first-choose (is_in set.Frameset x) _ _ refl (first-choose (is_in set.Html x) _ before (first-html s.head_elem) rest))))))))

first-context : (s : State) (o : Option Open) → no_first s.template_modes ≡ true → is_first (mode_of_context s o) ≡ false
first-context s None h = first-html s.head_elem
first-context s (Some x) h = first-mode_of s x (λ _. mode.InBody) h refl

first-open : (s : State) (xs : List Open) → no_first s.template_modes ≡ true → is_first (mode_of_open s xs) ≡ false
first-open s [] h = refl
first-open s (x ∷ xs) h =
    first-choose (is_in set.TdTh x) _ _ refl
    (first-choose (is_in set.Head x) _ _ refl
    (first-choose (is_in set.Html x) _ _ (first-context s s.context_elem h)
    (first-mode_of s x (λ _. mode_of_open s xs) h (first-open s xs h))))

pub moved-poised : (m : InsertionMode) (s : State) → is_first m ≡ false → Poised s → Poised (set_mode m s)
unfolding set_mode
moved-poised m s k h = record {
  upright = record {
    standing = h.upright.standing;
    rooted = h.upright.rooted;
    head = h.upright.head;
    context = h.upright.context;
  };
  listed = h.listed;
  mode = k;
  original = h.original;
  modes = h.modes;
}

pub back-poised : (s : State) → Poised s → Poised (restore_mode s)
unfolding restore_mode
back-poised s h = record {
  upright = record {
    standing = h.upright.standing;
    rooted = h.upright.rooted;
    head = h.upright.head;
    context = h.upright.context;
  };
  listed = h.listed;
  mode = first-or s.orig_mode s.mode h.original h.mode;
  original = refl;
  modes = h.modes;
}

abbrev pub poised_in : Kind → Action → Bool
poised_in kind (Then a b) = poised_in kind a && poised_in kind b
poised_in kind (When c a) = poised_in kind a
poised_in kind InsertTemplate = starts_template kind
poised_in kind (SwitchTo m) = not (is_first m)
poised_in kind SaveMode = true
poised_in kind RestoreMode = true
poised_in kind ResetMode = true
poised_in kind (PushTemplateMode m) = not (is_first m)
poised_in kind (SetTemplateMode m) = not (is_first m)
poised_in kind PopTemplateMode = true
poised_in kind a = tame_in kind a && is_plain_action a

either-poised : (b : Bool) (x y : State) → Poised x → Poised y → Poised (choose b (λ _. x) (λ _. y))
either-poised true x y h k = h
either-poised false x y h k = k

pub act-poised : (kind : Kind) (a : Action) → poised_in kind a ≡ true → (t : Token) → is_of kind t ≡ true
    → (s : State) → Poised s → Poised (act a t s)
unfolding save_mode reset_insertion_mode push_template_mode set_template_mode pop_template_mode
act-poised kind (Then a b) p t f s h = let parts = and_parts (poised_in kind a) (poised_in kind b) p in
    act-poised kind b parts.1 t f (act a t s) (act-poised kind a parts.0 t f s h)
act-poised kind (When c a) p t f s h = either-poised (holds c t s) (act a t s) s (act-poised kind a p t f s h) h
act-poised kind InsertTemplate p t f s h = tag-template kind p t f s h
act-poised kind (SwitchTo m) p t f s h = moved-poised m s (not_true _ p) h
act-poised kind SaveMode p t f s h =
    record {
      upright = record {
        standing = h.upright.standing;
        rooted = h.upright.rooted;
        head = h.upright.head;
        context = h.upright.context;
      };
      listed = h.listed;
      mode = h.mode;
      original = h.mode;
      modes = h.modes;
    }
act-poised kind RestoreMode p t f s h = back-poised s h
act-poised kind ResetMode p t f s h =
    record {
      upright = record {
        standing = h.upright.standing;
        rooted = h.upright.rooted;
        head = h.upright.head;
        context = h.upright.context;
      };
      listed = h.listed;
      mode = first-open s s.open_elems h.modes;
      original = h.original;
      modes = h.modes;
    }
act-poised kind (PushTemplateMode m) p t f s h =
    record {
      upright = record {
        standing = h.upright.standing;
        rooted = h.upright.rooted;
        head = h.upright.head;
        context = h.upright.context;
      };
      listed = h.listed;
      mode = h.mode;
      original = h.original;
      modes = both _ _ p h.modes;
    }
act-poised kind (SetTemplateMode m) p t f s h =
    record {
      upright = record {
        standing = h.upright.standing;
        rooted = h.upright.rooted;
        head = h.upright.head;
        context = h.upright.context;
      };
      listed = h.listed;
      mode = h.mode;
      original = h.original;
      modes = both _ _ p (first-without s.template_modes h.modes);
    }
act-poised kind PopTemplateMode p t f s h =
    record {
      upright = record {
        standing = h.upright.standing;
        rooted = h.upright.rooted;
        head = h.upright.head;
        context = h.upright.context;
      };
      listed = h.listed;
      mode = h.mode;
      original = h.original;
      modes = first-without s.template_modes h.modes;
    }
act-poised kind a p t f s h = let parts = and_parts (tame_in kind a) (is_plain_action a) p in tame-poised kind a parts.0 parts.1 t f s h
