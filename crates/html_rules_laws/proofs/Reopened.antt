-- Formatting elements that are opened again leave a state ready.
use Rattle.std.proofs.Common.{◌≡◌, ℕ, Bool, true, false, List, [], ◌∷◌, Option, refl}
use Rattle.std.proofs.lemmas.Bool.{and_parts}
use Rattle.markup.specs.Forest.{node_count}
use Rattle.html_tokens.specs.declared.tags.Tag.{Tag}
use Rattle.html_rules.specs.Choice.{choose}
use Rattle.html_rules.specs.Formatting.{list_current, reconstruct_active_formatting_elements, reopen}
use Rattle.html_rules.specs.Names.{Html}
use Rattle.html_rules.specs.Places.{insert_element, insert_element_for}
use Rattle.html_rules.specs.Sets.{is_among, names_of}
use Rattle.html_rules.specs.Shape.{fits_mode, has_root}
use Rattle.html_rules.specs.Stack.{in_scope, is_open, open_templates}
use Rattle.html_rules.specs.State.{Open, Entry, Element, Marker, State, is_in}
use Rattle.html_rules.specs.declared.insertion_mode.InsertionMode.{InsertionMode}
use Rattle.html_rules.specs.declared.rules.Rules.{Rules}
use Rattle.html_rules.specs.declared.tag_set.TagSet.TheVariants as set
use Rattle.html_rules_laws.proofs.Names.{disjoint}
use Rattle.html_rules_laws.specs.Ready.{IsReady, are_formatting, fits_head}

-- an element that is opened again
abbrev reopened : Rules → ℕ → Tag → Open
reopened rules n tag = record { number = n; namespace = Html; name = tag.name; rules = rules }

abbrev IsFormatting : Tag → Type 0
IsFormatting tag = is_among tag.name (names_of set.FormattingEnd) ≡ true

not_html : (rules : Rules) (n : ℕ) (tag : Tag) → IsFormatting tag → is_in set.Html (reopened rules n tag) ≡ false
unfolding names_of
not_html rules n tag h = disjoint tag.name (names_of set.FormattingEnd) (names_of set.Html) refl h

not_template : (rules : Rules) (n : ℕ) (tag : Tag) → IsFormatting tag → is_in set.Template (reopened rules n tag) ≡ false
unfolding names_of
not_template rules n tag h = disjoint tag.name (names_of set.FormattingEnd) (names_of set.Template) refl h

not_cell : (rules : Rules) (n : ℕ) (tag : Tag) → IsFormatting tag → is_in set.TdTh (reopened rules n tag) ≡ false
unfolding names_of
not_cell rules n tag h = disjoint tag.name (names_of set.FormattingEnd) (names_of set.TdTh) refl h

not_bound : (rules : Rules) (n : ℕ) (tag : Tag) → IsFormatting tag → is_in set.TableScope (reopened rules n tag) ≡ false
unfolding names_of
not_bound rules n tag h = disjoint tag.name (names_of set.FormattingEnd) (names_of set.TableScope) refl h

pub root-reopened : (rules : Rules) (n : ℕ) (tag : Tag) (xs : List Open) → IsFormatting tag → has_root (reopened rules n tag ∷ xs) ≡ has_root xs
root-reopened rules n tag xs h = rw (not_html rules n tag h) refl

pub templates-reopened : (rules : Rules) (n : ℕ) (tag : Tag) (xs : List Open) → IsFormatting tag → open_templates (reopened rules n tag ∷ xs) ≡ open_templates xs
templates-reopened rules n tag xs h = rw (not_template rules n tag h) refl

pub cell-reopened : (rules : Rules) (n : ℕ) (tag : Tag) (xs : List Open) → IsFormatting tag → in_scope set.TableScope
    (is_in set.TdTh) (reopened rules n tag ∷ xs) ≡ in_scope set.TableScope (is_in set.TdTh) xs
cell-reopened rules n tag xs h = rw (not_cell rules n tag h, not_bound rules n tag h) refl

-- a mode that fits all the same once a formatting element is opened
abbrev pub Flows : InsertionMode → Type 0
Flows m = (rules : Rules) (n : ℕ) (tag : Tag) → IsFormatting tag → (original : Option InsertionMode) (xs : List Open)
    (head : Option ℕ) (modes : List InsertionMode)
    → fits_mode m original xs head modes ≡ true → fits_head m xs ≡ true
    → (fits_mode m original (reopened rules n tag ∷ xs) head modes ≡ true) × (fits_head m (reopened rules n tag ∷ xs) ≡ true)

-- a state is ready in a mode, which it has
pub record ReadyIn (m : InsertionMode) (s : State) : Type 0 where
  pub mode : s.mode ≡ m
  pub ready : IsReady m s.orig_mode s.open_elems s.head_elem s.template_modes s.active_formatting s.context_elem s.ignore_lf s.has_ended

one-Ready : (m : InsertionMode) → Flows m → (tag : Tag) → IsFormatting tag → (s : State) → ReadyIn m s
    → ReadyIn m (list_current tag (insert_element_for tag s))
unfolding insert_element
one-Ready m flows tag h s is =
    let both = flows s.opts.rules (node_count s.forest) tag h s.orig_mode s.open_elems s.head_elem s.template_modes is.ready.fit is.ready.in_head in
    record {
      mode = is.mode;
      ready = record {
        fit = both.0;
        templates = rw (templates-reopened s.opts.rules (node_count s.forest) tag s.open_elems h) is.ready.templates;
        in_head = both.1;
        listed = rw h is.ready.listed;
        kept_lf = is.ready.kept_lf;
        going = is.ready.going;
      };
    }

-- with entries of formatting elements in place of its own a state stays ready
relisted : (m : InsertionMode) (entries : List Entry) → are_formatting entries ≡ true → (s : State) → ReadyIn m s
    → ReadyIn m (record s { active_formatting = entries })
relisted m entries h s is = record {
  mode = is.mode;
  ready = record {
    fit = is.ready.fit;
    templates = is.ready.templates;
    in_head = is.ready.in_head;
    listed = h;
    kept_lf = is.ready.kept_lf;
    going = is.ready.going;
  };
}

choose-ReadyIn : (m : InsertionMode) (b : Bool) (x y : State) → ReadyIn m x → ReadyIn m y → ReadyIn m (choose b (λ _. x) (λ _. y))
choose-ReadyIn m true x y h k = h
choose-ReadyIn m false x y h k = k

reopen-Ready : (m : InsertionMode) → Flows m → (entries : List Entry) → are_formatting entries ≡ true → (s : State)
    → ReadyIn m s → ReadyIn m (reopen entries s)
reopen-Ready m flows [] h s is = relisted m [] refl s is
reopen-Ready m flows (Marker ∷ entries) h s is = relisted m (Marker ∷ entries) h s is
reopen-Ready m flows (Element n tag ∷ entries) h s is =
    let parts = and_parts (is_among tag.name (names_of set.FormattingEnd)) (are_formatting entries) h in
    choose-ReadyIn m (is_open n s.open_elems) _ _ (relisted m (Element n tag ∷ entries) h s is)
    (one-Ready m flows tag parts.0 (reopen entries s) (reopen-Ready m flows entries parts.1 s is))

pub reconstruct-Ready : (m : InsertionMode) → Flows m → (s : State) → ReadyIn m s → ReadyIn m (reconstruct_active_formatting_elements s)
unfolding reconstruct_active_formatting_elements
reconstruct-Ready m flows s is = reopen-Ready m flows s.active_formatting is.ready.listed s is
