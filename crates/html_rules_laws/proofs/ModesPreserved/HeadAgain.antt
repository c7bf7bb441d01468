-- Where the head is opened again for one token, the parts stay nested: what the token opens comes to stand over the root.
use Rattle.std.proofs.Common.{◌≡◌, ◌∙◌, ℕ, suc, ◌+◌, Bool, true, false, List, [], ◌∷◌, Option, Some, None, refl, sym, ap, subst}
use Rattle.std.proofs.Common.{true≢false, codes}
use Rattle.std.specs.Prelude.{◌||◌, ◌&&◌, IfSome, nat_eq, is_some}
use Rattle.std.proofs.lemmas.Bool.{and_parts, eqb-true}
use Rattle.std.specs.Str.{bytes_eq}
use Rattle.std.proofs.lemmas.Slice.Eq.{bytes_eq-Decides}
use Rattle.markup.specs.Forest.{Forest, data_of, element_name, node_count}
use Rattle.markup.specs.declared.names.QualName.{QualName}
use Rattle.html_tokens.specs.declared.tags.Tag.{Tag}
use Rattle.html_tokens.specs.declared.token.Token.{Token}
use Rattle.html_tokens.specs.declared.token.Token.TheVariants.{TagToken}
use Rattle.html_rules.specs.Actions.{act, frameset_not_ok, save_mode, push_head, push_head_elem, push_template_mode}
use Rattle.html_rules.specs.Actions.{remove_from_stack_if, remove_head_elem, set_mode}
use Rattle.html_rules.specs.Choice.{choose}
use Rattle.html_rules.specs.Conditions.{context_is}
use Rattle.html_rules.specs.ForeignContent.{is_start_tag}
use Rattle.html_rules.specs.Formatting.{push_marker}
use Rattle.html_rules.specs.Names.{Html, element_name_of}
use Rattle.html_rules.specs.Places.{insert_element, insert_element_for}
use Rattle.html_rules.specs.Rules.{Turn, concluded}
use Rattle.html_rules.specs.Sets.{is_among, names_of}
use Rattle.html_rules.specs.Shape.{one_if}
use Rattle.html_rules.specs.Stack.{open_templates, remove_from_stack, without_number}
use Rattle.html_rules.specs.State.{Open, State, current_is, is_in, is_named}
use Rattle.html_rules.specs.Table.{Action, Then, ParseError, InsertElement, SaveMode, SwitchTo, InsertMarker, FramesetNotOk}
use Rattle.html_rules.specs.Table.{PushTemplateMode, InsertTemplate, PushHeadElem, RemoveHeadElem, Conclusion, Done, RawText}
use Rattle.html_rules.specs.Table.{ReportEncoding}
use Rattle.html_rules.specs.Templates.{insert_template}
use Rattle.html_rules.specs.declared.insertion_mode.InsertionMode.{InsertionMode}
use Rattle.html_rules.specs.declared.insertion_mode.InsertionMode.TheVariants as mode
use Rattle.html_rules.specs.declared.rules.Rules.{Rules}
use Rattle.html_rules.specs.declared.tag_set.TagSet.TheVariants as set
use Rattle.html_rules_laws.specs.Nesting.{Root, Contents, IsNested, ground_of, is_root, nested, part_of, parts, top}
use Rattle.html_rules_laws.specs.Settled.{are_template_modes}
use Rattle.html_rules_laws.specs.Soundness.{AreOpened}
use Rattle.html_rules_laws.specs.Upright.{is_first}
use Rattle.html_rules_laws.proofs.SetFacts.{among-all}
use Rattle.html_rules_laws.proofs.Termination.Kinds.{Kind, Starts, is_of}
use Rattle.html_rules_laws.proofs.Soundness.Acts.{act-aside}
use Rattle.html_rules_laws.proofs.Soundness.HeadAgain.{again, alone, opens-same, push-head-same, raw-same}
use Rattle.html_rules_laws.proofs.Soundness.Moves.{is_text_mode, template-topped}
use Rattle.html_rules_laws.proofs.Soundness.Rows.{opens, quiet, quiet-same, quiet-tame, raw_text_only, starts_template}
use Rattle.html_rules_laws.proofs.TreePreserved.StandingSteps.{insert_element-Standing}
use Rattle.html_rules_laws.proofs.Frames.Aside.{aside_kept}
use Rattle.html_rules_laws.proofs.TreePreserved.Heads.{pushed}
use Rattle.html_rules_laws.proofs.TreePreserved.Poised.{Poised, act-poised}
use Rattle.html_rules_laws.proofs.ModesPreserved.Fits.{at-root}
use Rattle.html_rules_laws.proofs.ModesPreserved.Heads.{IsOverRoot, head-part, head-template, loose_tags, loosened, over-root}
use Rattle.html_rules_laws.proofs.ModesPreserved.Likes.{IsLike, calm, calm-like, calm-nested, direct-nonempty, like-after}
use Rattle.html_rules_laws.proofs.ModesPreserved.Likes.{like-insert, like-nested, parts-direct, raw_row}
use Rattle.html_rules_laws.proofs.ModesPreserved.Openings.{Ready, opens-nested}
use Rattle.html_rules_laws.proofs.ModesPreserved.Parts.{is_loose_name, name-loose}
use Rattle.html_rules_laws.proofs.ModesPreserved.Resets.{template-part}
use Rattle.html_rules_laws.proofs.ModesPreserved.Stacks.{pushed-templates}
use Rattle.html_rules_laws.proofs.Bools.{no, or_by}
use Rattle.html_rules_laws.proofs.Frames.KeptBySteps.{template-keeps}

-- elements of different names are different nodes

local-of : Option QualName → List ℕ
local-of None = []
local-of (Some name) = name.local

apart-number : (f : Forest) (m n : ℕ) (name other : List ℕ) → element_name (data_of f m) ≡ Some
    (element_name_of Html name) → element_name (data_of f n) ≡ Some (element_name_of Html other) → (name ≡ other → ⊥) → nat_eq m n ≡ false
unfolding local-of
apart-number f m n name other h k differ = by (nat_eq m n) refl where
  by : (b : Bool) → nat_eq m n ≡ b → nat_eq m n ≡ false
  by true e = absurd (differ (ap local-of (sym h ∙ ap (λ n. element_name (data_of f n)) (eqb-true m n e) ∙ k)))
  by false e = e

loose-head : (name : List ℕ) → is_loose_name name parts ≡ true → name ≡ codes "head" → ⊥
unfolding names_of
loose-head name l e = let head : is_loose_name (codes "head") parts ≡ true =
    subst (λ name. is_loose_name name parts ≡ true) e l in true≢false (sym head)

template-head : (name : List ℕ) → is_among name (names_of set.Template) ≡ true → name ≡ codes "head" → ⊥
unfolding names_of
template-head name l e = let head : is_among (codes "head") (names_of set.Template) ≡ true =
    subst (λ name. is_among name (names_of set.Template) ≡ true) e l in true≢false (sym head)

-- the one that is not the head stays
taken-out : (rules : Rules) (n : ℕ) (x : Open) (xs : List Open) → nat_eq x.number n ≡ false → without_number n (x ∷ again rules n ∷ xs) ≡ x ∷ xs
taken-out rules n x xs e = rw e (ap (λ ys. x ∷ ys) (alone rules n xs))

head-among : is_among (codes "head") (names_of set.Head) ≡ true
unfolding names_of
head-among = refl

-- the current node is HTML's of the name of a tag
abbrev pub IsOnTop : Token → List Open → Type 0
IsOnTop (TagToken tag) xs = current_is (is_named tag.name) xs ≡ true
IsOnTop t xs = ⊥

pub same-name : (name : List ℕ) → bytes_eq name name ≡ true
same-name name = (bytes_eq-Decides name name).1 refl

-- what the rows find: the head, over the root
pub record IsAgain (n : ℕ) (q : State) : Type 0 where
  at : q.mode ≡ mode.AfterHead
  poised : Poised q
  pushed : Poised (push_head (Some n) q)
  over : IsOverRoot (ground_of q.context_elem) q.open_elems
  modes : are_template_modes q.template_modes ≡ true
  is : IsNested q

like-pushed : (n : ℕ) (q : State) → IsLike q (push_head (Some n) q)
like-pushed n q = record { context = refl; modes = refl; framed = λ e. e; form = refl; names = λ n name e. e }

calm-again : (a : Action) → calm a ≡ true → (kind : Kind) (t : Token) → is_of kind t ≡ true → (n : ℕ) (q : State)
    → IsAgain n q → IsNested (remove_from_stack n (act a t (push_head (Some n) q)))
unfolding remove_from_stack
calm-again a h kind t k n q w =
    let p : State = push_head (Some n) q in
    let r : State = act a t p in
    let tests = and_parts (quiet a) _ h in
    let aside = act-aside kind a (quiet-tame kind a tests.0) t p in
    let like = like-after q p r (like-pushed n q) (calm-like a h kind t k p w.pushed.listed w.pushed.upright.standing) in
    let elements : without_number n r.open_elems ≡ q.open_elems = ap (without_number n) (quiet-same a tests.0 t p) ∙ alone q.opts.rules n q.open_elems in
    like-nested q (remove_from_stack n r)
    (record {
      context = like.context;
      modes = like.modes;
      framed = like.framed;
      form = like.form;
      names = like.names;
    }) (ap open_templates elements) (rw (aside.mode, aside.original, elements) w.is.fits) w.is

-- what is opened for a tag that is none of the head's stands where the head stood
abbrev opened_for : Tag → State → Open
opened_for tag q = record { number = node_count q.forest; namespace = Html; name = tag.name; rules = q.opts.rules }

text-elements : (tag : Tag) → is_loose_name tag.name parts ≡ true → (n : ℕ) (q : State) → IsAgain n q
    → without_number n (set_mode mode.Text (save_mode (insert_element_for tag (push_head (Some n) q)))).open_elems ≡
    opened_for tag q ∷ q.open_elems
unfolding set_mode save_mode insert_element
text-elements tag l n q w =
    let p : State = push_head (Some n) q in
    let r : State = set_mode mode.Text (save_mode (insert_element_for tag p)) in
    let opened = (insert_element-Standing Html tag.name tag.attrs tag.had_duplicate_attributes tt p w.pushed.upright.standing).opened in
    taken-out q.opts.rules n (opened_for tag q) q.open_elems
    (apart-number r.forest (node_count q.forest) n tag.name (codes "head") opened.0.named opened.1.0.named (loose-head tag.name l))

-- the text of an element
text-again : (tag : Tag) → is_loose_name tag.name parts ≡ true → (n : ℕ) (q : State) → IsAgain n q
    → IsNested (remove_from_stack n (set_mode mode.Text (save_mode (insert_element_for tag (push_head (Some n) q)))))
unfolding remove_from_stack set_mode save_mode insert_element
text-again tag l n q w =
    let p : State = push_head (Some n) q in
    let r : State = set_mode mode.Text (save_mode (insert_element_for tag p)) in
    let x : Open = opened_for tag q in
    let loose = name-loose tag.name l (node_count q.forest) q.opts.rules in
    let elements : without_number n r.open_elems ≡ x ∷ q.open_elems = text-elements tag l n q w in
    let fits = parts-direct q.mode (ap is_text_mode w.at) (ground_of q.context_elem)
    (context_is set.Template q.context_elem) q.orig_mode q.open_elems w.is.fits in
    let some = direct-nonempty q.mode (ap is_first w.at) (ground_of q.context_elem)
    (context_is set.Template q.context_elem) q.open_elems fits in
    let like = like-after q p (insert_element_for tag p) (like-pushed n q)
    (like-insert tag.name tag.attrs tag.had_duplicate_attributes p w.pushed.upright.standing) in
    like-nested q (remove_from_stack n r)
    (record { context = like.context; modes = like.modes; framed = like.framed; form = like.form; names = like.names })
    (ap open_templates elements ∙ pushed-templates x q.open_elems loose)
    (rw (elements, loose, some) fits) w.is

raw-again : (kind : Kind) (a : Action) → raw_row kind a ≡ true → (t : Token) → is_of kind t ≡ true
    → (n : ℕ) (q : State) → IsAgain n q → IsNested (remove_from_stack n (act a t (push_head (Some n) q)))
raw-again kind a h t k n q w = let tests = and_parts (raw_text_only a) (loose_tags kind) h in by a tests.0 where
  by : (a : Action) → raw_text_only a ≡ true → IsNested (remove_from_stack n (act a t (push_head (Some n) q)))
  by (Then InsertElement (Then SaveMode (SwitchTo mode.Text))) r =
      loosened kind (and_parts (raw_text_only a) (loose_tags kind) h).1 t k
      (λ t. IsNested (remove_from_stack n (act (Then InsertElement (Then SaveMode (SwitchTo mode.Text))) t
      (push_head (Some n) q)))) (λ tag l. text-again tag l n q w)
  by (Then InsertElement b) r = no r
  by a r = no r

-- the current node is then the element of the tag's name
pub raw-on-top : (kind : Kind) (a : Action) → raw_row kind a ≡ true → (t : Token) → is_of kind t ≡ true
    → (n : ℕ) (q : State) → IsAgain n q → IsOnTop t (remove_from_stack n (act a t (push_head (Some n) q))).open_elems
unfolding remove_from_stack
raw-on-top kind a h t k n q w = let tests = and_parts (raw_text_only a) (loose_tags kind) h in by a tests.0 where
  by : (a : Action) → raw_text_only a ≡ true → IsOnTop t (without_number n (act a t (push_head (Some n) q)).open_elems)
  by (Then InsertElement (Then SaveMode (SwitchTo mode.Text))) r =
      loosened kind (and_parts (raw_text_only a) (loose_tags kind) h).1 t k
      (λ t. IsOnTop t (without_number n (act (Then InsertElement (Then SaveMode (SwitchTo mode.Text))) t
      (push_head (Some n) q)).open_elems))
      (λ tag l. subst (λ xs. current_is (is_named tag.name) xs ≡ true) (sym (text-elements tag l n q w)) (same-name tag.name))
  by (Then InsertElement b) r = no r
  by a r = no r

-- a template

head-count : (rules : Rules) (n : ℕ) (xs : List Open) → open_templates (again rules n ∷ xs) ≡ open_templates xs
head-count rules n xs = rw (head-template (codes "head") head-among n rules) refl

again-ready : (n : ℕ) (q : State) → IsAgain n q → Ready (push_head (Some n) q)
again-ready n q w = record {
  standing = w.pushed.upright.standing;
  nested = rw (head-part (codes "head") head-among n q.opts.rules, w.over.root, w.over.document, w.over.nested) refl;
  modes = w.modes;
  count = ap (λ k. k + one_if (context_is set.Template q.context_elem)) (head-count q.opts.rules n q.open_elems) ∙ w.is.count;
  framed = λ e. head-count q.opts.rules n q.open_elems ∙ w.is.framed e;
  form = w.is.form;
}

-- the head leaves from under it
uncovered-nested : (rules : Rules) (n : ℕ) (x : Open) (xs : List Open) (r : State) → r.open_elems ≡ x ∷ again rules n ∷ xs
    → nat_eq x.number n ≡ false → part_of x ≡ Contents → top xs ≡ Root → nested (ground_of r.context_elem) xs ≡ true
    → r.mode ≡ mode.InTemplate → IsNested r → IsNested (remove_from_stack n r)
unfolding remove_from_stack
uncovered-nested rules n x xs r elements apart part root nest at h =
    let left : without_number n r.open_elems ≡ x ∷ xs = ap (without_number n) elements ∙ taken-out rules n x xs apart in
    let same : open_templates (without_number n r.open_elems) ≡ open_templates r.open_elems =
    ap open_templates left ∙ ap (λ k. choose (is_in set.Template x) (λ _. suc k) (λ _. k)) (sym (head-count rules n xs))
    ∙ sym (ap open_templates elements) in
    record {
      fits = rw (at, left) (rw (part, root, nest) refl);
      count = ap (λ k. k + one_if (context_is set.Template r.context_elem)) same ∙ h.count;
      framed = λ e. same ∙ h.framed e;
      form = h.form;
    }

opened-again : (names : List (List ℕ)) (tag : Tag) → starts_template (Starts names) ≡ true → is_of (Starts names)
    (TagToken tag) ≡ true → (n : ℕ) (q : State) → IsAgain n q
    → IsNested (remove_from_stack n
    (insert_template tag (push_template_mode mode.InTemplate
    (set_mode mode.InTemplate (frameset_not_ok (push_marker (push_head (Some n) q)))))))
unfolding push_marker frameset_not_ok set_mode push_template_mode
opened-again names tag h k n q w =
    let a : Action = Then InsertMarker
    (Then FramesetNotOk (Then (SwitchTo mode.InTemplate) (Then (PushTemplateMode mode.InTemplate) InsertTemplate))) in
    let p : State = push_head (Some n) q in
    let s : State = push_template_mode mode.InTemplate (set_mode mode.InTemplate (frameset_not_ok (push_marker p))) in
    let r : State = insert_template tag s in
    let name = among-all tag.name names (names_of set.Template) h (and_parts (is_start_tag tag.kind) _ k).1 in
    let above = template-topped tag s in
    let aside = template-keeps aside_kept tag s in
    let x : Open = record { number = above.number; namespace = Html; name = tag.name; rules = q.opts.rules } in
    let elements : r.open_elems ≡ x ∷ again q.opts.rules n ∷ q.open_elems = above.elements in
    let poised : Poised r = act-poised (Starts names) a h (TagToken tag) k p w.pushed in
    let opened : AreOpened r.forest (x ∷ again q.opts.rules n ∷ q.open_elems) = subst (AreOpened r.forest) elements poised.upright.standing.opened in
    let apart = apart-number r.forest above.number n tag.name (codes "head") opened.0.named opened.1.0.named
    (template-head tag.name name) in
    let nest : IsNested r = opens-nested (Starts names) a refl h (TagToken tag) k p (again-ready n q w)
    (rw (head-part (codes "head") head-among n q.opts.rules) refl) in
    uncovered-nested q.opts.rules n x q.open_elems r elements apart (template-part x name) w.over.root (rw aside.context w.over.nested) aside.mode nest

opens-again : (kind : Kind) (a : Action) → opens a ≡ true → starts_template kind ≡ true → (t : Token)
    → is_of kind t ≡ true → (n : ℕ) (q : State) → IsAgain n q → IsNested (remove_from_stack n (act a t (push_head (Some n) q)))
opens-again (Starts names)
    (Then InsertMarker (Then FramesetNotOk
    (Then (SwitchTo mode.InTemplate) (Then (PushTemplateMode mode.InTemplate) InsertTemplate)))) o h
    (TagToken tag) k n q w = opened-again names tag h k n q w
opens-again (Starts names)
    (Then InsertMarker (Then FramesetNotOk
    (Then (SwitchTo mode.InTemplate) (Then (PushTemplateMode mode.InTemplate) InsertTemplate)))) o h t k n q w = no k
opens-again kind (Then InsertMarker
    (Then FramesetNotOk (Then (SwitchTo mode.InTemplate) (Then (PushTemplateMode mode.InTemplate) InsertTemplate)))) o h t k n q w = no h
opens-again kind a o h t k n q w = no o

-- the rows that take such a tag

abbrev pub again_row : Kind → Action → Conclusion → Bool
again_row kind a ReportEncoding = calm a
again_row kind a (RawText raw) = raw_row kind a
again_row kind a Done = calm a || (opens a && starts_template kind)
again_row kind a e = false

row-again : (kind : Kind) (a : Action) (e : Conclusion) → again_row kind a e ≡ true
    → (using : InsertionMode → Token → State → Turn) (t : Token) → is_of kind t ≡ true → (script : ℕ) (n : ℕ) (q : State) → IsAgain n q
    → IsNested (remove_from_stack n (concluded using e t script (act a t (push_head (Some n) q))).state)
row-again kind a ReportEncoding h using t k script n q w = calm-again a h kind t k n q w
row-again kind a (RawText raw) h using t k script n q w = raw-again kind a h t k n q w
row-again kind a Done h using t k script n q w = or_by (calm a) _ h (λ c. calm-again a c kind t k n q w)
    (λ o. let tests = and_parts (opens a) (starts_template kind) o in opens-again kind a tests.0 tests.1 t k n q w)
row-again kind a e h using t k script n q w = no h

-- these leave the pointer to the head as it is

calm-head : (kind : Kind) (a : Action) → calm a ≡ true → (t : Token) (s : State) → (act a t s).head_elem ≡ s.head_elem
calm-head kind a h t s = (act-aside kind a (quiet-tame kind a (and_parts (quiet a) _ h).0) t s).head

same-head : (kind : Kind) (a : Action) (e : Conclusion) → again_row kind a e ≡ true
    → (using : InsertionMode → Token → State → Turn) (t : Token) (script : ℕ) (s : State)
    → (concluded using e t script (act a t s)).state.head_elem ≡ s.head_elem
same-head kind a ReportEncoding h using t script s = calm-head kind a h t s
same-head kind a (RawText raw) h using t script s = raw-same a (and_parts (raw_text_only a) _ h).0 t s
same-head kind a Done h using t script s = or_by (calm a) _ h (λ c. calm-head kind a c t s)
    (λ o. opens-same a (and_parts (opens a) (starts_template kind) o).0 t s)
same-head kind a e h using t script s = no h

-- one of these rows, after an error and the head, which then leaves: what holds where the head leaves holds of what is left
pub again-by : (P : State → Type 0) (s : State) → s.mode ≡ mode.AfterHead → Poised s → is_some s.head_elem ≡ true
    → are_template_modes s.template_modes ≡ true → IsNested s → (before kind : Kind) (a : Action) (e : Conclusion)
    → again_row kind a e ≡ true → (using : InsertionMode → Token → State → Turn) (t : Token)
    → is_of before t ≡ true → (script : ℕ)
    → ((n : ℕ) (q : State) → IsAgain n q → P (remove_from_stack n (concluded using e t script (act a t (push_head (Some n) q))).state))
    → P (act RemoveHeadElem t (concluded using e t script (act a t (act (Then ParseError PushHeadElem) t s))).state)
unfolding push_head_elem remove_head_elem
again-by P s at poised some modes n before kind a e h using t g script left =
    let q : State = act ParseError t s in
    let aside = act-aside before ParseError refl t s in
    let same : (concluded using e t script (act a t (push_head q.head_elem q))).state.head_elem ≡ q.head_elem =
    same-head kind a e h using t script (push_head q.head_elem q) ∙ push-head-same q.head_elem q in
    let erred = act-poised before ParseError refl t g s poised in
    let nest = calm-nested ParseError refl before t g s poised.listed poised.upright.standing n in
    rw same (by q aside.mode erred nest (rw aside.modes modes) q.head_elem erred.upright.head (ap is_some aside.head ∙ some))
  where
    by : (q : State) → q.mode ≡ s.mode → Poised q → IsNested q → are_template_modes q.template_modes ≡ true
        → (o : Option ℕ) → IfSome o (λ n. element_name (data_of q.forest n) ≡ Some (element_name_of Html (codes "head"))) → is_some o ≡ true
        → P (remove_from_stack_if o (concluded using e t script (act a t (push_head o q))).state)
    by q same erred nest modes None named some = no some
    by q same erred nest modes (Some n) named some =
        let over = over-root (ground_of q.context_elem) q.open_elems (rw (same ∙ at) at nest.fits) in
        left n q (record {
          at = same ∙ at;
          poised = erred;
          pushed = pushed (Some n) q named (sym (at-root q.open_elems) ∙ ap is_root over.root) erred;
          over = over;
          modes = modes;
          is = nest;
        })

pub again-nested : (s : State) → s.mode ≡ mode.AfterHead → Poised s → is_some s.head_elem ≡ true
    → are_template_modes s.template_modes ≡ true → IsNested s → (before kind : Kind) (a : Action) (e : Conclusion)
    → again_row kind a e ≡ true → (using : InsertionMode → Token → State → Turn) (t : Token)
    → is_of before t ≡ true → is_of kind t ≡ true → (script : ℕ)
    → IsNested (act RemoveHeadElem t (concluded using e t script (act a t (act (Then ParseError PushHeadElem) t s))).state)
again-nested s at poised some modes n before kind a e h using t g k script =
    again-by IsNested s at poised some modes n before kind a e h using t g script (λ n q w. row-again kind a e h using t k script n q w)
