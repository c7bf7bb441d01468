-- Tokens keep the context of a fragment, and make no tree smaller.
use Rattle.std.proofs.Common.{◌≡◌, ◌∙◌, ℕ, ◌≤◌, Bool, true, false, List, [], ◌∷◌, Option, Some, None, refl, arith}
use Rattle.std.specs.Prelude.{IfSome}
use Rattle.markup.specs.Forest.{Forest, IsNode, Last, node_count, with_node}
use Rattle.markup.specs.Forest.NodeData.{Doctype as DoctypeNode}
use Rattle.markup.specs.declared.quirks.QuirksMode.{QuirksMode}
use Rattle.html_tokens.specs.declared.token.Doctype.{Doctype}
use Rattle.html_tokens.specs.declared.token.Token.{Token}
use Rattle.html_tokens.specs.declared.token.Token.TheVariants.{DoctypeToken, TagToken, CharacterTokens, EOFToken}
use Rattle.html_rules.specs.Actions.{act, restore_mode, for_tag, forget_form_elem, insert_form_void, set_form_elem}
use Rattle.html_rules.specs.Actions.{set_head_elem, set_ignore_lf, set_mode, set_quirks_mode}
use Rattle.html_rules.specs.Choice.{choose}
use Rattle.html_rules.specs.Conditions.{holds}
use Rattle.html_rules.specs.Doctypes.{doctype_error, quirks_of}
use Rattle.html_rules.specs.Names.{Html}
use Rattle.html_rules.specs.Places.{append_doctype_to_document, create_root, or_empty}
use Rattle.html_rules.specs.Reset.{reset_insertion_mode}
use Rattle.html_rules.specs.Modes.Foreign.{in_foreign_content}
use Rattle.html_rules.specs.Rules.{Settled, rows, settle}
use Rattle.html_rules.specs.Stack.{parse_error}
use Rattle.html_rules.specs.State.{Open, State}
use Rattle.html_rules.specs.Step.{followed_by, after_line_feed, doctype_taken, first_doctype_taken, if_kept, taken, taken_by, doctype_settled, ends_table_text}
use Rattle.html_rules.specs.Step.{text_taken, untouched}
use Rattle.html_rules.specs.Table.{Action, Row, Conclusion, UsingThen, CreateNewRoot, Then, When, SetHeadElem, SetFormElem}
use Rattle.html_rules.specs.Table.{ForgetFormElem, InsertFormVoid}
use Rattle.html_rules.specs.declared.insertion_mode.InsertionMode.{InsertionMode}
use Rattle.html_rules.specs.declared.insertion_mode.InsertionMode.TheVariants as mode
use Rattle.html_rules_laws.proofs.Frames.KeptByRows.{IsKept as IsKeptByRows, all_pass, settle-kept, then_passes}
use Rattle.html_rules_laws.proofs.Frames.Grown.{IsGrown, IsKept, act-grows, count-put, grown-after, grown-node, grown-same}
use Rattle.html_rules_laws.proofs.Frames.Grown.{parse_error-grows, put_element-grows}

-- a state has the context of another, and no fewer nodes
pub record Larger (s r : State) : Type 0 where
  pub grown : IsGrown s.forest r.forest
  pub context : r.context_elem ≡ s.context_elem

larger-same : (s : State) → Larger s s
larger-same s = record { grown = grown-same s.forest; context = refl }

larger-after : (s r q : State) → Larger s r → Larger r q → Larger s q
larger-after s r q h k = record { grown = grown-after s.forest r.forest q.forest h.grown k.grown; context = k.context ∙ h.context }

larger-either : (b : Bool) (s x y : State) → Larger s x → Larger s y → Larger s (choose b (λ _. x) (λ _. y))
larger-either true s x y h k = h
larger-either false s x y h k = k

of-kept : (s r : State) → IsKept s r → Larger s r
of-kept s r h = record { grown = h.grown; context = h.context }

form-void-larger : (t : Token) (s : State) → Larger s (for_tag insert_form_void t s)
form-void-larger (TagToken tag) s = let put = put_element-grows Html tag.name tag.attrs tag.had_duplicate_attributes
    s in record { grown = put.grown; context = put.context }
form-void-larger _ s = larger-same s

act-larger : (a : Action) (t : Token) (s : State) → Larger s (act a t s)
unfolding set_head_elem set_form_elem forget_form_elem
act-larger (Then a b) t s = larger-after s (act a t s) (act b t (act a t s)) (act-larger a t s) (act-larger b t (act a t s))
act-larger (When c a) t s = larger-either (holds c t s) s (act a t s) s (act-larger a t s) (larger-same s)
act-larger SetHeadElem t s = record { grown = grown-same s.forest; context = refl }
act-larger SetFormElem t s = record { grown = grown-same s.forest; context = refl }
act-larger ForgetFormElem t s = record { grown = grown-same s.forest; context = refl }
act-larger InsertFormVoid t s = form-void-larger t s
act-larger a t s = of-kept s (act a t s) (act-grows a refl t s)

moved-larger : (m : InsertionMode) (s : State) → Larger s (set_mode m s)
unfolding set_mode
moved-larger m s = record { grown = grown-same s.forest; context = refl }

back-larger : (s : State) → Larger s (restore_mode s)
unfolding restore_mode
back-larger s = record { grown = grown-same s.forest; context = refl }

error-larger : (s : State) → Larger s (parse_error s)
error-larger s = of-kept s (parse_error s) (parse_error-grows s)

abbrev any : Action → Bool
any a = true

then-passes : (e : Conclusion) → then_passes any e ≡ true
then-passes (UsingThen m after) = refl
then-passes e = refl

rows-pass : (rs : List Row) → all_pass any rs ≡ true
rows-pass [] = refl
rows-pass (r ∷ rs) = rw (then-passes r.ends, rows-pass rs) refl

by-rows : IsKeptByRows Larger any
by-rows = record {
  same = larger-same;
  after = larger-after;
  acts = λ a h t s. act-larger a t s;
  moves = moved-larger;
  returns = back-larger;
  errs = error-larger;
  modes = λ m. rows-pass (rows m);
  foreign = rows-pass in_foreign_content;
  nothing = refl;
}

pub settle-larger : (t : Token) (s : State) → Larger s (settle t s).state
settle-larger t s = settle-kept Larger any by-rows t s

text-larger : (text : List ℕ) (before : Settled) → Larger before.state (text_taken text before).state
text-larger [] before = larger-same before.state
text-larger (c ∷ cs) before =
    let t : Token = CharacterTokens (c ∷ []) in
    larger-after before.state (settle t before.state).state (text_taken (c ∷ cs) before).state
    (settle-larger t before.state) (text-larger cs (followed_by before (settle t before.state)))

put-larger : (d : Doctype) (s : State) → Larger s (append_doctype_to_document d s)
unfolding append_doctype_to_document
put-larger d s =
    let f : Forest = with_node s.forest (DoctypeNode (or_empty d.name) (or_empty d.public_id) (or_empty d.system_id)) in
    let made = grown-node s.forest (DoctypeNode (or_empty d.name) (or_empty d.public_id) (or_empty d.system_id)) in
    let less : node_count s.forest ≤ node_count f = made.nodes in
    let same = count-put f (Last 0) (node_count s.forest) in
    record { grown = record { nodes = omega arith }; context = refl }

quirks-larger : (q : QuirksMode) (s : State) → Larger s (set_quirks_mode q s)
unfolding set_quirks_mode
quirks-larger q s = record { grown = record { nodes = omega arith }; context = refl }

first-larger : (d : Doctype) (s : State) → Larger s (first_doctype_taken d s)
first-larger d s =
    let told : State = choose (doctype_error d) (λ _. parse_error s) (λ _. s) in
    let kept : State = if_kept s.opts.drop_doctype d told in
    let laid : State = set_quirks_mode (quirks_of s.opts.rules s.opts.iframe_srcdoc d) kept in
    let one = larger-either (doctype_error d) s (parse_error s) s (error-larger s) (larger-same s) in
    let two = larger-either s.opts.drop_doctype told told (append_doctype_to_document d told) (larger-same told) (put-larger d told) in
    larger-after s told _ one
    (larger-after told kept _ two
    (larger-after kept laid _ (quirks-larger (quirks_of s.opts.rules s.opts.iframe_srcdoc d) kept) (moved-larger mode.BeforeHtml laid)))

doctype-larger : (m : InsertionMode) (d : Doctype) (s : State) → Larger s (doctype_taken m d s)
doctype-larger mode.Initial d s = first-larger d s
doctype-larger m d s = error-larger s

doctype_settled-larger : (e : Bool) (d : Doctype) (s : State) → Larger s (doctype_settled e d s).state
doctype_settled-larger true d s = settle-larger (DoctypeToken d) s
doctype_settled-larger false d s = doctype-larger s.mode d s

taken_by-larger : (t : Token) (b : Bool) (s : State) → Larger s (taken_by b t s).state
taken_by-larger (CharacterTokens text) b s = text-larger (after_line_feed b text) (untouched s)
taken_by-larger (DoctypeToken d) b s = doctype_settled-larger (ends_table_text s.opts.rules s.mode) d s
taken_by-larger t b s = settle-larger t s

unlined-larger : (s : State) → Larger s (set_ignore_lf false s)
unfolding set_ignore_lf
unlined-larger s = record { grown = grown-same s.forest; context = refl }

pub taken-larger : (t : Token) (s : State) → Larger s (taken t s).state
unfolding taken
taken-larger t s = larger-after s (set_ignore_lf false s) _ (unlined-larger s) (taken_by-larger t s.ignore_lf (set_ignore_lf false s))

context-in : (f g : Forest) (o : Option Open) → IsGrown f g → IfSome o (λ c. IsNode f c.number) → IfSome o (λ c. IsNode g c.number)
context-in f g None grown h = tt
context-in f g (Some c) grown h = let less : node_count f ≤ node_count g = grown.nodes in omega arith

-- the context stays a node of the tree
pub context-stays : (s r : State) → Larger s r → IfSome s.context_elem (λ c. IsNode s.forest c.number)
    → IfSome r.context_elem (λ c. IsNode r.forest c.number)
context-stays s r h is = rw h.context (context-in s.forest r.forest s.context_elem h.grown is)

-- so it does where the root is created and the mode reset
pub root-larger : (s : State) → Larger s (reset_insertion_mode (create_root [] s))
unfolding reset_insertion_mode
root-larger s = let is = act-larger CreateNewRoot EOFToken s in record { grown = is.grown; context = is.context }
