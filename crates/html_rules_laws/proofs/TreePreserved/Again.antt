-- A start tag of what belongs into a head is not taken again in the mode that opens the head again.
use Rattle.std.proofs.Common.{◌≡◌, ◌∙◌, ℕ, zero, suc, Bool, true, false, List, [], Option, Some, None, refl, sym, ap, subst, true≢false}
use Rattle.std.specs.Prelude.{◌&&◌}
use Rattle.std.proofs.lemmas.Bool.{and_parts}
use Rattle.html_tokens.specs.declared.token.Token.{Token}
use Rattle.html_tokens.specs.declared.token.Token.TheVariants.{TagToken}
use Rattle.html_rules.specs.Actions.{act, restore_mode, or_mode, set_mode}
use Rattle.html_rules.specs.Choice.{choose}
use Rattle.html_rules.specs.ForeignContent.{is_foreign}
use Rattle.html_rules.specs.Modes.Foreign.{in_foreign_content}
use Rattle.html_rules.specs.Rules.{Finished, Again, Turn, concluded, encoding_reply, first_fit, most_modes, rows, turn}
use Rattle.html_rules.specs.Rules.{turn_by_row, using_rules_for}
use Rattle.html_rules.specs.Sets.{mathml_names_of, names_of, svg_names_of}
use Rattle.html_rules.specs.State.{State, current_number}
use Rattle.html_rules.specs.Table.{Row, Action, InsertPendingText, Conclusion, Done, Acknowledged, Reprocess}
use Rattle.html_rules.specs.Table.{ReprocessInOriginal, ReprocessInMode, Using, UsingThen, UsingCurrentMode, RawText, PlainText}
use Rattle.html_rules.specs.Table.{RunScript, ReportEncoding}
use Rattle.html_rules.specs.Tokens.{attributes_of}
use Rattle.html_rules.specs.Encodings.{encoding_hint}
use Rattle.html_rules.specs.declared.insertion_mode.InsertionMode.{InsertionMode}
use Rattle.html_rules.specs.declared.insertion_mode.InsertionMode.TheVariants as mode
use Rattle.html_rules_laws.specs.Upright.{is_head_start}
use Rattle.html_rules_laws.proofs.Termination.Kinds.{Kind, Starts, is_of}
use Rattle.html_rules_laws.proofs.Soundness.Acts.{act-aside, tame_in}
use Rattle.html_rules_laws.proofs.Soundness.Scan.{scan, scan-holds}
use Rattle.html_rules_laws.proofs.TreePreserved.Rows.{head_contents}
use Rattle.html_rules_laws.proofs.Bools.{no}
use Rattle.html_rules_laws.proofs.EachMode.{each-mode}

-- modes that are not come to again
abbrev avoids : InsertionMode → Bool
avoids mode.AfterHead = false
avoids mode.InTableText = false
avoids m = true

-- where a token is taken again
Avoids : Turn → Type 0
Avoids made = made.ends ≡ Again → avoids made.state.mode ≡ true

abbrev ends_avoiding : (Kind → InsertionMode → Bool) → Kind → Conclusion → Bool
ends_avoiding uses kind (Reprocess to) = avoids to
ends_avoiding uses kind ReprocessInOriginal = false
ends_avoiding uses kind ReprocessInMode = false
ends_avoiding uses kind (Using to) = uses kind to
ends_avoiding uses kind (UsingThen to b) = tame_in kind b && uses kind to
ends_avoiding uses kind UsingCurrentMode = false
ends_avoiding uses kind e = true

abbrev row_avoiding : (Kind → InsertionMode → Bool) → Kind → Row → Bool
row_avoiding uses kind r = ends_avoiding uses kind r.ends

unfoldable uses_avoiding : ℕ → Kind → InsertionMode → Bool
uses_avoiding zero kind to = true
uses_avoiding (suc n) kind to = scan (row_avoiding (uses_avoiding n)) kind (rows to)

finished : {P : Type 0} (b : Bool) → Finished b ≡ Again → P
finished b e = absurd (cc)

encoded : {P : Type 0} (o : Option (List ℕ)) → encoding_reply o ≡ Again → P
encoded None e = absurd (cc)
encoded (Some label) e = absurd (cc)

ends-avoiding : (uses : Kind → InsertionMode → Bool) (using : InsertionMode → Token → State → Turn) (t : Token)
    → ((kind : Kind) (to : InsertionMode) → uses kind to ≡ true → is_of kind t ≡ true → (s : State)
    → Avoids (using to t s)) → (kind : Kind) (e : Conclusion) → ends_avoiding uses kind e ≡ true → is_of kind t ≡ true
    → (script : ℕ) (s : State) → Avoids (concluded using e t script s)
unfolding Avoids set_mode
ends-avoiding uses using t go kind Done h f script s again = finished false again
ends-avoiding uses using t go kind Acknowledged h f script s again = finished true again
ends-avoiding uses using t go kind (Reprocess to) h f script s again = h
ends-avoiding uses using t go kind ReprocessInOriginal h f script s again = no h
ends-avoiding uses using t go kind ReprocessInMode h f script s again = no h
ends-avoiding uses using t go kind (Using to) h f script s again = go kind to h f s again
ends-avoiding uses using t go kind (UsingThen to b) h f script s again = let parts = and_parts (tame_in kind b)
    (uses kind to) h in ap avoids (act-aside kind b parts.0 t (using to t s).state).mode ∙ go kind to parts.1 f s again
ends-avoiding uses using t go kind UsingCurrentMode h f script s again = no h
ends-avoiding uses using t go kind (RawText raw) h f script s again = absurd (cc)
ends-avoiding uses using t go kind PlainText h f script s again = absurd (cc)
ends-avoiding uses using t go kind RunScript h f script s again = absurd (cc)
ends-avoiding uses using t go kind ReportEncoding h f script s again = encoded (encoding_hint (attributes_of t)) again

uses-avoiding : (n : ℕ) (t : Token) (kind : Kind) (to : InsertionMode) → uses_avoiding n kind to ≡ true
    → is_of kind t ≡ true → (s : State) → Avoids (using_rules_for n to t s)
unfolding uses_avoiding using_rules_for Avoids
uses-avoiding zero t kind to h f s = λ again. finished false again
uses-avoiding (suc n) t kind to h f s =
    scan-holds (row_avoiding (uses_avoiding n)) (λ r. Avoids (turn_by_row (using_rules_for n) r t s)) t s
    (λ inner r k g of fits. ends-avoiding (uses_avoiding n) (using_rules_for n) t (uses-avoiding n t) inner r.ends k
    g (current_number s.open_elems) (act r.does t s))
    (λ again. finished false again) (rows to) kind h f

-- the kept text of a table is told, and the original mode comes back

-- what a token finds where it is taken again
pub record IsNext (r : State) : Type 0 where
  pub head : r.mode ≡ mode.AfterHead → ⊥
  pub original : r.mode ≡ mode.InTableText → r.orig_mode ≡ Some mode.AfterHead → ⊥

avoiding-next : (r : State) → avoids r.mode ≡ true → IsNext r
avoiding-next r h = record { head = λ e. true≢false (sym h ∙ ap avoids e); original = λ e o. true≢false (sym h ∙ ap avoids e) }

abbrev is_told : Action → Conclusion → Bool
is_told InsertPendingText ReprocessInOriginal = true
is_told a e = false

abbrev tells : Kind → Row → Bool
tells kind r = is_told r.does r.ends

or-next : (o : Option InsertionMode) → (o ≡ Some mode.AfterHead → ⊥) → or_mode o mode.InTableText ≡ mode.AfterHead → ⊥
or-next None h e = absurd (cc)
or-next (Some m) h e = h (ap Some e)

told-next : (using : InsertionMode → Token → State → Turn) (a : Action) (e : Conclusion) → is_told a e ≡ true
    → (t : Token) (script : ℕ) (s : State) → s.mode ≡ mode.InTableText → (s.orig_mode ≡ Some mode.AfterHead → ⊥)
    → IsNext (concluded using e t script (act a t s)).state
unfolding restore_mode
told-next using InsertPendingText ReprocessInOriginal h t script s at original =
    let aside = act-aside (Starts []) InsertPendingText refl t s in
    record { head = λ e. or-next s.orig_mode original (rw (aside.original, aside.mode, at) at e); original = λ e o. absurd (cc) }
told-next using a e h t script s at original = no h

-- the rows of a mode, and those of foreign content in that mode

abbrev is_table_text : InsertionMode → Bool
is_table_text mode.InTableText = true
is_table_text m = false

abbrev next_ok : Kind → InsertionMode → Bool
next_ok kind m = choose (is_table_text m) (λ _. scan tells kind (rows mode.InTableText)) (λ _. uses_avoiding 4 kind m)

table-text : (m : InsertionMode) → is_table_text m ≡ true → m ≡ mode.InTableText
table-text mode.InTableText h = refl
table-text m h = no h

Nexts : Turn → Type 0
Nexts made = made.ends ≡ Again → IsNext made.state

mode-next : (t : Token) (kind : Kind) (m : InsertionMode) → next_ok kind m ≡ true → is_of kind t ≡ true
    → (s : State) → s.mode ≡ m → (m ≡ mode.InTableText → s.orig_mode ≡ Some mode.AfterHead → ⊥) → Nexts (using_rules_for 4 m t s)
unfolding Nexts Avoids using_rules_for
mode-next t kind m h f s at original = by (is_table_text m) refl h where
  by : (b : Bool) → is_table_text m ≡ b → choose b (λ _. scan tells kind (rows mode.InTableText))
      (λ _. uses_avoiding 4 kind m) ≡ true → Nexts (using_rules_for 4 m t s)
  by true e h =
      let same = table-text m e in
      subst (λ m. Nexts (using_rules_for 4 m t s)) (sym same)
      (scan-holds tells (λ r. Nexts (turn_by_row (using_rules_for 3) r t s)) t s
      (λ inner r k g of fits again. told-next (using_rules_for 3) r.does r.ends k t (current_number s.open_elems) s
      (at ∙ same) (original same))
      (λ again. finished false again) (rows mode.InTableText) kind h f)
  by false e h = λ again. avoiding-next (using_rules_for 4 m t s).state (uses-avoiding 4 t kind m h f s again)

abbrev foreign_ends : InsertionMode → Kind → Action → Conclusion → Bool
foreign_ends m kind a Done = true
foreign_ends m kind a Acknowledged = true
foreign_ends m kind a UsingCurrentMode = tame_in kind a && next_ok kind m
foreign_ends m kind a e = false

abbrev foreign_row : InsertionMode → Kind → Row → Bool
foreign_row m kind r = foreign_ends m kind r.does r.ends

foreign-next : (t : Token) (m : InsertionMode) (kind : Kind) (a : Action) (e : Conclusion)
    → foreign_ends m kind a e ≡ true → is_of kind t ≡ true → (script : ℕ) (s : State) → s.mode ≡ m
    → (m ≡ mode.InTableText → s.orig_mode ≡ Some mode.AfterHead → ⊥)
    → Nexts (concluded (using_rules_for 4) e t script (act a t s))
unfolding Nexts
foreign-next t m kind a Done h f script s at original = λ again. finished false again
foreign-next t m kind a Acknowledged h f script s at original = λ again. finished true again
foreign-next t m kind a UsingCurrentMode h f script s at original =
    let parts = and_parts (tame_in kind a) (next_ok kind m) h in
    let aside = act-aside kind a parts.0 t s in
    let same : (act a t s).mode ≡ m = aside.mode ∙ at in
    mode-next t kind (act a t s).mode (subst (λ m. next_ok kind m ≡ true) (sym same) parts.1) f (act a t s) refl
    (λ e o. original (sym same ∙ e) (sym aside.original ∙ o))
foreign-next t m kind a e h f script s at original = no h

mode_avoiding : InsertionMode → Bool
mode_avoiding m = next_ok (Starts head_contents) m && scan (foreign_row m) (Starts head_contents) in_foreign_content

modes-avoid : (m : InsertionMode) → mode_avoiding m ≡ true
unfolding mode_avoiding uses_avoiding rows names_of mathml_names_of svg_names_of
modes-avoid = each-mode (λ m. mode_avoiding m) refl

head-kind : (t : Token) → is_head_start t ≡ true → is_of (Starts head_contents) t ≡ true
unfolding names_of
head-kind (TagToken tag) h = h
head-kind t h = no h

-- one turn
pub turn-next : (t : Token) (s : State) → is_head_start t ≡ true
    → (s.mode ≡ mode.InTableText → s.orig_mode ≡ Some mode.AfterHead → ⊥) → (turn t s).ends ≡ Again → IsNext (turn t s).state
unfolding turn mode_avoiding Nexts
turn-next t s h original = by (is_foreign s t) where
  parts : (next_ok (Starts head_contents) s.mode ≡ true) × (scan (foreign_row s.mode) (Starts head_contents) in_foreign_content ≡ true)
  parts = and_parts (next_ok (Starts head_contents) s.mode) _ (modes-avoid s.mode)

  by : (b : Bool) → (choose b (λ _. turn_by_row (using_rules_for most_modes) (first_fit in_foreign_content t s) t s)
      (λ _. using_rules_for most_modes s.mode t s)).ends ≡ Again
      → IsNext (choose b (λ _. turn_by_row (using_rules_for most_modes) (first_fit in_foreign_content t s) t s)
      (λ _. using_rules_for most_modes s.mode t s)).state
  by true =
      scan-holds (foreign_row s.mode) (λ r. Nexts (turn_by_row (using_rules_for 4) r t s)) t s
      (λ inner r k g of fits. foreign-next t s.mode inner r.does r.ends k g (current_number s.open_elems) s refl original)
      (λ again. finished false again) in_foreign_content (Starts head_contents) parts.1 (head-kind t h)
  by false = mode-next t (Starts head_contents) s.mode parts.0 (head-kind t h) s refl original
