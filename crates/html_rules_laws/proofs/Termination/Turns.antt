-- Every token is settled: by the rank of modes, and the elements that pay.
use Rattle.std.proofs.Common.{◌≡◌, ◌∙◌, ℕ, zero, suc, ◌+◌, ◌*◌, ◌<◌, ◌≤◌, Bool, true, false, List, [], ◌∷◌, Option, Some, None}
use Rattle.std.proofs.Common.{refl, sym, ap, subst, length, true≢false, arith}
use Rattle.std.specs.Prelude.{◌||◌, ◌&&◌, not, nat_eq, nat_le, nat_lt}
use Rattle.std.proofs.lemmas.Bool.{and_parts, eqb-true, leb-true, ltb-true}
use Rattle.html_tokens.specs.Sink.{Reply}
use Rattle.html_tokens.specs.declared.token.Token.{Token}
use Rattle.html_rules.specs.Actions.{act, restore_mode, or_mode, set_mode}
use Rattle.html_rules.specs.Choice.{choose}
use Rattle.html_rules.specs.Conditions.{holds}
use Rattle.html_rules.specs.Encodings.{encoding_hint}
use Rattle.html_rules.specs.ForeignContent.{is_foreign}
use Rattle.html_rules.specs.Modes.Foreign.{in_foreign_content}
use Rattle.html_rules.specs.Reset.{mode_of_html, reset_insertion_mode}
use Rattle.html_rules.specs.Rules.{Ending, Finished, Again, Replied, Settled, Turn, concluded, encoding_reply, first_fit}
use Rattle.html_rules.specs.Rules.{four_for_each, most_modes, rows, settle, settled_by, turn, turn_by_row, using_rules_for}
use Rattle.html_rules.specs.Rules.{within}
use Rattle.html_rules.specs.Stack.{pop_but_root, pop_until_current}
use Rattle.html_rules.specs.State.{Open, State, current_number}
use Rattle.html_rules.specs.Table.{Row, Condition, CurrentIs, InScope, Action, Then, ClearBackTo, Pop, ResetMode}
use Rattle.html_rules.specs.Table.{InsertPendingText, Conclusion, Done, Acknowledged, Reprocess, ReprocessInOriginal}
use Rattle.html_rules.specs.Table.{ReprocessInMode, Using, UsingThen, UsingCurrentMode, RawText, PlainText, RunScript}
use Rattle.html_rules.specs.Table.{ReportEncoding}
use Rattle.html_rules.specs.Tokens.{attributes_of, class_fits}
use Rattle.html_rules.specs.declared.insertion_mode.InsertionMode.{InsertionMode}
use Rattle.html_rules.specs.declared.insertion_mode.InsertionMode.TheVariants as mode
use Rattle.html_rules.specs.declared.tag_set.TagSet.TheVariants as set
use Rattle.html_rules_laws.specs.Ready.{are_formatting}
use Rattle.html_rules_laws.specs.Settled.{are_template_modes}
use Rattle.html_rules_laws.specs.WholeTable.{is_always}
use Rattle.html_rules_laws.proofs.SetFacts.{apart}
use Rattle.html_rules_laws.proofs.Termination.Kinds.{Kind, hit, hit-is, is_none, is_of, left, left-is, none-of}
use Rattle.html_rules_laws.proofs.Termination.Matters.{all_pay, all_pay_or_root, cleared-less, current-less, payers}
use Rattle.html_rules_laws.proofs.Termination.Matters.{payers-length, tells, tells-some}
use Rattle.html_rules_laws.proofs.Termination.Ranks.{Family, again_ok, ends_ok, is_paying, is_reset_mode, is_telling}
use Rattle.html_rules_laws.proofs.Termination.Ranks.{is_text_mode, kind_of, may_reset, mode-ok, mode_ok, pops_found}
use Rattle.html_rules_laws.proofs.Termination.Ranks.{pops_scoped, rank, rank_ok, row_ok, rows_ok, uses_ok}
use Rattle.html_rules_laws.proofs.Termination.Steps.{brought, closes, closes-less, IsMild, is_known, is_mild, known-brings}
use Rattle.html_rules_laws.proofs.Termination.Steps.{mild-is, pending-told, resets}
use Rattle.html_rules_laws.proofs.Progress.TotalRows.{always_holds}
use Rattle.html_rules_laws.proofs.ResetModes.{context-passes, is_asked, open-passes}

-- what a state may still take
abbrev worth : Family → State → ℕ
worth φ s = rank φ s.mode + 4 * payers s.open_elems

-- a state in which tokens of a family are settled: where text is read, it comes back to a mode of another kind
pub record Settling (φ : Family) (s : State) : Type 0 where
  pub modes : are_template_modes s.template_modes ≡ true
  pub back : rank φ s.mode ≡ 16 → rank φ (or_mode s.orig_mode s.mode) < 16
  pub listed : rank φ s.mode ≡ 16 → are_formatting s.active_formatting ≡ true

-- what is left where the token is taken again
record Gone (φ : Family) (s r : State) : Type 0 where
  modes : are_template_modes r.template_modes ≡ true
  below : rank φ r.mode < 16
  less : worth φ r < worth φ s

abbrev Goes : Family → State → Turn → Type 0
Goes φ s made = made.ends ≡ Again → Gone φ s made.state

ended : {A : Type 0} (b : Bool) → Finished b ≡ Again → A
ended b e = absurd (never b e) where
  never : (b : Bool) → Finished b ≡ Again → ⊥
  never b e = cc

-- the parts of the table's test

pub record RankOk (φ : Family) (m : InsertionMode) : Type 0 where
  pub some : 1 ≤ rank φ m
  pub most : rank φ m ≤ 16
  pub plain : is_text_mode m ≡ false → rank φ m < 16
  pub reset : may_reset φ ≡ true → is_reset_mode m ≡ true → rank φ m ≤ 4

or_false : (a b : Bool) → (a || b) ≡ true → a ≡ false → b ≡ true
or_false true b h e = absurd (true≢false e)
or_false false b h e = h

not_both : (a b c : Bool) → (not (a && b) || c) ≡ true → a ≡ true → b ≡ true → c ≡ true
not_both true true c h e f = h
not_both true false c h e f = absurd (true≢false (sym f))
not_both false b c h e f = absurd (true≢false (sym e))

rank-is : (φ : Family) (m : InsertionMode) → rank_ok φ m ≡ true → RankOk φ m
rank-is φ m h =
    let parts = and_parts (nat_le 1 (rank φ m) && nat_le (rank φ m) 16) _ h in
    let bounds = and_parts (nat_le 1 (rank φ m)) (nat_le (rank φ m) 16) parts.0 in
    let tests = and_parts (is_text_mode m || nat_lt (rank φ m) 16) _ parts.1 in
    record {
      some = leb-true 1 (rank φ m) bounds.0;
      most = leb-true (rank φ m) 16 bounds.1;
      plain = λ e. ltb-true (rank φ m) 16 (or_false (is_text_mode m) _ tests.0 e);
      reset = λ e f. leb-true (rank φ m) 4 (not_both (may_reset φ) (is_reset_mode m) _ tests.1 e f);
    }

pub record ModeOk (φ : Family) (m : InsertionMode) : Type 0 where
  pub rank : RankOk φ m
  pub own : uses_ok 4 φ m (kind_of φ) m ≡ true
  pub foreign : rows_ok (uses_ok 4 φ m) φ m (kind_of φ) in_foreign_content ≡ true

pub mode-is : (φ : Family) (m : InsertionMode) → ModeOk φ m
unfolding mode_ok
mode-is φ m =
    let parts = and_parts (rank_ok φ m) _ (mode-ok φ m) in
    let tests = and_parts (uses_ok 4 φ m (kind_of φ) m) _ parts.1 in
    record { rank = rank-is φ m parts.0; own = tests.0; foreign = tests.1 }

-- an element that pays is popped

scoped-less : (condition : Condition) (a b : Action) → pops_scoped condition a b ≡ true → (t : Token) (s : State)
    → holds condition t s ≡ true → payers (act b t (act a t s)).open_elems < payers s.open_elems
unfolding pop_but_root pop_until_current
scoped-less (InScope scope names) (ClearBackTo context) Pop h t s e =
    let one = and_parts (all_pay_or_root context) _ h in
    let two = and_parts (all_pay names) _ one.1 in
    let three = and_parts (apart set.Html names) _ two.1 in
    cleared-less scope context names one.0 two.0 three.0 three.1 s.open_elems e
scoped-less condition a b h t s e = absurd (true≢false (sym h))

found-less : (condition : Condition) (a : Action) → pops_found condition a ≡ true → (t : Token) (s : State)
    → holds condition t s ≡ true → payers (act a t s).open_elems < payers s.open_elems
unfolding pop_but_root
found-less (CurrentIs names) Pop h t s e = let parts = and_parts (all_pay names) _ h in current-less names parts.0 parts.1 s.open_elems e
found-less condition (Then a b) h t s e = scoped-less condition a b h t s e
found-less condition a h t s e = absurd (true≢false (sym h))

paying-less : (r : Row) → is_paying r ≡ true → (t : Token) (s : State) → class_fits r.on t ≡ true
    → holds r.when t s ≡ true → payers (act r.does t s).open_elems < payers s.open_elems
paying-less r h t s k e = by (closes r.does && tells r.on r.when) refl h where
  by : (b : Bool) → (closes r.does && tells r.on r.when) ≡ b
      → (b || (is_known r.does && (nat_eq (brought r.does) 0 && pops_found r.when r.does))) ≡ true
      → payers (act r.does t s).open_elems < payers s.open_elems
  by true f h = let parts = and_parts (closes r.does) (tells r.on r.when) f in closes-less r.does parts.0 t s
      (tells-some r.on r.when parts.1 t s k e)
  by false f h = let parts = and_parts (is_known r.does) _ h in found-less r.when r.does
      (and_parts (nat_eq (brought r.does) 0) _ parts.1).1 t s e

-- the modes that a reset may give

abbrev IsReset : InsertionMode → Type 0
IsReset m = is_reset_mode m ≡ true

asked-reset : (m : InsertionMode) → is_asked m ≡ true → IsReset m
asked-reset mode.InCell h = refl
asked-reset mode.InRow h = refl
asked-reset mode.InTableBody h = refl
asked-reset mode.InCaption h = refl
asked-reset mode.InColumnGroup h = refl
asked-reset mode.InTable h = refl
asked-reset mode.InTemplate h = refl
asked-reset mode.InBody h = refl
asked-reset mode.InFrameset h = refl
asked-reset m h = absurd (true≢false (sym h))

html-reset : (o : Option ℕ) → IsReset (mode_of_html o)
html-reset None = refl
html-reset (Some n) = refl

resets-mode : (a : Action) → resets a ≡ true → is_known a ≡ true → (t : Token) (s : State)
    → are_template_modes s.template_modes ≡ true → is_reset_mode (act a t s).mode ≡ true
unfolding reset_insertion_mode
resets-mode (Then a b) h k t s m = let parts = and_parts (is_known a) (is_known b) k in resets-mode b h parts.1 t
    (act a t s) ((known-brings a parts.0 t s).modes m)
resets-mode ResetMode h k t s m = open-passes IsReset asked-reset s s.open_elems m refl
    (context-passes IsReset asked-reset s s.context_elem m (html-reset s.head_elem))
resets-mode a h k t s m = absurd (true≢false (sym h))

-- where the token is taken again

again-goes : (φ : Family) (r : Row) (to : InsertionMode) (t : Token) (s : State) → again_ok φ s.mode r to ≡ true
    → class_fits r.on t ≡ true → holds r.when t s ≡ true → Settling φ s → Gone φ s (set_mode to (act r.does t s))
unfolding set_mode
again-goes φ r to t s h k e is = by (is_known r.does && nat_lt (rank φ to + 4 * brought r.does) (rank φ s.mode)) refl parts.1 where
  parts : (nat_lt (rank φ to) 16 ≡ true)
      × (((is_known r.does && nat_lt (rank φ to + 4 * brought r.does) (rank φ s.mode))
      || (is_known r.does && (is_paying r && nat_le (rank φ to) (rank φ s.mode + 3)))) ≡ true)
  parts = and_parts (nat_lt (rank φ to) 16) _ h

  by : (b : Bool) → (is_known r.does && nat_lt (rank φ to + 4 * brought r.does) (rank φ s.mode)) ≡ b
      → (b || (is_known r.does && (is_paying r && nat_le (rank φ to) (rank φ s.mode + 3)))) ≡ true → Gone φ s (set_mode to (act r.does t s))
  by true f g =
      let own = and_parts (is_known r.does) _ f in
      let brings = known-brings r.does own.0 t s in
      let less = ltb-true (rank φ to + 4 * brought r.does) (rank φ s.mode) own.1 in
      let more = brings.payers in
      record { modes = brings.modes is.modes; below = ltb-true (rank φ to) 16 parts.0; less = omega arith }
  by false f g =
      let own = and_parts (is_known r.does) _ g in
      let pay = and_parts (is_paying r) _ own.1 in
      let less = paying-less r pay.0 t s k e in
      let most = leb-true (rank φ to) (rank φ s.mode + 3) pay.1 in
      record { modes = (known-brings r.does own.0 t s).modes is.modes; below = ltb-true (rank φ to) 16 parts.0; less = omega arith }

reset-goes : (φ : Family) (r : Row) (t : Token) (s : State)
    → (may_reset φ && (is_known r.does && (resets r.does && is_paying r))) ≡ true → class_fits r.on t ≡ true
    → holds r.when t s ≡ true → Settling φ s → Gone φ s (act r.does t s)
reset-goes φ r t s h k e is =
    let one = and_parts (may_reset φ) _ h in
    let two = and_parts (is_known r.does) _ one.1 in
    let three = and_parts (resets r.does) (is_paying r) two.1 in
    let to : InsertionMode = (act r.does t s).mode in
    let most = (mode-is φ to).rank.reset one.0 (resets-mode r.does three.0 two.0 t s is.modes) in
    let less = paying-less r three.1 t s k e in
    let some = (mode-is φ s.mode).rank.some in
    record { modes = (known-brings r.does two.0 t s).modes is.modes; below = omega arith; less = omega arith }

-- back to the original mode

back-goes : (φ : Family) (s r : State) → rank φ s.mode ≡ 16 → payers r.open_elems ≤ payers s.open_elems
    → r.mode ≡ s.mode → r.orig_mode ≡ s.orig_mode → r.template_modes ≡ s.template_modes → Settling φ s → Gone φ s (restore_mode r)
unfolding restore_mode
back-goes φ s r e less mode original modes is =
    let below : rank φ (or_mode r.orig_mode r.mode) < 16 = rw (original, mode) (is.back e) in
    record { modes = rw modes is.modes; below = below; less = omega arith }

telling-goes : (a : Action) → is_telling a ≡ true → (φ : Family) (t : Token) (s : State) → rank φ s.mode ≡ 16
    → Settling φ s → Gone φ s (restore_mode (act a t s))
telling-goes InsertPendingText h φ t s e is = let told = pending-told s (is.listed e) in
    back-goes φ s _ e told.payers told.mode told.original told.modes is
telling-goes a h φ t s e is = absurd (true≢false (sym h))

original-goes : (φ : Family) (r : Row) (t : Token) (s : State)
    → (nat_eq (rank φ s.mode) 16 && (is_mild r.does || is_telling r.does)) ≡ true → Settling φ s → Gone φ s (restore_mode (act r.does t s))
original-goes φ r t s h is = by (is_mild r.does) refl parts.1 where
  parts : (nat_eq (rank φ s.mode) 16 ≡ true) × ((is_mild r.does || is_telling r.does) ≡ true)
  parts = and_parts (nat_eq (rank φ s.mode) 16) _ h

  at : rank φ s.mode ≡ 16
  at = eqb-true (rank φ s.mode) 16 parts.0

  by : (b : Bool) → is_mild r.does ≡ b → (b || is_telling r.does) ≡ true → Gone φ s (restore_mode (act r.does t s))
  by true f g = let mild = mild-is r.does f t s in back-goes φ s _ at mild.payers mild.mode mild.original mild.modes is
  by false f g = telling-goes r.does g φ t s at is

-- by the rules of another mode

mild-settling : (φ : Family) (s r : State) → IsMild s r → Settling φ s → Settling φ r
mild-settling φ s r mild is = record {
  modes = rw mild.modes is.modes;
  back = λ e. rw (mild.original, mild.mode) (is.back (ap (rank φ) (sym mild.mode) ∙ e));
  listed = λ e. rw mild.entries (is.listed (ap (rank φ) (sym mild.mode) ∙ e));
}

mild-gone : (φ : Family) (s r x : State) → IsMild s r → Gone φ r x → Gone φ s x
mild-gone φ s r x mild gone = record {
  modes = gone.modes;
  below = gone.below;
  less = let less = gone.less in let more = mild.payers in let same : rank φ r.mode ≡ rank φ s.mode = ap (rank φ) mild.mode in omega arith;
}

gone-mild : (φ : Family) (s x y : State) → IsMild x y → Gone φ s x → Gone φ s y
gone-mild φ s x y mild gone =
    let same : rank φ y.mode ≡ rank φ x.mode = ap (rank φ) mild.mode in
    record {
      modes = rw mild.modes gone.modes;
      below = let below = gone.below in omega arith;
      less = let less = gone.less in let more = mild.payers in omega arith;
    }

-- what is known of other modes, for a token
abbrev Goers : (Kind → InsertionMode → Bool) → (InsertionMode → Token → State → Turn) → Family → InsertionMode → Token → Type 0
Goers uses using φ m t = (kind : Kind) (to : InsertionMode) → uses kind to ≡ true → is_of kind t ≡ true
    → (s : State) → Settling φ s → s.mode ≡ m → Goes φ s (using to t s)

using-goes : (uses : Kind → InsertionMode → Bool) (using : InsertionMode → Token → State → Turn) (φ : Family)
    (m : InsertionMode) (t : Token) → Goers uses using φ m t → (kind : Kind) (to : InsertionMode) (a : Action)
    → is_mild a ≡ true → uses kind to ≡ true → is_of kind t ≡ true → (s : State) → Settling φ s → s.mode ≡ m
    → Goes φ s (using to t (act a t s))
using-goes uses using φ m t go kind to a h k f s is e again =
    let mild = mild-is a h t s in
    mild-gone φ s (act a t s) _ mild (go kind to k f (act a t s) (mild-settling φ s (act a t s) mild is) (mild.mode ∙ e) again)

hint-goes : (φ : Family) (s r : State) (o : Option (List ℕ)) → Goes φ s (record { state = r; ends = encoding_reply o })
hint-goes φ s r None again = ended true again
hint-goes φ s r (Some label) again = absurd (never again) where
  never : encoding_reply (Some label) ≡ Again → ⊥
  never e = cc

replied : {A : Type 0} (r : Reply) → Replied r ≡ Again → A
replied r e = absurd (never r e) where
  never : (r : Reply) → Replied r ≡ Again → ⊥
  never r e = cc

ends-goes : (uses : Kind → InsertionMode → Bool) (using : InsertionMode → Token → State → Turn) (φ : Family)
    (m : InsertionMode) (t : Token) → Goers uses using φ m t → (kind : Kind) (r : Row) (e : Conclusion) → ends_ok uses φ m kind r e ≡ true
    → class_fits r.on t ≡ true → is_of kind t ≡ true → (s : State) → holds r.when t s ≡ true → Settling φ s
    → s.mode ≡ m → (script : ℕ) → Goes φ s (concluded using e t script (act r.does t s))
ends-goes uses using φ m t go kind r Done h k f s c is e script again = ended false again
ends-goes uses using φ m t go kind r Acknowledged h k f s c is e script again = ended true again
ends-goes uses using φ m t go kind r (Reprocess to) h k f s c is e script again = again-goes φ r to t s
    (subst (λ m. again_ok φ m r to ≡ true) (sym e) h) k c is
ends-goes uses using φ m t go kind r ReprocessInOriginal h k f s c is e script again = original-goes φ r t s
    (subst (λ m. (nat_eq (rank φ m) 16 && (is_mild r.does || is_telling r.does)) ≡ true) (sym e) h) is
ends-goes uses using φ m t go kind r ReprocessInMode h k f s c is e script again = reset-goes φ r t s h k c is
ends-goes uses using φ m t go kind r (Using to) h k f s c is e script again =
    let parts = and_parts (is_mild r.does) _ h in
    using-goes uses using φ m t go kind to r.does parts.0 parts.1 f s is e again
ends-goes uses using φ m t go kind r (UsingThen to after) h k f s c is e script again =
    let parts = and_parts (is_mild r.does) _ h in
    let more = and_parts (is_mild after) _ parts.1 in
    gone-mild φ s _ _ (mild-is after more.0 t (using to t (act r.does t s)).state)
    (using-goes uses using φ m t go kind to r.does parts.0 more.1 f s is e again)
ends-goes uses using φ m t go kind r UsingCurrentMode h k f s c is e script again =
    let parts = and_parts (is_mild r.does) _ h in
    let same : (act r.does t s).mode ≡ m = (mild-is r.does parts.0 t s).mode ∙ e in
    using-goes uses using φ m t go kind (act r.does t s).mode r.does parts.0
    (subst (λ m. uses kind m ≡ true) (sym same) parts.1) f s is e again
ends-goes uses using φ m t go kind r (RawText raw) h k f s c is e script again = replied _ again
ends-goes uses using φ m t go kind r PlainText h k f s c is e script again = replied _ again
ends-goes uses using φ m t go kind r RunScript h k f s c is e script again = replied _ again
ends-goes uses using φ m t go kind r ReportEncoding h k f s c is e script again = hint-goes φ s (act r.does t s)
    (encoding_hint (attributes_of t)) again

row-goes : (uses : Kind → InsertionMode → Bool) (using : InsertionMode → Token → State → Turn) (φ : Family)
    (m : InsertionMode) (t : Token) → Goers uses using φ m t → (kind : Kind) (r : Row) → row_ok uses φ m kind r ≡ true
    → class_fits r.on t ≡ true → is_of kind t ≡ true → (s : State) → holds r.when t s ≡ true → Settling φ s
    → s.mode ≡ m → Goes φ s (turn_by_row using r t s)
row-goes uses using φ m t go kind r h k f s c is e = by (is_none (hit kind r.on)) refl h where
  by : (b : Bool) → is_none (hit kind r.on) ≡ b → choose b (λ _. true)
      (λ _. ends_ok uses φ m (hit kind r.on) r r.ends) ≡ true → Goes φ s (turn_by_row using r t s)
  by true n h = absurd (none-of (hit kind r.on) t n (hit-is kind r.on t f k))
  by false n h = ends-goes uses using φ m t go (hit kind r.on) r r.ends h k (hit-is kind r.on t f k) s c is e (current_number s.open_elems)

rows-goes : (uses : Kind → InsertionMode → Bool) (using : InsertionMode → Token → State → Turn) (φ : Family)
    (m : InsertionMode) (t : Token) → Goers uses using φ m t → (rs : List Row) (kind : Kind) → rows_ok uses φ m kind rs ≡ true
    → is_of kind t ≡ true → (s : State) → Settling φ s → s.mode ≡ m → Goes φ s (turn_by_row using (first_fit rs t s) t s)
rows-goes uses using φ m t go [] kind h f s is e = λ again. ended false again
rows-goes uses using φ m t go (r ∷ rs) kind h f s is e =
    by (class_fits r.on t) (holds r.when t s) (is_always r.when) refl refl refl parts.1
    (λ kind h f. rows-goes uses using φ m t go rs kind h f s is e)
  where
    parts : (row_ok uses φ m kind r ≡ true)
        × (choose (is_always r.when)
        (λ _. choose (is_none (left kind r.on)) (λ _. true) (λ _. rows_ok uses φ m (left kind r.on) rs))
        (λ _. rows_ok uses φ m kind rs) ≡ true)
    parts = and_parts (row_ok uses φ m kind r) _ h

    Rest : Type 0
    Rest = (kind : Kind) → rows_ok uses φ m kind rs ≡ true → is_of kind t ≡ true → Goes φ s (turn_by_row using (first_fit rs t s) t s)

    left-goes : class_fits r.on t ≡ false → (b : Bool) → is_none (left kind r.on) ≡ b → choose b (λ _. true)
        (λ _. rows_ok uses φ m (left kind r.on) rs) ≡ true
        → ((kind : Kind) → rows_ok uses φ m kind rs ≡ true → is_of kind t ≡ true
        → Goes φ s (turn_by_row using (first_fit rs t s) t s)) → Goes φ s (turn_by_row using (first_fit rs t s) t s)
    left-goes k true n h rest = absurd (none-of (left kind r.on) t n (left-is kind r.on t f k))
    left-goes k false n h rest = rest (left kind r.on) h (left-is kind r.on t f k)

    by : (a b c : Bool) → class_fits r.on t ≡ a → holds r.when t s ≡ b → is_always r.when ≡ c
        → choose c (λ _. choose (is_none (left kind r.on)) (λ _. true) (λ _. rows_ok uses φ m (left kind r.on) rs))
        (λ _. rows_ok uses φ m kind rs) ≡ true
        → ((kind : Kind) → rows_ok uses φ m kind rs ≡ true → is_of kind t ≡ true → Goes φ s (turn_by_row using (first_fit rs t s) t s))
        → Goes φ s (turn_by_row using (choose (choose a (λ _. b) (λ _. false)) (λ _. r) (λ _. first_fit rs t s)) t s)
    by true true c ea eb ec h rest = row-goes uses using φ m t go kind r parts.0 ea f s eb is e
    by true false true ea eb ec h rest = absurd (true≢false (sym (always_holds r.when t s ec) ∙ eb))
    by true false false ea eb ec h rest = rest kind h f
    by false b true ea eb ec h rest = left-goes ea (is_none (left kind r.on)) refl h rest
    by false b false ea eb ec h rest = rest kind h f

uses-goes : (n : ℕ) (φ : Family) (m : InsertionMode) (t : Token) → Goers (uses_ok n φ m) (using_rules_for n) φ m t
unfolding uses_ok using_rules_for
uses-goes zero φ m t kind to h f s is e = λ again. ended false again
uses-goes (suc n) φ m t kind to h f s is e = rows-goes (uses_ok n φ m) (using_rules_for n) φ m t (uses-goes n φ m t)
    (rows to) kind h f s is e

turn-goes : (φ : Family) (t : Token) (s : State) → is_of (kind_of φ) t ≡ true → Settling φ s → Goes φ s (turn t s)
unfolding turn
turn-goes φ t s f is = by (is_foreign s t) where
  ok : ModeOk φ s.mode
  ok = mode-is φ s.mode

  by : (b : Bool) → Goes φ s
      (choose b (λ _. turn_by_row (using_rules_for most_modes) (first_fit in_foreign_content t s) t s)
      (λ _. using_rules_for most_modes s.mode t s))
  by true = rows-goes (uses_ok 4 φ s.mode) (using_rules_for 4) φ s.mode t (uses-goes 4 φ s.mode t)
      in_foreign_content (kind_of φ) ok.foreign f s is refl
  by false = uses-goes 4 φ s.mode t (kind_of φ) s.mode ok.own f s is refl

-- so many turns are enough

settled_by-is : (again : State → Settled) (e : Ending) (t : Token) (s : State)
    → (e ≡ Again → (again s).is_settled ≡ true) → (settled_by again e t s).is_settled ≡ true
settled_by-is again (Finished acknowledged) t s go = refl
settled_by-is again Again t s go = go refl
settled_by-is again (Replied r) t s go = refl

abbrev Enough : Family → Token → ℕ → (State → Settled) → Type 0
Enough φ t k beyond = (s : State) → Settling φ s → worth φ s ≤ k → (beyond s).is_settled ≡ true

gone-settling : (φ : Family) (s r : State) → Gone φ s r → Settling φ r
gone-settling φ s r gone = let below = gone.below in record {
  modes = gone.modes;
  back = λ e. absurd (omega arith);
  listed = λ e. absurd (omega arith);
}

within-enough : (n k : ℕ) (φ : Family) (t : Token) → is_of (kind_of φ) t ≡ true → (beyond : State → Settled)
    → Enough φ t k beyond → Enough φ t (n + k) (within n beyond t)
unfolding within
within-enough zero k φ t f beyond go s is less = go s is (let h = less in omega arith)
within-enough (suc n) k φ t f beyond go s is less =
    settled_by-is (within n beyond t) (turn t s).ends t (turn t s).state (λ again.
    let gone = turn-goes φ t s f is again in
    within-enough n k φ t f beyond go (turn t s).state (gone-settling φ s (turn t s).state gone)
    (let fewer = gone.less in let h = less in omega arith))

four-enough : (φ : Family) (t : Token) → is_of (kind_of φ) t ≡ true → (xs : List Open) → Enough φ t (4 * length xs) (four_for_each xs t)
unfolding four_for_each
four-enough φ t f [] s is less = let some = (mode-is φ s.mode).rank.some in absurd (omega arith)
four-enough φ t f (x ∷ xs) s is less = within-enough 4 (4 * length xs) φ t f (four_for_each xs t)
    (four-enough φ t f xs) s is (let h = less in omega arith)

pub settle-settled : (φ : Family) (t : Token) (s : State) → is_of (kind_of φ) t ≡ true → Settling φ s → (settle t s).is_settled ≡ true
unfolding settle
settle-settled φ t s f is =
    within-enough 16 (4 * length s.open_elems) φ t f (four_for_each s.open_elems t) (four-enough φ t f s.open_elems) s is
    (let most = (mode-is φ s.mode).rank.most in let pay = payers-length s.open_elems in omega arith)
