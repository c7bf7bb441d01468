-- A token of which something is made at a spot is settled so.
use Rattle.std.proofs.Common.{◌≡◌, ◌∙◌, ℕ, zero, suc, ◌≤◌, Bool, true, false, not, List, Option, Some, None, refl, sym, ap, subst}
use Rattle.std.proofs.Common.{arith, true≢false}
use Rattle.std.proofs.lemmas.Bool.{and_parts}
use Rattle.std.specs.Prelude.{◌&&◌, IfSome}
use Rattle.html_tokens.specs.declared.token.Token.{Token}
use Rattle.html_rules.specs.Actions.{act, set_mode}
use Rattle.html_rules.specs.Choice.{choose}
use Rattle.html_rules.specs.Encodings.{encoding_hint}
use Rattle.html_rules.specs.ForeignContent.{is_foreign}
use Rattle.html_rules.specs.Modes.Foreign.{in_foreign_content}
use Rattle.html_rules.specs.Rules.{Again, Finished, Settled, Turn, concluded, encoding_reply, first_fit, four_for_each, is_self_closing}
use Rattle.html_rules.specs.Rules.{rows, settle, settled_by, turn, turn_by_row, turn_of, using_rules_for, within}
use Rattle.html_rules.specs.Stack.{has_open}
use Rattle.html_rules.specs.State.{State, current_number}
use Rattle.html_rules.specs.Table.{Conclusion, Row}
use Rattle.html_rules.specs.Table as table
use Rattle.html_rules.specs.Tokens.{attributes_of}
use Rattle.html_rules.specs.declared.insertion_mode.InsertionMode.{InsertionMode}
use Rattle.html_rules.specs.declared.tag_set.TagSet.TheVariants as set
use Rattle.html_faithful.specs.Faces.{Face, Looks, Stands}
use Rattle.html_faithful.specs.Harmless.{Made, and_then, at_mode, by_rows, concludes, does, is_untouched, made_of, may_go_on}
use Rattle.html_faithful.specs.Harmless.{nothing_yet, with_raw}
use Rattle.html_faithful.specs.Spots.{Spot, hollow}
use Rattle.html_faithful.specs.Steps.{Adopts, Comes, is_settled}
use Rattle.html_faithful.specs.Turns.{IsDone}
use Rattle.html_faithful.proofs.Acts.{follows}
use Rattle.html_faithful.proofs.Faces.{foreign-seen, rows-seen}

if-both : (b : Bool) (x : Option Made) (P : Made → Type 0) → (b ≡ true → IfSome x P) → IfSome (choose b (λ _. x) (λ _. None)) P
if-both true x P h = h refl
if-both false x P h = tt

then : (o : Option Made) (f : Made → Option Made) (Q P : Made → Type 0) → IfSome o Q → ((m : Made) → Q m → IfSome (f m) P)
    → IfSome (and_then o f) P
then None f Q P h g = tt
then (Some m) f Q P h g = g m h

not-no : (b : Bool) → not b ≡ true → b ≡ false
not-no true h = absurd (true≢false (sym h))
not-no false h = refl

module _ (p : Spot) (before : State) (looks₀ : Looks before p) (t : Token)
    (settled₀ : is_settled before.open_elems before.active_formatting ≡ true) (adopts₀ : Adopts before)
    (open_tag : is_self_closing t ≡ false) where
  -- a turn of which this was made ends the token, in so many turns
  abbrev Ends : ℕ → (State → Settled) → Turn → Made → Type 0
  Ends turns beyond made_turn made = IsDone t before (settled_by (within turns beyond t) made_turn.ends t made_turn.state) made

  hinted : (turns : ℕ) (beyond : State → Settled) (hint : Option (List ℕ)) (s : State) (made : Made) → Comes t before s made
      → Ends turns beyond (turn_of s (encoding_reply hint)) (with_raw None made)
  hinted turns beyond None s made h = (h, refl, tt)
  hinted turns beyond (Some label) s made h = (h, refl, tt)

  finished : (turns : ℕ) (beyond : State → Settled) (s : State) (made : Made) → Comes t before s made
      → Ends turns beyond (turn_of s (Finished false)) (with_raw None made)
  finished turns beyond s made h = rw open_tag (h, refl, tt)

  abbrev turn_in : ℕ → List Row → State → Turn
  turn_in k rs s = turn_by_row (using_rules_for k) (first_fit rs t s) t s

  abbrev Law : ℕ → Type 0
  Law n = (k turns : ℕ) (beyond : State → Settled) (rs : List Row) (s : State) (made : Made) → n ≤ suc k → n ≤ 4 → n ≤ suc turns
      → Comes t before s made → is_untouched made ≡ true
      → IfSome (by_rows n rs t made) (λ after. Ends turns beyond (turn_in k rs s) after)

  using-case : (n : ℕ) → Law n → (k turns : ℕ) (beyond : State → Settled) (mode : InsertionMode) (s : State) (made : Made) → n ≤ k → n ≤ 3
      → n ≤ turns → Comes t before s made → is_untouched made ≡ true
      → IfSome (by_rows n (rows mode) t made) (λ after. Ends turns beyond (using_rules_for k mode t s) after)
  unfolding by_rows using_rules_for
  using-case zero law k turns beyond mode s made a b c h u = tt
  using-case (suc n) law zero turns beyond mode s made a b c h u = absurd (omega arith)
  using-case (suc n) law (suc k) turns beyond mode s made a b c h u =
      law k turns beyond (rows mode) s made a (omega arith) (omega arith) h u

  turn-here : (s : State) → is_foreign s t ≡ false → turn t s ≡ turn_in 3 (rows s.mode) s
  unfolding turn using_rules_for
  turn-here s plain = rw plain refl

  again-case : (n : ℕ) → Law n → (turns : ℕ) (beyond : State → Settled) (s : State) (made : Made) → n ≤ 3
      → n ≤ turns → Comes t before s made → is_untouched made ≡ true → is_foreign s t ≡ false
      → IfSome (by_rows n (rows s.mode) t made) (λ after. Ends turns beyond (turn_of s Again) after)
  unfolding by_rows within
  again-case zero law turns beyond s made b c h u plain = tt
  again-case (suc n) law zero beyond s made b c h u plain = absurd (omega arith)
  again-case (suc n) law (suc turns) beyond s made b c h u plain =
      subst (λ made_turn. IfSome (by_rows (suc n) (rows s.mode) t made)
      (λ after. IsDone t before (settled_by (within turns beyond t) made_turn.ends t made_turn.state) after))
      (sym (turn-here s plain))
      (law 3 turns beyond (rows s.mode) s made (omega arith) (omega arith) c h u)

  concludes-case : (n : ℕ) → Law n → (k turns : ℕ) (beyond : State → Settled) → n ≤ k → n ≤ 3 → n ≤ turns
      → (c : Conclusion) (script : ℕ) (s : State) (made : Made) → Comes t before s made
      → IfSome (concludes (λ rs made. by_rows n rs t made) t c made)
      (λ after. Ends turns beyond (concluded (using_rules_for k) c t script s) after)
  unfolding set_mode
  concludes-case n law k turns beyond a b d table.Done script s made h = finished turns beyond s made h
  concludes-case n law k turns beyond a b d table.Acknowledged script s made h = (h, refl, tt)
  concludes-case n law k turns beyond a b d table.ReportEncoding script s made h = hinted turns beyond
      (encoding_hint (attributes_of t)) s made h
  concludes-case n law k turns beyond a b d table.RunScript script s made h = (h, refl, tt)
  concludes-case n law k turns beyond a b d (table.RawText kind) script s made h = (h, refl, refl)
  concludes-case n law k turns beyond a b d (table.Using mode) script s made h =
      if-both (is_untouched made) (by_rows n (rows mode) t made) (λ after. Ends turns beyond (using_rules_for k mode t s) after)
      (λ u. using-case n law k turns beyond mode s made a b d h u)
  concludes-case n law k turns beyond a b d (table.Reprocess mode) script s made h =
      let there = at_mode mode made in
      let g : Comes t before (set_mode mode s) there = (
        ap (λ
            (f : Face). record f { mode = mode }) h.0,
        h.1,
        h.2,
        h.3,
        h.4,
        h.5,
        h.6,
        h.7,
        h.8,
      ) in
      if-both (may_go_on t there) (by_rows n (rows mode) t there) (λ after. Ends turns beyond (turn_of (set_mode mode s) Again) after)
      (λ m. let parts = and_parts (is_untouched there) (not (is_foreign (hollow there.spot) t)
      && not (has_open set.AnnotationXml there.spot.path)) m in
      let more = and_parts (not (is_foreign (hollow there.spot) t)) (not (has_open set.AnnotationXml there.spot.path)) parts.1 in
      again-case n law turns beyond (set_mode mode s) there b d g parts.0
      (foreign-seen t (set_mode mode s) there.spot g.0 (not-no (has_open set.AnnotationXml there.spot.path) more.1)
      ∙ not-no (is_foreign (hollow there.spot) t) more.0))
  concludes-case n law k turns beyond a b d c script s made h = tt

  by-rows : (n : ℕ) → Law n
  unfolding by_rows
  by-rows zero k turns beyond rs s made a b c h u = tt
  by-rows (suc n) k turns beyond rs s made a b c h u =
      let r = first_fit rs t (hollow made.spot) in
      subst (λ r'. IfSome (by_rows (suc n) rs t made) (λ after. Ends turns beyond (turn_by_row (using_rules_for k) r' t s) after))
      (sym (rows-seen t s made.spot h.0 (h.4 u) rs))
      (then (does r.does t made) (λ made. concludes (λ rs made. by_rows n rs t made) t r.ends made)
      (λ m. Comes t before (act r.does t s) m) (λ after. Ends turns beyond (turn_by_row (using_rules_for k) r t s) after)
      (follows p before looks₀ t settled₀ adopts₀ r.does s made h)
      (λ m g. concludes-case n (by-rows n) k turns beyond (omega arith) (omega arith) (omega arith) r.ends (current_number s.open_elems)
      (act r.does t s) m g))

-- the turn by these rows
abbrev turn_at : ℕ → List Row → Token → State → Turn
turn_at k rs t s = turn_by_row (using_rules_for k) (first_fit rs t s) t s

turn-by : (t : Token) (s : State) (b : Bool) → is_foreign s t ≡ b
    → turn t s ≡ choose b (λ _. turn_at 4 in_foreign_content t s) (λ _. turn_at 3 (rows s.mode) t s)
unfolding turn using_rules_for
turn-by t s b h = rw h refl

-- in HTML's content it is by those of the mode
pub turn-at_mode : (t : Token) (s : State) → is_foreign s t ≡ false → turn t s ≡ using_rules_for 4 s.mode t s
unfolding turn
turn-at_mode t s h = rw h refl

pub first-turn : (turns : ℕ) (beyond : State → Settled) (t : Token) (s : State) → within (suc turns) beyond t s
    ≡ settled_by (within turns beyond t) (turn t s).ends t (turn t s).state
unfolding within
first-turn turns beyond t s = refl

made-by : (t : Token) (p : Spot) → made_of t p
    ≡ by_rows 4 (choose (is_foreign (hollow p) t) (λ _. in_foreign_content) (λ _. rows p.mode)) t (nothing_yet p)
unfolding made_of
made-by t p = refl

module _ (t : Token) (p : Spot) (s : State) (stands : Stands s p) (settled : is_settled s.open_elems s.active_formatting ≡ true)
    (adopts : Adopts s) (open_tag : is_self_closing t ≡ false) (turns : ℕ) (beyond : State → Settled) (enough : 3 ≤ turns) where
  abbrev After : Turn → Made → Type 0
  After made_turn made = IsDone t s (settled_by (within turns beyond t) made_turn.ends t made_turn.state) made

  begins : Comes t s s (nothing_yet p)
  begins = (stands.looks, refl, refl, refl, λ u. stands.points, refl, λ e. e, refl, refl)

  by-turn : (b : Bool) → IfSome (by_rows 4 (choose b (λ _. in_foreign_content) (λ _. rows s.mode)) t (nothing_yet p))
      (λ after. After (choose b (λ _. turn_at 4 in_foreign_content t s) (λ _. turn_at 3 (rows s.mode) t s)) after)
  by-turn true = by-rows p s stands.looks t settled adopts open_tag 4 4 turns beyond in_foreign_content s (nothing_yet p)
      (omega arith) (omega arith) (omega arith) begins refl
  by-turn false = by-rows p s stands.looks t settled adopts open_tag 4 3 turns beyond (rows s.mode) s (nothing_yet p)
      (omega arith) (omega arith) (omega arith) begins refl

  by-settle : IfSome (by_rows 4 (choose (is_foreign (hollow p) t) (λ _. in_foreign_content) (λ _. rows s.mode)) t (nothing_yet p))
      (λ after. After (turn t s) after)
  by-settle =
      let b = is_foreign (hollow p) t in
      subst (λ made_turn. IfSome (by_rows 4 (choose b (λ _. in_foreign_content) (λ _. rows s.mode)) t (nothing_yet p))
      (λ after. After made_turn after))
      (sym (turn-by t s b (foreign-seen t s p stands.looks stands.unasked))) (by-turn b)

  in-mode : IfSome (by_rows 4 (choose (is_foreign (hollow p) t) (λ _. in_foreign_content) (λ _. rows p.mode)) t (nothing_yet p))
      (λ after. After (turn t s) after)
  in-mode = subst (λ m. IfSome (by_rows 4 (choose (is_foreign (hollow p) t) (λ _. in_foreign_content) (λ _. rows m)) t (nothing_yet p))
      (λ after. After (turn t s) after)) (ap (λ (f : Face). f.mode) stands.looks) by-settle

  pub followed-within : IfSome (made_of t p) (λ made. IsDone t s (within (suc turns) beyond t s) made)
  followed-within =
      subst (λ o. IfSome o (λ made. IsDone t s (within (suc turns) beyond t s) made)) (sym (made-by t p))
      (subst (λ left. IfSome (by_rows 4 (choose (is_foreign (hollow p) t) (λ _. in_foreign_content) (λ _. rows p.mode)) t (nothing_yet p))
      (λ made. IsDone t s left made)) (sym (first-turn turns beyond t s)) in-mode)

pub tokens-followed : (t : Token) (p : Spot) (s : State) → Stands s p → is_settled s.open_elems s.active_formatting ≡ true → Adopts s
    → is_self_closing t ≡ false → IfSome (made_of t p) (λ made. IsDone t s (settle t s) made)
unfolding settle
tokens-followed t p s stands settled adopts open_tag =
    followed-within t p s stands settled adopts open_tag 15 (four_for_each s.open_elems t) (omega arith)
