use Rattle.std.proofs.Common.{◌≡◌, ◌∙◌, [], append-nil, arith, refl, sym}
use Rattle.std.proofs.lemmas.Str.{IsCharBoundary-start, IsUtf8-string_bytes}
use Rattle.html_queue.proofs.Bytes.{drop-back_after, IsCharBoundary-back, none-behind}
use Rattle.html_queue.proofs.cursor.Cursor.push_front.Goals as goal
use Rattle.html_queue.proofs.cursor.Cursor.push_front.Goals.{in-Some+else-ends_with+else-self-len, in_default}

pub returns-then-ends_with : goal.returns-then-ends_with
returns-then-ends_with c =
    let inside = rw c.in-Some.is at c.self.invariant in
    let seen = rw c.in-Some.is at c.self.view_is in
    let found = rw (c.range-front.ensures.value, c.as_str.ensures.value, c.as_str-in-Some.ensures.value) at
    c.if-ends_with.ensures.cases.1.1 in
    let back = drop-back_after _ _ _ _ inside.0 found in
    rw (← seen, c.as_str-then-ends_with.ensures.value) back

pub invariant_of-self-2 : goal.invariant_of-self-2
invariant_of-self-2 c = IsCharBoundary-start _ (IsUtf8-string_bytes c.args.more)

pub invariant_of-self : goal.invariant_of-self
invariant_of-self c =
    let inside = rw c.in-Some.is at c.self.invariant in
    let found = rw (c.range-front.ensures.value, c.as_str.ensures.value, c.as_str-in-Some.ensures.value) at
    c.if-ends_with.ensures.cases.1.1 in
    IsCharBoundary-back _ _ _ _ inside (IsUtf8-string_bytes c.in-Some.text) (IsUtf8-string_bytes c.args.more)
    (drop-back_after _ _ _ _ inside.0 found) c.as_str-then-ends_with.ensures.value

pub returns : goal.returns
returns c =
    let none : c.args.self.now ≡ [] = elim c.match-self.branch as (λ _. c.args.self.now ≡ []) [
      | in-Some+else-ends_with+else-self-len w ↦ none-behind _ _ c.self.inside.place _
          (rw w.in-Some.is at c.self.view_is) (w.len.ensures ∙ w.in-Some.text.bytes.ok.0) w.if-self-len.false
      | in_default w ↦ none-behind [] _ c.self.inside.place 0 (rw w.in_default.is at c.self.view_is) refl (omega arith)
    ] in
    rw none (sym (append-nil c.args.more.bytes.items))
