use Rattle.std.proofs.Common.{◌≡◌, ◌∙◌, ◌+◌, ℕ, List, Option, Some, None, MatchOption, false, length, take, refl, sym, ap}
use Rattle.std.specs.Prelude.{not, slice_range}
use Rattle.html_rules.specs.Adoption.{is_number}
use Rattle.html_rules.specs.Formatting.{Listed}
use Rattle.html_rules.specs.Stack.{in_scope, is_open}
use Rattle.html_rules.specs.declared.tag_set.TagSet.TheVariants.{DefaultScope}
use Rattle.html_stack.specs.Found.{IsNewest}
use Rattle.html_stack.specs.Stacks.{entries_of, open_of, opens_of}
use Rattle.html_stack.proofs.Agencies.{any-of, rest-is, scope-place, turn-bounded, turn-closed}
use Rattle.html_stack.proofs.StackEdits.{newest-open}
use Rattle.html_stack.proofs.formatting.turns.turn_placed.Goals as goal

no-place : {X : Type 0} (place : Option X) (A : Type 0) (B : X → Type 0) → ((x : X) → place ≡ Some x → ⊥) → MatchOption place A B → A
no-place None A B none h = h
no-place (Some x) A B none h = absurd (none x refl)

kept : {X : Type 0} (place : Option ℕ) (xs : List X) → MatchOption place (xs ≡ xs) (λ from. take from xs ≡ take from xs)
kept None xs = refl
kept (Some from) xs = refl

pub returns-in_default-clause-below : goal.returns-in_default-clause-below
returns-in_default-clause-below g c = kept c.args.place c.args.elements.now.items

pub returns-then-has_open-clause-below : goal.returns-then-has_open-clause-below
returns-then-has_open-clause-below g c = kept c.args.place c.args.elements.now.items

pub returns-clause-below : goal.returns-clause-below
returns-clause-below g c = rw c.in-Some.is c.turn_open.ensures.below

pub returns-in_default-clause-ok : goal.returns-in_default-clause-ok
returns-in_default-clause-ok g c name s on =
    let node = g.Sink.TreeSink.node in
    let n = node c.args.formatting.node in
    let xs = c.args.elements.now.items in
    let es = entries_of node c.args.entries.now.items in
    let fe : Listed = record { number = n; tag = c.requires.listed.0 } in
    let closed : is_open n (opens_of node xs) ≡ false = no-place c.args.place _ _ c.in_default.not-Some c.requires.place in
    rw (c.parse_error.ensures, c.unlist.ensures) (turn-closed c.args.foster c.args.rules (g.Sink.TreeSink.forest c.args.sink.now)
    (opens_of node xs) es fe c.requires.listed.1.newest closed name s on)

pub returns-then-has_open-clause-ok : goal.returns-then-has_open-clause-ok
returns-then-has_open-clause-ok g c name s on =
    let node = g.Sink.TreeSink.node in
    let n = node c.args.formatting.node in
    let xs = c.args.elements.now.items in
    let es = entries_of node c.args.entries.now.items in
    let fe : Listed = record { number = n; tag = c.requires.listed.0 } in
    let is : IsNewest (open_of node) (is_number n) xs c.in-Some.from = rw c.in-Some.is at c.requires.place in
    let later = slice_range c.as_slice.result.now (c.in-Some.from + 1) (length c.as_slice.result.now) in
    let scope : in_scope DefaultScope (is_number n) (opens_of node xs) ≡ false =
    scope-place node n xs later c.in-Some.from (any-of xs c.in-Some.from is.within) is
    (rest-is xs c.as_slice.result.now (c.in-Some.from + 1) c.as_slice.ensures.value) ∙ ap not (sym (c.if-has_open.ensures node)) in
    rw c.parse_error-then-has_open.ensures (turn-bounded c.args.foster c.args.rules (g.Sink.TreeSink.forest c.args.sink.now)
    (opens_of node xs) es fe c.requires.listed.1.newest (newest-open node n xs c.in-Some.from is) scope name s on)

pub turn_open-requires-clause-scope : goal.turn_open-requires-clause-scope
turn_open-requires-clause-scope g c =
    let node = g.Sink.TreeSink.node in
    let n = node c.args.formatting.node in
    let xs = c.args.elements.now.items in
    let is : IsNewest (open_of node) (is_number n) xs c.in-Some.from = rw c.in-Some.is at c.requires.place in
    let later = slice_range c.as_slice.result.now (c.in-Some.from + 1) (length c.as_slice.result.now) in
    scope-place node n xs later c.in-Some.from (any-of xs c.in-Some.from is.within) is
    (rest-is xs c.as_slice.result.now (c.in-Some.from + 1) c.as_slice.ensures.value) ∙ ap not (sym (c.if-has_open.ensures node))
