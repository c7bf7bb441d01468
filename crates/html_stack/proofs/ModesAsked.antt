-- The modes that elements ask for.
use Rattle.std.proofs.Common.{◌≡◌, ◌∷◌, ℕ, true, false, List, Option, Some, None, refl}
use Rattle.std.specs.Prelude.{is_some}
use Rattle.html_rules.specs.Reset.{mode_of, mode_of_context, mode_of_html, mode_of_open}
use Rattle.html_rules.specs.declared.insertion_mode.InsertionMode.TheVariants.{AfterHead, BeforeHead, InBody, InCell, InHead}
use Rattle.html_rules.specs.declared.insertion_mode.InsertionMode.{InsertionMode}
use Rattle.html_rules.specs.State.{Open, State, is_in}
use Rattle.html_rules.specs.declared.tag_set.TagSet.TheVariants as set
use Rattle.html_names.specs.ElementNames.{Named}
use Rattle.html_stack.specs.Modes.{IsContext, MayAsk, named_open}
use denote.Bor.{Bor}

pub html-with : (head : Option ℕ) → is_some head ≡ true → mode_of_html head ≡ AfterHead
html-with None h = absurd cc
html-with (Some n) h = refl

pub html-without : (head : Option ℕ) → is_some head ≡ false → mode_of_html head ≡ BeforeHead
html-without None h = refl
html-without (Some n) h = absurd cc

pub context-mode : (s : State) (o : Option Open) (name : Bor Named) (mode : InsertionMode)
    → ((number : ℕ) → MayAsk s (named_open number name.now) (Some mode)) → IsContext o (Some name) → mode_of_context s o ≡ mode
context-mode s None name mode asks is = absurd is
context-mode s (Some c) name mode asks is = rw (is.0, is.1) (asks c.number (λ _. InBody))

pub context-none : (s : State) (o : Option Open) (name : Bor Named)
    → ((number : ℕ) → MayAsk s (named_open number name.now) None) → IsContext o (Some name) → mode_of_context s o ≡ InBody
context-none s None name asks is = absurd is
context-none s (Some c) name asks is = rw (is.0, is.1) (asks c.number (λ _. InBody))

-- the mode that open elements ask for, by the current one
pub open-cell : (s : State) (x : Open) (xs : List Open) → is_in set.TdTh x ≡ true → mode_of_open s (x ∷ xs) ≡ InCell
open-cell s x xs cell = rw cell refl

pub open-head : (s : State) (x : Open) (xs : List Open) → is_in set.TdTh x ≡ false → is_in set.Head x ≡ true
    → mode_of_open s (x ∷ xs) ≡ InHead
open-head s x xs cell head = rw (cell, head) refl

pub open-html : (s : State) (x : Open) (xs : List Open) → is_in set.TdTh x ≡ false → is_in set.Head x ≡ false
    → is_in set.Html x ≡ true → mode_of_open s (x ∷ xs) ≡ mode_of_context s s.context_elem
open-html s x xs cell head html = rw (cell, head, html) refl

pub open-other : (s : State) (x : Open) (xs : List Open) → is_in set.TdTh x ≡ false → is_in set.Head x ≡ false
    → is_in set.Html x ≡ false → mode_of_open s (x ∷ xs) ≡ mode_of s x (λ _. mode_of_open s xs)
open-other s x xs cell head html = rw (cell, head, html) refl
