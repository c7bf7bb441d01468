-- Rows that are found at once.
use Rattle.std.proofs.Common.{◌≡◌, ◌∙◌, ℕ, true, false, drop, Option, Some, refl, sym}
use Rattle.std.specs.Prelude.{slice_get}
use Rattle.html_names.specs.Classes.{IsKnownAs}
use Rattle.html_tokens.specs.declared.tags.Tag.{Tag}
use Rattle.html_tokens.specs.declared.token.Token.{Token}
use Rattle.html_tokens.specs.declared.token.Token.TheVariants as token
use Rattle.html_rules.specs.Conditions.{holds}
use Rattle.html_rules.specs.ForeignContent.{is_foreign}
use Rattle.html_rules.specs.Names.{is_html}
use Rattle.html_rules.specs.Rules.{first_fit, rows}
use Rattle.html_rules.specs.State.{Open, State, adjusted_by}
use Rattle.html_rules.specs.Table.{Nothing, Row, Using}
use Rattle.html_rules.specs.Tokens.{class_fits}
use Rattle.html_rules.specs.declared.insertion_mode.InsertionMode.{InsertionMode}
use Rattle.html_modes.specs.FirstRows.{rows_before, sets_of}
use Rattle.html_modes.proofs.FirstRows.{before-passed, sets-known}
use Rattle.html_modes.proofs.WalkedRows.{at-place}
use Rattle.markup.specs.declared.known_names.KnownName.{KnownName}
use Rattle.html_tree_builder.specs.Turning.{IsRowOfTurn}
use Rattle.html_tree_builder.proofs.Turned.{may-use-at, may-use-rest, turned-mode, used-at, used-rest}

-- no token goes by the rules of foreign content where the adjusted current node is one of HTML
pub in-html : (s : State) (t : Token) (x : Open) → adjusted_by s.context_elem s.open_elems ≡ Some x → is_html x.namespace ≡ true
    → is_foreign s t ≡ false
unfolding is_foreign
in-html s (token.DoctypeToken doctype) x at is = rw (at, is) refl
in-html s (token.TagToken tag) x at is = rw (at, is) refl
in-html s (token.CommentToken text) x at is = rw (at, is) refl
in-html s (token.CharacterTokens text) x at is = rw (at, is) refl
in-html s token.NullCharacterToken x at is = rw (at, is) refl
in-html s token.EOFToken x at is = refl
in-html s (token.ParseError message) x at is = rw (at, is) refl

-- the row at the noted place, where it is for the tag
pub first-here : (mode : InsertionMode) (tag : Tag) (known : Option KnownName) (place : ℕ) (r : Row) (s : State)
    → IsKnownAs known tag.name → place ≡ rows_before tag.kind (sets_of known) (rows mode) → slice_get (rows mode) place ≡ Some r
    → class_fits r.on (token.TagToken tag) ≡ true → holds r.when (token.TagToken tag) s ≡ true
    → r ≡ first_fit (rows mode) (token.TagToken tag) s
first-here mode tag known place r s is noted here fits met =
    let t = token.TagToken tag in
    let passed : first_fit (drop place (rows mode)) t s ≡ first_fit (rows mode) t s =
    rw noted (before-passed (rows mode) tag (sets_of known) s (sets-known known tag.name is)) in
    sym (sym passed ∙ at-place (rows mode) place r t s here ∙ rw (fits, met) refl)

-- the first row of the mode
pub lane-of-mode : (t : Token) (s : State) (r : Row) → is_foreign s t ≡ false → r ≡ first_fit (rows s.mode) t s → IsRowOfTurn 3 r t s
lane-of-mode t s r html is = record {
  turned = used-at 3 s.mode t s r is ∙ turned-mode t s (sym html);
  may = λ may. may-use-at 3 s.mode t s r is (may.mode html);
}

-- the first row of the mode whose rules that row uses
pub lane-of-other : (mode : InsertionMode) (t : Token) (s : State) (r other : Row) → is_foreign s t ≡ false
    → r ≡ first_fit (rows s.mode) t s → r.does ≡ Nothing → r.ends ≡ Using mode → other ≡ first_fit (rows mode) t s
    → IsRowOfTurn 2 other t s
lane-of-other mode t s r other html is does ends found = record {
  turned = used-at 2 mode t s other found ∙ (used-rest 3 mode t s r does ends ∙ (lane-of-mode t s r html is).turned);
  may = λ may. may-use-at 2 mode t s other found (may-use-rest 3 mode t s r does ends ((lane-of-mode t s r html is).may may));
}
