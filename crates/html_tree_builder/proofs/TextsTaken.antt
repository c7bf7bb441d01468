-- A text that is taken from its front on.
use Rattle.std.proofs.Common.{◌≡◌, ◌∙◌, ℕ, ◌<◌, Bool, false, nat_eq, List, [], ◌∷◌, ◌++◌, length, Some, refl, sym, ap, arith, subst}
use Rattle.std.specs.Str.{IsUtf8, chars}
use Rattle.markup.specs.Forest.{Forest}
use Rattle.html_tokens.specs.declared.token.Token.{Token}
use Rattle.html_tokens.specs.declared.token.Token.TheVariants.{CharacterTokens}
use Rattle.html_rules.specs.Actions.{act, set_ignore_lf}
use Rattle.html_rules.specs.Rules.{Settled, settle}
use Rattle.html_rules.specs.State.{Answers, State}
use Rattle.html_rules.specs.Step.{followed_by, after_line_feed, taken, text_taken, untouched}
use Rattle.html_tokens.specs.declared.replies.TokenSinkResult.TheVariants.{Continue}
use Rattle.html_rules_laws.proofs.Replies.{taken-well}
use Rattle.html_names.proofs.FirstBytes.{no-text}
use Rattle.html_rules_laws.specs.Coming.{came_of}
use Rattle.html_rules_laws.specs.Usable.{Usable}
use Rattle.html_rules_laws.proofs.Progress.TokensTaken.{form-node, head-node, settled-going, settled-usable, unlined-going, unlined-usable}
use Rattle.html_tree_builder.specs.Running.{LeavesText, run_action, run_of, white_run_of}
use Rattle.html_tree_builder.specs.States.{Building, Stands, state_of}
use Rattle.html_tree_builder.specs.Texts.{HasWhiteFront, IsSplit}
use Rattle.html_tree_builder.specs.declared.runs.Run.{Run}
use Rattle.html_tree_builder.proofs.FirstCharacters.{some-character}
use Rattle.html_tree_builder.proofs.TextRuns.{text-run}
use Rattle.html_tree_builder.proofs.WhiteRuns.{white-run}

-- a usable state stands
pub usable-stands : (a : Answers) (b : Building) (f : Forest) → Usable (state_of a b f) → b.has_ended ≡ false → Stands f b
usable-stands a b f h going = record {
  standing = h.steady.upright.standing;
  head = head-node (state_of a b f) h;
  form = form-node (state_of a b f) h going;
  context = h.context;
}

-- the state goes by the state before alone
text-state : (text : List ℕ) (x y : Settled) → x.state ≡ y.state → (text_taken text x).state ≡ (text_taken text y).state
text-state [] x y e = e
text-state (c ∷ cs) x y e =
    text-state cs (followed_by x (settle (CharacterTokens (c ∷ [])) x.state))
    (followed_by y (settle (CharacterTokens (c ∷ [])) y.state)) (ap (λ s. (settle (CharacterTokens (c ∷ [])) s).state) e)

-- after its first character the text goes on
pub next-character : (whole one rest : List ℕ) (s r : State) → IsSplit whole one rest
    → r ≡ (settle (CharacterTokens (chars one)) s).state → (text_taken (chars rest) (untouched r)).state ≡
    (text_taken (chars whole) (untouched s)).state
next-character whole one rest s r is e =
    let same : r ≡ (settle (CharacterTokens (is.first ∷ [])) s).state = rw is.character at e in
    rw is.characters (text-state (chars rest) (untouched r) (followed_by (untouched s) (settle (CharacterTokens (is.first ∷ [])) s)) same)

-- a run is taken at once
pub run-taken : (whole one rest : List ℕ) (run : Run) (s r : State) → IsSplit whole one rest → Some run ≡ run_of s
    → Usable s → r ≡ act (run_action run) (CharacterTokens (chars whole)) s → r ≡ (text_taken (chars whole) (untouched s)).state
run-taken whole one rest run s r is found h e =
    let taken : r ≡ act (run_action run) (CharacterTokens (is.first ∷ chars rest)) s = rw is.characters at e in
    rw is.characters (taken ∙ sym (text-run run is.first (chars rest) (untouched s) (sym found) h.steady.upright.standing))

-- the end of the text
pub none-left : (text : List ℕ) (s : State) → chars text ≡ [] → s ≡ (text_taken (chars text) (untouched s)).state
none-left text s e = rw e refl

-- a line feed that comes is not dropped any more

pub unlined-state : (s r : State) → r ≡ set_ignore_lf false s → Usable s → Usable r
unlined-state s r e h = subst Usable (sym e) (unlined-usable s h)

pub unlined-ended : (s r : State) → r ≡ set_ignore_lf false s → s.has_ended ≡ false → r.has_ended ≡ false
unlined-ended s r e going = ap (λ x. x.has_ended) e ∙ unlined-going s going

pub unlined-open : (s r : State) → r ≡ set_ignore_lf false s → r.open_elems ≡ s.open_elems
unfolding set_ignore_lf
unlined-open s r e = ap (λ x. x.open_elems) e

-- characters

pub no-characters : (text : List ℕ) (s : State) → length text ≡ 0 → s ≡ (came_of (CharacterTokens (chars text)) s).state
no-characters text s e = rw (no-text text e) refl

pub characters-taken : (text rest : List ℕ) (lf : Bool) (s u r : State) → IsUtf8 text → 0 < length text
    → lf ≡ s.ignore_lf → u ≡ set_ignore_lf false s → chars rest ≡ after_line_feed lf (chars text)
    → r ≡ (text_taken (chars rest) (untouched u)).state
    → r ≡ (came_of (CharacterTokens (chars text)) s).state
unfolding taken
characters-taken text rest lf s u r utf8 some same unlined behind is =
    let first = some-character text utf8 some in
    let left : chars rest ≡ after_line_feed s.ignore_lf (first.0 ∷ first.1) = behind
    ∙ ap (λ b. after_line_feed b (chars text)) same ∙ ap (after_line_feed s.ignore_lf) first.2 in
    rw first.2 (is ∙ ap (λ cs. (text_taken cs (untouched u)).state) left
    ∙ ap (λ x. (text_taken (after_line_feed s.ignore_lf (first.0 ∷ first.1)) (untouched x)).state) unlined)

-- a text that is not empty is taken at once where it is a run and no line feed is dropped

unlined-same : (s : State) → s.ignore_lf ≡ false → set_ignore_lf false s ≡ s
unfolding set_ignore_lf
unlined-same s e = ap (λ b. record s { ignore_lf = b }) (sym e)

pub own-run-taken : (text : List ℕ) (run : Run) (s r : State) → nat_eq (length text) 0 ≡ false → s.ignore_lf ≡ false
    → Some run ≡ run_of s → Usable s → r ≡ act (run_action run) (CharacterTokens text) s
    → r ≡ (came_of (CharacterTokens text) s).state
unfolding taken
own-run-taken [] run s r some lf found h e = absurd (cc)
own-run-taken (c ∷ cs) run s r some lf found h e =
    e
    ∙ sym (text-run run c cs (untouched s) (sym found) h.steady.upright.standing)
    ∙ ap (λ x. (text_taken (c ∷ cs) (untouched x)).state) (sym (unlined-same s lf))
    ∙ ap (λ b. (text_taken (after_line_feed b (c ∷ cs)) (untouched (set_ignore_lf false s))).state) (sym lf)

pub no-text-taken : (text : List ℕ) (s : State) → length text ≡ 0 → s ≡ (came_of (CharacterTokens text) s).state
no-text-taken [] s e = refl
no-text-taken (c ∷ cs) s e = absurd (omega (arith, e))

pub characters-continue : (text : List ℕ) (s : State) → Continue ≡ (came_of (CharacterTokens text) s).reply
characters-continue [] s = refl
characters-continue (c ∷ cs) s = sym (taken-well (CharacterTokens (c ∷ cs)) s)

-- what is left of a text

text_taken-append : (a b : List ℕ) (x : Settled) → text_taken (a ++ b) x ≡ text_taken b (text_taken a x)
text_taken-append [] b x = refl
text_taken-append (c ∷ cs) b x = text_taken-append cs b (followed_by x (settle (CharacterTokens (c ∷ [])) x.state))

texts-usable : (text : List ℕ) (x : Settled) → Usable x.state → x.state.has_ended ≡ false
    → Usable (text_taken text x).state × ((text_taken text x).state.has_ended ≡ false)
texts-usable [] x h going = (h, going)
texts-usable (c ∷ cs) x h going =
    let one : Token = CharacterTokens (c ∷ []) in
    texts-usable cs (followed_by x (settle one x.state)) (settled-usable one x.state h going) (settled-going one x.state going)

-- after white space that is a run
pub white-left : (whole white rest : List ℕ) (run : Run) (s r : State) → HasWhiteFront whole white rest
    → false ≡ nat_eq (length white) 0 → Some run ≡ white_run_of s → Usable s → s.has_ended ≡ false
    → r ≡ act (run_action run) (CharacterTokens white) s
    → LeavesText whole rest s r
white-left whole [] rest run s r is some found h going e = absurd (cc)
white-left whole (c ∷ cs) rest run s r is some found h going e =
    let same : r ≡ (text_taken (c ∷ cs) (untouched s)).state = e
    ∙ sym (white-run run c cs (untouched s) is.white (sym found) h.steady.upright.standing) in
    let kept = texts-usable (c ∷ cs) (untouched s) h going in
    record {
      text = is.text;
      shorter = omega (arith, is.shorter);
      usable = subst Usable (sym same) kept.0;
      going = ap (λ x. x.has_ended) same ∙ kept.1;
      same =
          text-state (chars rest) (untouched r) (text_taken (c ∷ cs) (untouched s)) same
          ∙ ap (λ x. x.state) (sym (text_taken-append (c ∷ cs) (chars rest) (untouched s)))
          ∙ ap (λ text. (text_taken text (untouched s)).state) (sym is.characters);
    }

-- after the first character
pub one-left : (whole one rest : List ℕ) (s r : State) → IsSplit whole one rest → Usable s → s.has_ended ≡ false
    → r ≡ (settle (CharacterTokens (chars one)) s).state → LeavesText whole rest s r
one-left whole one rest s r is h going e =
    let t : Token = CharacterTokens (chars one) in
    record {
      text = is.text;
      shorter = is.shorter;
      usable = subst Usable (sym e) (settled-usable t s h going);
      going = ap (λ x. x.has_ended) e ∙ settled-going t s going;
      same = next-character whole one rest s r is e;
    }
