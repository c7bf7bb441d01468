-- In a sound state sixteen turns, and four for each open element, settle every token.
use Rattle.std.proofs.Common.{◌≡◌, ℕ, ◌<◌, Bool, true, false, List, [], ◌∷◌, Option, Some, None, refl, sym, true≢false, arith}
use Rattle.std.specs.Prelude.{◌&&◌, not}
use Rattle.std.proofs.lemmas.Bool.{and_parts}
use Rattle.html_tokens.specs.declared.token.Doctype.{Doctype}
use Rattle.html_tokens.specs.declared.token.Token.{Token}
use Rattle.html_tokens.specs.declared.token.Token.TheVariants.{CharacterTokens, CommentToken, DoctypeToken, EOFToken}
use Rattle.html_tokens.specs.declared.token.Token.TheVariants.{NullCharacterToken, ParseError, TagToken}
use Rattle.html_rules.specs.Actions.{restore_mode, or_mode, set_ignore_lf, set_mode}
use Rattle.html_rules.specs.Rules.{Settled, rows, settle}
use Rattle.html_rules.specs.Shape.{fits_in, fits_in_original, fits_mode, has_root, has_template_modes, is_at_root, is_fit}
use Rattle.html_rules.specs.Stack.{parse_error, without_current}
use Rattle.html_rules.specs.State.{Open, State}
use Rattle.html_rules.specs.Step.{followed_by, after_line_feed, taken, taken_by, text_taken, untouched, doctype_settled, ends_table_text}
use Rattle.html_rules.specs.declared.insertion_mode.InsertionMode.{InsertionMode}
use Rattle.html_rules.specs.declared.insertion_mode.InsertionMode.TheVariants.{Text, InTableText}
use Rattle.html_rules_laws.specs.Ready.{Ready, are_formatting}
use Rattle.html_rules_laws.specs.Settled.{IsEachTokenSettled, are_template_modes}
use Rattle.html_rules_laws.proofs.Frames.Aside.{IsRest, act-rest, rest-after, rest-same, sets_template_modes}
use Rattle.html_rules_laws.proofs.CharacterTurns.{settle-keeps}
use Rattle.html_rules_laws.proofs.Frames.KeptByRows.{IsKept, all_pass, settle-kept}
use Rattle.html_rules_laws.proofs.Termination.Ranks.{Family, family, is_text_mode, rank}
use Rattle.html_rules_laws.proofs.Termination.Turns.{Settling, mode-is, settle-settled}
use Rattle.html_rules_laws.proofs.Bools.{both}
use Rattle.html_rules_laws.proofs.EachMode.{each-mode}

-- what a token keeps

modes_pass : (m : InsertionMode) → all_pass sets_template_modes (rows m) ≡ true
unfolding rows
modes_pass = each-mode (λ m. all_pass sets_template_modes (rows m)) refl

moved-rest : (m : InsertionMode) (s : State) → IsRest s (set_mode m s)
unfolding set_mode
moved-rest m s = record { context = refl; ended = refl; modes = λ h. h }

back-rest : (s : State) → IsRest s (restore_mode s)
unfolding restore_mode
back-rest s = record { context = refl; ended = refl; modes = λ h. h }

error-rest : (s : State) → IsRest s (parse_error s)
unfolding parse_error
error-rest s = record { context = refl; ended = refl; modes = λ h. h }

pub rest-kept : IsKept IsRest sets_template_modes
rest-kept = record {
  same = rest-same;
  after = rest-after;
  acts = act-rest;
  moves = moved-rest;
  returns = back-rest;
  errs = error-rest;
  modes = modes_pass;
  foreign = refl;
  nothing = refl;
}

pub settle-rest : (t : Token) (s : State) → IsRest s (settle t s).state
settle-rest t s = settle-kept IsRest sets_template_modes rest-kept t s

-- a state that fits comes back from a mode of text to another mode

plain-mode : (m : InsertionMode) (xs : List Open) (head : Option ℕ) (modes : List InsertionMode)
    → fits_in m xs head modes ≡ true → is_text_mode m ≡ false
plain-mode Text xs head modes h = absurd (true≢false (sym h))
plain-mode InTableText xs head modes h = absurd (true≢false (sym h))
plain-mode m xs head modes h = refl

plain-original : (φ : Family) (m : InsertionMode) (o : Option InsertionMode) (xs : List Open) (head : Option ℕ)
    (modes : List InsertionMode) → fits_in_original o xs head modes ≡ true → rank φ (or_mode o m) < 16
plain-original φ m None xs head modes h = absurd (true≢false (sym h))
plain-original φ m (Some original) xs head modes h = (mode-is φ original).rank.plain (plain-mode original xs head modes h)

not_text : (φ : Family) (m : InsertionMode) → is_text_mode m ≡ false → rank φ m ≡ 16 → ⊥
not_text φ m h e = let less = (mode-is φ m).rank.plain h in (omega arith)

comes-back : (φ : Family) (m : InsertionMode) (o : Option InsertionMode) (xs : List Open) (head : Option ℕ)
    (modes : List InsertionMode) → fits_mode m o xs head modes ≡ true → rank φ m ≡ 16 → rank φ (or_mode o m) < 16
comes-back φ Text o xs head modes h e = plain-original φ Text o (without_current xs) head modes
    (and_parts (has_root xs && not (is_at_root xs)) _ h).1
comes-back φ InTableText o xs head modes h e = plain-original φ InTableText o xs head modes h
comes-back φ m o xs head modes h e = absurd (not_text φ m refl e)

start : (φ : Family) (s : State) → fits_mode s.mode s.orig_mode s.open_elems s.head_elem s.template_modes ≡ true
    → are_formatting s.active_formatting ≡ true → are_template_modes s.template_modes ≡ true → Settling φ s
start φ s fit listed modes = record {
  modes = modes;
  back = comes-back φ s.mode s.orig_mode s.open_elems s.head_elem s.template_modes fit;
  listed = λ e. listed;
}

pub token-settled : (t : Token) (s : State) → fits_mode s.mode s.orig_mode s.open_elems s.head_elem s.template_modes
    ≡ true → are_formatting s.active_formatting ≡ true → are_template_modes s.template_modes ≡ true → (settle t s).is_settled ≡ true
token-settled t s fit listed modes = let of = family t in settle-settled of.0 t s of.1.is (start of.0 s fit listed modes)

text-settled : (text : List ℕ) (before : Settled) → Ready before.state
    → are_template_modes before.state.template_modes ≡ true → before.is_settled ≡ true → (text_taken text before).is_settled ≡ true
text-settled [] before is modes h = h
text-settled (c ∷ cs) before is modes h =
    let t : Token = CharacterTokens (c ∷ []) in
    text-settled cs (followed_by before (settle t before.state)) (settle-keeps c before.state is) ((settle-rest t before.state).modes modes)
    (both before.is_settled (settle t before.state).is_settled h (token-settled t before.state is.fit is.listed modes))

doctype-settled : (e : Bool) (d : Doctype) (s : State) → Ready s → are_template_modes s.template_modes ≡ true
    → (doctype_settled e d s).is_settled ≡ true
doctype-settled true d s is modes = token-settled (DoctypeToken d) s is.fit is.listed modes
doctype-settled false d s is modes = refl

taken-settled : (t : Token) (s : State) → Ready s → are_template_modes s.template_modes ≡ true → (b : Bool)
    → (taken_by b t s).is_settled ≡ true
taken-settled (CharacterTokens text) s is modes b = text-settled (after_line_feed b text) (untouched s) is modes refl
taken-settled (DoctypeToken d) s is modes b = doctype-settled (ends_table_text s.opts.rules s.mode) d s is modes
taken-settled (TagToken tag) s is modes b = token-settled (TagToken tag) s is.fit is.listed modes
taken-settled (CommentToken text) s is modes b = token-settled (CommentToken text) s is.fit is.listed modes
taken-settled NullCharacterToken s is modes b = token-settled NullCharacterToken s is.fit is.listed modes
taken-settled EOFToken s is modes b = token-settled EOFToken s is.fit is.listed modes
taken-settled (ParseError message) s is modes b = token-settled (ParseError message) s is.fit is.listed modes

pub each_token_is_settled : IsEachTokenSettled
unfolding taken set_ignore_lf is_fit
each_token_is_settled t s going fit sound modes =
    let parts = and_parts (fits_mode s.mode s.orig_mode s.open_elems s.head_elem s.template_modes)
    (has_template_modes s.template_modes s.open_elems s.context_elem) fit in
    taken-settled t (set_ignore_lf false s) (record {
      fit = parts.0;
      templates = parts.1;
      in_head = sound.in_head;
      listed = sound.listed;
      kept_lf = refl;
      going = going;
    }) modes s.ignore_lf
