-- Where characters other than white space are errors, and dropped.
use Rattle.std.proofs.Common.{◌≡◌, ℕ, Bool, true, false, List, Option, Some, None, refl}
use Rattle.std.specs.Prelude.{◌&&◌}
use Rattle.std.proofs.lemmas.Bool.{and_parts}
use Rattle.html_tokens.specs.declared.token.Token.TheVariants.{CharacterTokens}
use Rattle.html_rules.specs.ForeignContent.{is_foreign, is_foreign_at}
use Rattle.html_rules.specs.Rules.{Finished, most_modes, rows, settle, turn, turn_of, using_rules_for}
use Rattle.html_rules.specs.Stack.{parse_error}
use Rattle.html_rules.specs.State.{Open, State, adjusted_current_node}
use Rattle.html_rules.specs.Tokens.{is_white}
use Rattle.html_rules.specs.declared.insertion_mode.InsertionMode as modes
use Rattle.html_rules.specs.declared.insertion_mode.InsertionMode.TheVariants as mode
use Rattle.html_rules_laws.proofs.Bools.{no}
use Rattle.html_tree_builder.specs.Running.{is_of_framesets, refuses_text, takes_text, takes_text_if}
use Rattle.html_tree_builder.proofs.TextRuns.{own-at, settled-as}

refused-in : (m : modes.InsertionMode) (text : List ℕ) (s : State) → is_white text ≡ false → is_of_framesets m ≡ true
    → using_rules_for most_modes m (CharacterTokens text) s ≡ turn_of (parse_error s) (Finished false)
unfolding using_rules_for rows
refused-in mode.InFrameset text s w h = rw w refl
refused-in mode.AfterFrameset text s w h = rw w refl
refused-in mode.AfterAfterFrameset text s w h = rw w refl
refused-in m text s w h = no h

own-if : (text : List ℕ) (s : State) (o : Option Open) → takes_text_if o ≡ true → is_foreign_at s o (CharacterTokens text) ≡ false
own-if text s None h = refl
own-if text s (Some x) h = own-at text s (Some x) h

refused-turn : (text : List ℕ) (s : State) → is_white text ≡ false → refuses_text s ≡ true
    → turn (CharacterTokens text) s ≡ turn_of (parse_error s) (Finished false)
unfolding turn is_foreign
refused-turn text s w h =
    let parts = and_parts (is_of_framesets s.mode) (takes_text_if (adjusted_current_node s)) h in
    rw (own-if text s (adjusted_current_node s) parts.1) (refused-in s.mode text s w parts.0)

-- such a character is an error
pub refused-settled : (text : List ℕ) (s : State) → is_white text ≡ false → refuses_text s ≡ true
    → (settle (CharacterTokens text) s).state ≡ parse_error s
refused-settled text s w h = settled-as text s (parse_error s) (refused-turn text s w h)

-- what a construction finds

pub refused-at : (own m : modes.InsertionMode) (o : Option Open) (x : Open) (b : Bool) → m ≡ own → true ≡ is_of_framesets m
    → o ≡ Some x → b ≡ takes_text x → b ≡ (is_of_framesets own && takes_text_if o)
refused-at own m o x b same h at is = rw (← same, ← h, at) is
