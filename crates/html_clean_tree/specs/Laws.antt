-- The laws of cleaned text that is read by the rules of tree construction.
use Rattle.std.specs.Prelude.{◌≡◌, ℕ, ◌+◌, Bool, List, ◌++◌, Option, Result, IfOk}
use Rattle.markup.specs.Trees.{Trees, default_entry, written}
use Rattle.html_tokens.specs.Item.{Fault}
use Rattle.html_tokens.specs.Laws.{ReadsEscapes, in_data}
use Rattle.html_tokens.specs.Reading.{◌>>=◌, reading, line_breaks}
use Rattle.html_tokens.specs.Sink.{Refusal}
use Rattle.html_tokens.specs.Table.{Row}
use Rattle.html_rules.specs.ForeignContent.{asks_cdata}
use Rattle.html_rules.specs.State.{State}
use Rattle.html_rules.specs.Step.{ended, step}
use Rattle.html_rules_laws.specs.Usable.{Usable}
use Rattle.html_clean.specs.Cleaned.{cleaned, pieces_of}
use Rattle.html_clean.specs.PieceLaws.{GoesOn}
use Rattle.html_clean.specs.Pieces.{last_after, telling}
use Rattle.html_clean.specs.Policies.{is_kept_name}
use Rattle.html_clean.specs.declared.policy.Policy.{Policy}
use Rattle.html_origins.specs.Allowed.{IsStateAllowed}
use Rattle.html_clean_tree.specs.Elements.{with_cleaned_origin}

-- After a tag of a name that a policy keeps, the tokenizer goes on in the data state, whatever state the rules are in.
abbrev pub DoRulesGoOn : Type 0
DoRulesGoOn = (policy : Policy) → GoesOn (λ (s : State). Unit {0}) step (is_kept_name policy)

-- What reading cleaned text, and then `more`, comes to: `emitted` is the state of the rules after the tags and texts of the cleaned trees,
-- or their refusal.
pub record IsCleanedTextRead (policy : Policy) (erred : Fault → State → State) (rows : List Row) (scripting : Bool) (trees : Trees)
    (last : Option (List ℕ)) (breaks : ℕ) (s : State) (more : List ℕ) (emitted : Result State Refusal) : Type 0 where
  -- just these tags and texts are emitted; then what follows is read, in the data state again
  pub reading : let text = written scripting default_entry (cleaned policy trees) in
      reading step erred asks_cdata ended rows (in_data last) breaks s (text ++ more)
      ≡ (emitted >>= λ after. reading step erred asks_cdata ended rows
      (in_data (last_after last (pieces_of (cleaned policy trees)))) (breaks + line_breaks text) after more)
  -- each element of the tree is one that the policy keeps, or one of those that the definition names
  pub elements : IfOk emitted (λ after. IsStateAllowed (with_cleaned_origin policy s) after)
  pub usable : IfOk emitted Usable

-- Wherever cleaned text is put: in every state that the rules lead to, in every mode and in foreign content.
abbrev pub AreCleanedTextsRead : Type 0
AreCleanedTextsRead = (policy : Policy) (erred : Fault → State → State) (rows : List Row) → ReadsEscapes rows
    → (scripting : Bool) (trees : Trees) (last : Option (List ℕ)) (breaks : ℕ) (s : State) → Usable s → (more : List ℕ)
    → IsCleanedTextRead policy erred rows scripting trees last breaks s more (telling step breaks s (pieces_of (cleaned policy trees)))
