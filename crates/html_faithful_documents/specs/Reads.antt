-- What it means that a text is read from one state of the rules to another.
use Rattle.std.specs.Prelude.{◌≡◌, ℕ, List, ◌++◌, Option, Result, IsOk}
use Rattle.html_rules.specs.ForeignContent.{asks_cdata}
use Rattle.html_rules.specs.State.{State, hushed}
use Rattle.html_rules.specs.Step.{ended, step}
use Rattle.html_rules_laws.specs.Usable.{Usable}
use Rattle.html_tokens.specs.Item.{Stand}
use Rattle.html_tokens.specs.Laws.{in_data}
use Rattle.html_tokens.specs.Reading.{reading}
use Rattle.html_tokens.specs.Sink.{Refusal}
use Rattle.html_tokens.specs.Table.{Row}

-- the state that a text leaves, by the rules
abbrev pub read : List Row → Stand → ℕ → State → List ℕ → Result State Refusal
read rows st breaks s t = reading step (λ fault s. s) asks_cdata ended rows st breaks s t

-- then as much is read as from the second state, where what follows stands; the number of errors is put aside
pub record IsReadTo (rows : List Row) (st : Stand) (s : State) (text : List ℕ) (breaks : ℕ) (t : List ℕ) (next : Stand)
    (left : State) : Type 0 where
  pub usable : Usable left
  pub behind : ℕ
  pub is : read rows st breaks (hushed s) (text ++ t) ≡ read rows next behind (hushed left) t

-- a text is read from one state to another, whatever follows it, if no token of the whole is refused
abbrev pub Reads : List Row → Stand → State → List ℕ → Stand → State → Type 0
Reads rows st s text next left =
    Usable s → (breaks : ℕ) (t : List ℕ) → IsOk (read rows st breaks (hushed s) (text ++ t)) → IsReadTo rows st s text breaks t next left

-- the same in data, whatever the last start tag is
pub record ReadsOn (rows : List Row) (last : Option (List ℕ)) (s : State) (text : List ℕ) (left : State) : Type 0 where
  pub last_tag : Option (List ℕ)
  pub reads : Reads rows (in_data last) s text (in_data last_tag) left

abbrev pub ReadsInData : List Row → State → List ℕ → State → Type 0
ReadsInData rows s text left = (last : Option (List ℕ)) → ReadsOn rows last s text left
