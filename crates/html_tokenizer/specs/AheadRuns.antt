-- Runs that are taken from the front of the input at once where no set of stops bounds them.
use Rattle.std.specs.Prelude.{◌≡◌, ◌<◌, ◌||◌, ℕ, Bool, false, nat_eq, not, List, ◌++◌, length, All, Some}
use Rattle.std.specs.Char.{is_ascii_alphanumeric}
use Rattle.html_tokens.specs.declared.states.State.TheVariants as state
use Rattle.html_tokenizer_parts.specs.declared.held_reference.Ampersand.TheVariants.{Unknown}
use Rattle.html_tokenizer.specs.declared.front_runs.RunKind.{RunKind}
use Rattle.html_tokenizer.specs.declared.front_runs.RunKind.TheVariants.{Named, CdataText, Brackets}
use Rattle.html_tokenizer.specs.declared.tokenizer.Tokenizer.{Tokenizer}
use Rattle.html_tokenizer.specs.Steps.{IsAt}

-- whether a run of this kind ends before a character
abbrev pub ends_run : RunKind → ℕ → Bool
ends_run Named c = not (is_ascii_alphanumeric c)
ends_run CdataText c = nat_eq c 0 || (nat_eq c 10 || (nat_eq c 13 || nat_eq c 93))
ends_run Brackets c = not (nat_eq c 93)

-- where the machine takes a run of this kind
abbrev pub IsWhere : {K : Type 0} → RunKind → Tokenizer K → Type 0
IsWhere Named k = k.char_ref ≡ Some Unknown
IsWhere CdataText k = IsAt k state.CdataSection
IsWhere Brackets k = IsAt k state.CdataSectionEnd

-- the machine is there, no byte order mark may come, and errors of single characters are not told
pub record ReadsRun {K : Type 0} (k : Tokenizer K) (kind : RunKind) : Type 0 where
  pub at : IsWhere kind k
  pub plain : k.stream.exact_errors ≡ false
  pub unmarked : k.stream.discard_bom ≡ false

-- bytes stand at the front of a text
pub record IsFrontOf (run text : List ℕ) : Type 0 where
  pub rest : List ℕ
  pub whole : text ≡ run ++ rest

-- A run, which is not empty, of this kind, where the machine takes it.
pub record IsAheadRun {K : Type 0} (k : Tokenizer K) (kind : RunKind) (run : List ℕ) : Type 0 where
  pub at : IsWhere kind k
  pub filled : 0 < length run
  pub lacking : All (λ c. ends_run kind c ≡ false) run
