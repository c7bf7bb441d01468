-- One step of each loop of the tokenizer, where i of n steps were made.
use Rattle.std.proofs.Common.{◌≡◌, ℕ, suc, ◌+◌, ◌-◌, ◌<◌, cond, not, ◌&&◌, List, [], ◌∷◌, ◌++◌, length, drop}
use Rattle.std.proofs.Common.{refl, arith}
use Rattle.std.proofs.lemmas.Bool.{ne_eqb}
use Rattle.std.specs.Prelude.{◌≢◌, false, slice_index, ◌==◌}
use Rattle.html_selector_text.specs.declared.tokens.Token.{Token}
use Rattle.html_selector_text.specs.declared.tokens.TokenKind.TheVariants.{Str, BadStr, Url, BadUrl}
use Rattle.html_selector_text.specs.Characters.{is_in_name, is_whitespace, at_escape}
use Rattle.html_selector_text.specs.Scanning.{name_steps, escaped, read, string_steps, url_steps, bad_url_steps}
use Rattle.html_selector_text.specs.Scanning.{ends_url, url_end, is_not_in_url, past_whitespace, past_bad_url, token_steps, one_token}
use Rattle.html_selector_text.specs.Scanning.{string_part}

more : (n i : ℕ) → i < n → n - i ≡ suc (n - (i + 1))
more n i less = omega arith

pub name_step : (n i : ℕ) (so_far chars : List ℕ) → i < n → name_steps (n - i) so_far chars ≡
    cond (not (length chars == 0) && is_in_name (slice_index chars 0))
    (name_steps (n - (i + 1)) (so_far ++ slice_index chars 0 ∷ []) (drop 1 chars))
    (cond (at_escape chars)
    (name_steps (n - (i + 1)) (so_far ++ (escaped (drop 1 chars)).value ∷ []) (escaped (drop 1 chars)).rest)
    (record { text = so_far; rest = chars }))
name_step n i so_far chars less = rw (more n i less) refl

pub string_step : (quote n i : ℕ) (so_far chars : List ℕ) → i < n → string_steps quote (n - i) so_far chars ≡
    cond (length chars == 0) (read (Str so_far) [])
    (cond (slice_index chars 0 == quote) (read (Str so_far) (drop 1 chars))
    (cond (slice_index chars 0 == 10) (read BadStr chars)
    (string_steps quote (n - (i + 1)) (so_far ++ (string_part chars).text) (string_part chars).rest)))
string_step quote n i so_far chars less = rw (more n i less) refl

pub bad_url_step : (n i : ℕ) (chars : List ℕ) → i < n → bad_url_steps (n - i) chars ≡
    cond (ends_url chars) (drop 1 chars)
    (cond (at_escape chars) (bad_url_steps (n - (i + 1)) (escaped (drop 1 chars)).rest) (bad_url_steps (n - (i + 1)) (drop 1 chars)))
bad_url_step n i chars less = rw (more n i less) refl

pub url_step : (n i : ℕ) (chars : List ℕ) → i < n → url_steps (n - i) chars ≡
    cond (ends_url chars) (read Url (drop 1 chars))
    (cond (is_whitespace (slice_index chars 0)) (url_end (past_whitespace chars))
    (cond (at_escape chars) (url_steps (n - (i + 1)) (escaped (drop 1 chars)).rest)
    (cond (is_not_in_url (slice_index chars 0)) (read BadUrl (past_bad_url chars)) (url_steps (n - (i + 1)) (drop 1 chars)))))
url_step n i chars less = rw (more n i less) refl

pub token_step : (n i total : ℕ) (so_far : List Token) (chars : List ℕ) → i < n → token_steps (n - i) total so_far chars ≡
    cond (length chars == 0) so_far
    (token_steps (n - (i + 1)) total (so_far ++ (one_token total chars).tokens) (one_token total chars).rest)
token_step n i total so_far chars less = rw (more n i less) refl

pub token_goes : (n i total : ℕ) (so_far new : List Token) (chars rest : List ℕ) → i < n → (length chars == 0) ≡ false
    → new ≡ so_far ++ (one_token total chars).tokens → rest ≡ (one_token total chars).rest
    → token_steps (n - i) total so_far chars ≡ token_steps (n - (i + 1)) total new rest
token_goes n i total so_far new chars rest less some is left = rw (token_step n i total so_far chars less, is, left, some) refl

pub string_goes : (quote n i : ℕ) (so_far new chars rest : List ℕ) → i < n → (length chars == 0) ≡ false
    → slice_index chars 0 ≢ quote → slice_index chars 0 ≢ 10 → new ≡ so_far ++ (string_part chars).text → rest ≡ (string_part chars).rest
    → string_steps quote (n - i) so_far chars ≡ string_steps quote (n - (i + 1)) new rest
string_goes quote n i so_far new chars rest less some quoted line is left =
    rw (string_step quote n i so_far chars less, is, left, some, ne_eqb _ _ quoted, ne_eqb _ _ line) refl
