-- In text nothing is held, or in a CDATA section a part of its end.
use Rattle.std.proofs.Common.{◌∷◌, refl, lit<}
use Rattle.std.specs.Prelude.{codes}
use Rattle.html_tokens.specs.declared.states.RawKind.{RawKind}
use Rattle.html_tokens.specs.declared.states.RawKind.TheVariants as raw
use Rattle.html_tokens.specs.declared.states.ScriptEscapeKind.{ScriptEscapeKind}
use Rattle.html_tokens.specs.declared.states.ScriptEscapeKind.TheVariants as script
use Rattle.html_tokens.specs.declared.states.State.TheVariants as state
use Rattle.html_tokens.specs.Item.{InData, InRaw, InPlaintext, InCdata, silent}
use Rattle.html_tokens.proofs.Readings.{reading-item}
use Rattle.html_tokenizer.specs.declared.tokenizer.Tokenizer.{Tokenizer}
use Rattle.html_tokenizer.specs.Rest.{rows_of, standing, held_at}
use Rattle.html_tokenizer_parts.specs.Words.{kind_after}
use Rattle.html_tokenizer.specs.Untold.{Untold, Nothing, Front}
use Rattle.html_tokenizer.proofs.Untold.Completing.{by-mark}
use Rattle.html_tokenizer.specs.Listeners.{}

module _ (T : Type 0) {K : Type 0} (k : Tokenizer K) where
  pub data-told : Untold T state.Data k
  unfolding held_at
  data-told = Nothing (record { place = λ t. InData; in_text = λ t. refl; same = λ to b s t. refl })

  pub plaintext-told : Untold T state.Plaintext k
  unfolding held_at
  plaintext-told = Nothing (record { place = λ t. InPlaintext; in_text = λ t. refl; same = λ to b s t. refl })

  pub raw-told : (kind : RawKind) → Untold T (state.RawData kind) k
  unfolding held_at
  raw-told kind = Nothing (record { place = λ t. InRaw kind; in_text = λ t. refl; same = λ to b s t. refl })

  -- a script's text, whose kind the next characters decide
  pub less_than-told : Untold T (state.RawLessThanSign (raw.ScriptDataEscaped script.DoubleEscaped)) k
  unfolding held_at
  less_than-told = Nothing (record {
    place =
        λ t. InRaw (kind_after (raw.ScriptDataEscaped script.DoubleEscaped) (codes "<") t);
    in_text = λ t. refl;
    same = λ to b s t. refl;
  })

  pub escape_start-told : (kind : ScriptEscapeKind) → Untold T (state.ScriptDataEscapeStart kind) k
  unfolding held_at
  escape_start-told script.Escaped =
      Nothing (record { place = λ t. InRaw (kind_after raw.ScriptData (codes "<!") t); in_text = λ t. refl; same = λ to b s t. refl })
  escape_start-told script.DoubleEscaped =
      Nothing (record {
        place = λ t. InRaw (kind_after (raw.ScriptDataEscaped script.Escaped) (60 ∷ k.word) t);
        in_text = λ t. refl;
        same = λ to b s t. refl;
      })

  pub escape_start_dash-told : Untold T state.ScriptDataEscapeStartDash k
  unfolding held_at
  escape_start_dash-told = Nothing (record {
    place = λ t. InRaw (kind_after raw.ScriptData (codes "<!-") t);
    in_text = λ t. refl;
    same = λ to b s t. refl;
  })

  pub escaped_dash-told : (kind : ScriptEscapeKind) → Untold T (state.ScriptDataEscapedDash kind) k
  unfolding held_at
  escaped_dash-told kind = Nothing
      (record { place = λ t. InRaw (kind_after (raw.ScriptDataEscaped kind) (codes "-") t); in_text = λ t. refl; same = λ to b s t. refl })

  pub escaped_dash_dash-told : (kind : ScriptEscapeKind) → Untold T (state.ScriptDataEscapedDashDash kind) k
  unfolding held_at
  escaped_dash_dash-told kind =
      Nothing (record {
        place = λ t. InRaw (kind_after (raw.ScriptDataEscaped kind) (codes "--") t);
        in_text = λ t. refl;
        same = λ to b s t. refl;
      })

  pub double_escape_end-told : Untold T state.ScriptDataDoubleEscapeEnd k
  unfolding held_at
  double_escape_end-told = Nothing
      (record {
        place = λ t. InRaw (kind_after (raw.ScriptDataEscaped script.DoubleEscaped) (60 ∷ 47 ∷ k.word) t);
        in_text = λ t. refl;
        same = λ to b s t. refl;
      })

  -- CDATA sections: "]>" after "]", and ">" after "]]"
  pub cdata-told : Untold T state.CdataSection k
  unfolding held_at
  cdata-told = Nothing (record { place = λ t. InCdata; in_text = λ t. refl; same = λ to b s t. refl })

  pub bracket-front : Untold T state.CdataSectionBracket k
  unfolding held_at
  bracket-front = Front (record {
    more = codes "]>";
    item = silent 2 (standing k InData);
    some = lit< tt;
    whole = refl;
    markup = refl;
    same = λ to b s t. reading-item to.step to.erred to.cdata to.ends (rows_of k) (standing k InCdata) b s 93 (93 ∷ 62 ∷ t);
  })

  pub brackets-front : Untold T state.CdataSectionEnd k
  unfolding held_at
  brackets-front = by-mark T k state.CdataSectionEnd (silent 1 (standing k InData)) refl refl
      (λ to b s t. reading-item to.step to.erred to.cdata to.ends (rows_of k) (standing k InCdata) b s 93 (93 ∷ 62 ∷ t))
