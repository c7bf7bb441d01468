-- Raw text is read as it is (HTML Standard, sections 13.2.5.2 to 13.2.5.5 and 13.2.5.9 to 13.2.5.31).
use Rattle.std.proofs.Common.{◌≡◌, ◌∙◌, ℕ, suc, ◌+◌, ◌<◌, ◌≤◌, Bool, true, false, nat_eq, not, List, [], ◌∷◌, ◌++◌, length, map, refl}
use Rattle.std.proofs.Common.{sym, ap, arith}
use Rattle.std.proofs.Common.{codes, cond, subst, Some, append_assoc, length-append, true≢false}
use Rattle.std.specs.Prelude.{◌&&◌, IsOk}
use Rattle.std.specs.Char.{to_ascii_lowercase}
use Rattle.std.proofs.lemmas.Bool.{and_parts}
use Rattle.std.proofs.lemmas.Bool.Decides.{nat_tests}
use Rattle.markup.specs.Escape.{end_tag}
use Rattle.html_rules.specs.ForeignContent.{asks_cdata}
use Rattle.html_rules.specs.State.{State, hushed}
use Rattle.html_rules.specs.Step.{ended, step, taken}
use Rattle.html_rules_laws.specs.Usable.{Usable}
use Rattle.html_rules_laws.proofs.Progress.UsableTokens.{usable-hushed}
use Rattle.html_tokens.specs.Characters.{begins, begins_by, begins_name, shown}
use Rattle.html_tokens.specs.Item.{Fault, InRaw, Stand, moved}
use Rattle.html_tokens.specs.RawText.{ends_at_tag, has_references, is_fitting_end, is_letters, next_kind, raw_by, slash_name}
use Rattle.html_tokens.specs.Reading.{◌>>=◌, line_breaks, line_number}
use Rattle.html_tokens.specs.Table.{Row}
use Rattle.html_tokens.specs.declared.states.RawKind.{RawKind}
use Rattle.html_tokens.specs.declared.states.RawKind.TheVariants.{Rcdata, Rawtext, ScriptData, ScriptDataEscaped}
use Rattle.html_tokens.specs.declared.states.ScriptEscapeKind.TheVariants.{DoubleEscaped, Escaped}
use Rattle.html_tokens.specs.declared.token.Token.TheVariants.{CharacterTokens}
use Rattle.html_tokens.proofs.TextLaws.{joined, line_free, stays}
use Rattle.html_faithful.specs.Forms.{goes_on_raw, is_kept}
use Rattle.html_faithful_documents.specs.Forms.{in_raw}
use Rattle.html_faithful_documents.specs.Reads.{IsReadTo, read}
use Rattle.html_faithful_documents.specs.Slices.{IsItem, Last, Tells}
use Rattle.html_faithful_documents.proofs.Comments.{begins-more}
use Rattle.html_faithful_documents.proofs.Reading.{left-usable, step-taken, told-read, usable-laws}

-- RAW TEXT

-- raw text without references; a script's is that of a `script`
abbrev pub IsUnescaped : RawKind → List ℕ → Type 0
IsUnescaped Rcdata name = ⊥
IsUnescaped Rawtext name = Unit {0}
IsUnescaped ScriptData name = name ≡ codes "script"
IsUnescaped (ScriptDataEscaped kind) name = name ≡ codes "script"

if-both : (b : Bool) (x y : RawKind) (name : List ℕ) → IsUnescaped x name → IsUnescaped y name → IsUnescaped (cond b x y) name
if-both true x y name h k = h
if-both false x y name h k = k

next-unescaped : (kind : RawKind) (name : List ℕ) (c : ℕ) (t : List ℕ) → IsUnescaped kind name → IsUnescaped (next_kind kind c t) name
next-unescaped Rcdata name c t h = absurd h
next-unescaped Rawtext name c t h = tt
next-unescaped ScriptData name c t h =
    if-both (nat_eq c 60 && begins (codes "!--") t) (ScriptDataEscaped Escaped) ScriptData name h h
next-unescaped (ScriptDataEscaped Escaped) name c t h =
    let ends = nat_eq c 45 && begins (codes "->") t in
    if-both (nat_eq c 60 && begins_name (codes "script") t) (ScriptDataEscaped DoubleEscaped)
    (cond ends ScriptData (ScriptDataEscaped Escaped)) name h (if-both ends ScriptData (ScriptDataEscaped Escaped) name h h)
next-unescaped (ScriptDataEscaped DoubleEscaped) name c t h =
    let ends = nat_eq c 45 && begins (codes "->") t in
    if-both (nat_eq c 60 && begins_name (codes "/script") t) (ScriptDataEscaped Escaped)
    (cond ends ScriptData (ScriptDataEscaped DoubleEscaped)) name h (if-both ends ScriptData (ScriptDataEscaped DoubleEscaped) name h h)

no-references : (kind : RawKind) (name : List ℕ) → IsUnescaped kind name → has_references kind ≡ false
no-references Rcdata name h = absurd h
no-references Rawtext name h = refl
no-references ScriptData name h = refl
no-references (ScriptDataEscaped kind) name h = refl

-- the kind in which the end tag stands
abbrev pub last_kind : RawKind → List ℕ → List ℕ → RawKind
last_kind kind name [] = kind
last_kind kind name (c ∷ cs) = last_kind (next_kind kind c (cs ++ end_tag name)) name cs

pub ends-raw : (kind : RawKind) (name text : List ℕ) → goes_on_raw kind name text ≡ true → ends_at_tag (last_kind kind name text) ≡ true
ends-raw kind name [] h = h
ends-raw kind name (c ∷ cs) h =
    ends-raw (next_kind kind c (cs ++ end_tag name)) name cs
    (and_parts (not (nat_eq c 0x3C && ends_at_tag kind && is_fitting_end (Some name) (cs ++ end_tag name)))
    (goes_on_raw (next_kind kind c (cs ++ end_tag name)) name cs) h).1

-- WHAT STANDS AFTER THE END TAG IS OF NO ACCOUNT

begins_name-more : (w a u : List ℕ) → length w < length a → begins_name w (a ++ u) ≡ begins_name w a
begins_name-more [] [] u h = absurd (omega arith)
begins_name-more [] (c ∷ a) u h = refl
begins_name-more (x ∷ w) [] u h = absurd (omega arith)
begins_name-more (x ∷ w) (c ∷ a) u h = ap (λ (b : Bool). begins_by (nat_eq x (to_ascii_lowercase c)) (λ _. b))
    (begins_name-more w a u (omega arith))

later-kind : (kind : RawKind) (name : List ℕ) (c : ℕ) (cs u : List ℕ) → IsUnescaped kind name
    → next_kind kind c ((cs ++ end_tag name) ++ u) ≡ next_kind kind c (cs ++ end_tag name)
later-kind Rcdata name c cs u h = absurd h
later-kind Rawtext name c cs u h = refl
later-kind ScriptData name c cs u h =
    let a = cs ++ end_tag name in
    let long : 9 ≤ length a = omega (arith, length-append cs (end_tag name), ap (λ n. length (end_tag n)) h) in
    rw (begins-more (codes "!--") a u (omega arith)) refl
later-kind (ScriptDataEscaped Escaped) name c cs u h =
    let a = cs ++ end_tag name in
    let long : 9 ≤ length a = omega (arith, length-append cs (end_tag name), ap (λ n. length (end_tag n)) h) in
    rw (begins_name-more (codes "script") a u (omega arith), begins-more (codes "->") a u (omega arith)) refl
later-kind (ScriptDataEscaped DoubleEscaped) name c cs u h =
    let a = cs ++ end_tag name in
    let long : 9 ≤ length a = omega (arith, length-append cs (end_tag name), ap (λ n. length (end_tag n)) h) in
    rw (begins_name-more (codes "/script") a u (omega arith), begins-more (codes "->") a u (omega arith)) refl

map-length : (f : ℕ → ℕ) (cs : List ℕ) → length (map f cs) ≡ length cs
map-length f [] = refl
map-length f (c ∷ cs) = ap suc (map-length f cs)

slash-more : (name a u : List ℕ) → length name + 1 < length a → slash_name name (a ++ u) ≡ slash_name name a
slash-more name [] u h = absurd (omega arith)
slash-more name (c ∷ a) u h =
    let same_length = map-length to_ascii_lowercase name in
    ap (λ (b : Bool). nat_eq c 47 && b) (begins_name-more (map to_ascii_lowercase name) a u (omega arith))

later-end : (name cs u : List ℕ) → is_fitting_end (Some name) ((cs ++ end_tag name) ++ u) ≡ is_fitting_end (Some name) (cs ++ end_tag name)
later-end name cs u =
    ap (λ (b : Bool). is_letters name && b) (slash-more name (cs ++ end_tag name) u
    (omega (arith, length-append cs (end_tag name), length-append name (62 ∷ []))))

-- A CHARACTER

raw-plain : (b amp : Bool) (rows : List Row) (st : Stand) (kind : RawKind) (c : ℕ) (t : List ℕ) → b ≡ false → amp ≡ false
    → IsItem (raw_by b amp rows st kind c t) (Some (CharacterTokens (shown c ∷ []))) 1 (moved st (InRaw (next_kind kind c t)))
raw-plain b amp rows st kind c t e f = rw (e, f) (record { gives = refl; takes = refl; leaves = refl })

and-no : (a b : Bool) → b ≡ false → (a && b) ≡ false
and-no true b h = h
and-no false b h = refl

not-no : (b : Bool) → not b ≡ true → b ≡ false
not-no true h = absurd (true≢false (sym h))
not-no false h = refl

as-shown : (c : ℕ) → (not (nat_eq c 0) && not (nat_eq c 13)) ≡ true → shown c ≡ c
as-shown c h = grind (arith, nat_tests)

module _ (rows : List Row) where
  -- before the end tag, a character that does not end the text
  raw-tells : (kind : RawKind) (name : List ℕ) → IsUnescaped kind name → (asked : Bool) (c : ℕ) (cs t : List ℕ)
      → (not (nat_eq c 0) && not (nat_eq c 13)) ≡ true
      → not (nat_eq c 0x3C && ends_at_tag kind && is_fitting_end (Some name) (cs ++ end_tag name)) ≡ true
      → Tells rows asked (cs ++ (end_tag name ++ t)) (in_raw kind (Some name)) (c ∷ []) (CharacterTokens (c ∷ []))
      (in_raw (next_kind kind c (cs ++ end_tag name)) (Some name))
  raw-tells kind name own asked c cs t kept goes =
      let st = in_raw kind (Some name) in
      let u = cs ++ (end_tag name ++ t) in
      let shape : u ≡ (cs ++ end_tag name) ++ t = sym (append_assoc cs (end_tag name) t) in
      let test = λ (w : List ℕ). nat_eq c 0x3C && ends_at_tag kind && is_fitting_end (Some name) w in
      let no_end : test u ≡ false =
      ap test shape ∙ (ap (λ b. nat_eq c 0x3C && ends_at_tag kind && b) (later-end name cs t) ∙ not-no (test (cs ++ end_tag name)) goes) in
      let plain = raw-plain (test u) (nat_eq c 38 && has_references kind) rows st kind c u no_end
      (and-no (nat_eq c 38) (has_references kind) (no-references kind name own)) in
      Last c [] (record {
        gives = plain.gives ∙ ap (λ d. Some (CharacterTokens (d ∷ []))) (as-shown c kept);
        takes = plain.takes;
        leaves = plain.leaves ∙ ap (λ k. in_raw k (Some name)) (ap (next_kind kind c) shape ∙ later-kind kind name c cs t own);
      })

  -- it is read as one text
  raw-one : (kind : RawKind) (name : List ℕ) → IsUnescaped kind name → (c : ℕ) (cs t : List ℕ) (breaks : ℕ) (s : State) (line : ℕ)
      → Usable s
      → (not (nat_eq c 0) && not (nat_eq c 13)) ≡ true
      → not (nat_eq c 0x3C && ends_at_tag kind && is_fitting_end (Some name) (cs ++ end_tag name)) ≡ true
      → read rows (in_raw kind (Some name)) breaks s (c ∷ (cs ++ (end_tag name ++ t))) ≡ (step s (CharacterTokens (c ∷ [])) line
      >>= λ p. read rows (in_raw (next_kind kind c (cs ++ end_tag name)) (Some name)) (breaks + line_breaks (c ∷ [])) p.0
      (cs ++ (end_tag name ++ t)))
  raw-one kind name own c cs t breaks s line usable kept goes =
      let u = cs ++ (end_tag name ++ t) in
      let next = in_raw (next_kind kind c (cs ++ end_tag name)) (Some name) in
      let n = breaks + line_breaks (c ∷ []) in
      let k = line_number n in
      told-read rows s u (in_raw kind (Some name)) next (c ∷ []) (CharacterTokens (c ∷ [])) breaks
      (raw-tells kind name own (asks_cdata s) c cs t kept goes)
      ∙ (stays step (λ (f : Fault) s. s) asks_cdata ended rows Usable usable-laws next n
      (step s (CharacterTokens (c ∷ [])) k) u (usable-laws.goes_on s usable (c ∷ []) k)
      ∙ ap (λ r. r >>= λ p. read rows next n p.0 u)
      (line_free step (λ (f : Fault) s. s) asks_cdata ended rows Usable usable-laws s usable (c ∷ []) k line))

  raw-read : (kind : RawKind) (name : List ℕ) → IsUnescaped kind name → (c : ℕ) (cs t : List ℕ) (breaks : ℕ) (s : State) (line : ℕ)
      → Usable s
      → is_kept (c ∷ cs) ≡ true → goes_on_raw kind name (c ∷ cs) ≡ true
      → read rows (in_raw kind (Some name)) breaks s ((c ∷ cs) ++ (end_tag name ++ t)) ≡ (step s (CharacterTokens (c ∷ cs)) line
      >>= λ p. read rows (in_raw (last_kind kind name (c ∷ cs)) (Some name)) (breaks + line_breaks (c ∷ cs)) p.0 (end_tag name ++ t))
  raw-read kind name own c [] t breaks s line usable kept goes =
      let p = and_parts (not (nat_eq c 0) && not (nat_eq c 13)) true kept in
      let q = and_parts (not (nat_eq c 0x3C && ends_at_tag kind && is_fitting_end (Some name) ([] ++ end_tag name)))
      (goes_on_raw (next_kind kind c ([] ++ end_tag name)) name []) goes in
      raw-one kind name own c [] t breaks s line usable p.0 q.0
  raw-read kind name own c (d ∷ cs) t breaks s line usable kept goes =
      let p = and_parts (not (nat_eq c 0) && not (nat_eq c 13)) (is_kept (d ∷ cs)) kept in
      let next = next_kind kind c ((d ∷ cs) ++ end_tag name) in
      let q = and_parts (not (nat_eq c 0x3C && ends_at_tag kind && is_fitting_end (Some name) ((d ∷ cs) ++ end_tag name)))
      (goes_on_raw next name (d ∷ cs)) goes in
      let st = in_raw (last_kind next name (d ∷ cs)) (Some name) in
      let mid = in_raw next (Some name) in
      let u = end_tag name ++ t in
      let sum : (breaks + line_breaks (c ∷ [])) + line_breaks (d ∷ cs) ≡ breaks + line_breaks (c ∷ d ∷ cs) = omega arith in
      raw-one kind name own c (d ∷ cs) t breaks s 0 usable p.0 q.0
      ∙ joined step (λ (f : Fault) s. s) asks_cdata ended rows Usable usable-laws st (c ∷ []) (d ∷ cs) u (breaks + line_breaks (c ∷ d ∷ cs))
      s usable 0 0 line (λ x. read rows mid (breaks + line_breaks (c ∷ [])) x ((d ∷ cs) ++ u))
      (λ x k. raw-read next name (next-unescaped kind name c ((d ∷ cs) ++ end_tag name) own) d cs t (breaks + line_breaks (c ∷ [])) x 0 k
      p.1 q.1 ∙ ap (λ n. step x (CharacterTokens (d ∷ cs)) 0 >>= λ p. read rows st n p.0 u) sum)

  -- from a state to the state after the text, before its end tag
  pub raw-taken : (kind : RawKind) (name : List ℕ) → IsUnescaped kind name → (c : ℕ) (cs : List ℕ) (s : State) → is_kept (c ∷ cs) ≡ true
      → goes_on_raw kind name (c ∷ cs) ≡ true → Usable s → (breaks : ℕ) (t : List ℕ)
      → IsOk (read rows (in_raw kind (Some name)) breaks (hushed s) ((c ∷ cs) ++ (end_tag name ++ t)))
      → IsReadTo rows (in_raw kind (Some name)) s (c ∷ cs) breaks (end_tag name ++ t) (in_raw (last_kind kind name (c ∷ cs)) (Some name))
      (taken (CharacterTokens (c ∷ cs)) s).state
  raw-taken kind name own c cs s kept goes usable breaks t ok =
      let token = CharacterTokens (c ∷ cs) in
      let n = breaks + line_breaks (c ∷ cs) in
      let next = in_raw (last_kind kind name (c ∷ cs)) (Some name) in
      let e = raw-read kind name own c cs t breaks (hushed s) 0 (usable-hushed s usable) kept goes in
      let given = step-taken token s 0 (λ p. read rows next n p.0 (end_tag name ++ t)) refl (subst IsOk e ok) in
      record {
        usable = left-usable token s 0 usable given;
        behind = n;
        is = e ∙ ap (λ r. r >>= λ p. read rows next n p.0 (end_tag name ++ t)) given;
      }
