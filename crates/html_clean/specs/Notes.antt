-- What is noted of a policy: its answers for known names.
use Rattle.std.specs.Prelude.{◌≡◌, ℕ, Bool, true, false, ◌&&◌, List, Option, Some, None, is_none, slice_index_or}
use Rattle.markup.specs.KnownNames.{IsNameAt}
use Rattle.markup.specs.declared.known_names.KnownName.{KnownName}
use Rattle.markup.specs.declared.names.QualName.{QualName}
use Rattle.html_round_trip.specs.Slices.Forms.{is_no_text}
use Rattle.html_clean.specs.Policies.{are_kept_urls, has_url, html_fate, is_named_for, is_safe_attribute_name}
use Rattle.html_clean.specs.Names.{is_void}
use Rattle.html_clean.specs.declared.notes.Judged.{Judged}
use Rattle.html_clean.specs.declared.notes.NotedVerdict.{NotedVerdict}
use Rattle.html_clean.specs.declared.notes.Verdict.{Verdict}
use Rattle.html_clean.specs.declared.notes.Verdict.TheVariants.{Refused, Kept, KeptByUrl}
use Rattle.html_clean.specs.declared.policy.Policy.{Policy}

-- without a prefix and a namespace
abbrev pub is_unprefixed : QualName → Bool
is_unprefixed name = is_none name.prefix && is_no_text name.ns

-- by whether an element may have an attribute of a name, and whether the attribute's value is a URL
abbrev pub verdict_by : Bool → Bool → Verdict
verdict_by false url = Refused
verdict_by true true = KeptByUrl
verdict_by true false = Kept

-- what a policy says of an attribute, by its name and that of its element
abbrev pub verdict : Policy → List ℕ → QualName → Verdict
verdict policy element name =
    verdict_by (is_safe_attribute_name name && is_named_for policy element name.local) (has_url policy name.local)

-- whether an attribute of an element on which there is this verdict is kept with this value
abbrev pub is_kept_value : Policy → Verdict → List ℕ → List ℕ → List ℕ → Bool
is_kept_value policy Refused element name value = false
is_kept_value policy Kept element name value = true
is_kept_value policy KeptByUrl element name value = are_kept_urls policy element name value

-- what is noted of the HTML element of a name is what the policy says
pub record IsJudged (policy : Policy) (name : List ℕ) (judged : Judged) : Type 0 where
  pub fate : judged.fate ≡ html_fate policy name
  pub void : judged.is_void ≡ is_void name

-- so it is for the known name at a place
abbrev pub IsElementAt : Policy → ℕ → Judged → Type 0
IsElementAt policy place judged = (name : List ℕ) → IsNameAt place name → IsJudged policy name judged

abbrev pub IsElementNote : Policy → ℕ → Option Judged → Type 0
IsElementNote policy place (Some judged) = IsElementAt policy place judged
IsElementNote policy place None = Unit {0}

-- the verdict on an attribute of a known name, of an element of a known name
abbrev pub IsVerdictOn : Policy → KnownName → KnownName → Verdict → Type 0
IsVerdictOn policy element name v = (e : List ℕ) (n : QualName) → IsNameAt element.place e → IsNameAt name.place n.local
    → is_unprefixed n ≡ true → v ≡ verdict policy e n

abbrev pub IsVerdictNote : Policy → Option NotedVerdict → Type 0
IsVerdictNote policy (Some noted) = IsVerdictOn policy noted.element noted.name noted.verdict
IsVerdictNote policy None = Unit {0}

-- all notes say what the policy says
pub record AreNotes (policy : Policy) (elements : List (Option Judged)) (verdicts : List (Option NotedVerdict)) : Type 0 where
  pub each_element : (place : ℕ) → IsElementNote policy place (slice_index_or elements place None)
  pub each_verdict : (slot : ℕ) → IsVerdictNote policy (slice_index_or verdicts slot None)
