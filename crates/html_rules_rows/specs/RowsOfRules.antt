-- Worked rows: where the Standard's rules differ from html5ever's (HTML Standard, sections 13.2.4 and 13.2.6).
use Prim.Native.String.{String}
use Rattle.std.specs.Prelude.{◌≡◌, ℕ, Bool, true, false, List, [], ◌∷◌, ◌++◌, map, codes}
use Rattle.markup.specs.Forest.{empty_forest}
use Rattle.html_tokens.specs.declared.token.Token.TheVariants.{EOFToken}
use Rattle.html_rules.specs.Actions.{set_mode}
use Rattle.html_rules.specs.Documents.{Setting, before_document}
use Rattle.html_rules.specs.Places.{create_root}
use Rattle.html_rules.specs.Step.{is_quiet}
use Rattle.html_rules.specs.declared.insertion_mode.InsertionMode.TheVariants.{InBody}
use Rattle.html_rules.specs.declared.rules.Rules.TheVariants.{Standard}
use Rattle.html_rules_rows.specs.RowForms.{default_setting, read_with}
use Rattle.html_rules_rows.specs.RowsOfFragments.{FragmentRow, in_html, read_fragment_by}
use Rattle.html_rules_rows.specs.RowsOfTokens.{opened}

abbrev by_standard : Setting
by_standard = record default_setting { opts = record default_setting.opts { rules = Standard } }

-- a text, and what is written of its document by html5ever's rules and by the Standard's
pub record RuledRow : Type 0 where
  pub input : List ℕ
  pub ours : List ℕ
  pub theirs : List ℕ

abbrev in_body : String → List ℕ
in_body text = codes "<html><head></head><body>" ++ codes text ++ codes "</body></html>"

abbrev ruled : String → String → String → RuledRow
ruled input ours theirs = record { input = codes input; ours = in_body ours; theirs = in_body theirs }

abbrev pub ruled_rows : List RuledRow
ruled_rows =
    -- MathML's `annotation-xml` bounds scopes
    ruled "<p><math><annotation-xml encoding=text/html><p>x"
    "<p><math><annotation-xml encoding=\"text/html\"></annotation-xml></math></p><p>x</p>"
    "<p><math><annotation-xml encoding=\"text/html\"><p>x</p></annotation-xml></math></p>"
    -- `search` is special, and `isindex` is not
    ∷ ruled "<x><search></x>y" "<x><search></search></x>y" "<x><search>y</search></x>"
    ∷ ruled "<x><isindex></x>y" "<x><isindex>y</isindex></x>" "<x><isindex></isindex></x>y"
    -- foreign content ends at an `annotation-xml` in which HTML may stand
    ∷ ruled "<math><annotation-xml encoding=text/html><svg><b>x"
    "<math><annotation-xml encoding=\"text/html\"><svg></svg></annotation-xml></math><b>x</b>"
    "<math><annotation-xml encoding=\"text/html\"><svg></svg><b>x</b></annotation-xml></math>"
    -- a doctype ends the text in a table
    ∷ ruled "<table> <!DOCTYPE html>x" " x<table></table>" "x<table> </table>"
    -- a doctype that only the Standard lists
    ∷ record {
      input = codes "<!DOCTYPE html PUBLIC \"+//Silmaril//dtd html Pro v0r11 19970101//EN\"><p><table>";
      ours = codes "<!DOCTYPE html>" ++ in_body "<p></p><table></table>";
      theirs = codes "<!DOCTYPE html>" ++ in_body "<p><table></table></p>";
    }
    ∷ []

abbrev pub fragments_by_ours : List FragmentRow
fragments_by_ours =
    -- a context that is a form, one that is a `select`, and a `thead` without a table
    in_html "form" "<form>a" "<form>a</form>"
    ∷ in_html "select" "<input>" "<input>"
    ∷ in_html "table" "<thead><tr><td>a</td></tr><tbody>" "<thead><tr><td>a</td></tr></thead>"
    ∷ []

abbrev pub fragments_by_theirs : List FragmentRow
fragments_by_theirs =
    in_html "form" "<form>a" "a"
    ∷ in_html "select" "<input>" ""
    ∷ in_html "table" "<thead><tr><td>a</td></tr><tbody>" "<thead><tr><td>a</td></tr></thead><tbody></tbody>"
    ∷ []

-- whether an element of this name may be open at the end of the body
abbrev may_stay : Setting → String → Bool
may_stay setting name = is_quiet (set_mode InBody
    (opened (codes "body" ∷ codes name ∷ []) (create_root [] (before_document setting empty_forest)))) EOFToken

abbrev pub AreRuledRowsRead : Type 0
AreRuledRowsRead =
    (map (λ r. read_with default_setting r.input) ruled_rows ≡ map (λ r. r.ours) ruled_rows)
    × (map (λ r. read_with by_standard r.input) ruled_rows ≡ map (λ r. r.theirs) ruled_rows)
    × (map (read_fragment_by default_setting) fragments_by_ours ≡ map (λ r. r.output) fragments_by_ours)
    × (map (read_fragment_by by_standard) fragments_by_theirs ≡ map (λ r. r.output) fragments_by_theirs)
    × (may_stay default_setting "rb" ≡ false)
    × (may_stay by_standard "rb" ≡ true)
