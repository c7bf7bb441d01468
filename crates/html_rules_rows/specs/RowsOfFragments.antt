-- Worked rows: fragments, by their context.
use Prim.Native.String.{String}
use Rattle.std.specs.Prelude.{◌≡◌, ℕ, true, false, List, [], ◌∷◌, map, codes, None, Ok, Err, Result}
use Rattle.markup.specs.Forest.{Forest, children_of, empty_forest, node_count}
use Rattle.html_tokens.specs.RowForms.{five}
use Rattle.html_tokens.specs.Sink.{Refusal}
use Rattle.html_rules.specs.Documents.{Setting, fragment}
use Rattle.html_rules.specs.Names.{Namespace, Html, MathMl, Svg, Other}
use Rattle.html_rules.specs.Places.{with_element}
use Rattle.html_rules.specs.State.{State}
use Rattle.html_rules_rows.specs.RowForms.{default_options, default_setting, written_nodes}

-- the namespace and the name of the context, the text, and what is written of the children of the root
pub record FragmentRow : Type 0 where
  pub namespace : Namespace
  pub context : List ℕ
  pub input : List ℕ
  pub output : List ℕ

abbrev pub in_html : String → String → String → FragmentRow
in_html context input output = record { namespace = Html; context = codes context; input = codes input; output = codes output }

abbrev in_other : Namespace → String → String → String → FragmentRow
in_other namespace context input output = record {
  namespace = namespace;
  context = codes context;
  input = codes input;
  output = codes output;
}

-- a document with the context in its forest, which stands nowhere
abbrev with_context : FragmentRow → Forest
with_context r = with_element empty_forest r.namespace r.context [] false

-- the root is made next
abbrev inner_by : ℕ → Result State Refusal → List ℕ
inner_by root (Ok s) = written_nodes s.forest (children_of s.forest root)
inner_by root (Err refusal) = codes "refused"

abbrev pub read_fragment_by : Setting → FragmentRow → List ℕ
read_fragment_by setting r =
    let f = with_context r in
    inner_by (node_count f) (fragment five default_options setting
    (record { number = 1; namespace = r.namespace; name = r.context; rules = setting.opts.rules }) None true f r.input)

abbrev read_fragment : FragmentRow → List ℕ
read_fragment r = read_fragment_by default_setting r

abbrev pub fragment_rows : List FragmentRow
fragment_rows =
    -- raw text by the context
    in_html "title" "<b>&lt;</title>" "&lt;b&gt;&lt;&lt;/title&gt;"
    ∷ in_html "plaintext" "<b>&lt;" "&lt;b&gt;&amp;lt;"
    ∷ in_html "script" " " " "
    -- modes by the context
    ∷ in_html "tr" "<td>a</td><td>b" "<td>a</td><td>b</td>"
    ∷ in_html "td" "<td>a" "a"
    ∷ in_html "thead" "<tr><" "<tr></tr>&lt;"
    ∷ in_html "table" "</table>" ""
    ∷ in_html "caption" "<col>" ""
    ∷ in_html "colgroup" "<col>" "<col>"
    ∷ in_html "head" "<p>a" "<p>a</p>"
    ∷ in_html "frameset" "</frameset><frame>" "<frame>"
    ∷ in_html "html" "</html>" "<head></head><body></body>"
    ∷ in_html "html" "" "<head></head><body></body>"
    ∷ in_html "body" "a" "a"
    ∷ in_html "button" "" ""
    ∷ in_html "button" "<template><col></colgroup>" "<template><col></template>"
    ∷ in_html "template" "<td>a" "<td>a</td>"
    ∷ in_html "template" "" ""
    -- in a `select`
    ∷ in_html "select" "<input>" "<input>"
    ∷ in_html "select" "<select>" ""
    ∷ in_html "select" "<option>a<option>b" "<option>a</option><option>b</option>"
    -- foreign contexts
    ∷ in_other Svg "svg" "<![CDATA[a]]>" "a"
    ∷ in_other MathMl "mi" "</s>" ""
    ∷ in_other (Other (codes "urn:y")) "x" "<l>" "<l></l>"
    ∷ []

abbrev pub AreFragmentRowsRead : Type 0
AreFragmentRowsRead = map read_fragment fragment_rows ≡ map (λ r. r.output) fragment_rows
