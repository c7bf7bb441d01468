-- Worked rows: texts of faithful documents, which write themselves, and trees that are not faithful, which are read as others.
use Prim.Native.String.{String}
use Rattle.std.specs.Prelude.{◌≡◌, ℕ, Bool, true, false, ◌&&◌, List, [], ◌∷◌, ◌++◌, map, codes, Result, Ok, Err, None}
use Rattle.std.specs.Str.{bytes_eq}
use Rattle.markup.specs.Forest.{Forest, children_of, data_of, empty_forest, integration_point_of}
use Rattle.markup.specs.Names.{html_name}
use Rattle.markup.specs.Trees.{Trees, Nothing, Text, Comment, Doctype, Element, default_entry, trees_of, written}
use Rattle.markup.specs.declared.quirks.QuirksMode.TheVariants.{NoQuirks}
use Rattle.html_rules.specs.Documents.{Setting, document}
use Rattle.html_rules.specs.State.{State}
use Rattle.html_tokens.specs.RowForms.{five}
use Rattle.html_tokens.specs.Sink.{Refusal}
use Rattle.html_tokens.specs.declared.options.TokenizerOpts.{TokenizerOpts}
use Rattle.html_rules.specs.declared.rules.Rules.TheVariants.{Html5ever}
use Rattle.html_faithful.specs.Walk.{is_faithful, is_faithful_forest}

abbrev opts : TokenizerOpts
opts = record { exact_errors = false; discard_bom = true; initial_state = None; last_start_tag_name = None }

abbrev setting : Setting
setting = record {
  opts = record { scripting_enabled = true; iframe_srcdoc = false; drop_doctype = false; rules = Html5ever };
  quirks_mode = NoQuirks;
  answers = record {
    integration_point = λ f n. integration_point_of (data_of f n);
    allows_shadow_roots = λ f n. true;
    attaches_shadow = λ f host template attributes. false;
  };
}

abbrev pub read : List ℕ → Result State Refusal
read text = document five opts setting empty_forest text

abbrev text_of : Trees → List ℕ
text_of trees = written true default_entry trees

abbrev trees_in : Forest → Trees
trees_in f = trees_of f (children_of f 0)

abbrev pub is_written_so : List ℕ → Result State Refusal → Bool
is_written_so text (Ok s) = bytes_eq (text_of (trees_in s.forest)) text
is_written_so text (Err refusal) = false

abbrev pub is_judged : Result State Refusal → Bool
is_judged (Ok s) = is_faithful_forest true s.forest
is_judged (Err refusal) = false

-- whether the document of a text is judged faithful, and is written so
abbrev pub is_faithful_text : List ℕ → Bool
is_faithful_text text = is_judged (read text) && is_written_so text (read text)

abbrev pub page : String → List ℕ
page body = codes "<!DOCTYPE html><html><head></head><body>" ++ codes body ++ codes "</body></html>"

-- faithful: the smallest of each family
abbrev faithful_texts : List (List ℕ)
faithful_texts =
    codes "<!DOCTYPE html><html lang=\"en\"><head><meta charset=\"utf-8\"><title>a</title><link href=\"b\"></head><body></body></html>"
    ∷ codes "<!--a--><!DOCTYPE html><!--b--><html><!--c--><head><!--d--></head> <!--e--><body></body><!--f--></html><!--g-->"
    ∷ codes "<!DOCTYPE html><html><head><script>a<b</script><style>c>d</style><noscript><p></noscript></head><body></body></html>"
    ∷ page "<section><p>a<span>b</span><img src=\"c\"></p></section>"
    ∷ page "<a href=\"1\"><div>a</div></a><x-y a:b=\"\" @c=\"\">d</x-y><strong><small>e</small></strong>"
    ∷ page "<dl><dt>a</dt><dd>b<dl><dt></dt></dl></dd></dl><pre>a\nb</pre><hr><textarea>a&lt;b</textarea>"
    ∷ []

abbrev pub AreFaithfulTextsReadBack : Type 0
AreFaithfulTextsReadBack = map (λ text. is_faithful_text text) faithful_texts ≡ map (λ text. true) faithful_texts

abbrev more_texts : List (List ℕ)
more_texts =
    page "<table class=\"a\"><caption>b</caption><colgroup><col></colgroup><thead><tr><th>c</th></tr></thead> <tbody></tbody></table>"
    ∷ page "<form><input><select><option>a</option></select><button>b</button></form>"
    ∷ page "<svg viewBox=\"0\"><linearGradient></linearGradient><foreignObject><p>a</p></foreignObject></svg><math><mi>x</mi></math>"
    ∷ page "<template><tr><td>a</td></tr></template><iframe>a</iframe><object><param></object>"
    ∷ codes "<!DOCTYPE html><html><head></head><frameset><frame></frameset></html>"
    ∷ codes "<!--a--><html><head></head><body><p></p><table></table><!--<!--b--></body></html>"
    ∷ []

abbrev pub AreMoreTextsReadBack : Type 0
AreMoreTextsReadBack = map (λ text. is_faithful_text text) more_texts ≡ map (λ text. true) more_texts

-- TREES THAT ARE NOT FAITHFUL

abbrev el : String → Trees → Trees → Trees
el name kids rest = Element (html_name (codes name)) [] false kids rest

abbrev body : Trees → Trees
body kids = Doctype (codes "html") [] [] (el "html" (el "head" Nothing (el "body" kids Nothing)) Nothing)

abbrev odd_trees : List Trees
odd_trees =
    body (el "p" (el "p" Nothing Nothing) Nothing)
    ∷ body (el "a" (el "b" (el "a" Nothing Nothing) Nothing) Nothing)
    ∷ body (el "p" (el "button" (el "div" (el "button" Nothing Nothing) Nothing) Nothing) Nothing)
    ∷ body (el "pre" (Text (10 ∷ codes "a") Nothing) Nothing)
    ∷ body (el "table" (el "tr" Nothing Nothing) Nothing)
    ∷ body (el "form" (el "div" (el "form" Nothing Nothing) Nothing) Nothing)
    ∷ body (el "script" (Text (codes "</script ") Nothing) Nothing)
    ∷ body (Comment (codes "a-->b") Nothing)
    ∷ []

abbrev pub AreOddTreesRefused : Type 0
AreOddTreesRefused = map (λ trees. is_faithful true trees) odd_trees ≡ map (λ trees. false) odd_trees
