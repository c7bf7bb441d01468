-- What is made of the end tags of the body and the root, which stay open (HTML Standard, sections 13.2.6.4.7 and 13.2.6.4.19).
use Rattle.std.proofs.Common.{◌≡◌, ◌∙◌, ℕ, Bool, true, false, List, [], ◌∷◌, refl, ap, ap₂, sym}
use Rattle.std.specs.Prelude.{◌&&◌, ◌||◌, Some, codes, is_none}
use Rattle.std.specs.List.{list_all}
use Rattle.std.specs.Str.{bytes_eq}
use Rattle.std.proofs.lemmas.Bool.{and_parts}
use Rattle.std.proofs.lemmas.Slice.Eq.{bytes_eq-Decides}
use Rattle.markup.specs.Names.{html_namespace}
use Rattle.markup.specs.Trees.{is_html}
use Rattle.markup.specs.declared.names.QualName.{QualName}
use Rattle.html_rules.specs.ForeignContent.{is_html_element}
use Rattle.html_rules.specs.Names as names
use Rattle.html_rules.specs.Rules.{rows}
use Rattle.html_rules.specs.Sets.{mathml_names_of, names_of, svg_names_of}
use Rattle.html_rules.specs.Stack.{in_scope}
use Rattle.html_rules.specs.State.{Open, current_is, is_in}
use Rattle.html_rules.specs.declared.insertion_mode.InsertionMode.{InsertionMode}
use Rattle.html_rules.specs.declared.insertion_mode.InsertionMode.TheVariants as mode
use Rattle.html_rules.specs.declared.tag_set.TagSet.TheVariants as set
use Rattle.html_faithful.specs.Harmless.{at_mode, by_rows, made_of, nothing_yet}
use Rattle.html_faithful.specs.Spots.{Spot}
use Rattle.html_faithful.specs.Walk.{finished}
use Rattle.html_faithful_walk.specs.Common.{is_after_body, is_body_ended, is_in_body, is_root_ended}
use Rattle.html_faithful_walk.proofs.CommonTags.{by-own, html_named, named-so, same-name}
use Rattle.html_faithful_walk.proofs.NameRows.{end_of}

body-mode : (m : InsertionMode) → is_in_body m ≡ true → m ≡ mode.InBody
body-mode mode.InBody h = refl
body-mode m h = absurd cc

after-mode : (m : InsertionMode) → is_after_body m ≡ true → m ≡ mode.AfterBody
after-mode mode.AfterBody h = refl
after-mode m h = absurd cc

-- the body is in scope where it is the current node, and is HTML's
body-scope : (path : List Open) → current_is (is_in set.Body) path ≡ true → in_scope set.DefaultScope (is_in set.Body) path ≡ true
body-scope [] h = absurd cc
body-scope (x ∷ xs) h = rw h refl

body-html : (path : List Open) → current_is (is_in set.Body) path ≡ true → current_is is_html_element path ≡ true
unfolding mathml_names_of svg_names_of
body-html [] h = absurd cc
body-html (x ∷ xs) h = by x.namespace x.name h
  where
    by : (space : names.Namespace) (name : List ℕ)
        → is_in set.Body (record { number = x.number; namespace = space; name = name; rules = x.rules }) ≡ true
        → is_html_element (record { number = x.number; namespace = space; name = name; rules = x.rules }) ≡ true
    by names.Html name h = refl
    by names.MathMl name h = absurd cc
    by names.Svg name h = absurd cc
    by (names.Other uri) name h = absurd cc

body-rows : (p : Spot) → in_scope set.DefaultScope (is_in set.Body) p.path ≡ true → list_all (is_in set.BodyEnd) p.path ≡ true
    → by_rows 4 (rows mode.InBody) (end_of (codes "body")) (nothing_yet p) ≡ Some (at_mode mode.AfterBody (nothing_yet p))
unfolding by_rows rows names_of
body-rows p scope all = rw (scope, all) refl

root-rows : (p : Spot) → by_rows 4 (rows mode.AfterBody) (end_of (codes "html")) (nothing_yet p)
    ≡ Some (at_mode mode.AfterAfterBody (nothing_yet p))
unfolding by_rows rows names_of
root-rows p = refl

at-rows : (p : Spot) (name : List ℕ) (m o : InsertionMode) → m ≡ o
    → by_rows 4 (rows m) (end_of name) (nothing_yet p) ≡ by_rows 4 (rows o) (end_of name) (nothing_yet p)
at-rows p name m o e = ap (λ m. by_rows 4 (rows m) (end_of name) (nothing_yet p)) e

body-made : (p : Spot) → is_body_ended p ≡ true → made_of (end_of (codes "body")) p ≡ Some (at_mode mode.AfterBody (nothing_yet p))
body-made p h =
    let parts = and_parts (is_in_body p.mode) (current_is (is_in set.Body) p.path && list_all (is_in set.BodyEnd) p.path) h in
    let own = and_parts (current_is (is_in set.Body) p.path) (list_all (is_in set.BodyEnd) p.path) parts.1 in
    by-own p _ (body-html p.path own.0)
    ∙ (at-rows p (codes "body") p.mode mode.InBody (body-mode p.mode parts.0) ∙ body-rows p (body-scope p.path own.0) own.1)

root-made : (p : Spot) → is_root_ended p ≡ true → made_of (end_of (codes "html")) p ≡ Some (at_mode mode.AfterAfterBody (nothing_yet p))
root-made p h =
    let parts = and_parts (is_after_body p.mode) (current_is is_html_element p.path) h in
    by-own p _ parts.1 ∙ (at-rows p (codes "html") p.mode mode.AfterBody (after-mode p.mode parts.0) ∙ root-rows p)

finished-body : (p : Spot) → is_body_ended p ≡ true → finished (html_named (codes "body")) p ≡ Some (record p { mode = mode.AfterBody })
finished-body p h = rw (body-made p h, same-name html_namespace) refl

finished-root : (p : Spot) → is_root_ended p ≡ true
    → finished (html_named (codes "html")) p ≡ Some (record p { mode = mode.AfterAfterBody })
finished-root p h = rw (root-made p h, same-name html_namespace) refl

of-name : (name : QualName) (text : List ℕ) → is_html name ≡ true → is_none name.prefix ≡ true → bytes_eq name.local text ≡ true
    → name ≡ html_named text
of-name name text h e is = named-so name h e ∙ ap html_named ((bytes_eq-Decides name.local text).0 is)

pub body-ends : (name : QualName) (p : Spot) → is_html name ≡ true → is_none name.prefix ≡ true → bytes_eq name.local (codes "body") ≡ true
    → is_body_ended p ≡ true → finished name p ≡ Some (record p { mode = mode.AfterBody })
body-ends name p h e is ended = ap (λ name. finished name p) (of-name name (codes "body") h e is) ∙ finished-body p ended

pub root-ends : (name : QualName) (p : Spot) → is_html name ≡ true → is_none name.prefix ≡ true → bytes_eq name.local (codes "html") ≡ true
    → is_root_ended p ≡ true → finished name p ≡ Some (record p { mode = mode.AfterAfterBody })
root-ends name p h e is ended = ap (λ name. finished name p) (of-name name (codes "html") h e is) ∙ finished-root p ended
