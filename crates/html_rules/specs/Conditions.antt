-- When the conditions of rows hold.
use Rattle.std.specs.Prelude.{ℕ, Bool, true, false, ◌&&◌, not, List, [], ◌∷◌, Option, Some, None, is_some, codes}
use Rattle.markup.specs.declared.quirks.QuirksMode.{QuirksMode}
use Rattle.markup.specs.declared.quirks.QuirksMode.TheVariants.{Quirks, LimitedQuirks, NoQuirks}
use Rattle.html_tokens.specs.declared.token.Token.{Token}
use Rattle.html_rules.specs.Adoption.{is_number}
use Rattle.html_rules.specs.ForeignContent.{foreign_end, is_as_in_mode, is_foreign_end_error}
use Rattle.html_rules.specs.Formatting.{last_named}
use Rattle.html_rules.specs.Sets.{by_rules}
use Rattle.html_rules.specs.Stack.{body_elem, has_open, in_scope}
use Rattle.html_rules.specs.State.{Open, State, current_is, is_fragment, is_in, is_named}
use Rattle.html_rules.specs.Table.{Condition, Always, Not, Both, ScriptingEnabled, IframeSrcdoc, ByStandard, InFragment, ContextIs}
use Rattle.html_rules.specs.Table.{InQuirksMode, FramesetOk, CurrentIs, CurrentIsToken, RootAlone, SecondIsBody, TemplateOpen}
use Rattle.html_rules.specs.Table.{HasTemplateModes, InScope, TokenInScope, HasFormElem, FormElemInScope, FormElemIsCurrent}
use Rattle.html_rules.specs.Table.{AListed, TypeHidden, FontAttributes, EndsInHtml, ForeignEndError}
use Rattle.html_rules.specs.Tokens.{has_font_attributes, is_type_hidden, name_of}
use Rattle.html_rules.specs.declared.tag_set.TagSet.{TagSet}
use Rattle.html_rules.specs.declared.tag_set.TagSet.TheVariants as set

abbrev pub is_quirks : QuirksMode → Bool
is_quirks Quirks = true
is_quirks LimitedQuirks = false
is_quirks NoQuirks = false

abbrev pub context_is : TagSet → Option Open → Bool
context_is set None = false
context_is set (Some context) = is_in set context

abbrev pub is_alone : List Open → Bool
is_alone (x ∷ []) = true
is_alone _ = false

abbrev pub is_nonempty : {A : Type 0} → List A → Bool
is_nonempty [] = false
is_nonempty (x ∷ xs) = true

abbrev pub form_in_scope : Option ℕ → List Open → Bool
form_in_scope None xs = false
form_in_scope (Some n) xs = in_scope set.DefaultScope (is_number n) xs

abbrev pub form_is_current : Option ℕ → List Open → Bool
form_is_current None xs = false
form_is_current (Some n) xs = current_is (is_number n) xs

-- whether a condition holds for a token
abbrev pub holds : Condition → Token → State → Bool
holds Always t s = true
holds (Not c) t s = not (holds c t s)
holds (Both a b) t s = holds a t s && holds b t s
holds ScriptingEnabled t s = s.opts.scripting_enabled
holds IframeSrcdoc t s = s.opts.iframe_srcdoc
holds ByStandard t s = by_rules s.opts.rules false true
holds InFragment t s = is_fragment s
holds (ContextIs set) t s = context_is set s.context_elem
holds InQuirksMode t s = is_quirks s.quirks_mode
holds FramesetOk t s = s.frameset_ok
holds (CurrentIs set) t s = current_is (is_in set) s.open_elems
holds CurrentIsToken t s = current_is (is_named (name_of t)) s.open_elems
holds RootAlone t s = is_alone s.open_elems
holds SecondIsBody t s = is_some (body_elem s.open_elems)
holds TemplateOpen t s = has_open set.Template s.open_elems
holds HasTemplateModes t s = is_nonempty s.template_modes
holds (InScope scope set) t s = in_scope scope (is_in set) s.open_elems
holds (TokenInScope scope) t s = in_scope scope (is_named (name_of t)) s.open_elems
holds HasFormElem t s = is_some s.form_elem
holds FormElemInScope t s = form_in_scope s.form_elem s.open_elems
holds FormElemIsCurrent t s = form_is_current s.form_elem s.open_elems
holds AListed t s = is_some (last_named (codes "a") s.active_formatting)
holds TypeHidden t s = is_type_hidden t
holds FontAttributes t s = has_font_attributes t
holds EndsInHtml t s = is_as_in_mode (foreign_end (name_of t) s)
holds ForeignEndError t s = is_foreign_end_error (name_of t) s.open_elems
