-- The spots of the code.
use Rattle.std.specs.Prelude.{ℕ, Bool, true, false, ◌||◌, ◌&&◌, not, List, ◌∷◌}
use Rattle.html_tokens.specs.declared.token.Token.{Token}
use Rattle.html_rules.specs.ForeignContent.{is_html_element, is_svg_start, is_text_or_start}
use Rattle.html_rules.specs.Names.{Namespace}
use Rattle.html_rules.specs.Sets.{is_among, names_of}
use Rattle.html_rules.specs.Stack.{without_current}
use Rattle.html_rules.specs.State.{Open, is_in}
use Rattle.html_rules.specs.declared.tag_set.TagSet.TheVariants as set
use Rattle.html_faithful.specs.Spots.{Spot, opened_at}
use Rattle.html_faithful_judge.specs.declared.spot.Spot as declared

-- the spot of the definitions
abbrev pub spot_of : declared.Spot → Spot
spot_of s = record {
  mode = s.mode;
  orig_mode = s.orig_mode;
  path = s.stack.open_elems;
  template_modes = s.stack.template_modes;
  has_head = s.has_head;
  frameset_ok = s.frameset_ok;
  quirks_mode = s.quirks_mode;
  scripting = s.scripting;
  rules = s.stack.rules;
}

-- whether the rules of HTML take a token in an element, where no sink says that HTML may stand in it
abbrev pub is_html_at : Open → Token → Bool
is_html_at x t =
    (is_in set.MathmlTextIntegrationPoint x && is_text_or_start (λ name. not (is_among name (names_of set.MglyphMalignmark))) t)
    || (is_in set.SvgHtmlIntegrationPoint x && is_text_or_start (λ name. true) t)
    || (is_in set.AnnotationXml x && (is_svg_start t || (is_text_or_start (λ name. true) t && false)))

-- whether the rules of foreign content take a token in an element
abbrev pub is_foreign_in : Token → Open → Bool
is_foreign_in t x = not (is_html_element x) && not (is_html_at x t)

-- an element is opened there
abbrev pub opened_in : Namespace → List ℕ → Spot → Spot
opened_in namespace name p = record p { path = opened_at p.rules namespace name p.path ∷ p.path }

-- the current node is closed
abbrev pub closed_in : Spot → Spot
closed_in p = record p { path = without_current p.path }
