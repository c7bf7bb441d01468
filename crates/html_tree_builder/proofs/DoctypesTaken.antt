-- A doctype that is taken where one belongs.
use Rattle.std.proofs.Common.{◌≡◌, ◌∙◌, Bool, true, false, ap, ap₂, sym}
use Rattle.markup.specs.declared.quirks.QuirksMode.{QuirksMode}
use Rattle.html_tokens.specs.declared.token.Doctype.{Doctype}
use Rattle.html_tokens.specs.declared.token.Token.TheVariants.{DoctypeToken}
use Rattle.html_rules.specs.Actions.{set_ignore_lf, set_mode, set_quirks_mode}
use Rattle.html_rules.specs.Choice.{choose}
use Rattle.html_rules.specs.Doctypes.{doctype_error, quirks_of}
use Rattle.html_rules.specs.Places.{append_doctype_to_document}
use Rattle.html_rules.specs.Rules.{settle}
use Rattle.html_rules.specs.Stack.{parse_error}
use Rattle.html_rules.specs.State.{State}
use Rattle.html_rules.specs.Step.{doctype_settled, doctype_taken, ends_table_text, first_doctype_taken, if_kept, taken, untouched}
use Rattle.html_rules.specs.declared.insertion_mode.InsertionMode.TheVariants.{BeforeHtml}
use Rattle.html_rules.specs.declared.rules.Rules.{Rules}
use Rattle.html_rules_laws.specs.Coming.{came_of}

-- it is not dropped
pub kept-doctype : (drop_doctype : Bool) (d : Doctype) (s r : State) → drop_doctype ≡ false
    → r ≡ append_doctype_to_document d s → r ≡ if_kept drop_doctype d s
kept-doctype drop_doctype d s r e is = rw e is

-- told, put, laid out, and after it the mode
pub first-doctype : (d : Doctype) (s told put laid r : State) (is_error iframe_srcdoc : Bool) (rules : Rules) (q : QuirksMode)
    → is_error ≡ doctype_error d → told ≡ choose is_error (λ _. parse_error s) (λ _. s)
    → put ≡ if_kept s.opts.drop_doctype d told
    → iframe_srcdoc ≡ s.opts.iframe_srcdoc → rules ≡ s.opts.rules → q ≡ quirks_of rules iframe_srcdoc d → laid ≡ set_quirks_mode q put
    → r ≡ set_mode BeforeHtml laid → r ≡ first_doctype_taken d s
first-doctype d s told put laid r is_error iframe_srcdoc rules q error is_told is_put srcdoc ruled quirks is_laid is =
    is
    ∙ ap (set_mode BeforeHtml)
    (is_laid
    ∙ ap (λ m. set_quirks_mode m put) (quirks ∙ ap₂ (λ rules b. quirks_of rules b d) ruled srcdoc)
    ∙ ap (set_quirks_mode (quirks_of s.opts.rules s.opts.iframe_srcdoc d))
    (is_put ∙ ap (if_kept s.opts.drop_doctype d) (is_told ∙ ap (λ b. choose b (λ _. parse_error s) (λ _. s)) error)))

-- one that ends the pending table character tokens is settled as other tokens are
pub doctype-settled : (d : Doctype) (s : State) → ends_table_text s.opts.rules s.mode ≡ true
    → settle (DoctypeToken d) (set_ignore_lf false s) ≡ came_of (DoctypeToken d) s
unfolding set_ignore_lf taken
doctype-settled d s ends = ap (λ b. doctype_settled b d (set_ignore_lf false s)) (sym ends)

-- any other is taken by the mode alone
pub doctype-passed : (d : Doctype) (s u : State) → u ≡ set_ignore_lf false s → ends_table_text s.opts.rules s.mode ≡ false
    → untouched (doctype_taken u.mode d u) ≡ came_of (DoctypeToken d) s
unfolding set_ignore_lf taken
doctype-passed d s u e none =
    ap (λ x. untouched (doctype_taken x.mode d x)) e ∙ ap (λ b. doctype_settled b d (set_ignore_lf false s)) (sym none)
