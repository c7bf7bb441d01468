-- A token does not look at the number of errors, and only counts it on.
use Rattle.std.proofs.Common.{◌≡◌, ◌∙◌, ℕ, zero, suc, Bool, true, false, List, [], ◌∷◌, refl, ap}
use Rattle.html_tokens.specs.declared.replies.TokenSinkResult.TheVariants as reply
use Rattle.html_tokens.specs.declared.token.Doctype.{Doctype}
use Rattle.html_tokens.specs.declared.token.Token.{Token}
use Rattle.html_tokens.specs.declared.token.Token.TheVariants.{DoctypeToken, TagToken, CommentToken, CharacterTokens}
use Rattle.html_tokens.specs.declared.token.Token.TheVariants.{NullCharacterToken, EOFToken, ParseError}
use Rattle.html_rules.specs.Actions.{act, restore_mode, set_ignore_lf, set_mode, set_quirks_mode}
use Rattle.html_rules.specs.Choice.{choose}
use Rattle.html_rules.specs.Doctypes.{doctype_error, quirks_of}
use Rattle.html_rules.specs.ForeignContent.{is_foreign}
use Rattle.html_rules.specs.Modes.Foreign.{in_foreign_content}
use Rattle.html_rules.specs.Places.{append_doctype_to_document}
use Rattle.html_rules.specs.Rules.{Ending, Finished, Again, Replied, Settled, Turn, check_acknowledged, concluded, first_fit}
use Rattle.html_rules.specs.Rules.{fits, four_for_each, is_self_closing, most_modes, one_more_turn, rows, settle, settled_by}
use Rattle.html_rules.specs.Rules.{turn, turn_by_row, turn_then, using_rules_for, within}
use Rattle.html_rules.specs.Stack.{parse_error}
use Rattle.html_rules.specs.State.{Open, State, current_number}
use Rattle.html_rules.specs.Step.{followed_by, after_line_feed, doctype_taken, first_doctype_taken, if_kept, taken, taken_by, doctype_settled, ends_table_text}
use Rattle.html_rules.specs.Step.{text_taken, untouched}
use Rattle.html_rules.specs.Table.{Row, Conclusion, Done, Acknowledged, Reprocess, ReprocessInOriginal, ReprocessInMode, Using}
use Rattle.html_rules.specs.Table.{UsingThen, UsingCurrentMode, RawText, PlainText, RunScript, ReportEncoding}
use Rattle.html_rules.specs.Tokens.{class_fits}
use Rattle.html_rules.specs.declared.insertion_mode.InsertionMode.{InsertionMode}
use Rattle.html_rules.specs.declared.insertion_mode.InsertionMode.TheVariants.{Initial, BeforeHtml}
use Rattle.html_rules_laws.specs.Errors.{AreErrorsCounted, Commutes, louder, louder_settled}
use Rattle.html_rules_laws.proofs.ErrorsMonotone.LouderActions.{act-louder, holds-louder, is_foreign-louder}
use Rattle.html_rules_laws.proofs.ErrorsMonotone.LouderActions.{set_ignore_lf-louder, set_mode-louder, set_quirks_mode-louder}
use Rattle.html_rules_laws.proofs.ErrorsMonotone.LouderSteps.{IsLoud, append_doctype_to_document-louder, choose-louder}
use Rattle.html_rules_laws.proofs.ErrorsMonotone.LouderSteps.{parse_error-louder, same-louder, then-louder}

abbrev louder_turn : (ℕ → ℕ) → Turn → Turn
louder_turn g made = record made { state = louder g made.state }

module _ (g : ℕ → ℕ) (commutes : Commutes g) where
  fits-louder : (r : Row) (t : Token) (s : State) → fits r t (louder g s) ≡ fits r t s
  fits-louder r t s = ap (λ b. choose (class_fits r.on t) (λ _. b) (λ _. false)) (holds-louder g commutes r.when t s)

  first_fit-louder : (rs : List Row) (t : Token) (s : State) → first_fit rs t (louder g s) ≡ first_fit rs t s
  first_fit-louder [] t s = refl
  first_fit-louder (r ∷ rs) t s =
      ap (λ b. choose b (λ _. r) (λ _. first_fit rs t (louder g s))) (fits-louder r t s)
      ∙ ap (λ other. choose (fits r t s) (λ _. r) (λ _. other)) (first_fit-louder rs t s)

  -- what the rules of modes make of a token does so
  AreLoud : (InsertionMode → Token → State → Turn) → Type 0
  AreLoud using = (m : InsertionMode) (t : Token) (s : State) → using m t (louder g s) ≡ louder_turn g (using m t s)

  concluded-louder : (using : InsertionMode → Token → State → Turn) → AreLoud using → (c : Conclusion) (t : Token)
      (script : ℕ) (s : State) → concluded using c t script (louder g s) ≡ louder_turn g (concluded using c t script s)
  unfolding AreLoud set_mode restore_mode
  concluded-louder using is Done t script s = refl
  concluded-louder using is Acknowledged t script s = refl
  concluded-louder using is (Reprocess m) t script s = refl
  concluded-louder using is ReprocessInOriginal t script s = refl
  concluded-louder using is ReprocessInMode t script s = refl
  concluded-louder using is (Using m) t script s = is m t s
  concluded-louder using is (UsingThen m after) t script s =
      ap (turn_then after t) (is m t s) ∙ ap (λ s'. record { state = s'; ends = (using m t s).ends })
      (act-louder g commutes after t (using m t s).state)
  concluded-louder using is UsingCurrentMode t script s = is s.mode t s
  concluded-louder using is (RawText kind) t script s = refl
  concluded-louder using is PlainText t script s = refl
  concluded-louder using is RunScript t script s = refl
  concluded-louder using is ReportEncoding t script s = refl

  turn_by_row-louder : (using : InsertionMode → Token → State → Turn) → AreLoud using → (r : Row) (t : Token)
      (s : State) → turn_by_row using r t (louder g s) ≡ louder_turn g (turn_by_row using r t s)
  turn_by_row-louder using is r t s =
      ap (concluded using r.ends t (current_number s.open_elems)) (act-louder g commutes r.does t s)
      ∙ concluded-louder using is r.ends t (current_number s.open_elems) (act r.does t s)

  first-louder : (using : InsertionMode → Token → State → Turn) → AreLoud using → (rs : List Row) (t : Token)
      (s : State) → turn_by_row using (first_fit rs t (louder g s)) t (louder g s) ≡ louder_turn g
      (turn_by_row using (first_fit rs t s) t s)
  first-louder using is rs t s = ap (λ r. turn_by_row using r t (louder g s)) (first_fit-louder rs t s)
      ∙ turn_by_row-louder using is (first_fit rs t s) t s

  using-louder : (n : ℕ) (m : InsertionMode) (t : Token) (s : State) → using_rules_for n m t
      (louder g s) ≡ louder_turn g (using_rules_for n m t s)
  unfolding using_rules_for AreLoud
  using-louder zero m t s = refl
  using-louder (suc n) m t s = first-louder (using_rules_for n) (using-louder n) (rows m) t s

  either-turn : (b : Bool) (x y x' y' : Turn) → x' ≡ louder_turn g x → y' ≡ louder_turn g y → choose b (λ _. x')
      (λ _. y') ≡ louder_turn g (choose b (λ _. x) (λ _. y))
  either-turn true x y x' y' e e' = e
  either-turn false x y x' y' e e' = e'

  turn-louder : (t : Token) (s : State) → turn t (louder g s) ≡ louder_turn g (turn t s)
  unfolding turn AreLoud
  turn-louder t s =
      ap (λ b. choose b (λ _. turn_by_row (using_rules_for most_modes) (first_fit in_foreign_content t (louder g s))
      t (louder g s)) (λ _. using_rules_for most_modes s.mode t (louder g s))) (is_foreign-louder g commutes t s)
      ∙ either-turn (is_foreign s t) _ _ _ _
      (first-louder (using_rules_for most_modes) (using-louder most_modes) in_foreign_content t s) (using-louder most_modes s.mode t s)

  acknowledged-louder : (b : Bool) (t : Token) → IsLoud g commutes (check_acknowledged b t)
  acknowledged-louder b t s = choose-louder g commutes b (λ s. s)
      (λ s. choose (is_self_closing t) (λ _. parse_error s) (λ _. s)) (same-louder g commutes)
      (λ s. choose-louder g commutes (is_self_closing t) parse_error (λ s. s) (parse_error-louder g commutes) (same-louder g commutes) s) s

  settled_by-louder : (again : State → Settled) → ((s : State) → again (louder g s) ≡ louder_settled g (again s))
      → (e : Ending) (t : Token) (s : State) → settled_by again e t (louder g s) ≡ louder_settled g (settled_by again e t s)
  settled_by-louder again is (Finished b) t s =
      ap (λ s. record { state = s; reply = reply.Continue; turns = 1; is_settled = true }) (acknowledged-louder b t s)
  settled_by-louder again is Again t s = ap one_more_turn (is s)
  settled_by-louder again is (Replied reply) t s = refl

  within-louder : (n : ℕ) (beyond : State → Settled) (t : Token)
      → ((s : State) → beyond (louder g s) ≡ louder_settled g (beyond s)) → (s : State)
      → within n beyond t (louder g s) ≡ louder_settled g (within n beyond t s)
  unfolding within
  within-louder zero beyond t is s = is s
  within-louder (suc n) beyond t is s =
      ap (λ made. settled_by (within n beyond t) made.ends t made.state) (turn-louder t s)
      ∙ settled_by-louder (within n beyond t) (within-louder n beyond t is) (turn t s).ends t (turn t s).state

  four_for_each-louder : (xs : List Open) (t : Token) (s : State) → four_for_each xs t (louder g s) ≡ louder_settled
      g (four_for_each xs t s)
  unfolding four_for_each
  four_for_each-louder [] t s = refl
  four_for_each-louder (x ∷ xs) t s = within-louder 4 (four_for_each xs t) t (four_for_each-louder xs t) s

  settle-louder : (t : Token) (s : State) → settle t (louder g s) ≡ louder_settled g (settle t s)
  unfolding settle
  settle-louder t s = within-louder 16 (four_for_each s.open_elems t) t (four_for_each-louder s.open_elems t) s

  text_taken-louder : (text : List ℕ) (before : Settled)
      → text_taken text (louder_settled g before) ≡ louder_settled g (text_taken text before)
  text_taken-louder [] before = refl
  text_taken-louder (c ∷ cs) before =
      ap (λ settled. text_taken cs (followed_by before settled)) (settle-louder (CharacterTokens (c ∷ [])) before.state)
      ∙ text_taken-louder cs (followed_by before (settle (CharacterTokens (c ∷ [])) before.state))

  if_kept-louder : (b : Bool) (d : Doctype) → IsLoud g commutes (if_kept b d)
  if_kept-louder b d s = choose-louder g commutes b (λ s. s) (append_doctype_to_document d) (same-louder g commutes)
      (append_doctype_to_document-louder g commutes d) s

  told-louder : (d : Doctype) → IsLoud g commutes (λ s. choose (doctype_error d) (λ _. parse_error s) (λ _. s))
  told-louder d s = choose-louder g commutes (doctype_error d) parse_error (λ s. s) (parse_error-louder g commutes)
      (same-louder g commutes) s

  first_doctype-louder : (d : Doctype) → IsLoud g commutes (first_doctype_taken d)
  first_doctype-louder d s =
      let quirks = quirks_of s.opts.rules s.opts.iframe_srcdoc d in
      then-louder g commutes (λ r. set_quirks_mode quirks
      (if_kept s.opts.drop_doctype d (choose (doctype_error d) (λ _. parse_error r) (λ _. r)))) (set_mode BeforeHtml)
      (then-louder g commutes (λ r. if_kept s.opts.drop_doctype d
      (choose (doctype_error d) (λ _. parse_error r) (λ _. r))) (set_quirks_mode quirks)
      (then-louder g commutes (λ r. choose (doctype_error d) (λ _. parse_error r) (λ _. r))
      (if_kept s.opts.drop_doctype d) (told-louder d) (if_kept-louder s.opts.drop_doctype d))
      (set_quirks_mode-louder g commutes quirks))
      (set_mode-louder g commutes BeforeHtml)
      s

  doctype-louder : (m : InsertionMode) (d : Doctype) → IsLoud g commutes (doctype_taken m d)
  doctype-louder Initial d s = first_doctype-louder d s
  doctype-louder _ d s = parse_error-louder g commutes s

  doctype_settled-louder : (e : Bool) (d : Doctype) (s : State) → doctype_settled e d (louder g s) ≡ louder_settled g (doctype_settled e d s)
  doctype_settled-louder true d s = settle-louder (DoctypeToken d) s
  doctype_settled-louder false d s = ap untouched (doctype-louder s.mode d s)

  taken_by-louder : (b : Bool) (t : Token) (s : State) → taken_by b t (louder g s) ≡ louder_settled g (taken_by b t s)
  taken_by-louder b (CharacterTokens text) s = text_taken-louder (after_line_feed b text) (untouched s)
  taken_by-louder b (DoctypeToken d) s = doctype_settled-louder (ends_table_text s.opts.rules s.mode) d s
  taken_by-louder b (TagToken tag) s = settle-louder (TagToken tag) s
  taken_by-louder b (CommentToken text) s = settle-louder (CommentToken text) s
  taken_by-louder b NullCharacterToken s = settle-louder NullCharacterToken s
  taken_by-louder b EOFToken s = settle-louder EOFToken s
  taken_by-louder b (ParseError message) s = settle-louder (ParseError message) s

  taken-louder : (t : Token) (s : State) → taken t (louder g s) ≡ louder_settled g (taken t s)
  unfolding taken
  taken-louder t s = ap (taken_by s.ignore_lf t) (set_ignore_lf-louder g commutes false s)
      ∙ taken_by-louder s.ignore_lf t (set_ignore_lf false s)

pub errors-counted : AreErrorsCounted
errors-counted g commutes t s = taken-louder g commutes t s
