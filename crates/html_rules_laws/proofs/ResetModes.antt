-- What a reset of the mode may give: it passes each test that the modes pass which open elements ask for.
use Rattle.std.proofs.Common.{◌≡◌, ◌∙◌, Bool, true, false, List, [], ◌∷◌, Option, Some, None, refl, sym, true≢false}
use Rattle.std.proofs.lemmas.Bool.{and_parts}
use Rattle.html_rules.specs.Choice.{choose}
use Rattle.html_rules.specs.Reset.{current_template_mode, mode_of, mode_of_context, mode_of_html, mode_of_open}
use Rattle.html_rules.specs.State.{Open, State, is_in}
use Rattle.html_rules.specs.declared.insertion_mode.InsertionMode.{InsertionMode}
use Rattle.html_rules.specs.declared.insertion_mode.InsertionMode.TheVariants as mode
use Rattle.html_rules.specs.declared.tag_set.TagSet.TheVariants as set
use Rattle.html_rules_laws.specs.Settled.{are_template_modes, is_template_mode}

-- modes that an element asks for, other than the head and the root
abbrev pub is_asked : InsertionMode → Bool
is_asked mode.InCell = true
is_asked mode.InRow = true
is_asked mode.InTableBody = true
is_asked mode.InCaption = true
is_asked mode.InColumnGroup = true
is_asked mode.InTable = true
is_asked mode.InTemplate = true
is_asked mode.InBody = true
is_asked mode.InFrameset = true
is_asked m = false

template-asked : (m : InsertionMode) → is_template_mode m ≡ true → is_asked m ≡ true
template-asked mode.InTemplate h = refl
template-asked mode.InTable h = refl
template-asked mode.InColumnGroup h = refl
template-asked mode.InTableBody h = refl
template-asked mode.InRow h = refl
template-asked mode.InBody h = refl
template-asked m h = absurd (true≢false (sym h))

module _ (P : InsertionMode → Type 0) (passes : (m : InsertionMode) → is_asked m ≡ true → P m) where
  pub choose-passes : (b : Bool) (x y : Unit {0} → InsertionMode) → (b ≡ true → P (x tt)) → (b ≡ false → P (y tt)) → P (choose b x y)
  choose-passes true x y h k = h refl
  choose-passes false x y h k = k refl

  pub template-passes : (modes : List InsertionMode) → are_template_modes modes ≡ true → P (current_template_mode modes)
  template-passes [] h = passes mode.InBody refl
  template-passes (m ∷ modes) h = passes m (template-asked m (and_parts (is_template_mode m) (are_template_modes modes) h).0)

  pub element-passes : (s : State) (x : Open) (before : Unit {0} → InsertionMode)
      → are_template_modes s.template_modes ≡ true → (is_in set.Html x ≡ true → P (mode_of_html s.head_elem))
      → (is_in set.Template x ≡ false → is_in set.Html x ≡ false → P (before tt)) → P (mode_of s x before)
  element-passes s x before h root rest =
      choose-passes (is_in set.Tr x) _ _ (λ e. passes mode.InRow refl)
      (λ e. choose-passes (is_in set.TbodyTfootThead x) _ _ (λ e. passes mode.InTableBody refl)
      (λ e. choose-passes (is_in set.Caption x) _ _ (λ e. passes mode.InCaption refl)
      (λ e. choose-passes (is_in set.Colgroup x) _ _ (λ e. passes mode.InColumnGroup refl)
      (λ e. choose-passes (is_in set.Table x) _ _ (λ e. passes mode.InTable refl)
      (λ e. choose-passes (is_in set.Template x) _ _ (λ e. template-passes s.template_modes h)
      (λ t. choose-passes (is_in set.Body x) _ _ (λ e. passes mode.InBody refl)
      (λ e. choose-passes (is_in set.Frameset x) _ _ (λ e. passes mode.InFrameset refl)
      (λ e. choose-passes (is_in set.Html x) _ before root (λ e. rest t e)))))))))

  pub context-passes : (s : State) (o : Option Open) → are_template_modes s.template_modes ≡ true
      → P (mode_of_html s.head_elem) → P (mode_of_context s o)
  context-passes s None h root = root
  context-passes s (Some x) h root = element-passes s x (λ _. mode.InBody) h (λ e. root) (λ t e. passes mode.InBody refl)

  pub open-passes : (s : State) (xs : List Open) → are_template_modes s.template_modes ≡ true → P mode.InHead
      → P (mode_of_context s s.context_elem) → P (mode_of_open s xs)
  open-passes s [] h head context = passes mode.InBody refl
  open-passes s (x ∷ xs) h head context =
      choose-passes (is_in set.TdTh x) _ _ (λ e. passes mode.InCell refl) (λ e. choose-passes (is_in set.Head x) _ _ (λ e. head)
      (λ e. choose-passes (is_in set.Html x) _ _ (λ e. context)
      (λ html. element-passes s x (λ _. mode_of_open s xs) h (λ e. absurd (true≢false (sym e ∙ html)))
      (λ t e. open-passes s xs h head context))))
