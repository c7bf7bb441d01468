-- What an action needs of a token, so that it leaves what was allowed.
use Rattle.std.proofs.Common.{◌≡◌, ℕ, Bool, true, false, List, [], ◌∷◌, ◌++◌, Option, Some, None, codes, refl, reverse, subst, sym}
use Rattle.std.proofs.Common.{true≢false}
use Rattle.std.proofs.lemmas.Grind.{reverse_onto}
use Rattle.std.proofs.lemmas.Bool.{and_parts}
use Rattle.std.specs.Prelude.{◌&&◌, IfSome}
use Rattle.markup.specs.Forest.{Forest, data_of}
use Rattle.markup.specs.declared.quirks.QuirksMode.TheVariants.{Quirks}
use Rattle.html_tokens.specs.declared.tags.Tag.{Tag}
use Rattle.html_tokens.specs.declared.token.Token.{Token}
use Rattle.html_tokens.specs.declared.token.Token.TheVariants.{TagToken, DoctypeToken, CommentToken, CharacterTokens, NullCharacterToken}
use Rattle.html_tokens.specs.declared.token.Token.TheVariants.{EOFToken, ParseError as ErrorToken}
use Rattle.html_rules.specs.Actions.{act, for_tag, forget_form_elem, frameset_not_ok, frameset_not_ok_unless_white, insert_form_void}
use Rattle.html_rules.specs.Actions.{keep_text}
use Rattle.html_rules.specs.Actions.{pop_template_mode, push_template_mode, remove_form_elem, remove_head_elem, restore_mode, save_mode}
use Rattle.html_rules.specs.Actions.{set_form_elem}
use Rattle.html_rules.specs.Actions.{set_foster_parenting, set_head_elem, set_ignore_lf, set_mode, set_template_mode}
use Rattle.html_rules.specs.Conditions.{holds}
use Rattle.html_rules.specs.Choice.{choose}
use Rattle.html_rules.specs.ForeignContent.{ends_foreign_in, enter_foreign, foreign_start, pop_foreign}
use Rattle.html_rules.specs.Formatting.{create_formatting_element_for}
use Rattle.html_rules.specs.Names.{Html}
use Rattle.html_rules.specs.Places.{insert_and_pop_element_for, insert_element_for}
use Rattle.html_rules.specs.Renames.{adjust_attributes}
use Rattle.html_rules.specs.Reset.{reset_insertion_mode}
use Rattle.html_rules.specs.Sets.{is_among}
use Rattle.html_rules.specs.Stack.{body_elem, if_body, left_from, parse_error, pop_until_current, root_number, second_of}
use Rattle.html_rules.specs.State.{Open, State, is_in, is_named}
use Rattle.html_rules.specs.Table.{Action, Nothing, Then, When, ParseError, InsertElement, InsertVoid, InsertVoidAs}
use Rattle.html_rules.specs.Table.{InsertFormVoid, InsertNew, InsertNewVoid, CreateRoot, CreateNewRoot, AppendText}
use Rattle.html_rules.specs.Table.{AppendReplacement, AppendComment, AppendCommentToDocument, AppendCommentToRoot}
use Rattle.html_rules.specs.Table.{InsertTemplate, AddAttributesToRoot, AddAttributesToBody, RemoveBody, Pop, PopUntil}
use Rattle.html_rules.specs.Table.{ClearBackTo, Close, CloseToken, CloseP, CloseItem, ImpliedEndTags, ImpliedEndTagsExcept}
use Rattle.html_rules.specs.Table.{ImpliedEndTagsExceptToken, ImpliedEndTagsThoroughly, AnyOtherEndTag, CheckBodyEnd}
use Rattle.html_rules.specs.Table.{SetHeadElem, PushHeadElem, RemoveHeadElem, SetFormElem, ForgetFormElem, RemoveFormElem}
use Rattle.html_rules.specs.Table.{Reconstruct, InsertFormatting, InsertMarker, ClearToMarker, AdoptionAgency, AdoptNobr}
use Rattle.html_rules.specs.Table.{CloseMisnestedA, SwitchTo, SaveMode, RestoreMode, ResetMode, PushTemplateMode}
use Rattle.html_rules.specs.Table.{SetTemplateMode, PopTemplateMode, SetQuirks, FramesetNotOk, FramesetNotOkUnlessWhite}
use Rattle.html_rules.specs.Table.{IgnoreLineFeed, EnableFosterParenting, DisableFosterParenting, KeepText, InsertPendingText}
use Rattle.html_rules.specs.Table.{EnterForeign, InsertForeign, PopForeign, CloseForeign}
use Rattle.html_rules.specs.Templates.{insert_template}
use Rattle.html_rules.specs.Tokens.{attributes_of, name_of, text_of}
use Rattle.html_rules.specs.declared.tag_set.TagSet.TheVariants as set
use Rattle.html_origins.specs.Allowed.{IsStateAllowed, Allowed, MayCreate}
use Rattle.html_origins.proofs.Adopting.{agency-from, misnested_a-from}
use Rattle.html_origins.proofs.Steps.{IsBodyAdding, IsForeignFrom, IsRootAdding, Keeps, body_end-from, choose-from, clear-from}
use Rattle.html_origins.proofs.Steps.{close_foreign-from}
use Rattle.html_origins.proofs.Steps.{close_item-from, close_p-from, comment-from, comment_to_doc-from, comment_to_html-from}
use Rattle.html_origins.proofs.Steps.{create_root-from}
use Rattle.html_origins.proofs.Steps.{enter-from, error-from, except-from, expect-from, foreign-from, formatting-from, generic-from}
use Rattle.html_origins.proofs.Steps.{implied-from}
use Rattle.html_origins.proofs.Steps.{insert_element-from, insert_for-from, marker-from, pending-from, pop_but_root-from, pop_foreign-from}
use Rattle.html_origins.proofs.Steps.{pop_until-from, pop_until_current-from, push_head-from, put_element-from, quirks-from}
use Rattle.html_origins.proofs.Steps.{reconstruct-from}
use Rattle.html_origins.proofs.Steps.{remove_body-from, template-from, text_put-from, unstacked_if-from}
use Rattle.html_origins.proofs.Trees.{IsAdding, MayAdd}

-- if a token is a tag
abbrev pub OnTag : Token → (Tag → Type 0) → Type 0
OnTag (TagToken tag) P = P tag
OnTag t P = Unit {0}

-- the element of a token that is a tag
abbrev pub HasOwn : Allowed → Token → Type 0
HasOwn a t = OnTag t (λ tag. MayCreate a Html tag.name tag.attrs)

abbrev pub Needs : Allowed → Action → Token → Type 0
Needs a (Then x y) t = Needs a x t × Needs a y t
Needs a (When c x) t = Needs a x t
Needs a InsertElement t = HasOwn a t
Needs a InsertVoid t = HasOwn a t
Needs a InsertFormVoid t = HasOwn a t
Needs a InsertTemplate t = HasOwn a t
Needs a InsertFormatting t = HasOwn a t
Needs a (InsertVoidAs name) t = OnTag t (λ tag. MayCreate a Html name tag.attrs)
Needs a (InsertNew name) t = MayCreate a Html name []
Needs a (InsertNewVoid name) t = MayCreate a Html name []
Needs a CreateRoot t = MayCreate a Html (codes "html") (attributes_of t)
Needs a CreateNewRoot t = MayCreate a Html (codes "html") []
Needs a AddAttributesToRoot t = OnTag t (λ tag. MayAdd a tag.name tag.attrs)
Needs a AddAttributesToBody t = OnTag t (λ tag. MayAdd a tag.name tag.attrs)
Needs a (EnterForeign namespace) t = OnTag t (λ tag. (a.namespace namespace)
    × MayCreate a namespace tag.name (adjust_attributes namespace tag.attrs))
Needs a InsertForeign t = OnTag t (IsForeignFrom a)
Needs a x t = Unit {0}

-- whether an action adds no attributes to an element that is there
abbrev pub no_adds : Action → Bool
no_adds (Then x y) = no_adds x && no_adds y
no_adds (When c x) = no_adds x
no_adds AddAttributesToRoot = false
no_adds AddAttributesToBody = false
no_adds x = true

-- after such an action attributes come to the same elements: the elements are as before, and of the open ones only the last have left
pub data Still : Action → Type 0 where
  nothing : Still Nothing
  error : Still ParseError
  fostering : Still EnableFosterParenting
  framing : Still FramesetNotOk
  popping : Still PopForeign
  both : (x y : Action) → Still x → Still y → Still (Then x y)

abbrev both_still : (x y : Action) → Option (Still x) → Option (Still y) → Option (Still (Then x y))
both_still x y (Some p) (Some q) = Some (both x y p q)
both_still x y _ _ = None

abbrev pub still : (x : Action) → Option (Still x)
still Nothing = Some nothing
still ParseError = Some error
still EnableFosterParenting = Some fostering
still FramesetNotOk = Some framing
still PopForeign = Some popping
still (Then x y) = both_still x y (still x) (still y)
still x = None

-- an action adds attributes, at once or after such actions
pub data AddsAtOnce : Action → Type 0 where
  root : AddsAtOnce AddAttributesToRoot
  body : AddsAtOnce AddAttributesToBody
  later : (x y : Action) → Still x → AddsAtOnce y → AddsAtOnce (Then x y)

abbrev later_of : (x y : Action) → Option (Still x) → Option (AddsAtOnce y) → Option (AddsAtOnce (Then x y))
later_of x y (Some p) (Some q) = Some (later x y p q)
later_of x y _ _ = None

abbrev pub adds_at_once : (x : Action) → Option (AddsAtOnce x)
adds_at_once AddAttributesToRoot = Some root
adds_at_once AddAttributesToBody = Some body
adds_at_once (Then x y) = later_of x y (still x) (adds_at_once y)
adds_at_once x = None

-- where a token is `<html>` or `<body>`, the elements to which its attributes come may take them
pub record Fits (a : Allowed) (t : Token) (s : State) : Type 0 where
  pub root : (tag : Tag) → t ≡ TagToken tag → is_among tag.name (codes "html" ∷ []) ≡ true → IsRootAdding a tag.name s
  pub body : (tag : Tag) → t ≡ TagToken tag → is_among tag.name (codes "body" ∷ []) ≡ true → IsBodyAdding a tag.name s
  -- so may the document, where no element is open
  pub document : (tag : Tag) → t ≡ TagToken tag → is_among tag.name (codes "html" ∷ []) ≡ true → IsAdding a tag.name (data_of s.forest 0)

module _ (a : Allowed) (f : Forest) (name : List ℕ) where
  -- of the first open element, and of the `body`
  abbrev RootOf : List Open → Type 0
  RootOf xs = IsAdding a name (data_of f (root_number xs))

  abbrev BodyOf : List Open → Type 0
  BodyOf xs = IfSome (body_elem xs) (λ n. IsAdding a name (data_of f n))

  root-below : IsAdding a name (data_of f 0) → (x : Open) (xs : List Open) → RootOf (x ∷ xs) → RootOf xs
  root-below document x [] h = document
  root-below document x (y ∷ ys) h = h

  either-root : (b : Bool) (xs ys : List Open) → RootOf xs → RootOf ys → RootOf (choose b (λ _. xs) (λ _. ys))
  either-root true xs ys h k = h
  either-root false xs ys h k = k

  either-body : (b : Bool) (xs ys : List Open) → BodyOf xs → BodyOf ys → BodyOf (choose b (λ _. xs) (λ _. ys))
  either-body true xs ys h k = h
  either-body false xs ys h k = k

  root-left : IsAdding a name (data_of f 0) → (p : Open → Bool) (xs : List Open) → RootOf xs → RootOf (left_from p xs)
  root-left document p [] h = h
  root-left document p (x ∷ xs) h = either-root (p x) (x ∷ xs) (left_from p xs) h (root-left document p xs (root-below document x xs h))

  -- what stands second stands second also where another comes last
  second-kept : (xs : List Open) (x : Open) → IfSome (if_body (second_of (xs ++ x ∷ []))) (λ n. IsAdding a name (data_of f n))
      → IfSome (if_body (second_of xs)) (λ n. IsAdding a name (data_of f n))
  second-kept [] x h = tt
  second-kept (y ∷ []) x h = tt
  second-kept (y ∷ z ∷ zs) x h = h

  body-left : (p : Open → Bool) (xs : List Open) → BodyOf xs → BodyOf (left_from p xs)
  body-left p [] h = h
  body-left p (x ∷ xs) h = either-body (p x) (x ∷ xs) (left_from p xs) h (body-left p xs (second-kept (reverse xs) x
      (subst (λ ys. IfSome (if_body (second_of ys)) (λ n. IsAdding a name (data_of f n))) (reverse_onto xs x []) h)))

and-true : (x y : Bool) → x ≡ true → y ≡ true → (x && y) ≡ true
and-true true y h k = k
and-true false y h k = h

pub still-no_adds : (x : Action) → Still x → no_adds x ≡ true
still-no_adds _ nothing = refl
still-no_adds _ error = refl
still-no_adds _ fostering = refl
still-no_adds _ framing = refl
still-no_adds _ popping = refl
still-no_adds _ (both x y p q) = and-true (no_adds x) (no_adds y) (still-no_adds x p) (still-no_adds y q)

pub still-fits : (a : Allowed) (x : Action) (t : Token) (s : State) → Still x → Fits a t s → Fits a t (act x t s)
unfolding parse_error set_foster_parenting frameset_not_ok pop_foreign pop_until_current
still-fits a _ t s nothing fits = fits
still-fits a _ t s error fits = record { root = fits.root; body = fits.body; document = fits.document }
still-fits a _ t s fostering fits = record { root = fits.root; body = fits.body; document = fits.document }
still-fits a _ t s framing fits = record { root = fits.root; body = fits.body; document = fits.document }
still-fits a _ t s popping fits = record {
  root = λ tag e n. root-left a s.forest tag.name (fits.document tag e n) (ends_foreign_in s) s.open_elems (fits.root tag e n);
  body = λ tag e n. body-left a s.forest tag.name (ends_foreign_in s) s.open_elems (fits.body tag e n);
  document = fits.document;
}
still-fits a _ t s (both x y p q) fits = still-fits a y t (act x t s) q (still-fits a x t s p fits)

module _ (a : Allowed) (known : a.namespace Html) where
  by-tag : (step : Tag → State → State) (P : Tag → Type 0) (t : Token) → ((tag : Tag) → P tag → Keeps a (step tag)) → OnTag t P
      → Keeps a (for_tag step t)
  by-tag step P (TagToken tag) keeps h s is = keeps tag h s is
  by-tag step P (DoctypeToken d) keeps h s is = is
  by-tag step P (CommentToken text) keeps h s is = is
  by-tag step P (CharacterTokens text) keeps h s is = is
  by-tag step P NullCharacterToken keeps h s is = is
  by-tag step P EOFToken keeps h s is = is
  by-tag step P (ErrorToken message) keeps h s is = is

  abbrev Own : Tag → Type 0
  Own tag = MayCreate a Html tag.name tag.attrs

  void-from : (tag : Tag) → Own tag → Keeps a (insert_and_pop_element_for tag)
  void-from tag h s is = put_element-from a Html tag.name tag.attrs tag.had_duplicate_attributes h s is

  form_void-from : (tag : Tag) → Own tag → Keeps a (insert_form_void tag)
  form_void-from tag h s is = let k = void-from tag h s is in
      record { elements = k.elements; listed = k.listed; opened = k.opened; context = k.context }

  pub act-from : (x : Action) (t : Token) (s : State) → no_adds x ≡ true → Needs a x t → IsStateAllowed a s → IsStateAllowed a (act x t s)
  unfolding set_mode save_mode restore_mode push_template_mode pop_template_mode set_template_mode frameset_not_ok
      frameset_not_ok_unless_white set_ignore_lf set_foster_parenting set_head_elem remove_head_elem set_form_elem
      forget_form_elem remove_form_elem keep_text reset_insertion_mode
  act-from Nothing t s g n is = is
  act-from (Then x y) t s g n is =
      let parts = and_parts (no_adds x) (no_adds y) g in act-from y t (act x t s) parts.1 n.1 (act-from x t s parts.0 n.0 is)
  act-from (When c x) t s g n is = choose-from a (holds c t s) (act x t s) s (act-from x t s g n is) is
  act-from ParseError t s g n is = error-from a s is
  act-from InsertElement t s g n is = by-tag insert_element_for Own t (λ tag h. insert_for-from a tag known h) n s is
  act-from InsertVoid t s g n is = by-tag insert_and_pop_element_for Own t void-from n s is
  act-from (InsertVoidAs name) t s g n is = by-tag (λ tag. insert_and_pop_element_for (record tag { name = name }))
      (λ tag. MayCreate a Html name tag.attrs) t (λ tag h. void-from (record tag { name = name }) h) n s is
  act-from InsertFormVoid t s g n is = by-tag insert_form_void Own t form_void-from n s is
  act-from (InsertNew name) t s g n is = insert_element-from a Html name [] false known n s is
  act-from (InsertNewVoid name) t s g n is = put_element-from a Html name [] false n s is
  act-from CreateRoot t s g n is = create_root-from a (attributes_of t) known n s is
  act-from CreateNewRoot t s g n is = create_root-from a [] known n s is
  act-from AppendText t s g n is = text_put-from a (text_of t) s is
  act-from AppendReplacement t s g n is = text_put-from a (0xFFFD ∷ []) s is
  act-from AppendComment t s g n is = comment-from a (text_of t) s is
  act-from AppendCommentToDocument t s g n is = comment_to_doc-from a (text_of t) s is
  act-from AppendCommentToRoot t s g n is = comment_to_html-from a (text_of t) s is
  act-from InsertTemplate t s g n is = by-tag insert_template Own t (λ tag h. template-from a tag known h) n s is
  act-from AddAttributesToRoot t s g n is = absurd (true≢false (sym g))
  act-from AddAttributesToBody t s g n is = absurd (true≢false (sym g))
  act-from RemoveBody t s g n is = remove_body-from a s is
  act-from Pop t s g n is = pop_but_root-from a s is
  act-from (PopUntil names) t s g n is = pop_until-from a (is_in names) s is
  act-from (ClearBackTo names) t s g n is = pop_until_current-from a (is_in names) s is
  act-from (Close names) t s g n is = expect-from a (is_in names) s is
  act-from CloseToken t s g n is = expect-from a (is_named (name_of t)) s is
  act-from CloseP t s g n is = close_p-from a s is
  act-from (CloseItem names) t s g n is = close_item-from a names s is
  act-from ImpliedEndTags t s g n is = implied-from a set.CursoryImpliedEnd s is
  act-from (ImpliedEndTagsExcept names) t s g n is = except-from a (is_in names) s is
  act-from ImpliedEndTagsExceptToken t s g n is = except-from a (is_named (name_of t)) s is
  act-from ImpliedEndTagsThoroughly t s g n is = implied-from a set.ThoroughImpliedEnd s is
  act-from AnyOtherEndTag t s g n is = generic-from a (name_of t) s is
  act-from CheckBodyEnd t s g n is = body_end-from a s is
  act-from PushHeadElem t s g n is = push_head-from a known s is
  act-from RemoveHeadElem t s g n is = unstacked_if-from a s.head_elem s is
  act-from RemoveFormElem t s g n is = unstacked_if-from a s.form_elem s is
  act-from Reconstruct t s g n is = reconstruct-from a known s is
  act-from InsertFormatting t s g n is = by-tag create_formatting_element_for Own t (λ tag h. formatting-from a tag known h) n s is
  act-from InsertMarker t s g n is = marker-from a s is
  act-from ClearToMarker t s g n is = clear-from a s is
  act-from AdoptionAgency t s g n is = agency-from a known (name_of t) s is
  act-from AdoptNobr t s g n is = agency-from a known (codes "nobr") s is
  act-from CloseMisnestedA t s g n is = misnested_a-from a known s is
  act-from SetQuirks t s g n is = quirks-from a Quirks s is
  act-from InsertPendingText t s g n is = pending-from a known s is
  act-from (EnterForeign namespace) t s g n is = by-tag (enter_foreign namespace)
      (λ tag. (a.namespace namespace) × MayCreate a namespace tag.name (adjust_attributes namespace tag.attrs)) t
      (λ tag h. enter-from a namespace tag h.0 h.1) n s is
  act-from InsertForeign t s g n is = by-tag foreign_start (IsForeignFrom a) t (λ tag h. foreign-from a tag h) n s is
  act-from PopForeign t s g n is = pop_foreign-from a s is
  act-from CloseForeign t s g n is = close_foreign-from a (name_of t) s is
  act-from SetHeadElem t s g n is = record { elements = is.elements; listed = is.listed; opened = is.opened; context = is.context }
  act-from SetFormElem t s g n is = record { elements = is.elements; listed = is.listed; opened = is.opened; context = is.context }
  act-from ForgetFormElem t s g n is = record { elements = is.elements; listed = is.listed; opened = is.opened; context = is.context }
  act-from (SwitchTo mode) t s g n is = record { elements = is.elements; listed = is.listed; opened = is.opened; context = is.context }
  act-from SaveMode t s g n is = record { elements = is.elements; listed = is.listed; opened = is.opened; context = is.context }
  act-from RestoreMode t s g n is = record { elements = is.elements; listed = is.listed; opened = is.opened; context = is.context }
  act-from ResetMode t s g n is = record { elements = is.elements; listed = is.listed; opened = is.opened; context = is.context }
  act-from (PushTemplateMode mode) t s g n is = record {
    elements = is.elements;
    listed = is.listed;
    opened = is.opened;
    context =
        is.context;
  }
  act-from (SetTemplateMode mode) t s g n is = record {
    elements = is.elements;
    listed = is.listed;
    opened = is.opened;
    context =
        is.context;
  }
  act-from PopTemplateMode t s g n is = record { elements = is.elements; listed = is.listed; opened = is.opened; context = is.context }
  act-from FramesetNotOk t s g n is = record { elements = is.elements; listed = is.listed; opened = is.opened; context = is.context }
  act-from FramesetNotOkUnlessWhite t s g n is = record {
    elements = is.elements;
    listed = is.listed;
    opened = is.opened;
    context =
        is.context;
  }
  act-from IgnoreLineFeed t s g n is = record { elements = is.elements; listed = is.listed; opened = is.opened; context = is.context }
  act-from EnableFosterParenting t s g n is = record {
    elements = is.elements;
    listed = is.listed;
    opened = is.opened;
    context =
        is.context;
  }
  act-from DisableFosterParenting t s g n is = record {
    elements = is.elements;
    listed = is.listed;
    opened = is.opened;
    context =
        is.context;
  }
  act-from KeepText t s g n is = record { elements = is.elements; listed = is.listed; opened = is.opened; context = is.context }
