-- Each row gives its actions what they need of a token.
use Rattle.std.proofs.Common.{◌≡◌, ℕ, Bool, true, false, List, [], ◌∷◌, refl, sym, subst, codes, true≢false}
use Rattle.std.proofs.lemmas.Bool.{and_parts}
use Rattle.std.proofs.lemmas.Slice.Eq.{bytes_eq-Decides}
use Rattle.std.specs.Prelude.{◌&&◌, ◌||◌}
use Rattle.std.specs.List.{list_all}
use Rattle.std.specs.Str.{bytes_eq}
use Rattle.markup.specs.declared.attributes.Attribute.{Attribute}
use Rattle.html_tokens.specs.declared.tags.Tag.{Tag}
use Rattle.html_tokens.specs.declared.tags.TagKind.{TagKind}
use Rattle.html_tokens.specs.declared.tags.TagKind.TheVariants.{StartTag, EndTag}
use Rattle.html_tokens.specs.declared.token.Token.{Token}
use Rattle.html_tokens.specs.declared.token.Token.TheVariants.{TagToken, DoctypeToken, CommentToken, CharacterTokens, NullCharacterToken}
use Rattle.html_tokens.specs.declared.token.Token.TheVariants.{EOFToken, ParseError as ErrorToken}
use Rattle.html_rules.specs.ForeignContent.{is_end_tag, is_start_tag}
use Rattle.html_rules.specs.Names.{Html, MathMl, Svg, Other}
use Rattle.html_rules.specs.Sets.{is_among, names_of}
use Rattle.html_rules.specs.Table as table
use Rattle.html_rules.specs.Table.{Action, Class, Nothing, Then, When, InsertElement, InsertVoid, InsertVoidAs}
use Rattle.html_rules.specs.Table.{InsertFormVoid, InsertNew, InsertNewVoid, CreateRoot, CreateNewRoot, InsertTemplate}
use Rattle.html_rules.specs.Table.{AddAttributesToRoot, AddAttributesToBody, InsertFormatting, EnterForeign, InsertForeign}
use Rattle.html_rules.specs.Table.{StartTags, EndTags, AnyStartTag}
use Rattle.html_rules.specs.Tokens.{class_fits}
use Rattle.html_rules.specs.Actions.{act}
use Rattle.html_rules.specs.State.{State}
use Rattle.html_origins.specs.Allowed.{IsStateAllowed, Allowed, MayCreate, AreRootsAllowed, IsEndAllowed, IsTokenAllowed, IsStartAllowed}
use Rattle.html_origins.specs.Allowed.{IsTagAllowed, cells, cells_and_rows, root_and_body}
use Rattle.html_origins.proofs.Acts as acts
use Rattle.html_origins.proofs.Acts.{AddsAtOnce, Fits, Needs, OnTag, act-from, still-fits, still-no_adds}
use Rattle.html_origins.proofs.Steps.{body_attributes-from, root_attributes-from}

-- a row of this class is for start tags of these names alone; for end tags
abbrev pub starts : Class → List (List ℕ) → Bool
starts (StartTags set) names = list_all (λ name. is_among name names) (names_of set)
starts c names = false

abbrev pub ends : Class → List (List ℕ) → Bool
ends (EndTags set) names = list_all (λ name. is_among name names) (names_of set)
ends c names = false

abbrev pub is_start : Class → Bool
is_start (StartTags set) = true
is_start AnyStartTag = true
is_start c = false

-- the name of an element without a tag of its own is one of these
abbrev pub is_made : Class → List ℕ → Bool
is_made c name =
    bytes_eq name (codes "head") || (bytes_eq name (codes "body")
    || ((bytes_eq name (codes "colgroup") && starts c (codes "col" ∷ []))
    || ((bytes_eq name (codes "tbody") && starts c cells_and_rows)
    || ((bytes_eq name (codes "tr") && starts c cells)
    || ((bytes_eq name (codes "p") && ends c (codes "p" ∷ []))
    || (bytes_eq name (codes "br") && ends c (codes "br" ∷ [])))))))

-- an action stands in a row of a class that gives it what it needs
abbrev pub is_given : Class → Action → Bool
is_given c (Then x y) = is_given c x && is_given c y
is_given c (When d x) = is_given c x
is_given c InsertElement = is_start c
is_given c InsertVoid = is_start c
is_given c InsertFormVoid = is_start c
is_given c InsertTemplate = is_start c
is_given c InsertFormatting = is_start c
is_given c InsertForeign = is_start c
is_given c (InsertVoidAs name) = bytes_eq name (codes "img") && starts c (codes "image" ∷ [])
is_given c (InsertNew name) = is_made c name
is_given c (InsertNewVoid name) = is_made c name
is_given c CreateRoot = starts c (codes "html" ∷ [])
is_given c AddAttributesToRoot = starts c (codes "html" ∷ [])
is_given c AddAttributesToBody = starts c (codes "body" ∷ [])
is_given c (EnterForeign MathMl) = starts c (codes "math" ∷ [])
is_given c (EnterForeign Svg) = starts c (codes "svg" ∷ [])
is_given c (EnterForeign Html) = false
is_given c (EnterForeign (Other uri)) = false
is_given c x = true

or-then : {P : Type 0} (x y : Bool) → (x || y) ≡ true → (x ≡ true → P) → (y ≡ true → P) → P
or-then true y h f g = f refl
or-then false y h f g = g h

same : (name other : List ℕ) → bytes_eq name other ≡ true → name ≡ other
same name other h = (bytes_eq-Decides name other).0 h

among-by : (p : List ℕ → Bool) (name x : List ℕ) (rest : List (List ℕ)) → p x ≡ true → (is_among name rest ≡ true → p name ≡ true)
    → is_among name (x ∷ rest) ≡ true → p name ≡ true
among-by p name x rest h later k = or-then (bytes_eq name x) (is_among name rest) k
    (λ e. subst (λ y. p y ≡ true) (sym (same name x e)) h) later

pub among-all : (p : List ℕ → Bool) (name : List ℕ) (names : List (List ℕ)) → list_all p names ≡ true → is_among name names ≡ true
    → p name ≡ true
among-all p name [] h k = absurd (true≢false (sym k))
among-all p name (x ∷ rest) h k =
    let parts = and_parts (p x) (list_all p rest) h in
    among-by p name x rest parts.0 (among-all p name rest parts.1) k

module _ (a : Allowed) (roots : AreRootsAllowed a) where
  start-of : (kind : TagKind) (tag : Tag) → is_start_tag kind ≡ true → IsTagAllowed a kind tag → IsStartAllowed a tag
  start-of StartTag tag h k = k
  start-of EndTag tag h k = absurd (true≢false (sym h))

  end-of : (kind : TagKind) (tag : Tag) → is_end_tag kind ≡ true → IsTagAllowed a kind tag → IsEndAllowed a tag
  end-of StartTag tag h k = absurd (true≢false (sym h))
  end-of EndTag tag h k = k

  no : {P : Type 0} → false ≡ true → P
  no h = absurd (true≢false (sym h))

  starting : (c : Class) (names : List (List ℕ)) (t : Token) (P : Token → Type 0) → starts c names ≡ true → class_fits c t ≡ true
      → IsTokenAllowed a t → ((tag : Tag) → is_among tag.name names ≡ true → IsStartAllowed a tag → P (TagToken tag)) → P t
  starting (StartTags set) names (TagToken tag) P h f k go =
      let parts = and_parts (is_start_tag tag.kind) (is_among tag.name (names_of set)) f in
      go tag (among-all (λ name. is_among name names) tag.name (names_of set) h parts.1) (start-of tag.kind tag parts.0 k)
  starting (StartTags set) names (DoctypeToken d) P h f k go = no f
  starting (StartTags set) names (CommentToken text) P h f k go = no f
  starting (StartTags set) names (CharacterTokens text) P h f k go = no f
  starting (StartTags set) names NullCharacterToken P h f k go = no f
  starting (StartTags set) names EOFToken P h f k go = no f
  starting (StartTags set) names (ErrorToken message) P h f k go = no f
  starting (EndTags set) names t P h f k go = no h
  starting AnyStartTag names t P h f k go = no h
  starting table.AnyEndTag names t P h f k go = no h
  starting table.WhiteSpace names t P h f k go = no h
  starting table.Character names t P h f k go = no h
  starting table.Null names t P h f k go = no h
  starting table.Comment names t P h f k go = no h
  starting table.EndOfFile names t P h f k go = no h
  starting table.AnythingElse names t P h f k go = no h

  ending : (c : Class) (names : List (List ℕ)) (t : Token) (P : Type 0) → ends c names ≡ true → class_fits c t ≡ true
      → IsTokenAllowed a t → ((tag : Tag) → is_among tag.name names ≡ true → IsEndAllowed a tag → P) → P
  ending (EndTags set) names (TagToken tag) P h f k go =
      let parts = and_parts (is_end_tag tag.kind) (is_among tag.name (names_of set)) f in
      go tag (among-all (λ name. is_among name names) tag.name (names_of set) h parts.1) (end-of tag.kind tag parts.0 k)
  ending (EndTags set) names (DoctypeToken d) P h f k go = no f
  ending (EndTags set) names (CommentToken text) P h f k go = no f
  ending (EndTags set) names (CharacterTokens text) P h f k go = no f
  ending (EndTags set) names NullCharacterToken P h f k go = no f
  ending (EndTags set) names EOFToken P h f k go = no f
  ending (EndTags set) names (ErrorToken message) P h f k go = no f
  ending (StartTags set) names t P h f k go = no h
  ending AnyStartTag names t P h f k go = no h
  ending table.AnyEndTag names t P h f k go = no h
  ending table.WhiteSpace names t P h f k go = no h
  ending table.Character names t P h f k go = no h
  ending table.Null names t P h f k go = no h
  ending table.Comment names t P h f k go = no h
  ending table.EndOfFile names t P h f k go = no h
  ending table.AnythingElse names t P h f k go = no h

  on-start : (c : Class) (t : Token) (P : Tag → Type 0) → is_start c ≡ true → class_fits c t ≡ true → IsTokenAllowed a t
      → ((tag : Tag) → IsStartAllowed a tag → P tag) → OnTag t P
  on-start (StartTags set) (TagToken tag) P h f k go =
      go tag (start-of tag.kind tag (and_parts (is_start_tag tag.kind) (is_among tag.name (names_of set)) f).0 k)
  on-start AnyStartTag (TagToken tag) P h f k go = go tag (start-of tag.kind tag f k)
  on-start c (DoctypeToken d) P h f k go = tt
  on-start c (CommentToken text) P h f k go = tt
  on-start c (CharacterTokens text) P h f k go = tt
  on-start c NullCharacterToken P h f k go = tt
  on-start c EOFToken P h f k go = tt
  on-start c (ErrorToken message) P h f k go = tt
  on-start (EndTags set) (TagToken tag) P h f k go = no h
  on-start table.AnyEndTag (TagToken tag) P h f k go = no h
  on-start table.WhiteSpace (TagToken tag) P h f k go = no h
  on-start table.Character (TagToken tag) P h f k go = no h
  on-start table.Null (TagToken tag) P h f k go = no h
  on-start table.Comment (TagToken tag) P h f k go = no h
  on-start table.EndOfFile (TagToken tag) P h f k go = no h
  on-start table.AnythingElse (TagToken tag) P h f k go = no h

  by-name : (name other : List ℕ) (attributes : List Attribute) → bytes_eq name other ≡ true → MayCreate a Html other attributes
      → MayCreate a Html name attributes
  by-name name other attributes e h = subst (λ n. MayCreate a Html n attributes) (sym (same name other e)) h

  made-has : (c : Class) (name : List ℕ) (t : Token) → is_made c name ≡ true → class_fits c t ≡ true → IsTokenAllowed a t
      → MayCreate a Html name []
  made-has c name t h f k =
      or-then (bytes_eq name (codes "head")) _ h (λ e. by-name name (codes "head") [] e roots.head)
      (λ h. or-then (bytes_eq name (codes "body")) _ h (λ e. by-name name (codes "body") [] e roots.body)
      (λ h. or-then (bytes_eq name (codes "colgroup") && starts c (codes "col" ∷ [])) _ h
      (λ e. let p = and_parts (bytes_eq name (codes "colgroup")) (starts c (codes "col" ∷ [])) e in
      starting c (codes "col" ∷ []) t (λ t. MayCreate a Html name []) p.1 f k
      (λ tag n s. by-name name (codes "colgroup") [] p.0 (s.colgroup n)))
      (λ h. or-then (bytes_eq name (codes "tbody") && starts c cells_and_rows) _ h
      (λ e. let p = and_parts (bytes_eq name (codes "tbody")) (starts c cells_and_rows) e in
      starting c cells_and_rows t (λ t. MayCreate a Html name []) p.1 f k (λ tag n s. by-name name (codes "tbody") [] p.0 (s.tbody n)))
      (λ h. or-then (bytes_eq name (codes "tr") && starts c cells) _ h
      (λ e. let p = and_parts (bytes_eq name (codes "tr")) (starts c cells) e in
      starting c cells t (λ t. MayCreate a Html name []) p.1 f k (λ tag n s. by-name name (codes "tr") [] p.0 (s.tr n)))
      (λ h. or-then (bytes_eq name (codes "p") && ends c (codes "p" ∷ [])) _ h
      (λ e. let p = and_parts (bytes_eq name (codes "p")) (ends c (codes "p" ∷ [])) e in
      ending c (codes "p" ∷ []) t (MayCreate a Html name []) p.1 f k (λ tag n s. by-name name (codes "p") [] p.0 (s.p n)))
      (λ e. let p = and_parts (bytes_eq name (codes "br")) (ends c (codes "br" ∷ [])) e in
      ending c (codes "br" ∷ []) t (MayCreate a Html name []) p.1 f k (λ tag n s. by-name name (codes "br") [] p.0 (s.br n))))))))

  pub given : (x : Action) (c : Class) (t : Token) → is_given c x ≡ true → class_fits c t ≡ true → IsTokenAllowed a t → Needs a x t
  given (Then x y) c t h f k = let parts = and_parts (is_given c x) (is_given c y) h in (given x c t parts.0 f k, given y c t parts.1 f k)
  given (When d x) c t h f k = given x c t h f k
  given InsertElement c t h f k = on-start c t (λ tag. MayCreate a Html tag.name tag.attrs) h f k (λ tag s. s.html)
  given InsertVoid c t h f k = on-start c t (λ tag. MayCreate a Html tag.name tag.attrs) h f k (λ tag s. s.html)
  given InsertFormVoid c t h f k = on-start c t (λ tag. MayCreate a Html tag.name tag.attrs) h f k (λ tag s. s.html)
  given InsertTemplate c t h f k = on-start c t (λ tag. MayCreate a Html tag.name tag.attrs) h f k (λ tag s. s.html)
  given InsertFormatting c t h f k = on-start c t (λ tag. MayCreate a Html tag.name tag.attrs) h f k (λ tag s. s.html)
  given InsertForeign c t h f k = on-start c t _ h f k (λ tag s. s.foreign)
  given (InsertVoidAs name) c t h f k =
      let parts = and_parts (bytes_eq name (codes "img")) (starts c (codes "image" ∷ [])) h in
      starting c (codes "image" ∷ []) t (Needs a (InsertVoidAs name)) parts.1 f k
      (λ tag n s. by-name name (codes "img") tag.attrs parts.0 (s.image n))
  given (InsertNew name) c t h f k = made-has c name t h f k
  given (InsertNewVoid name) c t h f k = made-has c name t h f k
  given CreateRoot c t h f k = starting c (codes "html" ∷ []) t (Needs a CreateRoot) h f k
      (λ tag n s. or-then (bytes_eq tag.name (codes "html")) false n
      (λ e. subst (λ n. MayCreate a Html n tag.attrs) (same tag.name (codes "html") e) s.html) (λ e. no e))
  given CreateNewRoot c t h f k = roots.html
  given AddAttributesToRoot c t h f k = starting c (codes "html" ∷ []) t (Needs a AddAttributesToRoot) h f k
      (λ tag n s. s.added (among-all (λ name. is_among name root_and_body) tag.name (codes "html" ∷ []) refl n))
  given AddAttributesToBody c t h f k = starting c (codes "body" ∷ []) t (Needs a AddAttributesToBody) h f k
      (λ tag n s. s.added (among-all (λ name. is_among name root_and_body) tag.name (codes "body" ∷ []) refl n))
  given (EnterForeign MathMl) c t h f k = starting c (codes "math" ∷ []) t (Needs a (EnterForeign MathMl)) h f k (λ tag n s. s.math n)
  given (EnterForeign Svg) c t h f k = starting c (codes "svg" ∷ []) t (Needs a (EnterForeign Svg)) h f k (λ tag n s. s.svg n)
  given (EnterForeign Html) c t h f k = no h
  given (EnterForeign (Other uri)) c t h f k = no h
  given table.Nothing c t h f k = tt
  given table.ParseError c t h f k = tt
  given table.AppendText c t h f k = tt
  given table.AppendReplacement c t h f k = tt
  given table.AppendComment c t h f k = tt
  given table.AppendCommentToDocument c t h f k = tt
  given table.AppendCommentToRoot c t h f k = tt
  given table.RemoveBody c t h f k = tt
  given table.Pop c t h f k = tt
  given (table.PopUntil x) c t h f k = tt
  given (table.ClearBackTo x) c t h f k = tt
  given (table.Close x) c t h f k = tt
  given table.CloseToken c t h f k = tt
  given table.CloseP c t h f k = tt
  given (table.CloseItem x) c t h f k = tt
  given table.ImpliedEndTags c t h f k = tt
  given (table.ImpliedEndTagsExcept x) c t h f k = tt
  given table.ImpliedEndTagsExceptToken c t h f k = tt
  given table.ImpliedEndTagsThoroughly c t h f k = tt
  given table.AnyOtherEndTag c t h f k = tt
  given table.CheckBodyEnd c t h f k = tt
  given table.SetHeadElem c t h f k = tt
  given table.PushHeadElem c t h f k = tt
  given table.RemoveHeadElem c t h f k = tt
  given table.SetFormElem c t h f k = tt
  given table.RemoveFormElem c t h f k = tt
  given table.ForgetFormElem c t h f k = tt
  given table.Reconstruct c t h f k = tt
  given table.InsertMarker c t h f k = tt
  given table.ClearToMarker c t h f k = tt
  given table.AdoptionAgency c t h f k = tt
  given table.AdoptNobr c t h f k = tt
  given table.CloseMisnestedA c t h f k = tt
  given (table.SwitchTo x) c t h f k = tt
  given table.SaveMode c t h f k = tt
  given table.RestoreMode c t h f k = tt
  given table.ResetMode c t h f k = tt
  given (table.PushTemplateMode x) c t h f k = tt
  given (table.SetTemplateMode x) c t h f k = tt
  given table.PopTemplateMode c t h f k = tt
  given table.SetQuirks c t h f k = tt
  given table.FramesetNotOk c t h f k = tt
  given table.FramesetNotOkUnlessWhite c t h f k = tt
  given table.IgnoreLineFeed c t h f k = tt
  given table.EnableFosterParenting c t h f k = tt
  given table.DisableFosterParenting c t h f k = tt
  given table.KeepText c t h f k = tt
  given table.InsertPendingText c t h f k = tt
  given table.PopForeign c t h f k = tt
  given table.CloseForeign c t h f k = tt

  -- attributes come to elements that may take them
  pub adding : (x : Action) (c : Class) (t : Token) (s : State) → AddsAtOnce x → is_given c x ≡ true → class_fits c t ≡ true
      → IsTokenAllowed a t
      → Fits a t s → IsStateAllowed a s → IsStateAllowed a (act x t s)
  adding _ c t s acts.root h f k fits is =
      starting c (codes "html" ∷ []) t (λ t. Fits a t s → IsStateAllowed a (act AddAttributesToRoot t s)) h f k
      (λ tag n start fits. root_attributes-from a tag.name tag.attrs
      (start.added (among-all (λ name. is_among name root_and_body) tag.name (codes "html" ∷ []) refl n)) s (fits.root tag refl n) is) fits
  adding _ c t s acts.body h f k fits is =
      starting c (codes "body" ∷ []) t (λ t. Fits a t s → IsStateAllowed a (act AddAttributesToBody t s)) h f k
      (λ tag n start fits. body_attributes-from a tag.name tag.attrs
      (start.added (among-all (λ name. is_among name root_and_body) tag.name (codes "body" ∷ []) refl n)) s (fits.body tag refl n) is) fits
  adding _ c t s (acts.later x y p q) h f k fits is =
      let parts = and_parts (is_given c x) (is_given c y) h in
      adding y c t (act x t s) q parts.1 f k (still-fits a x t s p fits)
      (act-from a roots.namespace x t s (still-no_adds x p) (given x c t parts.0 f k) is)
