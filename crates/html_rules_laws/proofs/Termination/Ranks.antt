-- A rank of modes, for each family of tokens: where a token is taken again, the rank of the mode goes down, or an element is popped that
-- pays four.
use Rattle.std.proofs.Common.{◌≡◌, ℕ, zero, suc, ◌+◌, ◌*◌, Bool, true, false, List, [], ◌∷◌, refl, ap, true≢false, codes}
use Rattle.std.specs.Prelude.{◌||◌, ◌&&◌, not, nat_eq, nat_le, nat_lt}
use Rattle.std.proofs.lemmas.Bool.{and_parts}
use Rattle.html_tokens.specs.declared.tags.Tag.{Tag}
use Rattle.html_tokens.specs.declared.tags.TagKind.{TagKind}
use Rattle.html_tokens.specs.declared.tags.TagKind.TheVariants.{StartTag, EndTag}
use Rattle.html_tokens.specs.declared.token.Token.{Token}
use Rattle.html_tokens.specs.declared.token.Token.TheVariants.{DoctypeToken, TagToken, CommentToken, CharacterTokens}
use Rattle.html_tokens.specs.declared.token.Token.TheVariants.{NullCharacterToken, EOFToken, ParseError}
use Rattle.html_rules.specs.Choice.{choose}
use Rattle.html_rules.specs.ForeignContent.{is_start_tag, is_end_tag}
use Rattle.html_rules.specs.Modes.Foreign.{in_foreign_content}
use Rattle.html_rules.specs.Rules.{rows}
use Rattle.html_rules.specs.Sets.{is_among, mathml_names_of, names_of, svg_names_of}
use Rattle.html_rules.specs.Table.{Row, Condition, CurrentIs, InScope, Action, Then, ClearBackTo, Pop, InsertPendingText}
use Rattle.html_rules.specs.Table.{Conclusion, Reprocess, ReprocessInOriginal, ReprocessInMode, Using, UsingThen}
use Rattle.html_rules.specs.Table.{UsingCurrentMode}
use Rattle.html_rules.specs.declared.insertion_mode.InsertionMode.{InsertionMode}
use Rattle.html_rules.specs.declared.insertion_mode.InsertionMode.TheVariants.{Initial, BeforeHtml, BeforeHead, InHead}
use Rattle.html_rules.specs.declared.insertion_mode.InsertionMode.TheVariants.{InHeadNoscript, AfterHead, InBody, Text, InTable}
use Rattle.html_rules.specs.declared.insertion_mode.InsertionMode.TheVariants.{InTableText, InCaption, InColumnGroup}
use Rattle.html_rules.specs.declared.insertion_mode.InsertionMode.TheVariants.{InTableBody, InRow, InCell, InTemplate}
use Rattle.html_rules.specs.declared.insertion_mode.InsertionMode.TheVariants.{AfterBody, InFrameset, AfterFrameset}
use Rattle.html_rules.specs.declared.insertion_mode.InsertionMode.TheVariants.{AfterAfterBody, AfterAfterFrameset}
use Rattle.html_rules.specs.declared.tag_set.TagSet.TheVariants as set
use Rattle.html_rules_laws.specs.WholeTable.{is_always}
use Rattle.html_rules_laws.proofs.SetFacts.{apart, within}
use Rattle.html_rules_laws.proofs.Termination.Kinds.{Kind, Starts, StartsBut, Ends, EndsBut, Texts, Nulls, TheEnd, Others, hit}
use Rattle.html_rules_laws.proofs.Termination.Kinds.{is_none, is_of, left}
use Rattle.html_rules_laws.proofs.Termination.Matters.{all_pay, all_pay_or_root, tells}
use Rattle.html_rules_laws.proofs.Termination.Steps.{brought, closes, is_known, is_mild, resets}
use Rattle.html_rules_laws.proofs.Bools.{both}
use Rattle.html_rules_laws.proofs.EachMode.{each-mode}

-- `td` and `th`; `tr`; `col`; other start tags; `</html>`; other end tags; characters; U+0000; the end; any other token
pub data Family : Type 0 where
  Cells : Family
  Rows : Family
  Columns : Family
  OtherStarts : Family
  RootEnd : Family
  OtherEnds : Family
  Characters : Family
  NullCharacters : Family
  FileEnd : Family
  OtherTokens : Family

abbrev pub special_starts : List (List ℕ)
special_starts = codes "td" ∷ codes "th" ∷ codes "tr" ∷ codes "col" ∷ []

abbrev pub kind_of : Family → Kind
kind_of Cells = Starts (codes "td" ∷ codes "th" ∷ [])
kind_of Rows = Starts (codes "tr" ∷ [])
kind_of Columns = Starts (codes "col" ∷ [])
kind_of OtherStarts = StartsBut special_starts
kind_of RootEnd = Ends (codes "html" ∷ [])
kind_of OtherEnds = EndsBut (codes "html" ∷ [])
kind_of Characters = Texts
kind_of NullCharacters = Nulls
kind_of FileEnd = TheEnd
kind_of OtherTokens = Others

abbrev is_character : Family → Bool
is_character Characters = true
is_character NullCharacters = true
is_character φ = false

-- what the mode of a body has; the modes after it come back to it, but for its end tag
abbrev body_rank : Family → ℕ
body_rank RootEnd = 2
body_rank φ = 1

abbrev after_body_rank : Family → ℕ
after_body_rank RootEnd = 1
after_body_rank φ = 2

abbrev text_rank : Family → ℕ
text_rank φ = choose (is_character φ) (λ _. 1) (λ _. 16)

abbrev table_rank : Family → ℕ
table_rank Cells = 11
table_rank Rows = 6
table_rank Columns = 6
table_rank φ = choose (is_character φ) (λ _. 2) (λ _. 1)

abbrev table_body_rank : Family → ℕ
table_body_rank Cells = 6
table_body_rank Columns = 3
table_body_rank φ = choose (is_character φ) (λ _. 2) (λ _. 1)

abbrev row_rank : Family → ℕ
row_rank φ = choose (is_character φ) (λ _. 2) (λ _. 1)

abbrev caption_rank : Family → ℕ
caption_rank Cells = 8
caption_rank Rows = 3
caption_rank Columns = 3
caption_rank φ = 1

abbrev column_rank : Family → ℕ
column_rank Cells = 8
column_rank Rows = 3
column_rank φ = 1

abbrev pub rank : Family → InsertionMode → ℕ
rank φ Initial = body_rank φ + 5
rank φ BeforeHtml = body_rank φ + 4
rank φ BeforeHead = body_rank φ + 3
rank φ InHead = body_rank φ + 2
rank φ InHeadNoscript = body_rank φ + 3
rank φ AfterHead = body_rank φ + 1
rank φ InBody = body_rank φ
rank φ Text = text_rank φ
rank φ InTable = table_rank φ
rank φ InTableText = text_rank φ
rank φ InCaption = caption_rank φ
rank φ InColumnGroup = column_rank φ
rank φ InTableBody = table_body_rank φ
rank φ InRow = row_rank φ
rank φ InCell = 1
rank φ InTemplate = 2
rank φ AfterBody = after_body_rank φ
rank φ InFrameset = 1
rank φ AfterFrameset = 1
rank φ AfterAfterBody = body_rank φ + 1
rank φ AfterAfterFrameset = 1

-- rows that pop an element that pays

-- the current node is popped, which the condition says to pay; or elements are popped up to a context, and then one more
abbrev pub pops_scoped : Condition → Action → Action → Bool
pops_scoped (InScope scope names) (ClearBackTo context) Pop = all_pay_or_root context
    && (all_pay names && (apart set.Html names && within set.Html scope))
pops_scoped condition a b = false

abbrev pub pops_found : Condition → Action → Bool
pops_found (CurrentIs names) Pop = all_pay names && apart names set.Html
pops_found condition (Then a b) = pops_scoped condition a b
pops_found condition a = false

abbrev pub is_paying : Row → Bool
is_paying r = (closes r.does && tells r.on r.when) || (is_known r.does && (nat_eq (brought r.does) 0 && pops_found r.when r.does))

-- whether the token may be taken again in a mode
abbrev pub again_ok : Family → InsertionMode → Row → InsertionMode → Bool
again_ok φ m r to =
    nat_lt (rank φ to) 16
    && ((is_known r.does && nat_lt (rank φ to + 4 * brought r.does) (rank φ m))
    || (is_known r.does && (is_paying r && nat_le (rank φ to) (rank φ m + 3))))

-- families whose tokens may reset the mode
abbrev pub may_reset : Family → Bool
may_reset OtherStarts = true
may_reset OtherEnds = true
may_reset FileEnd = true
may_reset φ = false

abbrev pub is_telling : Action → Bool
is_telling InsertPendingText = true
is_telling a = false

-- how a row ends, where `uses` says it of other modes
abbrev pub ends_ok : (Kind → InsertionMode → Bool) → Family → InsertionMode → Kind → Row → Conclusion → Bool
ends_ok uses φ m kind r (Reprocess to) = again_ok φ m r to
ends_ok uses φ m kind r ReprocessInOriginal = nat_eq (rank φ m) 16 && (is_mild r.does || is_telling r.does)
ends_ok uses φ m kind r ReprocessInMode = may_reset φ && (is_known r.does && (resets r.does && is_paying r))
ends_ok uses φ m kind r (Using to) = is_mild r.does && uses kind to
ends_ok uses φ m kind r (UsingThen to after) = is_mild r.does && (is_mild after && uses kind to)
ends_ok uses φ m kind r UsingCurrentMode = is_mild r.does && uses kind m
ends_ok uses φ m kind r conclusion = true

abbrev pub row_ok : (Kind → InsertionMode → Bool) → Family → InsertionMode → Kind → Row → Bool
row_ok uses φ m kind r = choose (is_none (hit kind r.on)) (λ _. true) (λ _. ends_ok uses φ m (hit kind r.on) r r.ends)

-- all rows that may take a token of a kind, in a state that is in a mode
abbrev pub rows_ok : (Kind → InsertionMode → Bool) → Family → InsertionMode → Kind → List Row → Bool
rows_ok uses φ m kind [] = true
rows_ok uses φ m kind (r ∷ rs) =
    row_ok uses φ m kind r
    && choose (is_always r.when)
    (λ _. choose (is_none (left kind r.on)) (λ _. true) (λ _. rows_ok uses φ m (left kind r.on) rs)) (λ _. rows_ok uses φ m kind rs)

-- the same, where so many modes may use one another's rules
unfoldable pub uses_ok : ℕ → Family → InsertionMode → Kind → InsertionMode → Bool
uses_ok zero φ m kind to = true
uses_ok (suc n) φ m kind to = rows_ok (uses_ok n φ m) φ m kind (rows to)

-- the modes that a reset may give
abbrev pub is_reset_mode : InsertionMode → Bool
is_reset_mode InCell = true
is_reset_mode InHead = true
is_reset_mode InRow = true
is_reset_mode InTableBody = true
is_reset_mode InCaption = true
is_reset_mode InColumnGroup = true
is_reset_mode InTable = true
is_reset_mode InTemplate = true
is_reset_mode InBody = true
is_reset_mode InFrameset = true
is_reset_mode BeforeHead = true
is_reset_mode AfterHead = true
is_reset_mode m = false

abbrev pub is_text_mode : InsertionMode → Bool
is_text_mode Text = true
is_text_mode InTableText = true
is_text_mode m = false

abbrev pub rank_ok : Family → InsertionMode → Bool
rank_ok φ m =
    (nat_le 1 (rank φ m) && nat_le (rank φ m) 16)
    && ((is_text_mode m || nat_lt (rank φ m) 16) && (not (may_reset φ && is_reset_mode m) || nat_le (rank φ m) 4))

-- the rows of a mode, and those of foreign content in that mode
unfoldable pub mode_ok : InsertionMode → Family → Bool
mode_ok m φ = rank_ok φ m && (uses_ok 4 φ m (kind_of φ) m && rows_ok (uses_ok 4 φ m) φ m (kind_of φ) in_foreign_content)

-- all families

abbrev every : (Family → Bool) → Bool
every p = p Cells && (p Rows
    && (p Columns && (p OtherStarts
    && (p RootEnd && (p OtherEnds && (p Characters && (p NullCharacters && (p FileEnd && p OtherTokens))))))))

each : (p : Family → Bool) → every p ≡ true → (φ : Family) → p φ ≡ true
each p h φ =
    let a = and_parts (p Cells) _ h in
    let b = and_parts (p Rows) _ a.1 in
    let c = and_parts (p Columns) _ b.1 in
    let d = and_parts (p OtherStarts) _ c.1 in
    let e = and_parts (p RootEnd) _ d.1 in
    let f = and_parts (p OtherEnds) _ e.1 in
    let g = and_parts (p Characters) _ f.1 in
    let k = and_parts (p NullCharacters) _ g.1 in
    let l = and_parts (p FileEnd) _ k.1 in
    by φ a.0 b.0 c.0 d.0 e.0 f.0 g.0 k.0 l.0 l.1
  where
    by : (φ : Family) → p Cells ≡ true → p Rows ≡ true → p Columns ≡ true → p OtherStarts ≡ true → p RootEnd ≡ true
        → p OtherEnds ≡ true → p Characters ≡ true → p NullCharacters ≡ true → p FileEnd ≡ true → p OtherTokens ≡ true → p φ ≡ true
    by Cells a b c d e f g k l m = a
    by Rows a b c d e f g k l m = b
    by Columns a b c d e f g k l m = c
    by OtherStarts a b c d e f g k l m = d
    by RootEnd a b c d e f g k l m = e
    by OtherEnds a b c d e f g k l m = f
    by Characters a b c d e f g k l m = g
    by NullCharacters a b c d e f g k l m = k
    by FileEnd a b c d e f g k l m = l
    by OtherTokens a b c d e f g k l m = m

modes_ok : (m : InsertionMode) → every (mode_ok m) ≡ true
unfolding mode_ok uses_ok rows names_of mathml_names_of svg_names_of
modes_ok = each-mode (λ m. every (mode_ok m)) refl

pub mode-ok : (φ : Family) (m : InsertionMode) → mode_ok m φ ≡ true
mode-ok φ m = each (mode_ok m) (modes_ok m) φ

-- each token is of a family

pub record IsInFamily (t : Token) (φ : Family) : Type 0 where
  pub is : is_of (kind_of φ) t ≡ true

none_of : (a b c d : Bool) → (a || (b || false)) ≡ false → (c || false) ≡ false → (d || false) ≡ false
    → not (a || (b || (c || (d || false)))) ≡ true
none_of true b c d h k l = absurd (true≢false h)
none_of false true c d h k l = absurd (true≢false h)
none_of false false true d h k l = absurd (true≢false k)
none_of false false false true h k l = absurd (true≢false l)
none_of false false false false h k l = refl

start-family : (tag : Tag) → is_start_tag tag.kind ≡ true → (φ : Family) × IsInFamily (TagToken tag) φ
start-family tag s = by (is_among tag.name (codes "td" ∷ codes "th" ∷ [])) (is_among tag.name (codes "tr" ∷ []))
    (is_among tag.name (codes "col" ∷ [])) (is_among tag.name special_starts) refl refl refl refl where
      by : (a b c d : Bool) → is_among tag.name (codes "td" ∷ codes "th" ∷ []) ≡ a
          → is_among tag.name (codes "tr" ∷ []) ≡ b → is_among tag.name (codes "col" ∷ []) ≡ c
          → is_among tag.name special_starts ≡ d → (φ : Family) × IsInFamily (TagToken tag) φ
      by true b c d ea eb ec ed = (Cells, record { is = both (is_start_tag tag.kind) _ s ea })
      by false true c d ea eb ec ed = (Rows, record { is = both (is_start_tag tag.kind) _ s eb })
      by false false true d ea eb ec ed = (Columns, record { is = both (is_start_tag tag.kind) _ s ec })
      by false false false d ea eb ec ed = (OtherStarts, record { is = both (is_start_tag tag.kind) _ s (none_of _ _ _ _ ea eb ec) })

end-family : (tag : Tag) → is_end_tag tag.kind ≡ true → (φ : Family) × IsInFamily (TagToken tag) φ
end-family tag s = by (is_among tag.name (codes "html" ∷ [])) refl where
  by : (a : Bool) → is_among tag.name (codes "html" ∷ []) ≡ a → (φ : Family) × IsInFamily (TagToken tag) φ
  by true e = (RootEnd, record { is = both (is_end_tag tag.kind) _ s e })
  by false e = (OtherEnds, record { is = both (is_end_tag tag.kind) _ s (ap not e) })

tag-family : (tag : Tag) (kind : TagKind) → tag.kind ≡ kind → (φ : Family) × IsInFamily (TagToken tag) φ
tag-family tag StartTag e = start-family tag (ap is_start_tag e)
tag-family tag EndTag e = end-family tag (ap is_end_tag e)

pub family : (t : Token) → (φ : Family) × IsInFamily t φ
family (TagToken tag) = tag-family tag tag.kind refl
family (CharacterTokens text) = (Characters, record { is = refl })
family NullCharacterToken = (NullCharacters, record { is = refl })
family EOFToken = (FileEnd, record { is = refl })
family (CommentToken text) = (OtherTokens, record { is = refl })
family (DoctypeToken d) = (OtherTokens, record { is = refl })
family (ParseError message) = (OtherTokens, record { is = refl })
