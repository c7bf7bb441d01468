-- The rules of modes use one another's in chains of four modes at most.
use Rattle.std.proofs.Common.{◌≡◌, nat_eq, ℕ, zero, suc, Bool, true, false, ◌||◌, ◌&&◌, not, List, [], ◌∷◌, refl, sym, ap, true≢false, ◌∙◌}
use Rattle.std.proofs.lemmas.Bool.{and_parts, eq-eqb}
use Rattle.html_tokens.specs.declared.token.Token.{Token}
use Rattle.html_tokens.specs.declared.token.Token.TheVariants.{TagToken, CommentToken, CharacterTokens, NullCharacterToken, EOFToken}
use Rattle.html_tokens.specs.declared.tags.TagKind.{TagKind}
use Rattle.html_tokens.specs.declared.tags.TagKind.TheVariants.{StartTag, EndTag}
use Rattle.html_rules.specs.Actions.{act}
use Rattle.html_rules.specs.Conditions.{holds}
use Rattle.html_rules.specs.ForeignContent.{is_start_tag, is_end_tag}
use Rattle.html_rules.specs.Rules.{turn_then, concluded, first_fit, fits, rows, using_rules_for}
use Rattle.html_rules.specs.Sets.{is_among, names_of}
use Rattle.html_rules.specs.State.{State, current_number}
use Rattle.html_rules.specs.Table.{Row, Class, StartTags, EndTags, AnyStartTag, AnyEndTag, WhiteSpace, Character, Null, Comment}
use Rattle.html_rules.specs.Table.{EndOfFile, AnythingElse, Conclusion, Done, Acknowledged, Reprocess, ReprocessInOriginal}
use Rattle.html_rules.specs.Table.{ReprocessInMode, Using, UsingThen, UsingCurrentMode, RawText, PlainText, RunScript}
use Rattle.html_rules.specs.Table.{ReportEncoding}
use Rattle.html_rules.specs.Tokens.{class_fits}
use Rattle.html_rules.specs.declared.insertion_mode.InsertionMode.{InsertionMode}
use Rattle.html_rules_laws.specs.WholeTable.{IsEachUseEnding}
use Rattle.html_rules_laws.proofs.FirstFit.{by_fit, class_of_fits}
use Rattle.html_rules_laws.proofs.Names.{shares, shares_name}
use Rattle.html_rules_laws.proofs.EachMode.{each-mode}

-- which tokens are alike for classes
abbrev family_of_tag : TagKind → ℕ
family_of_tag StartTag = 0
family_of_tag EndTag = 1

abbrev family_of : Token → ℕ
family_of (TagToken tag) = family_of_tag tag.kind
family_of (CharacterTokens text) = 2
family_of NullCharacterToken = 3
family_of (CommentToken text) = 4
family_of EOFToken = 5
family_of _ = 6

abbrev family : Class → ℕ
family (StartTags set) = 0
family AnyStartTag = 0
family (EndTags set) = 1
family AnyEndTag = 1
family WhiteSpace = 2
family Character = 2
family Null = 3
family Comment = 4
family EndOfFile = 5
family AnythingElse = 6

abbrev is_anything : Class → Bool
is_anything AnythingElse = true
is_anything class = false

-- of tags: whether names are in common
abbrev names_meet : Class → Class → Bool
names_meet (StartTags a) (StartTags b) = shares_name (names_of a) (names_of b)
names_meet (EndTags a) (EndTags b) = shares_name (names_of a) (names_of b)
names_meet _ _ = true

-- whether two classes may have a token in common
abbrev may_meet : Class → Class → Bool
may_meet c d = is_anything c || (is_anything d || (nat_eq (family c) (family d) && names_meet c d))

-- how a row ends, where `chain` says of another mode that the chain after it is short enough
abbrev ends_by : (Class → InsertionMode → Bool) → Class → Conclusion → Bool
ends_by chain c (Using m) = chain c m
ends_by chain c (UsingThen m after) = chain c m
ends_by chain c UsingCurrentMode = false
ends_by chain c conclusion = true

abbrev each_ends : (Class → InsertionMode → Bool) → Class → List Row → Bool
each_ends chain c [] = true
each_ends chain c (r ∷ rs) = (not (may_meet c r.on) || ends_by chain r.on r.ends) && each_ends chain c rs

-- tokens of a class use the rules of so many modes at most
unfoldable ends_within : ℕ → Class → InsertionMode → Bool
ends_within zero c m = false
ends_within (suc n) c m = each_ends (ends_within n) c (rows m)

family_of_start : (kind : TagKind) → is_start_tag kind ≡ true → 0 ≡ family_of_tag kind
family_of_start StartTag h = refl
family_of_start EndTag h = absurd (true≢false (sym h))

family_of_end : (kind : TagKind) → is_end_tag kind ≡ true → 1 ≡ family_of_tag kind
family_of_end StartTag h = absurd (true≢false (sym h))
family_of_end EndTag h = refl

-- a class has tokens of its family alone
family-fits : (c : Class) (t : Token) → is_anything c ≡ false → class_fits c t ≡ true → family c ≡ family_of t
family-fits AnythingElse t a h = absurd (true≢false a)
family-fits (StartTags set) (TagToken tag) a h = family_of_start tag.kind
    (and_parts (is_start_tag tag.kind) (is_among tag.name (names_of set)) h).0
family-fits (EndTags set) (TagToken tag) a h = family_of_end tag.kind
    (and_parts (is_end_tag tag.kind) (is_among tag.name (names_of set)) h).0
family-fits AnyStartTag (TagToken tag) a h = family_of_start tag.kind h
family-fits AnyEndTag (TagToken tag) a h = family_of_end tag.kind h
family-fits WhiteSpace (CharacterTokens text) a h = refl
family-fits Character (CharacterTokens text) a h = refl
family-fits Null NullCharacterToken a h = refl
family-fits Comment (CommentToken text) a h = refl
family-fits EndOfFile EOFToken a h = refl
family-fits _ _ a h = absurd (true≢false (sym h))

names-fit : (c d : Class) (t : Token) → class_fits c t ≡ true → class_fits d t ≡ true → names_meet c d ≡ true
names-fit (StartTags a) (StartTags b) (TagToken tag) h k = shares tag.name (names_of a) (names_of b)
    (and_parts (is_start_tag tag.kind) (is_among tag.name (names_of a)) h).1
    (and_parts (is_start_tag tag.kind) (is_among tag.name (names_of b)) k).1
names-fit (StartTags a) (StartTags b) _ h k = absurd (true≢false (sym h))
names-fit (EndTags a) (EndTags b) (TagToken tag) h k = shares tag.name (names_of a) (names_of b)
    (and_parts (is_end_tag tag.kind) (is_among tag.name (names_of a)) h).1
    (and_parts (is_end_tag tag.kind) (is_among tag.name (names_of b)) k).1
names-fit (EndTags a) (EndTags b) _ h k = absurd (true≢false (sym h))
names-fit _ _ t h k = refl

meet_by : (a b x y : Bool) → (a ≡ false → b ≡ false → x ≡ true) → y ≡ true → (a || (b || (x && y))) ≡ true
meet_by true b x y f g = refl
meet_by false true x y f g = refl
meet_by false false x y f g = rw (f refl refl, g) refl

meet : (c d : Class) (t : Token) → class_fits c t ≡ true → class_fits d t ≡ true → may_meet c d ≡ true
meet c d t h k =
    meet_by (is_anything c) (is_anything d) (nat_eq (family c) (family d)) (names_meet c d)
    (λ a b. eq-eqb (family c) (family d) (family-fits c t a h ∙ sym (family-fits d t b k)))
    (names-fit c d t h k)

-- as many, and four less
unfoldable more : ℕ → ℕ → ℕ
more zero n = n
more (suc k) n = suc (more k n)

-- a row that ends so comes to the same, whether so many modes may use one another's rules or more
abbrev IsSame : ℕ → ℕ → Token → Row → Type 0
IsSame k n t r = (script : ℕ) (s : State) → concluded (using_rules_for (more k n)) r.ends t script s ≡ concluded
    (using_rules_for k) r.ends t script s

same_by : (k n : ℕ) (t : Token) (c : Class) → ((m : InsertionMode) (s : State) → ends_within k c m ≡ true
    → using_rules_for (more k n) m t s ≡ using_rules_for k m t s)
    → (e : Conclusion) → ends_by (ends_within k) c e ≡ true → (script : ℕ) (s : State)
    → concluded (using_rules_for (more k n)) e t script s ≡ concluded (using_rules_for k) e t script s
same_by k n t c go (Using m) h script s = go m s h
same_by k n t c go (UsingThen m after) h script s = ap (turn_then after t) (go m s h)
same_by k n t c go UsingCurrentMode h script s = absurd (true≢false (sym h))
same_by k n t c go Done h script s = refl
same_by k n t c go Acknowledged h script s = refl
same_by k n t c go (Reprocess m) h script s = refl
same_by k n t c go ReprocessInOriginal h script s = refl
same_by k n t c go ReprocessInMode h script s = refl
same_by k n t c go (RawText kind) h script s = refl
same_by k n t c go PlainText h script s = refl
same_by k n t c go RunScript h script s = refl
same_by k n t c go ReportEncoding h script s = refl

or_of_not : (a b : Bool) → (not a || b) ≡ true → a ≡ true → b ≡ true
or_of_not true b h e = h
or_of_not false b h e = absurd (true≢false (sym e))

-- the first row that fits comes to the same
first-same : (k n : ℕ) (c : Class) (t : Token) (s : State) → class_fits c t ≡ true
    → ((d : Class) → class_fits d t ≡ true → (m : InsertionMode) (s : State) → ends_within k d m ≡ true
    → using_rules_for (more k n) m t s ≡ using_rules_for k m t s)
    → (rs : List Row) → each_ends (ends_within k) c rs ≡ true → IsSame k n t (first_fit rs t s)
first-same k n c t s h go [] e = λ script s. refl
first-same k n c t s h go (r ∷ rs) e =
    let parts = and_parts (not (may_meet c r.on) || ends_by (ends_within k) r.on r.ends) (each_ends (ends_within k) c rs) e in
    by_fit (IsSame k n t) r (first_fit rs t s) (fits r t s)
    (λ b. let on = class_of_fits (class_fits r.on t) (λ _. holds r.when t s) b in
    same_by k n t r.on (go r.on on) r.ends (or_of_not (may_meet c r.on) (ends_by (ends_within k) r.on r.ends) parts.0 (meet c r.on t h on)))
    (first-same k n c t s h go rs parts.1)

uses-enough : (k n : ℕ) (c : Class) (m : InsertionMode) (t : Token) (s : State) → class_fits c t ≡ true
    → ends_within k c m ≡ true → using_rules_for (more k n) m t s ≡ using_rules_for k m t s
unfolding more ends_within using_rules_for
uses-enough zero n c m t s h e = absurd (true≢false (sym e))
uses-enough (suc k) n c m t s h e = first-same k n c t s h (λ d fits m s e. uses-enough k n d m t s fits e)
    (rows m) e (current_number s.open_elems) (act (first_fit (rows m) t s).does t s)

modes-end : (m : InsertionMode) → ends_within 4 AnythingElse m ≡ true
unfolding ends_within rows names_of
modes-end = each-mode (λ m. ends_within 4 AnythingElse m) refl

pub each_use_ends : IsEachUseEnding
unfolding more
each_use_ends n m t s = uses-enough 4 n AnythingElse m t s refl (modes-end m)
