-- What is taken from the front of a text, as characters.
use Rattle.std.proofs.Common.{zero, suc, ◌≡◌, ◌≤◌, ◌<◌, ◌+◌, ℕ, true, false, List, [], ◌∷◌, ◌++◌, length, take, drop, get_or}
use Rattle.std.proofs.Common.{arith, subst, sym, ◌∙◌, ap, refl, inl, inr}
use Rattle.std.specs.Prelude.{encode_utf8, encode_utf8_all, All, IfSome, slice_get, ◌==◌, slice_index}
use Rattle.std.specs.Char.{len_utf8}
use Rattle.std.specs.Str.{IsUtf8, IsCharBoundary, chars}
use Rattle.std.proofs.lemmas.Str.{chars-nil, chars-append, chars_past_char, encodes-chars, length-encode, encode_ascii}
use Rattle.std.proofs.lemmas.Str.{char_from_byte, len_utf8_ascii, length-le-encodes, IsUtf8-past_char, IsUtf8-take, IsUtf8-drop}
use Rattle.std.proofs.lemmas.Str.{IsCharBoundary-at_seam, IsCharBoundary-after_ascii}
use Rattle.std.proofs.lemmas.List.{take-append-drop, get_or-take, get_or-drop, length-drop, get_or-append-add, length-append}
use Rattle.std.proofs.lemmas.List.{length-take-le}
use Rattle.std.proofs.lemmas.List.Elements.{All-cons}
use Rattle.std.proofs.lemmas.Bool.{cases_lt}
use Rattle.std.proofs.lemmas.Bool.Decides.{nat_tests}
use Rattle.std.proofs.Math.Seq.{drop-append_seam}
use Rattle.std.proofs.Math.Nat.{add-zero}
use Rattle.html_queue.specs.Set.{has}
use Rattle.html_queue.specs.Queue.{Takes, IsRun}

-- a text of no bytes has no characters
pub chars_none : (bs : List ℕ) → length bs ≡ 0 → chars bs ≡ []
chars_none [] e = chars-nil
chars_none (b ∷ bs) e = absurd (omega (arith, e))

-- a beginning of the bytes is taken
pub takes_front : (bs more : List ℕ) (n m w : ℕ) → IsUtf8 bs → IsCharBoundary bs w → more ≡ drop w bs
    → m ≡ n + length (chars (take w bs)) → Takes (chars (take w bs)) (record { characters = chars bs; taken = n })
    (record { characters = chars more; taken = m })
takes_front bs more n m w u b e f = record {
  split = ap chars (sym (take-append-drop w bs)) ∙ chars-append (take w bs) (drop w bs) (IsUtf8-take bs w u b)
      ∙ ap (λ (xs : List ℕ). chars (take w bs) ++ chars xs) (sym e);
  counted = f;
}

-- and so is the first character
pub takes_char : (bs rest more : List ℕ) (c n m w : ℕ) → IsUtf8 bs → bs ≡ encode_utf8 c ++ rest → w ≡ len_utf8 c
    → more ≡ drop w bs → m ≡ n + 1 → Takes (c ∷ []) (record { characters = chars bs; taken = n })
    (record { characters = chars more; taken = m })
takes_char bs rest more c n m w u e f g h =
    let past : more ≡ rest = g ∙ rw (f ∙ sym (length-encode c), e) (drop-append_seam (encode_utf8 c) rest) in
    record { split = chars_past_char bs rest c u e ∙ ap (λ (xs : List ℕ). c ∷ chars xs) (sym past); counted = h }

-- a place after the first character
pub boundary_past_char : (bs rest : List ℕ) (c w : ℕ) → IsUtf8 bs → bs ≡ encode_utf8 c ++ rest → w ≡ len_utf8 c → IsCharBoundary bs w
boundary_past_char bs rest c w u e f = rw (f ∙ sym (length-encode c))
    (IsCharBoundary-at_seam bs (encode_utf8 c) rest e (IsUtf8-past_char bs rest c u e))

-- a member of a set is below 64
pub has-below : (bits c : ℕ) → has bits c ≡ true → c < 64
has-below bits c h = grind (arith, nat_tests, h)

-- a character from 64 on is in no set
pub lacks_above : (bits c : ℕ) → 64 ≤ c → has bits c ≡ false
lacks_above bits c h = grind (arith, nat_tests, h)

-- a text may be cut after a member of a set that it begins with
pub boundary_past_member : (bits : ℕ) (bs : List ℕ) → IsUtf8 bs → 0 < length bs → has bits (get_or bs 0 0) ≡ true → IsCharBoundary bs 1
boundary_past_member bits bs u l h = let b : get_or bs 0 0 < 64 = has-below bits _ h in
    IsCharBoundary-after_ascii bs 0 u l (omega (arith, b))

-- a character none of whose bytes is in the set is not in it
pub head_lacks : (bits c : ℕ) (rest : List ℕ)
    → ((k : ℕ) → k < length (encode_utf8 c ++ rest) → has bits (get_or (encode_utf8 c ++ rest) k 0) ≡ false) → has bits c ≡ false
head_lacks bits c rest lack = elim (cases_lt c 64) [
  | inl low ↦
      let e : encode_utf8 c ≡ c ∷ [] = encode_ascii c (omega (arith, low)) in
      rw e at lack 0 (omega arith)
  | inr high ↦ lacks_above bits c high
]

-- a text none of whose bytes is in the set has no character that is
pub run_lacks : (bits : ℕ) (cs : List ℕ)
    → ((k : ℕ) → k < length (encode_utf8_all cs) → has bits (get_or (encode_utf8_all cs) k 0) ≡ false) → All (λ c. has bits c ≡ false) cs
run_lacks bits [] lack = λ k d l. absurd (omega (arith, l))
run_lacks bits (c ∷ cs) lack =
    let tail : (k : ℕ) → k < length (encode_utf8_all cs) → has bits (get_or (encode_utf8_all cs) k 0) ≡ false =
    λ k l. subst (λ (x : ℕ). has bits x ≡ false) (get_or-append-add (encode_utf8 c) (encode_utf8_all cs) k 0)
    (lack (length (encode_utf8 c) + k) (omega (arith, l, length-append (encode_utf8 c) (encode_utf8_all cs)))) in
    let head : has bits c ≡ false = head_lacks bits c (encode_utf8_all cs) lack in
    All-cons (λ x. has bits x ≡ false) c cs head (run_lacks bits cs tail)

-- there are bytes where there are characters
pub same_emptiness : (cs bs : List ℕ) → encode_utf8_all cs ≡ bs → (length bs == 0) ≡ (length cs == 0)
same_emptiness [] bs e = rw (← e) refl
same_emptiness (c ∷ cs) bs e = let l : length (c ∷ cs) ≤ length bs = rw (← e) (length-le-encodes (c ∷ cs)) in grind (arith, nat_tests, l)

-- a text has no bytes exactly where it has no characters
pub same_emptiness_of : (bs : List ℕ) → IsUtf8 bs → (length bs == 0) ≡ (length (chars bs) == 0)
same_emptiness_of bs u = same_emptiness (chars bs) bs (encodes-chars bs u)

-- a length that is found not to be zero is positive
pub some_of : (n : ℕ) → false ≡ (n == 0) → 0 < n
some_of zero e = absurd (cc)
some_of (suc n) e = omega arith

-- one ASCII character is taken
pub takes_low : (bs more : List ℕ) (n m : ℕ) → IsUtf8 bs → 0 < length bs → get_or bs 0 0 < 128 → more ≡ drop 1 bs
    → m ≡ n + 1 → Takes (get_or bs 0 0 ∷ []) (record { characters = chars bs; taken = n }) (record { characters = chars more; taken = m })
takes_low [] more n m u l h g e = absurd (omega (arith, l))
takes_low (b ∷ bs) more n m u l low g e =
    let first : b ∷ bs ≡ encode_utf8 b ++ bs = rw (encode_ascii b low) refl in
    takes_char (b ∷ bs) bs more b n m 1 u first (sym (len_utf8_ascii b low)) g e

-- a text may be cut after an ASCII character that it begins with
pub boundary_past_low : (bs : List ℕ) → IsUtf8 bs → 0 < length bs → get_or bs 0 0 < 128 → IsCharBoundary bs 1
boundary_past_low bs u l low = IsCharBoundary-after_ascii bs 0 u l low

-- one character of the set is taken
pub takes_member : (bits : ℕ) (bs more : List ℕ) (n m : ℕ) → IsUtf8 bs → 0 < length bs
    → has bits (get_or bs 0 0) ≡ true → more ≡ drop 1 bs → m ≡ n + 1 → (has bits (get_or bs 0 0) ≡ true)
    × Takes (get_or bs 0 0 ∷ []) (record { characters = chars bs; taken = n }) (record { characters = chars more; taken = m })
takes_member bits [] more n m u l h g e = absurd (omega (arith, l))
takes_member bits (b ∷ bs) more n m u l h g e =
    let low : b < 128 = omega (arith, has-below bits b h) in
    let first : b ∷ bs ≡ encode_utf8 b ++ bs = rw (encode_ascii b low) refl in
    (h, takes_char (b ∷ bs) bs more b n m 1 u first (sym (len_utf8_ascii b low)) g e)

-- there are characters where there are bytes
pub filled : (cs bs : List ℕ) → encode_utf8_all cs ≡ bs → 0 < length bs → 0 < length cs
filled [] bs e l = rw (← e) at l
filled (c ∷ cs) bs e l = omega arith

-- what begins with a byte of the set begins with a character of it
member_first : (bits : ℕ) (cs bs : List ℕ) → encode_utf8_all cs ≡ bs
    → (0 < length bs → has bits (get_or bs 0 0) ≡ true) → IfSome (slice_get cs 0) (λ c. has bits c ≡ true)
member_first bits [] bs e member = tt
member_first bits (c ∷ cs) [] e member = absurd (omega (arith, ap length e, length-le-encodes (c ∷ cs)))
member_first bits (c ∷ cs) (b ∷ bs) e member =
    let h : has bits b ≡ true = member (omega arith) in
    let low : b < 128 = omega (arith, has-below bits b h) in
    let is : c ≡ b = char_from_byte (b ∷ bs) (encode_utf8_all cs) c (sym e) low (omega arith) in
    rw is h

-- a place before a byte of the set, or the end, is one where a text may be cut
pub cut_before : (bits : ℕ) (bs : List ℕ) (w : ℕ) → w ≤ length bs
    → (w < length bs → has bits (slice_index bs w) ≡ true) → IsCharBoundary bs w
cut_before bits bs w within at = (within, λ l h. absurd (omega (arith, has-below bits (slice_index bs w) (at l))))

-- a front with no byte of the set has no character of it
pub front_lacks : (bits : ℕ) (bs : List ℕ) (w : ℕ) → IsUtf8 bs → w ≤ length bs
    → ((k : ℕ) → k < w → has bits (slice_index bs k) ≡ false) → IsCharBoundary bs w → All (λ c. has bits c ≡ false) (chars (take w bs))
front_lacks bits bs w u within lack cut =
    let long : length (take w bs) ≡ w = length-take-le w bs within in
    let back : encode_utf8_all (chars (take w bs)) ≡ take w bs = encodes-chars (take w bs) (IsUtf8-take bs w u cut) in
    run_lacks bits (chars (take w bs))
    (rw back (λ k l. rw (get_or-take w bs k 0 (omega (arith, l, long))) (lack k (omega (arith, l, long)))))

-- what follows it begins with one
pub rest_member : (bits : ℕ) (bs : List ℕ) (w : ℕ) → IsUtf8 bs → w ≤ length bs
    → (w < length bs → has bits (slice_index bs w) ≡ true) → IsCharBoundary bs w
    → IfSome (slice_get (chars (drop w bs)) 0) (λ c. has bits c ≡ true)
rest_member bits bs w u within at cut =
    let rest : encode_utf8_all (chars (drop w bs)) ≡ drop w bs = encodes-chars (drop w bs) (IsUtf8-drop bs w u cut) in
    member_first bits (chars (drop w bs)) (drop w bs) rest
    (λ l. rw (get_or-drop w bs 0 0, add-zero) (at (omega (arith, l, length-drop w bs))))

-- a front with no byte of the set, up to the first, is the longest run with no character of the set
pub run_is : (bits : ℕ) (bs : List ℕ) (w : ℕ) → IsUtf8 bs → 0 < w → w ≤ length bs
    → ((k : ℕ) → k < w → has bits (slice_index bs k) ≡ false) → (w < length bs → has bits (slice_index bs w) ≡ true)
    → IsCharBoundary bs w → IsRun bits (chars (take w bs)) (chars (drop w bs))
run_is bits bs w u some within lack at cut =
    let front : IsUtf8 (take w bs) = IsUtf8-take bs w u cut in
    let long : length (take w bs) ≡ w = length-take-le w bs within in
    let back : encode_utf8_all (chars (take w bs)) ≡ take w bs = encodes-chars (take w bs) front in
    let rest : encode_utf8_all (chars (drop w bs)) ≡ drop w bs = encodes-chars (drop w bs) (IsUtf8-drop bs w u cut) in
    record {
      filled = filled (chars (take w bs)) (take w bs) back (omega (arith, long));
      lacking = run_lacks bits (chars (take w bs))
          (rw back (λ k l. rw (get_or-take w bs k 0 (omega (arith, l, long))) (lack k (omega (arith, l, long)))));
      longest = member_first bits (chars (drop w bs)) (drop w bs) rest
          (λ l. rw (get_or-drop w bs 0 0, add-zero) (at (omega (arith, l, length-drop w bs))));
    }

-- the longest front with none of the set is taken
pub takes_run : (bits : ℕ) (bs text more : List ℕ) (n m w : ℕ) → IsUtf8 bs → text ≡ take w bs → 0 < w
    → w ≤ length bs → ((k : ℕ) → k < w → has bits (slice_index bs k) ≡ false)
    → (w < length bs → has bits (slice_index bs w) ≡ true) → more ≡ drop w bs → m ≡ n + length (chars text)
    → IsRun bits (chars text) (chars more) × Takes (chars text) (record { characters = chars bs; taken = n })
    (record { characters = chars more; taken = m })
takes_run bits bs text more n m w u is some within lack at g e =
    let cut : IsCharBoundary bs w = (within, λ l h. absurd (omega (arith, has-below bits (slice_index bs w) (at l)))) in
    let taken : m ≡ n + length (chars (take w bs)) = rw is at e in
    let run : IsRun bits (chars (take w bs)) (chars more) = rw g (run_is bits bs w u some within lack at cut) in
    rw is (run, takes_front bs more n m w u cut g taken)

-- the bytes that wait are those that their characters are written with
pub spelled : (bs text : List ℕ) → IsUtf8 bs → text ≡ bs → text ≡ encode_utf8_all (chars bs)
spelled bs text u e = e ∙ sym (encodes-chars bs u)

-- a beginning of them is taken
pub takes_bytes : (bs more : List ℕ) (n m w : ℕ) → IsUtf8 bs → IsCharBoundary (encode_utf8_all (chars bs)) w
    → more ≡ drop w bs → m ≡ n + length (chars (take w bs))
    → Takes (chars (take w (encode_utf8_all (chars bs)))) (record { characters = chars bs; taken = n })
    (record { characters = chars more; taken = m })
takes_bytes bs more n m w u b e f = rw (encodes-chars bs u) (takes_front bs more n m w u (rw (encodes-chars bs u) at b) e f)

-- where they may be cut
pub cut_at : (bs : List ℕ) (w : ℕ) → IsUtf8 bs → IsCharBoundary (encode_utf8_all (chars bs)) w → IsCharBoundary bs w
cut_at bs w u b = rw (encodes-chars bs u) at b
