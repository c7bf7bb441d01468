-- Fronts of UTF-8 texts.
use Rattle.std.proofs.Common.{◌≡◌, ℕ, ◌+◌, ◌-◌, ◌/◌, ◌%◌, ◌<◌, ◌≤◌, true, List, [], ◌∷◌, ◌++◌, length, take, drop, refl, ap}
use Rattle.std.proofs.Common.{sym, ◌∙◌, subst, arith, Option, None, Some, ◌⊎◌, inl, inr, ⊎_elim, min, length-append}
use Rattle.std.proofs.Common.{length-drop, append_assoc}
use Rattle.std.specs.Prelude.{IsUtf8, encode_utf8, encode_utf8_all, if◌then◌else◌}
use Rattle.std.specs.Char.{IsScalar}
use Rattle.std.specs.Str.{IsValidUpTo}
use Rattle.std.specs.Str.Lossy.{utf8_error_len, utf8_valid_len, error_len_of_some, second_byte_min, second_byte_max}
use Rattle.std.proofs.Math.Seq.{take-add, take-append_seam, drop-append_seam}
use Rattle.std.proofs.lemmas.List.{append-nil, drop-append-le, drop-take, drop_all, drop-drop, length-take, take_all}
use Rattle.std.proofs.lemmas.List.{take-append-drop, take-append-le, take-take}
use Rattle.std.proofs.lemmas.Bool.{and_parts, cases_eq, cases_lt, le-ltb, lt-ltb, ne_eqb}
use Rattle.std.proofs.lemmas.Str.{utf8_valid_len-IsUtf8, utf8_valid_len-IsValidUpTo, IsUtf8-nil, IsUtf8-append, IsUtf8-drop}
use Rattle.std.proofs.lemmas.Str.{IsUtf8-encode, len_utf8_bounds, length-encode, IsCharBoundary-from_take, encode_ascii}
use Rattle.std.proofs.lemmas.Bool.Decides.{nat_tests}
use Rattle.std.specs.Io.KnownBytes.{IsAtEnd, prepend_known}
use lib.Utf8.{scalar, scalars, scalar_cases}
use Rattle.html_input.specs.Reading.{BeginsText, HasBegun, IsFront, IsSplit, ShowsNotUtf8, StaysAtFault}

-- bytes that end after the first byte of a character
one_byte : (x : ℕ) → 194 ≤ x → x ≤ 244 → error_len_of_some (x ∷ []) ≡ None
one_byte x low high = grind (arith, nat_tests)

-- bytes that end after the second
two_bytes : (x y : ℕ) → 194 ≤ x → x ≤ 244 → second_byte_min x ≤ y → y ≤ second_byte_max x → error_len_of_some (x ∷ y ∷ []) ≡ None
two_bytes x y low high from to = grind (arith, nat_tests)

-- bytes that end after the third
three_bytes : (x y z : ℕ) → 194 ≤ x → x ≤ 244 → second_byte_min x ≤ y → y ≤ second_byte_max x → 128 ≤ z → z ≤ 191
    → error_len_of_some (x ∷ y ∷ z ∷ []) ≡ None
three_bytes x y z low high from to z_from z_to = grind (arith, nat_tests)

pub encode-two : (c : ℕ) → 128 ≤ c → c < 2048 → encode_utf8 c ≡ (192 + c / 64) ∷ (128 + c % 64) ∷ []
unfolding lib.Utf8.encode
encode-two c low high = rw (le-ltb c 128 low, lt-ltb c 2048 high) refl

pub encode-three : (c : ℕ) → 2048 ≤ c → c < 65536 → encode_utf8 c ≡ (224 + c / 4096) ∷ (128 + c / 64 % 64) ∷ (128 + c % 64) ∷ []
unfolding lib.Utf8.encode
encode-three c low high = rw (le-ltb c 128 (omega arith), le-ltb c 2048 low, lt-ltb c 65536 high) refl

pub encode-four : (c : ℕ) → 65536 ≤ c → encode_utf8 c ≡ (240 + c / 262144) ∷ (128 + c / 4096 % 64) ∷ (128 + c / 64 % 64) ∷ (128 + c % 64) ∷ []
unfolding lib.Utf8.encode
encode-four c low = rw (le-ltb c 128 (omega arith), le-ltb c 2048 (omega arith), le-ltb c 65536 low) refl

second_of_three-min : (c : ℕ) → 2048 ≤ c → c < 65536 → second_byte_min (224 + c / 4096) ≤ 128 + c / 64 % 64
second_of_three-min c low high = grind (arith, nat_tests)

second_of_three-max : (c : ℕ) → c < 65536 → (c < 55296) ⊎ (57344 ≤ c) → 128 + c / 64 % 64 ≤ second_byte_max (224 + c / 4096)
second_of_three-max c high outside = grind (arith, nat_tests)

second_of_four-min : (c : ℕ) → 65536 ≤ c → second_byte_min (240 + c / 262144) ≤ 128 + c / 4096 % 64
second_of_four-min c low = grind (arith, nat_tests)

second_of_four-max : (c : ℕ) → c < 1114112 → 128 + c / 4096 % 64 ≤ second_byte_max (240 + c / 262144)
second_of_four-max c high = grind (arith, nat_tests)

-- bytes that end within a character of two bytes, of three and of four
cut_two : (c n : ℕ) → 128 ≤ c → c < 2048 → 0 < n → n < 2 → error_len_of_some (take n ((192 + c / 64) ∷ (128 + c % 64) ∷ [])) ≡ None
cut_two c n low high some cut = let one : n ≡ 1 = omega arith in rw one (one_byte (192 + c / 64) (omega arith) (omega arith))

cut_three : (c n : ℕ) → 2048 ≤ c → c < 65536 → (c < 55296) ⊎ (57344 ≤ c) → 0 < n → n < 3
    → error_len_of_some (take n ((224 + c / 4096) ∷ (128 + c / 64 % 64) ∷ (128 + c % 64) ∷ [])) ≡ None
cut_three c n low high outside some cut =
    elim (cases_eq n 1) [
      | inl one ↦ rw one (one_byte (224 + c / 4096) (omega arith) (omega arith))
      | inr more ↦
          let two : n ≡ 2 = omega arith in
          rw two (two_bytes (224 + c / 4096) (128 + c / 64 % 64) (omega arith) (omega arith)
          (second_of_three-min c low high) (second_of_three-max c high outside))
    ]

cut_four : (c n : ℕ) → 65536 ≤ c → c < 1114112 → 0 < n → n < 4
    → error_len_of_some (take n ((240 + c / 262144) ∷ (128 + c / 4096 % 64) ∷ (128 + c / 64 % 64) ∷ (128 + c % 64) ∷ [])) ≡ None
cut_four c n low high some cut =
    elim (cases_eq n 1) [
      | inl one ↦ rw one (one_byte (240 + c / 262144) (omega arith) (omega arith))
      | inr more ↦ elim (cases_eq n 2) [
        | inl two ↦ rw two (two_bytes (240 + c / 262144) (128 + c / 4096 % 64) (omega arith) (omega arith)
            (second_of_four-min c low) (second_of_four-max c high))
        | inr most ↦
            let three : n ≡ 3 = omega arith in
            rw three (three_bytes (240 + c / 262144) (128 + c / 4096 % 64) (128 + c / 64 % 64) (omega arith)
            (omega arith) (second_of_four-min c low) (second_of_four-max c high) (omega arith) (omega arith))
      ]
    ]

-- bytes that end within a character: some of its bytes, but not all
error_len-cut : (c n : ℕ) → IsScalar c → 0 < n → n < length (encode_utf8 c) → error_len_of_some (take n (encode_utf8 c)) ≡ None
error_len-cut c n valid some cut =
    elim (cases_lt c 128) [
      | inl ascii ↦ absurd (omega (arith, ap length (encode_ascii c ascii)))
      | inr low ↦ elim (cases_lt c 2048) [
        | inl high ↦
            let e = encode-two c low high in
            let short : n < 2 = omega (arith, ap length e) in
            rw e (cut_two c n low high some short)
        | inr low' ↦ elim (cases_lt c 65536) [
          | inl high ↦
              let e = encode-three c low' high in
              let short : n < 3 = omega (arith, ap length e) in
              let outside : (c < 55296) ⊎ (57344 ≤ c) = ⊎_elim (λ h. inl h) (λ h. inr h.0) (scalar_cases c valid) in
              rw e (cut_three c n low' high outside some short)
          | inr low'' ↦
              let e = encode-four c low'' in
              let short : n < 4 = omega (arith, ap length e) in
              let high : c < 1114112 = ⊎_elim (λ h. omega arith) (λ h. h.1) (scalar_cases c valid) in
              rw e (cut_four c n low'' high some short)
        ]
      ]
    ]

utf8_error_len-some : (bs : List ℕ) → 0 < length bs → utf8_error_len bs ≡ error_len_of_some bs
unfolding utf8_error_len
utf8_error_len-some bs some = ap (λ b. if b then None else error_len_of_some bs) (ne_eqb (length bs) 0 (omega arith))

pub utf8_error_len-nil : utf8_error_len [] ≡ None
unfolding utf8_error_len
utf8_error_len-nil = refl

-- a text after a front of it that is text
text_after : (bs : List ℕ) (n : ℕ) → IsUtf8 bs → IsUtf8 (take n bs) → n ≤ length bs → IsUtf8 (drop n bs)
text_after bs n text front within = IsUtf8-drop bs n text (IsCharBoundary-from_take bs n text within front)

-- a character that a text begins with, and what follows it
pub record BeginsWithChar (bs : List ℕ) : Type 0 where
  pub char : ℕ
  pub rest : List ℕ
  pub valid : IsScalar char
  pub split : bs ≡ encode_utf8 char ++ rest

first_of : (cs bs : List ℕ) → scalars cs ≡ true → encode_utf8_all cs ≡ bs → 0 < length bs → BeginsWithChar bs
first_of [] bs valid e some = absurd (omega (arith, ap length e))
first_of (c ∷ cs) bs valid e some = record {
  char = c;
  rest = encode_utf8_all cs;
  valid = (and_parts (scalar c) (scalars cs) valid).0;
  split = sym e;
}

-- a text that is not empty begins with a character
first_char : (bs : List ℕ) → IsUtf8 bs → 0 < length bs → BeginsWithChar bs
first_char bs text some = first_of text.0 bs text.1.0 text.1.1 some

-- a front of bytes that is longer than n, after n
drop-front : (bs more : List ℕ) (n j : ℕ) → n ≤ length bs → drop n (take (n + j) (bs ++ more)) ≡ take j (drop n bs ++ more)
drop-front bs more n j within = drop-take n j (bs ++ more) ∙ ap (take j) (drop-append-le n bs more within)

-- where a front of bytes begins with a character, the bytes do
begins_whole : (zs : List ℕ) (j : ℕ) (b : BeginsWithChar (take j zs)) → zs ≡ encode_utf8 b.char ++ (b.rest ++ drop j zs)
begins_whole zs j b = sym (take-append-drop j zs) ∙ ap (λ t. t ++ drop j zs) b.split ∙ append_assoc (encode_utf8 b.char) b.rest (drop j zs)

no_some : {k : ℕ} → Some k ≡ None → ⊥
no_some e = cc

-- bytes that are at fault at their front, whatever follows them: no character begins there
no_char : (ys more : List ℕ) (k c : ℕ) (rest : List ℕ) → utf8_error_len ys ≡ Some k → 0 < length ys → IsScalar c
    → ys ++ more ≡ encode_utf8 c ++ rest
    → length (encode_utf8 c) ≤ length ys
no_char ys more k c rest fault some valid split =
    elim (cases_lt (length ys) (length (encode_utf8 c))) [
      | inl cut ↦
          let n = length ys in
          let own : ys ≡ take n (encode_utf8 c) =
          sym (take-append_seam ys more) ∙ ap (take n) split ∙ take-append-le n (encode_utf8 c) rest (omega arith) in
          let none : error_len_of_some ys ≡ None = ap error_len_of_some own ∙ error_len-cut c n valid some cut in
          let clash : Some k ≡ None = sym fault ∙ utf8_error_len-some ys some ∙ none in
          absurd (no_some clash)
      | inr long ↦ long
    ]

still_short : (bs more : List ℕ) (v j k : ℕ) → IsValidUpTo bs v → utf8_error_len (drop v bs) ≡ Some k → 0 < j
    → IsUtf8 (take (v + j) (bs ++ more)) → ⊥
still_short bs more v j k up_to fault longer text =
    let short = up_to.short in
    let ys = drop v bs in
    let ys_len : length ys ≡ length bs - v = length-drop v bs in
    let whole_len = length-append bs more in
    let taken : length (take (v + j) (bs ++ more)) ≡ min (v + j) (length (bs ++ more)) = length-take (v + j) (bs ++ more) in
    let front : IsUtf8 (take v (take (v + j) (bs ++ more))) =
    subst IsUtf8 (sym (take-take v (v + j) (bs ++ more) (omega arith) ∙ take-append-le v bs more (omega arith))) up_to.front in
    let behind : IsUtf8 (take j (ys ++ more)) =
    subst IsUtf8 (drop-front bs more v j (omega arith)) (text_after (take (v + j) (bs ++ more)) v text front (omega arith)) in
    let more_len = length-append ys more in
    let some : 0 < length (take j (ys ++ more)) = omega (arith, length-take j (ys ++ more)) in
    let first = first_char (take j (ys ++ more)) behind some in
    let split = begins_whole (ys ++ more) j first in
    let n = length (encode_utf8 first.char) in
    let fits : n ≤ length ys = no_char ys more k first.char (first.rest ++ drop j (ys ++ more)) fault (omega arith) first.valid split in
    let own : take n ys ≡ encode_utf8 first.char =
    sym (take-append-le n ys more fits) ∙ ap (take n) split ∙ take-append_seam (encode_utf8 first.char)
    (first.rest ++ drop j (ys ++ more)) in
    let grown : IsUtf8 (take (v + n) bs) =
    subst IsUtf8 (sym (take-add v n bs ∙ ap (λ t. take v bs ++ t) own))
    (IsUtf8-append (take v bs) (encode_utf8 first.char) up_to.front (IsUtf8-encode first.char first.valid)) in
    up_to.longest (v + n) (omega (arith, len_utf8_bounds first.char, length-encode first.char)) grown

-- what is at fault after a front that is text stays so, whatever follows
pub IsValidUpTo-more : (bs more : List ℕ) (v k : ℕ) → IsValidUpTo bs v → utf8_error_len (drop v bs) ≡ Some k → IsValidUpTo (bs ++ more) v
IsValidUpTo-more bs more v k up_to fault =
    let short = up_to.short in
    let whole_len = length-append bs more in
    record {
      short = omega arith;
      front = subst IsUtf8 (sym (take-append-le v bs more (omega arith))) up_to.front;
      longest = λ m longer text.
          let j = m - v in
          let m_is : m ≡ v + j = omega arith in
          let text' : IsUtf8 (take (v + j) (bs ++ more)) = subst (λ (n : ℕ). IsUtf8 (take n (bs ++ more))) m_is text in
          still_short bs more v j k up_to fault (omega arith) text';
    }

-- the longest front that is text, after one that is
pub IsValidUpTo-behind : (bs : List ℕ) (n v : ℕ) → n ≤ length bs → IsUtf8 (take n bs) → IsValidUpTo (drop n bs) v → IsValidUpTo bs (n + v)
IsValidUpTo-behind bs n v within front up_to =
    let short = up_to.short in
    record {
      short = omega (arith, length-drop n bs);
      front = subst IsUtf8 (sym (take-add n v bs)) (IsUtf8-append (take n bs) (take v (drop n bs)) front up_to.front);
      longest = λ m longer text.
          let j = m - n in
          let m_is : m ≡ n + j = omega arith in
          let text' : IsUtf8 (take (n + j) bs) = subst (λ (i : ℕ). IsUtf8 (take i bs)) m_is text in
          let front' : IsUtf8 (take n (take (n + j) bs)) = subst IsUtf8 (sym (take-take n (n + j) bs (omega arith))) front in
          let fits : n ≤ length (take (n + j) bs) = omega (arith, length-take (n + j) bs) in
          up_to.longest j (omega arith) (subst IsUtf8 (drop-take n j bs) (text_after (take (n + j) bs) n text' front' fits));
    }

-- bytes with no byte begin a text
pub IsFront-nil : (bs : List ℕ) → bs ≡ [] → IsFront bs 0
IsFront-nil bs none =
    subst (λ (xs : List ℕ). IsFront xs 0) (sym none)
    (record { within = omega arith; text = IsUtf8-nil; begins = utf8_error_len-nil; longest = inl refl })

-- text after a front that is text
pub IsFront-whole : (bs rest : List ℕ) (n : ℕ) → rest ≡ drop n bs → IsUtf8 (take n bs) → IsUtf8 rest → IsFront bs (length bs)
IsFront-whole bs rest n behind front text =
    let joined : take n bs ++ rest ≡ bs = ap (λ t. take n bs ++ t) behind ∙ take-append-drop n bs in
    let whole : IsUtf8 bs = subst IsUtf8 joined (IsUtf8-append (take n bs) rest front text) in
    record {
      within = omega arith;
      text = subst IsUtf8 (sym (take_all (length bs) bs (omega arith))) whole;
      begins = subst (λ (xs : List ℕ). utf8_error_len xs ≡ None) (sym (drop_all (length bs) bs (omega arith))) utf8_error_len-nil;
      longest = inl refl;
    }

-- what is known of the bytes after a front that is text is known of all
behind-front : (bs rest : List ℕ) (n v : ℕ) → rest ≡ drop n bs → n ≤ length bs → IsUtf8 (take n bs) → IsValidUpTo rest v
    → IsValidUpTo bs (n + v) × (drop (n + v) bs ≡ drop v rest)
behind-front bs rest n v behind within front up_to = (
  IsValidUpTo-behind bs n v within front (subst (λ (xs : List ℕ). IsValidUpTo xs v) behind up_to),
  sym (ap (drop v) behind ∙ drop-drop v n bs),
)

-- bytes that end within a character, after a front that is text
pub IsFront-cut : (bs rest : List ℕ) (n v : ℕ) → rest ≡ drop n bs → n ≤ length bs → IsUtf8 (take n bs) → IsValidUpTo rest v
    → utf8_error_len (drop v rest) ≡ None → IsFront bs (n + v)
IsFront-cut bs rest n v behind within front up_to cut =
    let all = behind-front bs rest n v behind within front up_to in
    let short = all.0.short in
    record { within = omega arith; text = all.0.front; begins = ap utf8_error_len all.1 ∙ cut; longest = inr all.0 }

-- bytes at fault after a front that is text stay so, whatever follows
pub at_fault-behind : (bs rest : List ℕ) (n v k : ℕ) → rest ≡ drop n bs → n ≤ length bs → IsUtf8 (take n bs) → IsValidUpTo rest v
    → utf8_error_len (drop v rest) ≡ Some k → (more : List ℕ) → IsValidUpTo (bs ++ more) (n + v)
at_fault-behind bs rest n v k behind within front up_to fault more =
    let all = behind-front bs rest n v behind within front up_to in
    IsValidUpTo-more bs more (n + v) k all.0 (ap utf8_error_len all.1 ∙ fault)

-- what a front that is known says of the longest one
pub BeginsText-front : (bs : List ℕ) (n : ℕ) → IsFront bs n → BeginsText bs
BeginsText-front bs n front =
    let is : n ≡ utf8_valid_len bs =
    ⊎_elim
    (λ all. all ∙ sym (utf8_valid_len-IsUtf8 bs
    (subst IsUtf8 (ap (λ i. take i bs) all ∙ take_all (length bs) bs (omega arith)) front.text)))
    (λ up_to. sym (utf8_valid_len-IsValidUpTo bs n up_to)) front.longest in
    ap (λ i. utf8_error_len (drop i bs)) (sym is) ∙ front.begins

-- what was read before and what is read now, where both are known
pub moved-more : (old mid new : Option (List ℕ)) (done piece : List ℕ) → old ≡ prepend_known done mid
    → mid ≡ prepend_known piece new → old ≡ prepend_known (done ++ piece) new
moved-more old mid None done piece so_far now = rw (so_far, now) refl
moved-more old mid (Some left) done piece so_far now = rw (so_far, now) (ap Some (sym (append_assoc done piece left)))

pub known_split : (old new : Option (List ℕ)) (front whole left : List ℕ) → old ≡ prepend_known front new
    → old ≡ Some whole → new ≡ Some left → whole ≡ front ++ left
known_split old new front whole left moved whole_is left_is =
    let all : Some whole ≡ Some (front ++ left) = sym whole_is ∙ moved ∙ ap (prepend_known front) left_is in
    cc

-- a read that shows bytes at fault
pub shows-fault : (old new : Option (List ℕ)) (earlier last : List ℕ) (at : ℕ) → old ≡ prepend_known
    (earlier ++ last) new → BeginsText earlier → length last ≤ 32768
    → ((more : List ℕ) → IsValidUpTo ((earlier ++ last) ++ more) at)
    → (whole left : List ℕ) → old ≡ Some whole → new ≡ Some left → ShowsNotUtf8 whole left at
shows-fault old new earlier last at moved soon piece fault whole left whole_is left_is =
    let split : whole ≡ (earlier ++ last) ++ left = known_split old new (earlier ++ last) whole left moved whole_is left_is in
    record {
      earlier = earlier;
      last = last;
      moved = split;
      front = subst (λ (xs : List ℕ). IsValidUpTo xs at) (sym split) (fault left);
      soon = soon;
      piece = piece;
    }

-- nothing was read yet
pub moved-none : (known : Option (List ℕ)) (bs : List ℕ) → bs ≡ [] → known ≡ prepend_known bs known
moved-none None bs none = refl
moved-none (Some xs) bs none = ap Some (ap (λ t. t ++ xs) (sym none))

-- the end of the input, within a character
pub shows-end : (old mid new : Option (List ℕ)) (bs : List ℕ) (n : ℕ) → old ≡ prepend_known bs mid
    → mid ≡ prepend_known [] new → IsAtEnd mid → IsFront bs n → n < length bs
    → (whole left : List ℕ) → old ≡ Some whole → new ≡ Some left → ShowsNotUtf8 whole left n
shows-end old mid new bs n moved now end front cut whole left whole_is left_is =
    let up_to : IsValidUpTo bs n = ⊎_elim (λ all. absurd (omega arith)) (λ h. h) front.longest in
    let mid_is : mid ≡ Some left = now ∙ ap (prepend_known []) left_is in
    let none : left ≡ [] = subst IsAtEnd mid_is end in
    let split : whole ≡ bs ++ left = known_split old mid bs whole left moved whole_is mid_is in
    let split' : whole ≡ (bs ++ []) ++ left = split ∙ ap (λ t. t ++ left) (sym (append-nil bs)) in
    record {
      earlier = bs;
      last = [];
      moved = split';
      front = subst (λ (xs : List ℕ). IsValidUpTo xs n) (sym (split ∙ ap (λ t. bs ++ t) none ∙ append-nil bs)) up_to;
      soon = BeginsText-front bs n front;
      piece = omega arith;
    }

-- where a read failed, what was read before begins a text
pub begun-shown : (old mid new : Option (List ℕ)) (bytes : List ℕ) → old ≡ prepend_known bytes mid → new ≡ mid
    → BeginsText bytes → (whole left : List ℕ) → old ≡ Some whole → new ≡ Some left → HasBegun whole left
begun-shown old mid new bytes moved same soon whole left whole_is left_is =
    record { read = bytes; moved = known_split old mid bytes whole left moved whole_is (sym same ∙ left_is); text = soon }

-- bytes after a text: so many more of them are text
pub front-behind : (done bs : List ℕ) (n : ℕ) → IsUtf8 done → IsFront bs n → IsFront (done ++ bs) (length done + n)
front-behind done bs n text front =
    let all : bs ≡ drop (length done) (done ++ bs) = sym (drop-append_seam done bs) in
    let own : IsUtf8 (take (length done) (done ++ bs)) = subst IsUtf8 (sym (take-append_seam done bs)) text in
    let len = length-append done bs in
    ⊎_elim
    (λ whole. subst (IsFront (done ++ bs)) (len ∙ ap (λ i. length done + i) (sym whole))
    (IsFront-whole (done ++ bs) bs (length done) all own
    (subst IsUtf8 (ap (λ i. take i bs) whole ∙ take_all (length bs) bs (omega arith)) front.text)))
    (λ up_to. IsFront-cut (done ++ bs) bs (length done) n all (omega arith) own up_to front.begins) front.longest

-- bytes at fault stay so after a text
pub fault-behind : (done bs : List ℕ) (at : ℕ) → IsUtf8 done → StaysAtFault bs at → StaysAtFault (done ++ bs) (length done + at)
fault-behind done bs at text fault more =
    let whole = done ++ (bs ++ more) in
    let len = length-append done (bs ++ more) in
    let own : IsUtf8 (take (length done) whole) = subst IsUtf8 (sym (take-append_seam done (bs ++ more))) text in
    subst (λ (xs : List ℕ). IsValidUpTo xs (length done + at)) (sym (append_assoc done bs more))
    (IsValidUpTo-behind whole (length done) at (omega arith) own
    (subst (λ (xs : List ℕ). IsValidUpTo xs at) (sym (drop-append_seam done (bs ++ more))) (fault more)))

-- the front of bytes at fault is shorter than they are
pub fault-within : (bs : List ℕ) (at : ℕ) → StaysAtFault bs at → at < length bs
fault-within bs at fault = let short = (fault []).short in omega (arith, length-append bs [])

-- a front that is text stays so, whatever follows the bytes
pub front-kept : (earlier last grown all : List ℕ) (n : ℕ) → IsFront earlier n → grown ≡ earlier ++ last → all ≡ grown → IsUtf8 (take n all)
front-kept earlier last grown all n front more same =
    subst IsUtf8 (sym (ap (take n) (same ∙ more) ∙ take-append-le n earlier last front.within)) front.text

-- bytes of which no less than the whole is a front are text
pub front-all : (bytes : List ℕ) (n len known : ℕ) → IsFront bytes n → len ≡ known → length bytes ≡ known → len ≤ n → IsUtf8 bytes
front-all bytes n len known front told same all = subst IsUtf8 (take_all n bytes (omega arith)) front.text

-- bytes that are split after their longest front
pub split-front : (bytes lent front text cut : List ℕ) (n : ℕ) → lent ≡ bytes → IsFront lent n
    → front ≡ take n bytes → text ≡ front → cut ≡ drop n bytes → IsSplit bytes text cut
split-front bytes lent front text cut n same longest kept as_text behind =
    let all : IsFront bytes n = subst (λ (bs : List ℕ). IsFront bs n) same longest in
    let size : length (take n bytes) ≡ n = omega (arith, length-take n bytes, all.within) in
    rw (as_text, kept, behind) (record { parts = sym (take-append-drop n bytes); front = rw size all })
