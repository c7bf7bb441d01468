-- The characters that come, of those of the input.
use Rattle.std.specs.Prelude.{if◌then◌else◌, nat_eq, ◌≡◌, ◌<◌, ℕ, false, List, [], ◌∷◌, ◌++◌, length, All, Option, Some, None}
use Rattle.std.specs.Prelude.{IfSome, min, ◌+◌}
use Rattle.html_queue.specs.Queue.{Queue, Takes}
use Rattle.html_queue.specs.Set.{has}
use Rattle.html_tokens.specs.NormalText.{newlines_after, without_mark}
use Rattle.html_tokenizer_parts.specs.declared.stream.Stream.{Stream}

-- the text that comes, of these characters: without the byte order mark, each line end one line feed
abbrev pub coming_in : Stream → List ℕ → List ℕ
coming_in stream t = newlines_after stream.ignore_lf (without_mark stream.discard_bom t)

-- a carriage return as a line feed
abbrev pub newline_for : ℕ → ℕ
newline_for c = if nat_eq c 13 then 10 else c

-- the last character of a text
abbrev pub last_of : List ℕ → ℕ
last_of [] = 0
last_of (c ∷ []) = c
last_of (c ∷ d ∷ t) = last_of (d ∷ t)

-- Some characters were taken from the queue, each counted. Whatever follows them, the next of the characters that come is d,
-- for which the last of them stands.
pub record ComesAs (old new : Stream) (from to : Queue) (d : ℕ) : Type 0 where
  pub taken : List ℕ
  pub takes : Takes taken from to
  pub front : (t : List ℕ) → coming_in old (taken ++ t) ≡ d ∷ coming_in new t
  pub changed : new ≡ record old { ignore_lf = new.ignore_lf; discard_bom = new.discard_bom }
  pub filled : 0 < length taken
  pub last : newline_for (last_of taken) ≡ d

-- All characters were taken from the queue, each counted, and none comes.
pub record Vanishes (old new : Stream) (from to : Queue) : Type 0 where
  pub taken : List ℕ
  pub takes : Takes taken from to
  pub all : (t : List ℕ) → coming_in old (taken ++ t) ≡ coming_in new t
  pub changed : new ≡ record old { ignore_lf = new.ignore_lf; discard_bom = new.discard_bom }
  pub empty : to.characters ≡ []

abbrev pub Nexts : Stream → Stream → Queue → Queue → Option ℕ → Type 0
Nexts old new from to (Some d) = ComesAs old new from to d
Nexts old new from to None = Vanishes old new from to

-- what stands at the front of a text, if something does
abbrev pub before : Option ℕ → List ℕ → List ℕ
before None t = t
before (Some d) t = d ∷ t

-- After a first character c more were taken, and the byte order mark is passed: d comes, if one does.
pub record MarkPassed (old new : Stream) (from to : Queue) (c : ℕ) (d : Option ℕ) : Type 0 where
  pub more : List ℕ
  pub takes : Takes more from to
  pub front : (t : List ℕ) → without_mark old.discard_bom (c ∷ more ++ t) ≡ before d t
  pub changed : new ≡ record old { discard_bom = false }
  pub last : IfSome d (λ d. last_of (c ∷ more) ≡ d)

-- After a first character c more were taken, and line ends are made line feeds: d comes, if one does.
pub record NewlineMade (old new : Stream) (from to : Queue) (c : ℕ) (d : Option ℕ) : Type 0 where
  pub more : List ℕ
  pub takes : Takes more from to
  pub front : (t : List ℕ) → newlines_after old.ignore_lf (c ∷ more ++ t) ≡ before d (newlines_after new.ignore_lf t)
  pub changed : new ≡ record old { ignore_lf = new.ignore_lf }
  pub last : IfSome d (λ d. newline_for (last_of (c ∷ more)) ≡ d)

-- The next of the characters that come are this run, which is not empty. None of them is in the set with these bits.
pub record ComesAsRun (bits : ℕ) (old new : Stream) (from to : Queue) (run : List ℕ) : Type 0 where
  pub takes : Takes run from to
  pub front : (t : List ℕ) → coming_in old (run ++ t) ≡ run ++ coming_in new t
  pub changed : new ≡ record old { ignore_lf = new.ignore_lf; discard_bom = new.discard_bom }
  pub filled : 0 < length run
  pub lacking : All (λ c. has bits c ≡ false) run

-- no character of a text is a line end
abbrev pub IsUnbroken : List ℕ → Type 0
IsUnbroken cs = All (λ c. (nat_eq c 10 ≡ false) × (nat_eq c 13 ≡ false)) cs

-- a number of line breaks after one character more: at u64::MAX it stays
abbrev pub counted : ℕ → ℕ → ℕ
counted breaks c = if nat_eq c 10 then min (breaks + 1) 0xffff_ffff_ffff_ffff else breaks
